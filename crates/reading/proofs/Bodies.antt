-- Where functions lie: bodies rise, the last ends with the nodes, and each node has one owner.
use Rattle.std.proofs.Common.{◌≡◌, ℕ, zero, suc, ◌+◌, ◌-◌, ◌<◌, ◌≤◌, true, false, not, ◌||◌, eqb, ltb, leb, List, length, is_some, Some, None, Option, unwrap_or, refl, ap, ◌∙◌, ⊎_elim, arith}
use Rattle.std.proofs.lemmas.Bool.{and_parts, or_cases, not-false, not-true, not_from_true, both_ways, ltb-true, leb-true, le-leb, lt-leb, eqb-true, eqb-false, ne_eqb, cond-false}
use Rattle.levels.specs.Scan.{lowest}
use Rattle.layout.specs.Code.{Code, function, body, start, owner}
use Rattle.layout.specs.Decoding.{function_at}
use Rattle.reading.specs.RecordRule.{last_function, record_broken}
use Rattle.reading.specs.Sound.{FewFunctions, Placed}
use Rattle.levels.specs.Scans.{lowest_found, lowest_all, lowest_is, lowest_inside, lowest_absent}

-- a record that is not broken is in its place
pub placed_from : (gs : List ℕ) (c : Code) → ((g : ℕ) → g < length c.functions → record_broken gs c g ≡ false) → Placed c
placed_from gs c ok g h = not_from_true _ (and_parts (is_some (function_at gs g)) _ (not-false _ (ok g h))).1

pub record Place (c : Code) (g : ℕ) : Type 0 where
  pub app : (function c g).app < length c.apps
  pub begins : start c g ≤ body c g
  pub ends : g + 1 ≡ length c.functions → body c g + 1 ≡ length c.nodes

pub place_is : (c : Code) (g : ℕ) → Placed c → g < length c.functions → Place c g
place_is c g fit h =
    let a = and_parts (ltb (function c g).app (length c.apps)) _ (not-false _ (fit g h)) in
    let o = and_parts (leb (start c g) (body c g)) (not (last_function c g) || eqb (body c g + 1) (length c.nodes)) a.1 in
    record {
      app = ltb-true _ _ a.0;
      begins = leb-true _ _ o.0;
      ends = λ e. ⊎_elim (λ (q : not (last_function c g) ≡ true). absurd (eqb-false _ _ (not-true _ q) e)) (λ (q : eqb (body c g + 1) (length c.nodes) ≡ true). eqb-true _ _ q) (or_cases _ _ o.1);
    }

-- a node belongs to a function
pub owner_inside : (c : Code) (i : ℕ) → FewFunctions c → owner c i < length c.functions
unfolding owner
owner_inside c i few = lowest_inside _ _ (omega arith)

pub start_next : (c : Code) (g : ℕ) → start c (g + 1) ≡ body c g + 1
start_next c g =
    cond-false (eqb (g + 1) 0) 0 (body c ((g + 1) - 1) + 1) (ne_eqb (g + 1) 0 (λ z. omega arith))
    ∙ ap (λ x. body c x + 1) (omega arith)

module _ (c : Code) (records : Placed c) where
  body_up : (d g : ℕ) → g + d < length c.functions → body c g ≤ body c (g + d)
  body_up zero g h = let e : body c (g + 0) ≡ body c g = ap (λ x. body c x) (omega arith) in omega (arith, e)
  body_up (suc d) g h =
      let inside : (g + d) + 1 < length c.functions = omega arith in
      let e : body c (g + suc d) ≡ body c ((g + d) + 1) = ap (λ x. body c x) (omega arith) in
      omega (arith, body_up d g (omega arith), (place_is c ((g + d) + 1) records inside).begins, start_next c (g + d), e)

  pub up : (g h : ℕ) → g ≤ h → h < length c.functions → body c g ≤ body c h
  up g h le lt =
      let e : body c (g + (h - g)) ≡ body c h = ap (λ x. body c x) (omega arith) in
      omega (arith, body_up (h - g) g (omega arith), e)

  pub start_above : (g h : ℕ) → g < h → h < length c.functions → body c g < start c h
  start_above g h lt inside =
      let e : start c ((h - 1) + 1) ≡ start c h = ap (λ x. start c x) (omega arith) in
      omega (arith, e, start_next c (h - 1), up g (h - 1) (omega arith) (omega arith))

  pub body_inside : (g : ℕ) → g < length c.functions → body c g < length c.nodes
  body_inside g h =
      let last : length c.functions - 1 < length c.functions = omega arith in
      omega (arith, up g (length c.functions - 1) (omega arith) last, (place_is c (length c.functions - 1) records last).ends (omega arith))

  -- a node between a function's start and its body is of that function
  pub owner_is : (g i : ℕ) → g < length c.functions → start c g ≤ i → i ≤ body c g → owner c i ≡ g
  unfolding owner
  owner_is g i inside low high =
      ap (λ o. unwrap_or o 0)
      (lowest_found (λ k. leb i (body c k)) (length c.functions) g inside
      (lowest_absent _ g (λ k lt. lt-leb i (body c k) (omega (arith, start_above k g lt inside))))
      (le-leb i (body c g) high))

  -- past the nodes there is no owner
  pub owner_past : (i : ℕ) → length c.nodes ≤ i → owner c i ≡ 0
  unfolding owner
  owner_past i far =
      ap (λ o. unwrap_or o 0) (lowest_absent _ (length c.functions) (λ k lt. lt-leb i (body c k) (omega (arith, body_inside k lt))))

  -- a node lies at or before its function's body
  pub owner_ends : FewFunctions c → (i : ℕ) → i < length c.nodes → i ≤ body c (owner c i)
  unfolding owner
  owner_ends few i h = go (lowest (length c.functions) (λ g. leb i (body c g))) refl
    where
      go : (o : Option ℕ) → lowest (length c.functions) (λ g. leb i (body c g)) ≡ o → i ≤ body c (unwrap_or o 0)
      go None e =
          let last : length c.functions - 1 < length c.functions = omega arith in
          let ends = (place_is c (length c.functions - 1) records last).ends (omega arith) in
          absurd (both_ways _ (lowest_all _ _ (length c.functions - 1) e last) (le-leb i (body c (length c.functions - 1)) (omega (arith, ends))))
      go (Some g) e = leb-true i (body c g) (lowest_is _ _ g e).holds
