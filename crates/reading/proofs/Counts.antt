-- How often nodes are named.
use Rattle.std.proofs.Common.{◌≡◌, ℕ, zero, suc, ◌+◌, ◌*◌, ◌<◌, ◌≤◌, Bool, true, false, cond, eqb, Some, None, Option, min, refl, ap, ◌∙◌, arith}
use Rattle.std.proofs.Math.Nat.{min-eq_left}
use Rattle.layout.specs.declared.parts.Part.{Part}
use Rattle.layout.specs.Code.{Code, node}
use Rattle.layout.specs.Tree.{parts, target, hit, times, namings}
use Rattle.reading.specs.Folding.{step_at, steps_at, folded}

bit_small : (b : Bool) → cond b 1 0 ≤ 1
bit_small true = omega arith
bit_small false = omega arith

pub hit_small : (o : Option ℕ) (j : ℕ) → hit o j ≤ 1
hit_small None j = omega arith
hit_small (Some b) j = bit_small (eqb b j)

pub namings_small : (c : Code) (i j : ℕ) → namings c i j ≤ 3 * i
unfolding namings
namings_small c zero j = omega arith
namings_small c (suc i) j =
    omega (arith, namings_small c i j, hit_small (target (parts (node c i)).0) j, hit_small (target (parts (node c i)).1) j, hit_small (target (parts (node c i)).2) j)

-- one naming more, as a number of 16 bits has it
abbrev pub one_more : ℕ → ℕ → ℕ
one_more n i = min (n + 1) 65535

bit_adds : (b : Bool) (w : ℕ) → w < 65535 → cond b (min (w + 1) 65535) w ≡ w + cond b 1 0
bit_adds true w h = min-eq_left (omega arith)
bit_adds false w h = omega arith

step_adds : (i : ℕ) (o : Option ℕ) (j w : ℕ) → w < 65535 → step_at one_more i o j w ≡ w + hit o j
step_adds i None j w h = omega arith
step_adds i (Some b) j w h = bit_adds (eqb b j) w h

steps_add : (i : ℕ) (ps : Option Part × Option Part × Option Part) (j w : ℕ) → w < 65533 → steps_at one_more i ps j w ≡ w + times ps j
steps_add i ps j w h =
    let one = step_adds i (target ps.0) j w (omega arith) in
    let two = step_adds i (target ps.1) j (step_at one_more i (target ps.0) j w) (omega (arith, one, hit_small (target ps.0) j)) in
    let three = step_adds i (target ps.2) j (step_at one_more i (target ps.1) j (step_at one_more i (target ps.0) j w)) (omega (arith, one, two, hit_small (target ps.0) j, hit_small (target ps.1) j)) in
    omega (arith, one, two, three)

-- as 16 bits count the namings by so few nodes, so often is a node named
pub namings_folded : (c : Code) (n j : ℕ) → n ≤ 4096 → folded one_more 0 c n j ≡ namings c n j
unfolding folded namings
namings_folded c zero j h = refl
namings_folded c (suc n) j h =
    let below = namings_folded c n j (omega arith) in
    steps_add n (parts (node c n)) j (folded one_more 0 c n j) (omega (arith, below, namings_small c n j))
    ∙ ap (λ w. w + times (parts (node c n)) j) below
