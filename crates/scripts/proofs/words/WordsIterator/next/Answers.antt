use Rattle.std.proofs.Common.{◌≡◌, ℕ, suc, ◌+◌, ◌-◌, ◌≤◌, Bool, true, false, cond, eqb, not, List, [], ◌∷◌, length, get_or, drop, take, filter, Some, None, Option, Bor, sym, refl, ap, ◌∙◌, subst, one-add, arith, rules, drop-cons}
use borrow.Author.Tests.{tests}
use Rattle.std.specs.List.{onto_first, position, position_or_len}
use Rattle.std.specs.Option.{option_map, unwrap_or}
use Rattle.std.proofs.lemmas.Iterator.{YieldsList-from_slice}
use Rattle.std.proofs.lemmas.Iterator.Search.{position_from_yields_List}
use Rattle.std.proofs.lemmas.List.{take_rest, drop_all}
use Rattle.std.proofs.lemmas.List.Quantifiers.{position-Some}
use Rattle.scripts.specs.Pieces.{pieces_of, pieces_after}
use Rattle.scripts.specs.Words.{some_bytes, words_of, words_left}
use Rattle.scripts.proofs.Cutting.{found, missed}
use Rattle.scripts.proofs.words.WordsIterator.next.Goals as goal

-- the spaces before the first word are no words
skipped : (xs : List ℕ) → words_of xs ≡ words_of (drop (position_or_len (λ x. not (eqb x 32)) xs) xs)
skipped [] = refl
skipped (x ∷ xs) = elim (eqb x 32)
    as (λ b. eqb x 32 ≡ b → filter some_bytes (cond b ([] ∷ pieces_of 32 xs) (onto_first x (pieces_of 32 xs))) ≡ words_of (drop (cond (not (not b)) (1 + position_or_len (λ x. not (eqb x 32)) xs) 0) (x ∷ xs))) [
      | true ↦ (λ _. rw one-add (skipped xs))
      | false ↦ (λ e. sym (ap (λ b. filter some_bytes (cond b ([] ∷ pieces_of 32 xs) (onto_first x (pieces_of 32 xs)))) e))
    ] refl

-- a piece that begins with no space is a word
begun : (x : ℕ) (xs piece : List ℕ) (after : List (List ℕ)) → eqb x 32 ≡ false → pieces_of 32 (x ∷ xs) ≡ piece ∷ after → words_of (x ∷ xs) ≡ piece ∷ filter some_bytes after
begun x xs piece after e h =
    ap (filter some_bytes) h ∙ some (pieces_of 32 xs) (sym (ap (λ b. cond b ([] ∷ pieces_of 32 xs) (onto_first x (pieces_of 32 xs))) e) ∙ h)
  where
    some : (ps : List (List ℕ)) → onto_first x ps ≡ piece ∷ after → filter some_bytes (piece ∷ after) ≡ piece ∷ filter some_bytes after
    some [] k = let same : x ∷ [] ≡ piece = cc in subst (λ (p : List ℕ). filter some_bytes (p ∷ after) ≡ p ∷ filter some_bytes after) same refl
    some (p ∷ ps) k = let same : x ∷ p ≡ piece = cc in subst (λ (p : List ℕ). filter some_bytes (p ∷ after) ≡ p ∷ filter some_bytes after) same refl

first_word : (xs : List ℕ) (n : ℕ) (piece : List ℕ) (after : List (List ℕ)) → Some n ≡ position (λ x. not (eqb x 32)) xs
    → pieces_of 32 (take (length xs - n) (drop n xs)) ≡ piece ∷ after → words_of xs ≡ piece ∷ filter some_bytes after
first_word xs n piece after e h =
    let q = position-Some (λ x. not (eqb x 32)) xs n 0 (sym e) in
    let p = found (λ x. not (eqb x 32)) xs n e in
    let cons : drop n xs ≡ get_or xs n 0 ∷ drop (suc n) xs = drop-cons xs n 0 q.0 in
    skipped xs ∙ ap (λ m. words_of (drop m xs)) (sym p.0) ∙ ap words_of cons
    ∙ begun (get_or xs n 0) (drop (suc n) xs) piece after (negated _ q.1) (ap (pieces_of 32) (sym cons) ∙ (rw take_rest at h))
  where
    negated : (b : Bool) → not b ≡ true → b ≡ false
    negated true k = cc
    negated false k = refl

no_word : (xs : List ℕ) → None ≡ position (λ x. not (eqb x 32)) xs → words_of xs ≡ []
no_word xs e =
    let all : length xs ≤ position_or_len (λ x. not (eqb x 32)) xs = missed (λ x. not (eqb x 32)) xs e in
    skipped xs ∙ ap words_of (drop_all _ xs all)

-- the words of what follows a word
after_word : (o : Option (Bor (List ℕ))) (none : Bor (List ℕ)) → none.now ≡ [] → words_of (unwrap_or o none).now ≡ filter some_bytes (pieces_after 32 (option_map (λ x. x.now) o))
after_word None none e = ap words_of e
after_word (Some rest) none e = refl

pub returns-in_err-start-clause-steps : goal.returns-in_err-start-clause-steps
returns-in_err-start-clause-steps c =
    let none : words_left c.args.self.now ≡ [] =
    no_word c.args.self.now.rest.now
    (position_from_yields_List (λ x. not (eqb x 32)) _ _ _ c.in_err-start.ensures.ran (YieldsList-from_slice c.args.self.now.rest.now (cc)) (λ x b q k. search (rules, tests))) in
    rw c.from_residual.ensures (none, none)

pub returns-clause-steps : goal.returns-clause-steps
returns-clause-steps c =
    first_word c.args.self.now.rest.now c.in_ok-start.start c.cut.result.0.now _
    (position_from_yields_List (λ x. not (eqb x 32)) _ _ _ c.in_ok-start.ensures.ran (YieldsList-from_slice c.args.self.now.rest.now (cc)) (λ x b q k. search (rules, tests)))
    c.cut.ensures.pieces
    ∙ ap (λ ws. c.cut.result.0.now ∷ ws) (sym (ap (λ (r : Bor (List ℕ)). words_of r.now) c.unwrap_or-self.ensures ∙ after_word c.cut.result.1 _ refl))

pub returns-clause-goes : goal.returns-clause-goes
returns-clause-goes c =
    let e : words_left c.args.self.now ≡ c.cut.result.0.now ∷ words_left (record { rest = c.unwrap_or-self.result }) = returns-clause-steps c in
    record { on = λ _. (tt, tt, omega (arith, ap length e)); keeps = tt; rests = λ _. tt }
