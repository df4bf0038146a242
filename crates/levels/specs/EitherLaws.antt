-- The chosen one of two lattices is a lattice. Assumes nothing.
use Rattle.std.specs.Prelude.{◌≡◌, Bool, true, false, ◌&&◌, Some, None, Option, refl}
use Rattle.std.proofs.Common.{sym, ap, ap₂, ◌∙◌}
use Rattle.std.proofs.lemmas.Bool.{false≢true}
use Rattle.levels.specs.Order.{Order, Laws}
use Rattle.levels.specs.Either.{in_left, in_right, passes, compare_both, combine_both, widened, chosen}
use Rattle.levels.specs.declared.either.Either.{Either}
use Rattle.levels.specs.declared.either.Either.TheVariants.{Left, Right}

-- what a passed test says of what is there
record There {A : Type 0} (P : A → Type 0) (x : Option A) : Type 0 where
  pub value : A
  pub is : x ≡ Some value
  pub holds : P value

there : {A : Type 0} (test : A → Bool) (x : Option A) → passes test x ≡ true → There (λ a. test a ≡ true) x
there test None h = absurd (false≢true h)
there test (Some a) h = record { value = a; is = refl; holds = h }

record Both {A : Type 0} (P : A → A → Type 0) (x y : Option A) : Type 0 where
  pub left : A
  pub right : A
  pub left_is : x ≡ Some left
  pub right_is : y ≡ Some right
  pub holds : P left right

both : {A : Type 0} (test : A → A → Bool) (x y : Option A) → compare_both test x y ≡ true → Both (λ a b. test a b ≡ true) x y
both test None y h = absurd (false≢true h)
both test (Some a) None h = absurd (false≢true h)
both test (Some a) (Some b) h = record { left = a; right = b; left_is = refl; right_is = refl; holds = h }

same_some : {A : Type 0} {x : Option A} {a b : A} → x ≡ Some a → x ≡ Some b → a ≡ b
same_some p q = cc

module _ {A B : Type 0} (put : A → B) (take : B → Option A) (o : Order A) (laws : Laws o)
    (takes : (a : A) → take (put a) ≡ Some a) (puts : (x : B) (a : A) → take x ≡ Some a → x ≡ put a) where
  abbrev w : Order B
  w = widened put take o

  level : (x : B) (a : A) → take x ≡ Some a → o.is_level a ≡ true → w.is_level x ≡ true
  level x a e h = ap (passes o.is_level) e ∙ h

  at_most : (x y : B) (a b : A) → take x ≡ Some a → take y ≡ Some b → o.le a b ≡ true → w.le x y ≡ true
  at_most x y a b e f h = ap₂ (compare_both o.le) e f ∙ h

  combined : (f : A → A → A) (x y : B) (a b : A) → take x ≡ Some a → take y ≡ Some b → put (combine_both o.low f (take x) (take y)) ≡ put (f a b)
  combined f x y a b e k = ap put (ap₂ (combine_both o.low f) e k)

  taken : (f : A → A → A) (x y : B) (a b : A) → take x ≡ Some a → take y ≡ Some b → take (put (combine_both o.low f (take x) (take y))) ≡ Some (f a b)
  taken f x y a b e k = ap take (combined f x y a b e k) ∙ takes (f a b)

  off : (f : A → A → A) → ((a b : A) → (o.is_level a && o.is_level b) ≡ false → f a b ≡ o.low)
      → (x y : Option A) → (passes o.is_level x && passes o.is_level y) ≡ false → combine_both o.low f x y ≡ o.low
  off f h None y k = refl
  off f h (Some a) None k = refl
  off f h (Some a) (Some b) k = h a b k

  pub widened_laws : Laws (widened put take o)
  widened_laws = record {
    levels = λ x y h.
        let p = both o.le (take x) (take y) h in
        let q = laws.levels p.left p.right p.holds in
        (level x p.left p.left_is q.0, level y p.right p.right_is q.1);
    reflexive = λ x h.
        let p = there o.is_level (take x) h in
        at_most x x p.value p.value p.is p.is (laws.reflexive p.value p.holds);
    antisymmetric = λ x y h k.
        let p = both o.le (take x) (take y) h in
        let q = both o.le (take y) (take x) k in
        let back : o.le p.right p.left ≡ true = ap₂ o.le (same_some p.right_is q.left_is) (same_some p.left_is q.right_is) ∙ q.holds in
        puts x p.left p.left_is ∙ ap put (laws.antisymmetric p.left p.right p.holds back) ∙ sym (puts y p.right p.right_is);
    transitive = λ x y z h k.
        let p = both o.le (take x) (take y) h in
        let q = both o.le (take y) (take z) k in
        let next : o.le p.right q.right ≡ true = ap (λ (a : A). o.le a q.right) (same_some p.right_is q.left_is) ∙ q.holds in
        at_most x z p.left q.right p.left_is q.right_is (laws.transitive p.left p.right q.right p.holds next);
    lowest = λ x h.
        let p = there o.is_level (take x) h in
        at_most (put o.low) x o.low p.value (takes o.low) p.is (laws.lowest p.value p.holds);
    highest = λ x h.
        let p = there o.is_level (take x) h in
        at_most x (put o.high) p.value o.high p.is (takes o.high) (laws.highest p.value p.holds);
    join_left = λ x y h k.
        let p = there o.is_level (take x) h in
        let q = there o.is_level (take y) k in
        at_most x _ p.value (o.join p.value q.value) p.is (taken o.join x y p.value q.value p.is q.is) (laws.join_left p.value q.value p.holds q.holds);
    join_right = λ x y h k.
        let p = there o.is_level (take x) h in
        let q = there o.is_level (take y) k in
        at_most y _ q.value (o.join p.value q.value) q.is (taken o.join x y p.value q.value p.is q.is) (laws.join_right p.value q.value p.holds q.holds);
    join_least = λ x y z h k.
        let p = both o.le (take x) (take z) h in
        let q = both o.le (take y) (take z) k in
        let second : o.le q.left p.right ≡ true = ap (o.le q.left) (same_some p.right_is q.right_is) ∙ q.holds in
        at_most _ z (o.join p.left q.left) p.right (taken o.join x y p.left q.left p.left_is q.left_is) p.right_is (laws.join_least p.left q.left p.right p.holds second);
    meet_left = λ x y h k.
        let p = there o.is_level (take x) h in
        let q = there o.is_level (take y) k in
        at_most _ x (o.meet p.value q.value) p.value (taken o.meet x y p.value q.value p.is q.is) p.is (laws.meet_left p.value q.value p.holds q.holds);
    meet_right = λ x y h k.
        let p = there o.is_level (take x) h in
        let q = there o.is_level (take y) k in
        at_most _ y (o.meet p.value q.value) q.value (taken o.meet x y p.value q.value p.is q.is) q.is (laws.meet_right p.value q.value p.holds q.holds);
    meet_greatest = λ x y z h k.
        let p = both o.le (take z) (take x) h in
        let q = both o.le (take z) (take y) k in
        let second : o.le p.left q.right ≡ true = ap (λ (a : A). o.le a q.right) (same_some p.left_is q.left_is) ∙ q.holds in
        at_most z _ p.left (o.meet p.right q.right) p.left_is (taken o.meet x y p.right q.right p.right_is q.right_is) (laws.meet_greatest p.right q.right p.left p.holds second);
    low_level = level (put o.low) o.low (takes o.low) laws.low_level;
    join_off = λ x y h. ap put (off o.join laws.join_off (take x) (take y) h);
    meet_off = λ x y h. ap put (off o.meet laws.meet_off (take x) (take y) h);
  }

from_left : {A B : Type 0} (x : Either A B) (a : A) → in_left x ≡ Some a → x ≡ Left a
from_left (Left b) a e = ap Left (same_some refl e)
from_left (Right b) a e = cc

from_right : {A B : Type 0} (x : Either A B) (a : B) → in_right x ≡ Some a → x ≡ Right a
from_right (Left b) a e = cc
from_right (Right b) a e = ap Right (same_some refl e)

pub chosen_laws : {A B S T : Type 0} (p : S → Order A) (q : T → Order B) → ((s : S) → Laws (p s)) → ((t : T) → Laws (q t)) → (e : Either S T) → Laws (chosen p q e)
chosen_laws p q lp lq (Left s) = widened_laws Left in_left (p s) (lp s) (λ a. refl) from_left
chosen_laws p q lp lq (Right t) = widened_laws Right in_right (q t) (lq t) (λ a. refl) from_right
