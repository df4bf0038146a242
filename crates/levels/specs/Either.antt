-- One of two lattices, chosen at the making: its levels are those of the chosen one, and the other's are none. Assumes nothing.
use Rattle.std.specs.Prelude.{Bool, false, Some, None, Option}
use Rattle.levels.specs.Order.{Order}
use Rattle.levels.specs.declared.either.Either.{Either}
use Rattle.levels.specs.declared.either.Either.TheVariants.{Left, Right}

-- the value that is one of the first kind, or of the second
abbrev pub in_left : {A B : Type 0} → Either A B → Option A
in_left (Left a) = Some a
in_left (Right b) = None

abbrev pub in_right : {A B : Type 0} → Either A B → Option B
in_right (Left a) = None
in_right (Right b) = Some b

-- a test of what is there, and of two that are
abbrev pub passes : {A : Type 0} → (A → Bool) → Option A → Bool
passes test None = false
passes test (Some a) = test a

abbrev pub compare_both : {A : Type 0} → (A → A → Bool) → Option A → Option A → Bool
compare_both test None y = false
compare_both test (Some a) y = passes (test a) y

-- what two that are there give, and else the default
abbrev pub given : {A : Type 0} → A → (A → A) → Option A → A
given other f None = other
given other f (Some a) = f a

abbrev pub combine_both : {A : Type 0} → A → (A → A → A) → Option A → Option A → A
combine_both other f None y = other
combine_both other f (Some a) y = given other (f a) y

-- an order among the values of a wider kind: those that it takes from there, put back
abbrev pub widened : {A B : Type 0} → (A → B) → (B → Option A) → Order A → Order B
widened put take o = record {
  is_level = λ x. passes o.is_level (take x);
  le = λ x y. compare_both o.le (take x) (take y);
  join = λ x y. put (combine_both o.low o.join (take x) (take y));
  meet = λ x y. put (combine_both o.low o.meet (take x) (take y));
  low = put o.low;
  high = put o.high;
}

-- the order of the lattice that was chosen
abbrev pub chosen : {A B S T : Type 0} → (S → Order A) → (T → Order B) → Either S T → Order (Either A B)
chosen p q (Left s) = widened Left in_left (p s)
chosen p q (Right t) = widened Right in_right (q t)
