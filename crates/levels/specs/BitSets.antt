-- The laws of sets kept in bits that the library lacks. Assumes nothing.
use Rattle.std.specs.Prelude.{◌≡◌, ℕ}
use Rattle.std.proofs.Common.{sym, ap, ap₂, ◌∙◌, arith}
use Rattle.std.specs.Int.Bits.{bit_and, bit_or, and_self}
use Rattle.std.proofs.lemmas.Nat.{and_assoc, and_comm, or_comm}
use Rattle.std.proofs.lemmas.Nat.Bits.{bit_at_and, bit_at_or, same_from_bits}

pub and_or : (a b c : ℕ) → bit_and a (bit_or b c) ≡ bit_or (bit_and a b) (bit_and a c)
and_or a b c = same_from_bits _ _ (λ i. omega (arith, bit_at_and a (bit_or b c) i, bit_at_or b c i, bit_at_or (bit_and a b) (bit_and a c) i, bit_at_and a b i, bit_at_and a c i))

pub absorb : (a b : ℕ) → bit_and a (bit_or a b) ≡ a
absorb a b = same_from_bits _ _ (λ i. omega (arith, bit_at_and a (bit_or a b) i, bit_at_or a b i))

-- inclusion: a is within b where bit_and a b ≡ a
pub within_trans : (a b c : ℕ) → bit_and a b ≡ a → bit_and b c ≡ b → bit_and a c ≡ a
within_trans a b c h k = ap (λ (x : ℕ). bit_and x c) (sym h) ∙ and_assoc c a b ∙ ap (bit_and a) k ∙ h

pub or_within : (a b c : ℕ) → bit_and a c ≡ a → bit_and b c ≡ b → bit_and (bit_or a b) c ≡ bit_or a b
or_within a b c h k = and_comm (bit_or a b) c ∙ and_or c a b ∙ ap₂ bit_or (and_comm c a ∙ h) (and_comm c b ∙ k)

pub within_or_right : (a b : ℕ) → bit_and b (bit_or a b) ≡ b
within_or_right a b = ap (bit_and b) (or_comm a b) ∙ absorb b a

pub and_within_right : (a b : ℕ) → bit_and (bit_and a b) b ≡ bit_and a b
and_within_right a b = and_assoc b a b ∙ ap (bit_and a) (and_self b)

pub and_within_left : (a b : ℕ) → bit_and (bit_and a b) a ≡ bit_and a b
and_within_left a b = ap (λ (x : ℕ). bit_and x a) (and_comm a b) ∙ and_within_right b a ∙ and_comm b a

pub within_and : (a b c : ℕ) → bit_and c a ≡ c → bit_and c b ≡ c → bit_and c (bit_and a b) ≡ c
within_and a b c h k = sym (and_assoc b c a) ∙ ap (λ (x : ℕ). bit_and x b) h ∙ k
