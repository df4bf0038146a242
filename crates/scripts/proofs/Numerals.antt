-- How the number so far grows by a digit, and that a number too large stays too large. Assumes nothing.
use Rattle.std.proofs.Common.{◌≡◌, ℕ, zero, suc, ◌+◌, ◌*◌, ◌<◌, ◌≤◌, false, List, [], ◌∷◌, map, length, get_or, Some, None, decimal, Option, sym, refl, ap, ◌∙◌, ap₂, arith, rules}
use Rattle.std.specs.Option.{option_map}
use Rattle.std.specs.Int.Digits.{number_from_digits_after}
use Rattle.std.proofs.lemmas.Int.Digits.{number_after_ge, digits_value_is}
use Rattle.std.proofs.lemmas.Bool.{le-ltb, lt-ltb, ne_eqb, and_left, cond-true, cond-false}
use Rattle.std.proofs.lemmas.Str.Parse.{digit_from_value}
use Rattle.std.proofs.lemmas.Fmt.{decimal_digit, decimal_is_IsNumeral, first_decimal}
use Rattle.std.specs.Str.Parse.{digits_value, AllDigits}
use Rattle.std.specs.Char.{digit_value}
use Rattle.scripts.specs.declared.number.Base.{Base}
use Rattle.scripts.specs.declared.number.Base.TheVariants.{Ten, Sixteen}
use Rattle.scripts.specs.Numbers.{radix, below, before, digit_of, digits_of, written, numeral_of, prefixed, number_of}

pub radix_some : (base : Base) → 0 < radix base
radix_some Ten = omega arith
radix_some Sixteen = omega arith

-- a number that one digit more makes too large for 32 bits stays too large
over : (base : Base) (n : ℕ) (ds : Option (List ℕ)) → 4294967296 ≤ n → below 4294967296 (option_map (number_from_digits_after (radix base) n) ds) ≡ None
over base n None h = refl
over base n (Some ds) h =
    let more = number_after_ge (radix base) n ds (radix_some base) in
    let k : 4294967296 ≤ number_from_digits_after (radix base) n ds = omega arith in
    cond-false _ _ _ (le-ltb _ _ k)

pub over_more : (base : Base) (v d : ℕ) (ds : Option (List ℕ)) → 4294967296 ≤ v * radix base + d → below 4294967296 (option_map (number_from_digits_after (radix base) v) (option_map (λ l. d ∷ l) ds)) ≡ None
over_more base v d None h = refl
over_more base v d (Some ds) h = over base (v * radix base + d) (Some ds) h

-- a number is read back from the digits that are written of it
decimal_digit_of : (c : ℕ) → digit_value c < 10 → digit_of Ten c ≡ Some (digit_value c)
decimal_digit_of c h = let k = digit_from_value c h in grind (arith, rules)

digits_are : (cs : List ℕ) → AllDigits 10 cs → digits_of Ten cs ≡ Some (map digit_value cs)
digits_are [] h = refl
digits_are (c ∷ cs) h = ap₂ before (decimal_digit_of c h.0) (digits_are cs h.1)

numeral_back : (n : ℕ) (cs : List ℕ) → n < 4294967296 → 0 < length cs → AllDigits 10 cs → digits_value 10 cs ≡ n → numeral_of Ten cs ≡ Some n
numeral_back n [] h some ds e = absurd (omega arith)
numeral_back n (c ∷ cs) h some ds e = ap (written Ten) (digits_are (c ∷ cs) ds) ∙ ap (λ m. below 4294967296 (Some m)) (sym (digits_value_is 10 (c ∷ cs)) ∙ e) ∙ cond-true _ _ _ (lt-ltb _ _ h)

unprefixed : (n : ℕ) → n < 4294967296 → prefixed (decimal n) ≡ false
unprefixed zero h = ap prefixed (decimal_digit 0 (omega arith))
unprefixed (suc n) h =
    let big = first_decimal (suc n) (omega arith) (omega arith) in
    and_left _ _ (ne_eqb (get_or (decimal (suc n)) 0 0) 48 (λ e. omega arith))

pub number_back : (n : ℕ) → n < 4294967296 → number_of (decimal n) ≡ Some n
number_back n h =
    let reads = decimal_is_IsNumeral n (omega arith) in
    cond-false _ _ _ (unprefixed n h) ∙ numeral_back n (decimal n) h reads.0.0 reads.0.1 reads.1
