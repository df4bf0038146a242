use Rattle.std.proofs.Common.{◌≡◌, ℕ, ◌+◌, ◌*◌, ◌≤◌, ◌<◌, None, Result, Ok, Err, ◌∙◌, arith}
use Rattle.std.specs.Result.{OkIff, result_ok}
use Rattle.std.proofs.lemmas.Grind.{common_steps}
use Rattle.std.proofs.lemmas.Option.{none-some}
use Rattle.scripts.specs.Numbers.{radix}
use Rattle.scripts.proofs.Numerals.{over_more}
use Rattle.scripts.proofs.number.digits.Goals as goal

too_large : {E : Type 0} (r : Result ℕ E) (n : ℕ) → OkIff r (n < 4294967296) n → None ≡ result_ok r → 4294967296 ≤ n
too_large (Ok x) n fits none = absurd (none-some x none)
too_large (Err e) n fits none = omega (arith, fits)

pub returns-in_err-value : goal.returns-in_err-value
returns-in_err-value c =
    let large : 4294967296 ≤ c.loop-byte.value * radix c.args.base + c.in_ok-one.one =
    rw (← c.from.ensures, ← (c.from-in-loop-byte.ensures ∙ c.radix.ensures), ← c.from-in-loop-byte-2.ensures) (too_large c.try_from.result _ c.try_from.ensures c.in_err-value.ensures.value) in
    grind (arith, common_steps, over_more)
