use Rattle.std.proofs.Common.{arith, rules}
use Rattle.layout.specs.Code.{no_function, function}
use Rattle.layout.proofs.Decoded.{length_functions}
use Rattle.reading.specs.Meaning.{code_of}
use Rattle.reading.proofs.Made.{made_at}
use Rattle.reading.proofs.Owning.{held_all}
use Rattle.reading.proofs.functions.Functions.new.Goals as goal

pub invariant_of-result : goal.invariant_of-result
invariant_of-result c =
    let made = c.from_fn.ensures.items in
    let it = code_of c.args.bytes in
    record { held = held_all it c.from_fn.result made.long (omega (arith, length_functions c.args.bytes.lists.functions.now)) (λ g h. made_at _ _ (function it) (λ i y q k. (search rules, search rules)) c.from_fn.result 64 g no_function made h) }
