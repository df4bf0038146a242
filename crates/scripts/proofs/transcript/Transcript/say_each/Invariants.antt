use Rattle.std.proofs.Common.{◌≡◌, ℕ, List, ◌<◌, ◌++◌}
use Rattle.scripts.specs.Policies.{Says, texts}
use Rattle.scripts.proofs.transcript.Transcript.say_each.Given as goal

abbrev pub invariant-loop-i : goal.invariant-loop-i
invariant-loop-i g l =
    (text : ℕ → List ℕ)
    → ((i : ℕ) → i < l.fn.n → Says (λ old. goal.F-post g l.fn.say old i) (text i))
    → l.self ≡ l.initial.self ++ texts text l.i
