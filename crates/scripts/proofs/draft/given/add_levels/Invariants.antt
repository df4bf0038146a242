use Rattle.std.proofs.Common.{◌≡◌, List, ◌++◌, Option, vec_items}
use Rattle.std.specs.Option.{option_map}
use Rattle.scripts.specs.Drafts.{levels_of}
use Rattle.scripts.specs.Words.{words_left}
use Rattle.scripts.proofs.draft.given.add_levels.Given as goal

-- levels that were added, before those that are still to come
abbrev pub added : {L : Type 0} → List L → Option (List L) → Option (List L)
added levels more = option_map (λ l. levels ++ l) more

abbrev pub invariant-loop-word : goal.invariant-loop-word
invariant-loop-word g l =
    added (vec_items l.list) (levels_of (g.S.Spelled.spelled l.shape) (words_left l.word-iterator))
    ≡ added (vec_items l.initial.list) (levels_of (g.S.Spelled.spelled l.shape) (words_left l.fn.words))
