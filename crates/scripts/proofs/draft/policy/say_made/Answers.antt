use Rattle.std.proofs.Common.{◌≡◌, ◌++◌, Ok, sym, subst, append_assoc}
use Rattle.levels.specs.Refusals.{answer}
use Rattle.books.specs.Made.{book_refusal}
use Rattle.scripts.specs.Policies.{policy_text}
use Rattle.scripts.proofs.draft.policy.say_made.Goals as goal

pub returns-in_ok-say_book-in-Ok-clause-told : goal.returns-in_ok-say_book-in-Ok-clause-told
returns-in_ok-say_book-in-Ok-clause-told g c =
    let text = g.S.Spelled.text in
    let meaning = g.B.TypeBook.meaning in
    let before = c.args.transcript.now in
    let after = c.say_book.new.self in
    let told : after ≡ before ++ policy_text text (Ok (meaning c.in-Ok.book)) = rw (c.in_ok-say-in-Ok.ensures, append_assoc) at c.in_ok-say_book-in-Ok.ensures in
    subst (λ m. after ≡ before ++ policy_text text (answer meaning book_refusal m)) (sym c.in-Ok.is) told
