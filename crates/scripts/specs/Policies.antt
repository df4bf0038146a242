-- How a policy is shown: the levels of each type at each set, and of each figure. Assumes nothing.
use Rattle.std.specs.Prelude.{◌≡◌, ℕ, zero, suc, ◌^◌, Bool, List, [], ◌++◌, is_ok, Some, None, Ok, Err, codes, decimal, Option, Result, OnOk}
use denote.Ref.{MutBor}
use Rattle.scripts.specs.declared.transcript.Transcript.{Transcript}
use Rattle.levels.specs.Refusals.{refusal_text, within_memory}
use Rattle.levels.specs.declared.refusal.Layer.TheVariants.{Books}
use Rattle.levels.specs.declared.refusal.Refusal.{Refusal}
use Rattle.books.specs.Book.{Book}
use Rattle.books.specs.Made.{row_verdict, fixed_verdict}
use Rattle.scripts.specs.declared.draft.BookKind.{BookKind}
use Rattle.scripts.specs.declared.draft.BookKind.TheVariants.{Row, Fixed}
use Rattle.scripts.specs.declared.draft.BookPlan.{BookPlan}

-- a level after a space
abbrev pub spaced : {L : Type 0} → (L → List ℕ) → Option L → List ℕ
spaced text None = []
spaced text (Some level) = codes " " ++ text level

-- the texts of the numbers below k, one after the other
unfoldable pub texts : (ℕ → List ℕ) → ℕ → List ℕ
texts text zero = []
texts text (suc k) = texts text k ++ text k

-- each call that succeeds adds the text
abbrev pub Says : {E : Type 0} → (MutBor Transcript → Result (Unit {0}) E → MutBor Transcript → Type 0) → List ℕ → Type 0
Says post text = (old : MutBor Transcript) (r : _) (new : MutBor Transcript) → post old r new → OnOk r (new.now ≡ old.now ++ text)

-- a line: what is numbered, its number, and what is said of it
abbrev pub line : List ℕ → ℕ → List ℕ → List ℕ
line what i said = (what ++ (codes " " ++ (decimal i ++ codes ":"))) ++ (said ++ codes "\n")

module _ {L : Type 0} (text : L → List ℕ) (b : Book L) where
  -- the levels of a type at the sets below k
  abbrev pub sets_text : ℕ → ℕ → List ℕ
  sets_text t k = texts (λ set. spaced text (b.level t set)) k

  -- the line of a type
  abbrev pub type_line : ℕ → List ℕ
  type_line t = line (codes "type") t (sets_text t (2 ^ b.permissions))

  -- the lines of the types below k
  abbrev pub type_lines : ℕ → List ℕ
  type_lines k = texts type_line k

  -- the line of a figure
  abbrev pub figure_line : ℕ → List ℕ
  figure_line i = line (codes "figure") i (spaced text (b.figure i))

  -- the lines of the figures below k
  abbrev pub figure_lines : ℕ → List ℕ
  figure_lines k = texts figure_line k

  -- the whole book
  abbrev pub book_text : List ℕ
  book_text = type_lines b.types ++ figure_lines b.figures

-- what is told of the making of a book
abbrev pub policy_text : {L : Type 0} → (L → List ℕ) → Result (Book L) Refusal → List ℕ
policy_text text (Ok b) = codes "policy: made\n" ++ book_text text b
policy_text text (Err refusal) = codes "policy: " ++ (refusal_text refusal ++ codes "\n")

-- a verdict was told, where memory may be lacking, and whether a book was made
abbrev pub TellsOf : {L : Type 0} → Result (Book L) Refusal → (L → List ℕ) → Bool → List ℕ → List ℕ → Type 0
TellsOf verdict text made old new = (lacking : Bool) × (made ≡ is_ok (within_memory lacking Books verdict)) × (new ≡ old ++ policy_text text (within_memory lacking Books verdict))

abbrev pub by_kind : {X : Type 0} → BookKind → X → X → X
by_kind Row x y = x
by_kind Fixed x y = y

-- the verdict on the book that was chosen, with its levels
abbrev pub plan_verdict : {L : Type 0} → BookPlan → List L → List L → Result (Book L) Refusal
plan_verdict plan levels figures = by_kind plan.kind
    (row_verdict plan.numbers levels figures)
    (fixed_verdict plan.numbers levels figures)
