-- What a script has made so far, and what each command makes of it. Assumes nothing.
use Rattle.std.specs.Prelude.{◌≡◌, ℕ, ◌+◌, min, Bool, true, false, ◌⊎◌, List, [], ◌∷◌, ◌++◌, is_ok, IfErr, Some, None, Ok, Err, nat_lt, vec_items, codes, decimal, Option, Result, MatchResult}
use Rattle.std.specs.Option.{option_map, ok_or}
use Rattle.std.specs.List.{flat_map}
use Rattle.levels.specs.Refusals.{answer, within_memory, refusal_text}
use Rattle.levels.specs.declared.refusal.Refusal.{Refusal}
use Rattle.levels.specs.declared.either.Either.{Either}
use Rattle.levels.specs.declared.table.Rank.{Rank}
use Rattle.levels.specs.declared.tags.TagSet.{TagSet}
use Rattle.levels.specs.declared.refusal.Layer.TheVariants.{Books}
use Rattle.books.specs.Book.{Book}
use Rattle.layout.specs.Encoding.{Lists, written_lists, no_lists}
use Rattle.scripts.specs.Faults.{of_hex}
use Rattle.scripts.specs.Hex.{bytes_of}
use Rattle.scripts.specs.Numbers.{digits_of}
use Rattle.scripts.specs.Policies.{policy_text, plan_verdict}
use Rattle.scripts.specs.Spelled.{by_choice, pair_text}
use Rattle.scripts.specs.declared.hex.HexFault.{HexFault}
use Rattle.scripts.specs.declared.number.Base.TheVariants.{Sixteen}
use Rattle.scripts.specs.Drafts.{◌>>=◌, last, plan_of, levels_of, spelled_shape}
use Rattle.scripts.specs.Shapes.{Word, Shape, shape_text, lattice_of, Fails}
use Rattle.scripts.specs.declared.draft.BookPlan.{BookPlan}
use Rattle.scripts.specs.declared.draft.Draft.{Draft}
use Rattle.scripts.specs.declared.fault.ScriptFault.{ScriptFault}
use Rattle.scripts.specs.declared.fault.ScriptFault.TheVariants.{MissingWord, WantsLattice, WantsBook, NoLevel, Memory}
use Rattle.scripts.specs.declared.draft.Owner.{Owner}
use Rattle.scripts.specs.declared.draft.Owner.TheVariants.{Types, Figures}
use Rattle.scripts.specs.declared.session.Section.{Section}
use Rattle.scripts.specs.declared.session.Section.TheVariants.{Nodes, Functions, Apps}
use Rattle.scripts.specs.declared.session.Session.{Session}
use Rattle.scripts.specs.declared.session.Tally.{Tally}

abbrev pub LeafLevel : Type 0
LeafLevel = Either TagSet Rank

abbrev pub SideLevel : Type 0
SideLevel = Either LeafLevel (LeafLevel × LeafLevel)

abbrev pub ShapeLevel : Type 0
ShapeLevel = Either LeafLevel (SideLevel × SideLevel)

-- a lattice, the book that was chosen over it, and the levels that were given
pub record Sketch : Type 0 where
  pub shape : Shape
  pub plan : Option BookPlan
  pub levels : List ShapeLevel
  pub figures : List ShapeLevel

abbrev pub sketch : Draft → Sketch
sketch d = record { shape = d.shape; plan = d.plan; levels = vec_items d.levels; figures = vec_items d.figures }

-- what was answered, and what was made, is as it is to be; or memory was lacking
abbrev pub Answered : {S U : Type 0} → Result U ScriptFault → Result S ScriptFault → S → Type 0
Answered r wanted made = MatchResult r (λ _. wanted ≡ Ok made) (λ e. (e ≡ Memory) ⊎ (wanted ≡ Err e))

-- a line at fault adds nothing to the transcript
abbrev pub Silent : {U : Type 0} → Result U ScriptFault → List ℕ → List ℕ → Type 0
Silent r old new = IfErr r (λ e. (e ≡ Memory) ⊎ (new ≡ old))

-- levels after those of the types, or of the figures
abbrev pub with_levels : Owner → Sketch → List ShapeLevel → Sketch
with_levels Types d more = record d { levels = d.levels ++ more }
with_levels Figures d more = record d { figures = d.figures ++ more }

-- levels come only for a book that was chosen, and each word is one
abbrev pub given_levels : Owner → Sketch → List Word → Result Sketch ScriptFault
given_levels owner d words = do
  plan ← ok_or d.plan WantsBook
  more ← ok_or (levels_of (spelled_shape d.shape) words) NoLevel
  Ok (with_levels owner d more)

-- all that a script has made so far: its lattice and book, its program in bytes, what was done, and the transcript
pub record Scene : Type 0 where
  pub draft : Option Sketch
  -- the three byte lists of a program
  pub bytes : Lists
  pub tally : Tally
  pub text : List ℕ

abbrev pub scene : Session → Scene
scene s = record { draft = option_map sketch s.draft; bytes = written_lists s.source; tally = s.tally; text = s.transcript }

-- whether a scenario has begun
abbrev pub begun : Scene → Bool
begun s = nat_lt 0 s.tally.scenarios

-- what a command by its words is to make of a scene, it made of a session's; a line at fault added nothing to the transcript
abbrev pub Does : {U : Type 0} → (Scene → List Word → Result U ScriptFault → Scene → Type 0) → Session → List Word → Result U ScriptFault → Session → Type 0
Does Act old words r new = Act (scene old) words r (scene new) × Silent r old.transcript new.transcript

-- one more, up to the largest number of 64 bits
abbrev pub one_more : ℕ → ℕ
one_more n = min (n + 1) 18446744073709551615

-- the one word of a line
abbrev pub only_word : List Word → Result Word ScriptFault
only_word [] = Err MissingWord
only_word (word ∷ words) = last word words

-- `scenario`: everything made so far is forgotten
abbrev pub scenario_begun : Scene → List Word → Result Scene ScriptFault
scenario_begun s words = do
  name ← only_word words
  Ok (record {
    draft = None;
    bytes = no_lists;
    tally = record s.tally { scenarios = one_more s.tally.scenarios };
    text = s.text ++ (codes "scenario " ++ (name ++ codes "\n"));
  })

-- a scene with another draft and more text
abbrev pub with_draft : Scene → Option Sketch → List ℕ → Scene
with_draft s draft more = record s { draft = draft; text = s.text ++ more }

abbrev pub lattice_text : {X : Type 0} → Result X Refusal → List ℕ
lattice_text (Ok shape) = codes "lattice: made\n"
lattice_text (Err refusal) = codes "lattice: " ++ (refusal_text refusal ++ codes "\n")

-- a lattice without a book
abbrev pub bare : Shape → Sketch
bare shape = record { shape = shape; plan = None; levels = []; figures = [] }

abbrev pub new_sketch : Result Shape Refusal → Option Sketch
new_sketch (Ok shape) = Some (bare shape)
new_sketch (Err refusal) = None

-- `lattice`: the lattice that the words say takes the place of all that was made over another
abbrev pub Latticed : {U : Type 0} → Scene → List Word → Result U ScriptFault → Scene → Type 0
Latticed s words r t = MatchResult r
    (λ _. (made : Result Shape Refusal) × (Some (answer shape_text (λ e. e) made) ≡ lattice_of words) × (t ≡ with_draft s (new_sketch made) (lattice_text made)))
    (λ e. Fails e (lattice_of words))

abbrev pub emptied : Sketch → BookPlan → Sketch
emptied d plan = record d { plan = Some plan; levels = []; figures = [] }

-- `book`: the book is chosen over the lattice, if there is one
abbrev pub book_chosen : Scene → List Word → Result Scene ScriptFault
book_chosen s words = do
  plan ← plan_of words
  Ok (record s { draft = option_map (λ d. emptied d plan) s.draft })

-- `levels` and `figures`
abbrev pub levels_given : Owner → Scene → List Word → Result Scene ScriptFault
levels_given owner s words = do
  d ← ok_or s.draft WantsLattice
  e ← given_levels owner d words
  Ok (record s { draft = Some e })

-- the texts of levels
abbrev pub leaf_level_text : LeafLevel → List ℕ
leaf_level_text level = by_choice (λ tags. decimal tags.bits) (λ rank. decimal rank.number) level

abbrev pub side_level_text : SideLevel → List ℕ
side_level_text level = by_choice leaf_level_text (pair_text leaf_level_text leaf_level_text) level

abbrev pub shape_level_text : ShapeLevel → List ℕ
shape_level_text level = by_choice leaf_level_text (pair_text side_level_text side_level_text) level

-- the verdict on the book of a draft, where memory may be lacking
abbrev pub sketch_verdict : Bool → Sketch → Result (Result (Book ShapeLevel) Refusal) ScriptFault
sketch_verdict lacking d = do
  plan ← ok_or d.plan WantsBook
  Ok (within_memory lacking Books (plan_verdict plan d.levels d.figures))

-- the verdict was told, and whether the book was made was answered; a fault adds nothing
abbrev pub Tells : Result Bool ScriptFault → (Bool → Result (Result (Book ShapeLevel) Refusal) ScriptFault) → List ℕ → List ℕ → Type 0
Tells r wanted old new = MatchResult r
    (λ good. (lacking : Bool) × (verdict : Result (Book ShapeLevel) Refusal) × (wanted lacking ≡ Ok verdict) × (good ≡ is_ok verdict) × (new ≡ old ++ policy_text shape_level_text verdict))
    (λ e. (e ≡ Memory) ⊎ ((wanted false ≡ Err e) × (new ≡ old)))

-- one more policy that was made, or refused
abbrev pub counted : Tally → Bool → Tally
counted t true = record t { made = one_more t.made }
counted t false = record t { refused = one_more t.refused }

abbrev pub with_verdict : Scene → Result (Book ShapeLevel) Refusal → Scene
with_verdict s verdict = record s { tally = counted s.tally (is_ok verdict); text = s.text ++ policy_text shape_level_text verdict }

-- `policy`
abbrev pub policy_told : Bool → Scene → List Word → Result Scene ScriptFault
policy_told lacking s words = do
  none ← last (tt {0}) words
  d ← ok_or s.draft WantsLattice
  verdict ← sketch_verdict lacking d
  Ok (with_verdict s verdict)

-- what was answered is what is to be, in memory that sufficed or that did not
abbrev pub AnsweredWithin : {S U : Type 0} → Result U ScriptFault → (Bool → Result S ScriptFault) → S → Type 0
AnsweredWithin r wanted made = MatchResult r (λ _. (lacking : Bool) × (wanted lacking ≡ Ok made)) (λ e. (e ≡ Memory) ⊎ (wanted false ≡ Err e))

abbrev pub from_hex : Result (List ℕ) HexFault → Result (List ℕ) ScriptFault
from_hex (Err e) = Err (of_hex e)
from_hex (Ok bytes) = Ok bytes

-- the bytes that words of hexadecimal digits write
abbrev pub hex_in : List Word → Result (List ℕ) ScriptFault
hex_in words = from_hex (bytes_of (digits_of Sixteen (flat_map (λ word. word) words)))

-- bytes after those of one of the three lists
abbrev pub with_bytes : Section → Lists → List ℕ → Lists
with_bytes Nodes b more = record b { nodes = b.nodes ++ more }
with_bytes Functions b more = record b { functions = b.functions ++ more }
with_bytes Apps b more = record b { apps = b.apps ++ more }

-- `nodes`, `functions` and `apps` add to the end of their list; `clear` empties the three
abbrev pub bytes_added : Section → Scene → List Word → Result Scene ScriptFault
bytes_added section s words = do
  more ← hex_in words
  Ok (record s { bytes = with_bytes section s.bytes more })

abbrev pub cleared : Scene → List Word → Result Scene ScriptFault
cleared s words = do
  none ← last (tt {0}) words
  Ok (record s { bytes = no_lists })
