-- What a line makes of a scene, and what a whole script leaves. Assumes nothing.
use Rattle.std.specs.Prelude.{◌≡◌, ℕ, Bool, true, false, if◌then◌else◌, ◌⊎◌, List, [], ◌∷◌, ◌++◌, None, Ok, Err, codes, decimal, Result}
use Rattle.std.specs.Option.{unwrap_or}
use Rattle.std.specs.List.{slice_get}
use Rattle.std.specs.Str.{bytes_eq}
use Rattle.scripts.specs.Shapes.{Word}
use Rattle.scripts.specs.Pieces.{pieces_of}
use Rattle.layout.specs.Encoding.{no_lists}
use Rattle.scripts.specs.Scenes.{Scene, begun, one_more, Answered, AnsweredWithin, Latticed, scenario_begun, book_chosen, levels_given, policy_told, bytes_added, cleared}
use Rattle.scripts.specs.Words.{words_of}
use Rattle.scripts.specs.declared.fault.LineFault.{LineFault}
use Rattle.scripts.specs.declared.fault.ScriptFault.{ScriptFault}
use Rattle.scripts.specs.declared.fault.ScriptFault.TheVariants.{NoScenario, UnknownCommand, Memory}
use Rattle.scripts.specs.declared.session.Command.{Command}
use Rattle.scripts.specs.declared.session.Command.TheVariants.{Lattice, Book, Levels, Policy, Add, Clear}
use Rattle.scripts.specs.declared.draft.Owner.TheVariants.{Types, Figures}
use Rattle.scripts.specs.declared.session.Section.TheVariants.{Nodes, Functions, Apps}

-- the command that a word names, `scenario` aside
abbrev pub command_of : Word → Result Command ScriptFault
command_of word =
    if bytes_eq word (codes "lattice") then Ok Lattice
    else (if bytes_eq word (codes "book") then Ok Book
    else (if bytes_eq word (codes "levels") then Ok (Levels Types)
    else (if bytes_eq word (codes "figures") then Ok (Levels Figures)
    else (if bytes_eq word (codes "policy") then Ok Policy
    else (if bytes_eq word (codes "nodes") then Ok (Add Nodes)
    else (if bytes_eq word (codes "functions") then Ok (Add Functions)
    else (if bytes_eq word (codes "apps") then Ok (Add Apps)
    else (if bytes_eq word (codes "clear") then Ok Clear
    else Err UnknownCommand))))))))

-- what a command makes of a scene
abbrev pub Acts : Command → Scene → List Word → Result (Unit {0}) ScriptFault → Scene → Type 0
Acts Lattice s words r t = Latticed s words r t
Acts Book s words r t = Answered r (book_chosen s words) t
Acts (Levels owner) s words r t = Answered r (levels_given owner s words) t
Acts Policy s words r t = AnsweredWithin r (λ lacking. policy_told lacking s words) t
Acts (Add section) s words r t = Answered r (bytes_added section s words) t
Acts Clear s words r t = Answered r (cleared s words) t

-- what `scenario` makes of it
abbrev pub Begins : Scene → List Word → Result (Unit {0}) ScriptFault → Scene → Type 0
Begins s words r t = Answered r (scenario_begun s words) t

module _ (s : Scene) (words : List Word) (r : Result (Unit {0}) ScriptFault) (t : Scene) where
  abbrev pub ActsIfKnown : Result Command ScriptFault → Type 0
  ActsIfKnown (Err e) = r ≡ Err e
  ActsIfKnown (Ok command) = Acts command s words r t

  -- a command comes after the first `scenario`
  abbrev pub InScenario : Bool → Result Command ScriptFault → Type 0
  InScenario false command = r ≡ Err NoScenario
  InScenario true command = ActsIfKnown command

  abbrev pub Takes : Bool → Result Command ScriptFault → Type 0
  Takes true command = Begins s words r t
  Takes false command = InScenario (begun s) command

-- what a line makes of a scene, by its words: a line without words changes nothing
abbrev pub Obeys : Scene → List Word → Result (Unit {0}) ScriptFault → Scene → Type 0
Obeys s [] r t = (r ≡ Ok tt) × (t ≡ s)
Obeys s (word ∷ words) r t = Takes s words r t (bytes_eq word (codes "scenario")) (command_of word)

-- the words of a line, whose comment begins at a #
abbrev pub line_words : List ℕ → List Word
line_words line = words_of (unwrap_or (slice_get (pieces_of 35 line) 0) [])

-- the closing line
abbrev pub closing : Scene → List ℕ
closing s =
    codes "done: " ++ (decimal s.tally.scenarios ++ (codes " scenarios, " ++ (decimal s.tally.made ++ (codes " policies made and " ++ (decimal s.tally.refused
    ++ codes " refused, 0 programs accepted and 0 refused, 0 runs with a result and 0 cut\n")))))

-- before the first line
abbrev pub opening : Scene
opening = record { draft = None; bytes = no_lists; tally = record { scenarios = 0; made = 0; refused = 0 }; text = [] }

abbrev pub at_line : ℕ → ScriptFault → LineFault
at_line n fault = record { line = n; fault = fault }

-- What a script leaves, from a scene on, by the lines that are left and the number of those before: each line is obeyed in turn. The
-- script ends with its closing line, or at the first line at fault, which adds nothing; where memory is lacking, the text is free.
abbrev pub Performs : List (List ℕ) → Scene → ℕ → Result (Unit {0}) LineFault → List ℕ → Type 0
Performs [] s n r text = ((r ≡ Ok tt) × (text ≡ s.text ++ closing s)) ⊎ (r ≡ Err (at_line n Memory))
Performs (line ∷ lines) s n r text =
    ((t : Scene) × Obeys s (line_words line) (Ok tt) t × Performs lines t (one_more n) r text)
    ⊎ ((t : Scene) × (e : ScriptFault) × Obeys s (line_words line) (Err e) t × (r ≡ Err (at_line (one_more n) e)) × ((e ≡ Memory) ⊎ (text ≡ s.text)))

-- the lines of a script
abbrev pub lines_of : List ℕ → List (List ℕ)
lines_of script = pieces_of 10 script
