-- What a refusal tells: the layer that refuses, the number of the broken rule, and the place. Assumes nothing.
use Rattle.std.specs.Prelude.{ℕ, Bool, true, false, cond, List, ◌++◌, Ok, Err, codes, decimal, Result, nat_le}
use Rattle.levels.specs.declared.refusal.Layer.{Layer}
use Rattle.levels.specs.declared.refusal.Layer.TheVariants.{Levels, Books, Reading, Check, Service}
use Rattle.levels.specs.declared.refusal.Place.{Place}
use Rattle.levels.specs.declared.refusal.Place.TheVariants.{Whole, Node, NodeAt, Function, App, TypeAt, Figure}
use Rattle.levels.specs.declared.refusal.Refusal.{Refusal}

-- the layer that gives a number: 1 and 2, 3, 4 to 10, 11 to 18, 19 to 26
abbrev pub layer_of : ℕ → Layer
layer_of number =
    cond (nat_le number 2) Levels
    (cond (nat_le number 3) Books
    (cond (nat_le number 10) Reading
    (cond (nat_le number 18) Check Service)))

-- the rule of this number is broken at this place
abbrev pub broken : ℕ → Place → Refusal
broken number place = record { layer = layer_of number; number = number; place = place }

-- no rule is broken, and the layer lacks memory
abbrev pub no_memory : Layer → Refusal
no_memory layer = record { layer = layer; number = 0; place = Whole }

-- what a call answers, in the words of the rules: its value as it is meant, or what its fault tells
abbrev pub answer : {T V E : Type 0} → (T → V) → (E → Refusal) → Result T E → Result V Refusal
answer value tells (Ok x) = Ok (value x)
answer value tells (Err e) = Err (tells e)

-- what may be answered of a verdict where memory was lacking: want of memory stands in for no refusal
abbrev pub within_memory : {V : Type 0} → Bool → Layer → Result V Refusal → Result V Refusal
within_memory false layer verdict = verdict
within_memory true layer (Ok v) = Err (no_memory layer)
within_memory true layer (Err e) = Err e

abbrev pub layer_text : Layer → List ℕ
layer_text Levels = codes "levels"
layer_text Books = codes "books"
layer_text Reading = codes "reading"
layer_text Check = codes "check"
layer_text Service = codes "service"

abbrev pub place_text : Place → List ℕ
place_text Whole = codes "0"
place_text (Node n) = codes "node " ++ decimal n
place_text (NodeAt n s) = codes "node " ++ (decimal n ++ (codes " set " ++ decimal s))
place_text (Function n) = codes "function " ++ decimal n
place_text (App n) = codes "app " ++ decimal n
place_text (TypeAt n s) = codes "type " ++ (decimal n ++ (codes " set " ++ decimal s))
place_text (Figure n) = codes "figure " ++ decimal n

abbrev pub refusal_text : Refusal → List ℕ
refusal_text r =
    codes "refused " ++ (layer_text r.layer ++ (codes " " ++ (decimal r.number ++ (codes " at " ++ place_text r.place))))
