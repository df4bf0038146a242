use Rattle.std.proofs.Common.{◌≡◌, ◌<◌, ℕ, List, ◌++◌, take, drop, IfSome, Option, vec_items, vec_len}
use Rattle.std.specs.Option.{option_map, option_to_list}
use Rattle.scripts.specs.declared.number.Base.TheVariants.{Sixteen}
use Rattle.scripts.specs.Hex.{in_pairs}
use Rattle.scripts.specs.Numbers.{digits_of}
use Rattle.scripts.specs.Words.{unspaced}
use Rattle.scripts.proofs.hex.put_all.Given as goal

-- the bytes of a list, and then those of the half that waits and the digits to come
abbrev pub paired : List ℕ → Option ℕ → Option (List ℕ) → Option (List ℕ)
paired bytes half digits = option_map (λ ds. bytes ++ in_pairs (option_to_list half ++ ds)) digits

abbrev pub invariant-loop-byte : goal.invariant-loop-byte
invariant-loop-byte l =
    IfSome l.half (λ h. h < 16)
    × (take (vec_len l.initial.list) (vec_items l.list) ≡ vec_items l.initial.list)
    × (paired (vec_items l.list) l.half (digits_of Sixteen (unspaced (drop l.byte-index l.text))) ≡ option_map (λ ds. vec_items l.initial.list ++ in_pairs ds) (digits_of Sixteen (unspaced l.text)))
