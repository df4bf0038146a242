use Rattle.std.proofs.Common.{ℕ, None, Option, length, get_or, ap, ◌∙◌, rules}
use Rattle.std.proofs.lemmas.List.{get_or-replicate}
use Rattle.reading.specs.Folding.{folded}
use Rattle.reading.specs.Meaning.{code_of}
use Rattle.reading.proofs.Parents.{adopted, parent_folded}
use Rattle.reading.proofs.bytes.Bytes.parents.Goals as goal

pub returns : goal.returns
returns c = λ j h.
    let it = code_of c.args.self.now in
    c.by_namings.ensures adopted (λ o i r q e. search rules) j None h
    ∙ (ap (λ x. folded adopted x it (length it.nodes) j) (ap (λ xs. get_or xs j None) c.requires ∙ get_or-replicate {A = Option ℕ} 4096 j None None h)
    ∙ parent_folded it _ j)
