use Rattle.std.proofs.Common.{length, get_or, ap, ◌∙◌, arith, rules}
use Rattle.std.proofs.lemmas.List.{get_or-replicate}
use Rattle.layout.proofs.Decoded.{length_nodes}
use Rattle.reading.specs.Folding.{folded}
use Rattle.reading.specs.Meaning.{code_of}
use Rattle.reading.proofs.Counts.{one_more, namings_folded}
use Rattle.reading.proofs.bytes.Bytes.marks.Goals as goal

pub returns : goal.returns
returns c = λ j h.
    let it = code_of c.args.self.now in
    c.by_namings.ensures one_more (λ n i r q e. search rules) j 0 h
    ∙ (ap (λ x. folded one_more x it (length it.nodes) j) (ap (λ xs. get_or xs j 0) c.requires ∙ get_or-replicate 4096 j 0 0 h)
    ∙ namings_folded it _ j (omega (arith, c.args.self.now.few_nodes, length_nodes c.args.self.now.lists.nodes.now)))
