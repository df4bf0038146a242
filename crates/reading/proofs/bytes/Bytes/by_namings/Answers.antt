use Rattle.std.proofs.Common.{sym, ap, ◌∙◌}
use Rattle.layout.specs.Tree.{parts}
use Rattle.reading.specs.Meaning.{code_of}
use Rattle.reading.proofs.Folds.{folded_none, folded_more}
use Rattle.reading.proofs.bytes.Bytes.by_namings.Goals as goal

pub loop-i-init : goal.loop-i-init
loop-i-init g c = λ f s j d h. sym (folded_none f _ (code_of c.args.self.now) j)

pub loop-i-preserved : goal.loop-i-preserved
loop-i-preserved g c = λ f s j d h.
    folded_more f _ (code_of c.args.self.now) c.loop-i.i j c.parts-parts.result _ _ _ _
    (c.parts-parts.ensures ∙ ap parts c.node.ensures)
    (c.loop-i.invariant f s j d h)
    (c.note.ensures f s j d h)
    (c.note-in-loop-i.ensures f s j d h)
    (c.note-in-loop-i-2.ensures f s j d h)
