use Rattle.scripts.proofs.Cutting.{cuts}
use Rattle.scripts.proofs.pieces.Pieces.new.Goals as goal

pub returns-clause-cuts : goal.returns-clause-cuts
returns-clause-cuts c = cuts c.args.mark c.args.text.now
