use Rattle.std.proofs.Common.{arith}
use Rattle.layout.proofs.Decoded.{length_nodes}
use Rattle.reading.proofs.scopes.Scopes.usable.Goals as goal

pub bounds-self-i : goal.bounds-self-i
bounds-self-i c = omega (arith, c.requires, length_nodes c.args.self.now.tree.now.functions.bytes.lists.nodes.now)
