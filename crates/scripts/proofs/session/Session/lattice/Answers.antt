use Rattle.std.proofs.Common.{Ok, Err, rules}
use Rattle.levels.specs.Tables.{table_refusal}
use Rattle.scripts.proofs.session.Session.lattice.Goals as goal

pub returns-in_ok-say-in-Ok : goal.returns-in_ok-say-in-Ok
returns-in_ok-say-in-Ok c = ((Ok c.in-Ok.shape, search rules, search rules), tt)

pub returns-in_ok-say-in-Err : goal.returns-in_ok-say-in-Err
returns-in_ok-say-in-Err c = ((Err (table_refusal c.in-Err.fault), search rules, search rules), tt)
