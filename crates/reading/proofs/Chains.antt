-- How a walk along a chain of arguments goes on.
use Rattle.std.proofs.Common.{◌≡◌, ℕ, zero, suc, ◌+◌, ◌-◌, ◌<◌, Bool, true, false, not, is_some, Some, None, Option, refl, ap, ◌∙◌, arith}
use Rattle.layout.specs.Code.{Code, node}
use Rattle.std.proofs.lemmas.Bool.{false≢true}
use Rattle.layout.specs.declared.node.Node.{Node}
use Rattle.layout.specs.declared.node.Node.TheVariants.{Expression as Exp, Command as Com, Argument}
use Rattle.layout.specs.Tree.{following, next_of}
use Rattle.reading.specs.Chain.{Chain, over, more}
use Rattle.reading.specs.CallRule.{goes_on, chained}

step : (c : Code) (m k : ℕ) (o n : Option ℕ) → m ≡ suc k → next_of c o ≡ Some n → chained c m o ≡ chained c k n
unfolding chained
step c m k o n e h = rw (e, h)

pub chain_more : (c : Code) (m i : ℕ) (o n : Option ℕ) → i < m → next_of c o ≡ Some n → chained c (m - i) o ≡ chained c (m - (i + 1)) n
chain_more c m i o n lt h = step c (m - i) (m - (i + 1)) o n (omega arith) h

stop : (c : Code) (m k : ℕ) (o : Option ℕ) → m ≡ suc k → next_of c o ≡ None → chained c m o ≡ false
unfolding chained
stop c m k o e h = rw (e, h)

pub chain_stop : (c : Code) (m i : ℕ) (o : Option ℕ) → i < m → next_of c o ≡ None → chained c (m - i) o ≡ false
chain_stop c m i o lt h = stop c (m - i) (m - (i + 1)) o (omega arith) h

pub chain_end : (c : Code) (m : ℕ) (o : Option ℕ) → m ≡ 0 → chained c m o ≡ not (is_some o)
unfolding chained
chain_end c m o e = rw e

pub chain_start : (c : Code) (m : ℕ) (o : Option ℕ) → chained c m o ≡ chained c (m - 0) o
chain_start c m o = ap (λ k. chained c k o) (omega arith)

pub unnot : (b r : Bool) → b ≡ not r → r ≡ not b
unnot b true e = rw e
unnot b false e = rw e

-- The test of a chain is the chain in words.
pub to_chain : (c : Code) (k : ℕ) (o : Option ℕ) → chained c k o ≡ true → Chain c k o
unfolding chained
to_chain c zero None e = over
to_chain c zero (Some b) e = absurd (false≢true e)
to_chain c (suc k) None e = absurd (false≢true e)
to_chain c (suc k) (Some b) e = go (node c b) refl e (λ o h. to_chain c k o h)
  where
    go : (n : Node) → node c b ≡ n → goes_on (following n) (λ o. chained c k o) ≡ true → ((o : Option ℕ) → chained c k o ≡ true → Chain c k o) → Chain c (suc k) (Some b)
    go (Exp x) en h rest = absurd (false≢true h)
    go (Com x) en h rest = absurd (false≢true h)
    go (Argument v o) en h rest = more en (rest o h)

pub from_chain : (c : Code) {k : ℕ} {o : Option ℕ} → Chain c k o → chained c k o ≡ true
unfolding chained
from_chain c over = refl
from_chain c (more {k} {b} {v} {o} e rest) = ap (λ (n : Node). goes_on (following n) (λ x. chained c k x)) e ∙ from_chain c rest
