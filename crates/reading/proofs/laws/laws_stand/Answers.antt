use Rattle.std.proofs.Common.{length}
use Rattle.reading.proofs.Chains.{to_chain, from_chain}
use Rattle.reading.proofs.Once.{named_by_one, named_below, namings_stand}
use Rattle.reading.proofs.Opening.{scope_opened, opened_scope}
use Rattle.reading.proofs.ReadBack.{reads_back}
use Rattle.reading.proofs.WriteBack.{writes_back}
use Rattle.reading.proofs.laws.laws_stand.Goals as goal

pub returns : goal.returns
returns c = record {
  scopes = λ p few records names marks j a small. (
    (λ h. scope_opened p (length p.nodes) j a h),
    (λ o. opened_scope p (named_below p few records names marks) (named_by_one p few records names marks) small o),
  );
  chains = λ p k o. (to_chain p k o, λ h. from_chain p h);
  namings = namings_stand;
  read = reads_back;
  written = writes_back;
}
