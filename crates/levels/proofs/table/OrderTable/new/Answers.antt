use Rattle.std.proofs.Common.{◌≡◌, ℕ, List, take, Result, Ok, true, false, sym, refl, ap, ◌∙◌, subst, rules}
use Rattle.std.proofs.lemmas.Bool.{false≢true}
use Rattle.levels.specs.Marks.{well_shaped, is_lattice}
use Rattle.levels.specs.Tables.{ranks, table_verdict, MeansTheMarks}
use Rattle.levels.specs.declared.refusal.Refusal.{Refusal}
use Rattle.levels.specs.Exact.{exact, means_the_marks}
use Rattle.levels.proofs.table.OrderTable.new.Goals as goal

pub returns-then-not-is_lattice : goal.returns-then-not-is_lattice
returns-then-not-is_lattice c =
    let rows = c.args.rows.now in
    let bad : false ≡ is_lattice rows = c.if-not-is_lattice.ensures ∙ ap is_lattice c.in_ok-marks.ensures in
    let shaped : well_shaped rows ≡ true = subst (λ r. well_shaped r ≡ true) c.in_ok-marks.ensures c.in_ok-marks.marks.shaped in record {
      answer = search rules;
      exactly = (λ z. absurd (false≢true z), λ p. bad ∙ (exact rows shaped).1 p.1);
      means = tt;
    }

made : (rows kept : List ℕ) → well_shaped rows ≡ true → is_lattice rows ≡ true → kept ≡ rows → ◌≡◌ {A = Result (List ℕ) Refusal} (Ok kept) (table_verdict rows)
made rows kept shaped good e = rw (e, shaped, good)

pub returns : goal.returns
returns c =
    let rows = c.args.rows.now in
    let good : is_lattice rows ≡ true = sym (c.if-not-is_lattice.ensures ∙ ap is_lattice c.in_ok-marks.ensures) in
    let shaped : well_shaped rows ≡ true = subst (λ r. well_shaped r ≡ true) c.in_ok-marks.ensures c.in_ok-marks.marks.shaped in
    let kept : take c.count.result c.table.result ≡ rows = ap (λ n. take n c.table.result) c.count.ensures ∙ c.table.ensures ∙ c.in_ok-marks.ensures in record {
      answer = made rows _ shaped good kept;
      exactly = (λ _. (shaped, (exact rows shaped).0 good), λ _. refl);
      means = subst (λ l. MeansTheMarks rows (ranks l)) (sym kept) (means_the_marks rows shaped good);
    }
