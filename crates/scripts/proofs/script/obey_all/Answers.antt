use Rattle.std.proofs.Common.{◌≡◌, ℕ, List, is_ok, true, Ok, Err, Result, MatchResult, refl, sym, ap, ◌∙◌, subst, inl, inr, rules}
use Rattle.std.proofs.lemmas.Result.{err_from_is_err_and, MatchResult-weaker}
use Rattle.scripts.specs.Pieces.{pieces_left}
use Rattle.scripts.specs.Scenes.{Does, scene, one_more}
use Rattle.scripts.specs.Scripts.{Obeys, Performs, line_words, at_line}
use Rattle.scripts.specs.declared.fault.LineFault.{LineFault}
use Rattle.scripts.specs.declared.fault.ScriptFault.{ScriptFault}
use Rattle.scripts.proofs.script.obey_all.Goals as goal

ok_is : (r : Result (Unit {0}) ScriptFault) → true ≡ is_ok r → r ≡ Ok tt
ok_is (Ok u) e = refl
ok_is (Err x) e = cc

-- what `map_err` made of an answer
abbrev Made : ℕ → Result (Unit {0}) ScriptFault → LineFault → Type 0
Made n r f = MatchResult r (λ x. ◌≡◌ {A = Result (Unit {0}) LineFault} (Err f) (Ok x)) (λ e. f ≡ at_line n e)

err_is : (n : ℕ) (r : Result (Unit {0}) ScriptFault) (f : LineFault) → Made n r f → (r ≡ Err f.fault) × (f ≡ at_line n f.fault)
err_is n (Ok u) f h = absurd (cc h)
err_is n (Err e) f h = (cc h, cc h)

pub loop-text-preserved : goal.loop-text-preserved
loop-text-preserved c = λ r text h.
    let done : c.obey.result ≡ Ok tt = ok_is _ c.in_ok-map_err.ensures.variant in
    let did : Does Obeys c.loop-text.session (line_words c.in-Some.text.now) (Ok tt) c.obey.new.self = subst (λ o. Does Obeys c.loop-text.session (line_words c.in-Some.text.now) o c.obey.new.self) done c.obey.ensures in
    let number : c.saturating_add-line.result ≡ one_more c.loop-text.line = search rules in
    c.loop-text.invariant r text (subst (λ (ls : List (List ℕ)). Performs ls (scene c.loop-text.session) c.loop-text.line r text) (sym c.in-Some.ensures.steps)
    (inl (scene c.obey.new.self, did.0, subst (λ n. Performs (pieces_left c.next.new.self) (scene c.obey.new.self) n r text) number h)))

pub returns-in_err-map_err : goal.returns-in_err-map_err
returns-in_err-map_err c =
    let f = c.in_err-map_err.field-0.0 in
    let n = c.saturating_add-line.result in
    let cases : Made n c.obey.result f = MatchResult-weaker c.obey.result c.in_err-map_err.ensures.cases (λ x p. p) (λ e p. search rules) in
    let k = err_is n c.obey.result f cases in
    let p = err_from_is_err_and c.from_residual.result c.from_residual.ensures.1 in
    let did : Does Obeys c.loop-text.session (line_words c.in-Some.text.now) (Err f.fault) c.obey.new.self = subst (λ o. Does Obeys c.loop-text.session (line_words c.in-Some.text.now) o c.obey.new.self) k.0 c.obey.ensures in
    let later : n ≡ one_more c.loop-text.line = search rules in
    let r = c.from_residual.result in
    let number : r ≡ Err (at_line (one_more c.loop-text.line) f.fault) = p.1 ∙ ap Err (p.2 ∙ k.1 ∙ ap (λ m. at_line m f.fault) later) in
    c.loop-text.invariant r c.obey.new.self.transcript (subst (λ (ls : List (List ℕ)). Performs ls (scene c.loop-text.session) c.loop-text.line r c.obey.new.self.transcript) (sym c.in-Some.ensures.steps)
    (inr (scene c.obey.new.self, f.fault, did.0, number, did.1)))
