use Rattle.std.proofs.Common.{◌≡◌, sym, ap, ◌∙◌, arith}
use Rattle.std.specs.Prelude.{IfOk, Result, Ok, Err}
use Rattle.pb_evidence.specs.Evidence.{graph_of}
use Rattle.pb_evidence_words.specs.declared.line.Line.{Line}
use Rattle.pb_evidence_words.specs.declared.caller.Caller.{Caller}
use Rattle.pb_evidence_words.specs.Callers.{told_by}
use Rattle.pb_evidence_words.specs.Order.{parent_at}
use Rattle.pb_evidence_words.proofs.ParentRead.{parent-read}
use Rattle.pb_evidence_words.proofs.Reached.{parent-within}
use Rattle.pb_evidence_words.proofs.line.Line.parent.Goals as goal
use Rattle.pb_evidence_words.proofs.line.Line.parent.Goals.{After-index-number}

-- the place that was read is that of the line's parent
place_is : (c : After-index-number) → c.index-number.result.now ≡ parent_at (graph_of c.args.self.now.telling.now.shown.now.explanation.now.evidence) c.args.self.now.number
place_is c = parent-read c.args.self.now.telling.now c.args.self.now.number c.args.self.now.inside c.index-number.result.now c.index-number.ensures

-- what holds of a line's caller
of_line : {E : Type 0} (r : Result Caller E) (line : Line) (P : Caller → Type 0) → ((x : Caller) → x.line ≡ line → P x) → IfOk r (λ x. x.line ≡ line) → IfOk r P
of_line (Ok x) line P each is = each x is
of_line (Err e) line P each is = tt

pub returns-then-self-eq0-clause-parent : goal.returns-then-self-eq0-clause-parent
returns-then-self-eq0-clause-parent c = λ later. absurd (omega (arith, later, c.if-self-eq0.true))

pub returns-then-number-last-clause-parent : goal.returns-then-number-last-clause-parent
returns-then-number-last-clause-parent c = λ later. record {
  told = c.requires;
  place = sym c.if-number-last.true ∙ place_is (goal.at.returns-then-number-last-clause-parent c).After-index-number;
}

pub invariant_of-parent : goal.invariant_of-parent
invariant_of-parent c =
    let self = c.args.self.now in
    let less = parent-within self.telling.now.shown.now.explanation.now.evidence self.telling.now.ready.evidence self.number (omega (arith, c.if-self-eq0.false)) self.inside in
    record { inside = omega (arith, place_is (goal.at.invariant_of-parent c).After-index-number, less) }

pub returns-clause-told : goal.returns-clause-told
returns-clause-told c = of_line c.caller.result _ _ (λ x is. ap told_by is) c.caller.ensures

pub returns-clause-parent : goal.returns-clause-parent
returns-clause-parent c =
    of_line c.caller.result _ _
    (λ x is later. record { told = ap told_by is; place = ap (λ (l : Line). l.number) is ∙ place_is (goal.at.returns-clause-parent c).After-index-number })
    c.caller.ensures
