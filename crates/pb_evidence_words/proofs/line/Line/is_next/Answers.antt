use Rattle.std.proofs.Common.{◌≡◌, ◌==◌, ◌||◌, ◌&&◌, suc, not, ℕ, get_or, sym, ap, ◌∙◌, arith}
use Rattle.std.proofs.lemmas.Bool.{eq-eqb}
use Rattle.pb_evidence.proofs.Finding.{place_of}
use Rattle.pb_evidence_words.specs.Order as order
use Rattle.pb_evidence_words.specs.Callers.{told_by}
use Rattle.pb_evidence_words.specs.Ready.{numbers_of}
use Rattle.pb_evidence_words.proofs.ParentRead.{parent-read}
use Rattle.pb_evidence_words.proofs.Reached.{position-is}
use Rattle.pb_evidence_words.proofs.line.Line.is_next.Goals as goal

pub returns-then-target-self : goal.returns-then-target-self
returns-then-target-self c =
    let telling = c.args.self.now.telling.now in
    let s = telling.shown.now in
    let graph = (told_by c.args.self.now).graph in
    let n = c.args.number in
    let k = c.args.self.now.number in
    let at = place_of (numbers_of s) n c.requires in
    let target = c.target-target.result in
    let stands : target ≡ at.place = c.target-target.ensures.place ∙ position-is s.explanation.now.evidence telling.ready.evidence n at in
    let there : get_or (numbers_of s) target 0 ≡ n = ap (λ (j : ℕ). get_or (numbers_of s) j 0) stands ∙ at.there in
    let parent = parent-read telling target c.target-target.ensures.within c.index-parent.result.now c.index-parent.ensures ∙ ap (order.parent_of graph) there in
    let edge : c.is_edge.result ≡ order.has_edge graph k n = c.is_edge.ensures
    ∙ (ap (λ (j : ℕ). (j == 0) || not (c.index-parent.result.now == k)) c.target-target.ensures.place
    ∙ ap (λ (p : ℕ). (order.place_of graph n == 0) || not (p == k)) parent) in
    let next : order.place_of graph n ≡ suc k = omega (arith, c.target-target.ensures.place, c.if-target-eq0.false, c.if-target-self.true) in
    ap not edge ∙ sym (ap (λ b. b && not (order.has_edge graph k n)) (eq-eqb (order.place_of graph n) (suc k) next))
