use Rattle.std.proofs.Common.{◌≡◌, ◌++◌, ℕ, List, flat_map, string_bytes, take, sym, ap, ◌∙◌, arith}
use Rattle.std.proofs.lemmas.List.{take_all}
use Rattle.pb_evidence_words.specs.Ready.{told_of}
use Rattle.pb_evidence_words.specs.InstanceLines.{told_dependency}
use Rattle.pb_evidence_words.specs.WhyText.{dependencies_at, line_instance}
use Rattle.pb_evidence_words.proofs.Reached.{child-contained}
use Rattle.pb_evidence_words.proofs.Pushed.{elements-more}
use Rattle.pb_evidence_words.proofs.caller.Caller.push_dependencies.Goals as goal

pub invariant_of-dependency : goal.invariant_of-dependency
invariant_of-dependency c =
    let line = c.args.self.now.line in
    let telling = line.telling.now in
    record {
      listed = ∣ child-contained telling.shown.now.explanation.now.evidence telling.ready.evidence line.number line.inside
          c.dependencies-number-items.result.now c.dependencies-number-items.ensures c.loop-number.number-index c.loop-number-test.true ∣₁;
    }

pub loop-number-preserved : goal.loop-number-preserved
loop-number-preserved c =
    let t = told_of c.args.self.now.line.telling.now.shown.now in
    elements-more (told_dependency t (line_instance t c.args.self.now.line.number)) c.dependencies-number-items.result.now c.loop-number.number-index
    (string_bytes c.args.text.now) (string_bytes c.loop-number.text) (string_bytes c.push_dependency.new.text) c.loop-number-test.true
    c.loop-number.invariant c.in_ok-push_dependency.ensures

pub returns : goal.returns
returns c =
    let t = told_of c.args.self.now.line.telling.now.shown.now in
    let k = c.args.self.now.line.number in
    let xs = c.dependencies-number-items.result.now in
    let all : take c.loop-number.number-index xs ≡ dependencies_at t k =
    take_all c.loop-number.number-index xs (omega (arith, c.loop-number-test.false))
    ∙ (c.dependencies-number-items.ensures ∙ sym (c.args.self.now.line.telling.now.ready.evidence.each k c.args.self.now.line.inside)) in
    c.loop-number.invariant ∙ ap (λ (ys : List ℕ). string_bytes c.args.text.now ++ flat_map (told_dependency t (line_instance t k)) ys) all
