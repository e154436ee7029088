use Rattle.std.proofs.Common.{◌≡◌, ◌+◌, ◌-◌, ◌++◌, ℕ, List, flat_map, string_bytes, length, sym, ap, ◌∙◌, subst, arith, append_assoc}
use Rattle.std.specs.List.{range_with_len}
use Rattle.pb_evidence_words.specs.Passing.{IsArrival}
use Rattle.pb_evidence_words.specs.Ready.{numbers_of, told_of}
use Rattle.pb_evidence_words.specs.WhyText.{written_text}
use Rattle.pb_evidence_words.proofs.Pushed.{pieces-more}
use Rattle.pb_evidence_words.proofs.telling.Telling.push_lines.Goals as goal

pub arrival-requires-clause-last : goal.arrival-requires-clause-last
arrival-requires-clause-last c = c.loop-number.invariant.2

pub loop-number-preserved : goal.loop-number-preserved
loop-number-preserved c =
    let t = told_of c.args.self.now.shown.now in
    let k = c.loop-number.number in
    let F : ℕ → List ℕ = written_text t in
    let s0 = string_bytes c.args.text.now in
    let same : k ≡ k + 1 - 1 = omega arith in (
      c.in_ok-push_written.ensures
          ∙ (ap (λ (s : List ℕ). s ++ F k) c.loop-number.invariant.0
          ∙ (append_assoc s0 (flat_map F (range_with_len 0 k)) (F k)
          ∙ ap (λ (x : List ℕ). s0 ++ x) (sym (pieces-more F k 0 k (omega arith))))),
      c.in_ok-parent-2.ensures.told,
      λ later. subst (λ j. IsArrival t j c.in_ok-arrival.arrival) same c.in_ok-arrival.ensures,
    )

pub returns : goal.returns
returns c =
    let s = c.args.self.now.shown.now in
    let t = told_of s in
    let s0 = string_bytes c.args.text.now in
    let all : c.loop-number.number ≡ length (numbers_of s) = omega (arith, c.loop-number-test.false, c.len-count.ensures, s.explanation.now.evidence.instances.ok.0) in
    c.loop-number.invariant.0
    ∙ ap (λ (n : ℕ). s0 ++ flat_map (written_text t) (range_with_len 0 n)) all
