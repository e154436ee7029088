use Rattle.std.proofs.Common.{◌≡◌, ◌++◌, ℕ, List, flat_map, string_bytes, length, sym, ap, ◌∙◌, arith, append_assoc}
use Rattle.std.specs.List.{range_with_len}
use Rattle.pb_evidence_words.specs.Ready.{numbers_of, told_of}
use Rattle.pb_evidence_words.specs.InstanceLines.{instance_line}
use Rattle.pb_evidence_words.proofs.Pushed.{pieces-more}
use Rattle.pb_evidence_words.proofs.telling.Telling.push_instance_lines.Goals as goal

pub loop-number-preserved : goal.loop-number-preserved
loop-number-preserved c =
    let k = c.loop-number.number in
    let F = instance_line (told_of c.args.self.now.shown.now) in
    let s0 = string_bytes c.args.text.now in
    c.in_ok-push_instance_line.ensures
    ∙ (ap (λ (s : List ℕ). s ++ F k) c.loop-number.invariant
    ∙ (append_assoc s0 (flat_map F (range_with_len 0 k)) (F k)
    ∙ ap (λ (x : List ℕ). s0 ++ x) (sym (pieces-more F k 0 k (omega arith)))))

pub returns : goal.returns
returns c =
    let s = c.args.self.now.shown.now in
    let s0 = string_bytes c.args.text.now in
    let all : c.loop-number.number ≡ length (numbers_of s) = omega (arith, c.loop-number-test.false, c.len-number-end.ensures, s.explanation.now.evidence.instances.ok.0) in
    c.loop-number.invariant
    ∙ ap (λ (n : ℕ). s0 ++ flat_map (instance_line (told_of s)) (range_with_len 0 n)) all
