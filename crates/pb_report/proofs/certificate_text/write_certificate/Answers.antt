use Rattle.std.proofs.Common.{◌≡◌, ℕ, ◌-◌, sym, ap, ◌∙◌, arith}
use Rattle.pb_game.specs.Games.{vertex_count}
use Rattle.pb_report.specs.CertificateText.{winner_lines}
use Rattle.pb_report.proofs.Sending.{sends_err, sends_as}
use Rattle.pb_report.proofs.Underway.{begun, went_on, gave_up, ended}
use Rattle.pb_report.proofs.Certificates.{headed, next_winner}
use Rattle.pb_report.proofs.certificate_text.write_certificate.Goals as goal

pub returns-in_err-write_head : goal.returns-in_err-write_head
returns-in_err-write_head g c =
    sends_as (headed _ _ _ (c.saturating_sub.ensures ∙ ap (λ (n : ℕ). n - 1) c.len.ensures.value)) (sends_err _ c.from_residual.ensures.0 c.in_err-write_head.ensures)

pub loop-number-init : goal.loop-number-init
loop-number-init g c =
    let all : vertex_count c.args.game.now - 0 ≡ vertex_count c.args.game.now = omega arith in
    rw all (went_on (sym (headed _ _ _ (c.saturating_sub.ensures ∙ ap (λ (n : ℕ). n - 1) c.len.ensures.value))) begun c.in_ok-write_head.ensures)

pub returns-in_err-write_line : goal.returns-in_err-write_line
returns-in_err-write_line g c =
    gave_up _ (next_winner _ _ _ _ _ c.loop-number-test.true c.len-number-end.ensures.value) c.loop-number.invariant c.from_residual-in_err-write_line.ensures.0 c.in_err-write_line.ensures

pub loop-number-preserved : goal.loop-number-preserved
loop-number-preserved g c =
    went_on (next_winner _ _ _ _ _ c.loop-number-test.true c.len-number-end.ensures.value) c.loop-number.invariant c.in_ok-write_line.ensures

pub returns : goal.returns
returns g c =
    let v = c.loop-number.number in
    let none : vertex_count c.args.game.now - v ≡ 0 = omega (arith, c.len-number-end.ensures.value) in
    ended (ap (winner_lines c.args.game.now c.args.solution.now v) none) c.loop-number.invariant
