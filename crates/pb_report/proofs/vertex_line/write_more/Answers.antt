use Rattle.std.proofs.Common.{ap, arith}
use Rattle.std.proofs.lemmas.List.{drop_all}
use Rattle.pb_report.specs.GameText.{more_numbers}
use Rattle.pb_report.proofs.Commas.{next_number}
use Rattle.pb_report.proofs.Underway.{begun, went_on, gave_up, ended}
use Rattle.pb_report.proofs.vertex_line.write_more.Goals as goal

pub loop-k-init : goal.loop-k-init
loop-k-init g c = begun

pub returns-in_err-write_item : goal.returns-in_err-write_item
returns-in_err-write_item g c = gave_up _ (next_number _ _ c.loop-k-test.true) c.loop-k.invariant c.from_residual.ensures.0 c.in_err-write_item.ensures

pub loop-k-preserved : goal.loop-k-preserved
loop-k-preserved g c = went_on (next_number _ _ c.loop-k-test.true) c.loop-k.invariant c.in_ok-write_item.ensures

pub returns : goal.returns
returns g c = ended (ap more_numbers (drop_all c.loop-k.k c.args.numbers.now (omega arith))) c.loop-k.invariant
