use Rattle.std.proofs.Common.{subst, sym}
use Rattle.pb_strategy.specs.Ranges.{IsFlawOfRange}
use Rattle.pb_strategy.proofs.Ranges.{parts_found}
use Rattle.pb_strategy.proofs.range.+halves.Goals as goal

pub returns : goal.returns
returns g t c =
    subst (IsFlawOfRange c.args.self) (sym c.or.ensures)
    (parts_found c.args.self c.split_at.result.0 c.split_at.result.1 _ c.split_at.ensures.low c.split_at.ensures.high
    c.join-first.result.0 c.join-first.result.1 c.join-first.ensures.first c.join-first.ensures.second)
