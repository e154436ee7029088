use Rattle.pb_report.proofs.Searching.{is_found}
use Rattle.pb_report.proofs.cuts.place_of.Goals as goal

pub unreachable-requires : goal.unreachable-requires
unreachable-requires c =
    is_found c.args.numbers.now c.args.number c.binary_search.result c.in-Err.field-0 c.requires.rising c.requires.listed
    c.binary_search.ensures.position c.in-Err.is
