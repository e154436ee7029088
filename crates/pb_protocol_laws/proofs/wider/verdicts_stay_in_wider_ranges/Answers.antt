use Rattle.pb_protocol_laws.proofs.WiderProtocols.{holds-in-wider-ranges, fails-in-all-wider-ranges}
use Rattle.pb_protocol_laws.proofs.wider.verdicts_stay_in_wider_ranges.Goals as goal

pub returns : goal.returns
returns c = record {
  holds = holds-in-wider-ranges;
  fails = fails-in-all-wider-ranges c.never_both.ensures c.negations_are_positive.ensures;
}
