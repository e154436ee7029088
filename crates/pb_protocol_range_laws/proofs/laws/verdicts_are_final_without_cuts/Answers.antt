use Rattle.pb_protocol_range_laws.proofs.Verdicts.{verdicts-are-final}
use Rattle.pb_protocol_range_laws.proofs.laws.verdicts_are_final_without_cuts.Goals as goal

pub returns : goal.returns
returns c =
    verdicts-are-final c.no_cut_means_one.ensures c.never_both.ensures c.verdicts_stay_in_wider_ranges.ensures.holds
    c.verdicts_stay_in_wider_ranges.ensures.fails
