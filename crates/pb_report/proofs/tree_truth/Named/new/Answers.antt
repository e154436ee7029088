use Rattle.pb_report.proofs.Searching.{rising_sorted}
use Rattle.pb_report.proofs.tree_truth.Named.new.Goals as goal

pub invariant_of-result : goal.invariant_of-result
invariant_of-result c = record { rising = rising_sorted c.sort_unstable.new.self.items c.sort_unstable.ensures.sorted }
