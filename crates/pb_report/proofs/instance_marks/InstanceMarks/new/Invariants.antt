use Rattle.std.proofs.Common.{◌≡◌, length}
use Rattle.pb_report.specs.InstanceMarks.{AreMarked}
use Rattle.pb_report.proofs.instance_marks.InstanceMarks.new.Given as goal

abbrev pub invariant-loop-k : goal.invariant-loop-k
invariant-loop-k l = record {
  marks : length l.marks.items ≡ l.count;
  numbers : length l.numbers.items ≡ l.count;
  marked : AreMarked l.vertices l.rows l.k l.marks.items l.numbers.items;
}
