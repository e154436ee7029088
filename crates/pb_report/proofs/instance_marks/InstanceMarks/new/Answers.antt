use Rattle.std.proofs.Common.{◌<◌, true, length, get_or, refl, ◌∙◌, arith, length-set}
use Rattle.pb_report.proofs.Marking.{none_marked, one_marked}
use Rattle.pb_report.proofs.instance_marks.InstanceMarks.new.Goals as goal

pub loop-k-init : goal.loop-k-init
loop-k-init c = record {
  marks = omega (arith, c.in_ok-marks.ensures.len);
  numbers = omega (arith, c.in_ok-numbers.ensures.len);
  marked = none_marked c.args.vertices.now c.args.rows.now c.args.count c.in_ok-marks.marks.items c.in_ok-numbers.numbers.items
      (c.in_ok-marks.ensures.items_if_clones_equal (λ y e. e));
}

pub loop-k-preserved : goal.loop-k-preserved
loop-k-preserved c =
    let l = c.loop-k in
    let vertices = c.args.vertices.now in
    let v = get_or vertices l.k 0 in
    let below : l.k < length vertices = omega (arith, c.requires.lengths) in
    let within = c.requires.within l.k below in
    record {
      marks = length-set l.marks.items v true ∙ l.invariant.marks;
      numbers = length-set l.numbers.items v c.number.result ∙ l.invariant.numbers;
      marked = one_marked vertices c.args.rows.now l.k l.marks.items l.numbers.items v c.number.result c.requires.rising below refl c.number.ensures
          (omega (arith, within, l.invariant.marks)) (omega (arith, within, l.invariant.numbers)) l.invariant.marked;
    }
