use Rattle.std.proofs.Common.{arith, length}
use Rattle.pb_sorts.specs.Layout.{carriers_of}
use Rattle.pb_sorts.proofs.Equations.{length-carriers_of}
use Rattle.pb_sorts.proofs.Numbers.{first_of-before, first_of-last}
use Rattle.pb_typing_plain_solver.proofs.set.numbers_of.Goals as goal

pub prove-unreachable-requires : goal.prove-unreachable-requires
prove-unreachable-requires c =
    let css = carriers_of c.args.turn.now.typed.now.layout in
    omega (
      arith,
      first_of-before css c.args.turn.now.equation (length css) (omega (arith, length-carriers_of c.args.turn.now.typed.now.layout, c.args.turn.now.known)) (omega arith),
      first_of-last css,
      c.first-start.ensures,
      c.size.ensures,
      c.count-all.ensures.count,
      c.if-prove.true,
    )

pub overflow_add-end : goal.overflow_add-end
overflow_add-end c =
    let css = carriers_of c.args.turn.now.typed.now.layout in
    omega (
      arith,
      first_of-before css c.args.turn.now.equation (length css) (omega (arith, length-carriers_of c.args.turn.now.typed.now.layout, c.args.turn.now.known)) (omega arith),
      first_of-last css,
      c.first-start.ensures,
      c.size.ensures,
      c.count-all.ensures.count,
      c.count-all.ensures.few,
    )
