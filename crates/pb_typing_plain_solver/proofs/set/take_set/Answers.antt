use Rattle.std.proofs.Common.{◌+◌, ℕ, false, arith, sym, subst, get_or, refl}
use Rattle.pb_sorts.specs.Instance.{first_of, size_of}
use Rattle.pb_sorts.specs.Layout.{carriers_of}
use Rattle.pb_typing_plain_solver.proofs.Ranges.{IsMixed, IsWritten, mixed_start, mixed_set, written_all}
use Rattle.pb_typing_plain_solver.proofs.set.take_set.Goals as goal
use Rattle.pb_typing_plain_solver.proofs.set.take_set.Goals.{After-loop-number}

pub loop-number-init : goal.loop-number-init
loop-number-init c =
    let first = first_of (carriers_of c.args.turn.now.typed.now.layout) c.args.turn.now.equation in
    let f = λ (n : ℕ). get_or c.args.from.now n false in
    subst (λ (k : ℕ). IsMixed first k f c.args.truths.now c.args.truths.now) (sym c.numbers_of-numbers.ensures.start) (mixed_start first f c.args.truths.now)

pub loop-number-preserved : goal.loop-number-preserved
loop-number-preserved c =
    let numbers = c.numbers_of-numbers.ensures in
    mixed_set (first_of (carriers_of c.args.turn.now.typed.now.layout) c.args.turn.now.equation) c.loop-number.number (λ (n : ℕ). get_or c.args.from.now n false) c.args.truths.now c.loop-number.truths
    (get_or c.args.from.now c.loop-number.number false) (omega (arith, numbers.start, c.loop-number.auto.number))
    (omega (arith, numbers.within, c.requires.truths, c.loop-number.auto.truths, c.loop-number-test.true)) refl c.loop-number.invariant

-- behind the loop the whole set is written
whole : (c : After-loop-number) →
    let css = carriers_of c.args.turn.now.typed.now.layout in
    let k = c.args.turn.now.equation in
    IsWritten (first_of css k) (first_of css k + size_of css k) (λ (n : ℕ). get_or c.args.from.now n false) c.args.truths.now c.loop-number.truths
whole c =
    let css = carriers_of c.args.turn.now.typed.now.layout in
    let from = c.numbers_of-numbers.ensures.start in
    let to = c.numbers_of-numbers.ensures.end in
    written_all (first_of css c.args.turn.now.equation) c.loop-number.number (first_of css c.args.turn.now.equation + size_of css c.args.turn.now.equation) (λ (n : ℕ). get_or c.args.from.now n false)
    c.args.truths.now c.loop-number.truths
    (omega (arith, from, to, c.loop-number.auto.number, c.loop-number.auto.number-end, c.loop-number-test.false)) c.loop-number.invariant

pub returns-clause-taken : goal.returns-clause-taken
returns-clause-taken c = (whole (goal.at.returns-clause-taken c).After-loop-number).inside

pub returns-clause-others : goal.returns-clause-others
returns-clause-others c = (whole (goal.at.returns-clause-others c).After-loop-number).outside
