use Rattle.std.proofs.Common.{◌<◌, length, sym, ◌∙◌, arith}
use Rattle.pb_verifier_structure.proofs.Around.{outer}
use Rattle.pb_verifier_structure.proofs.Nests.{start, enters, leaves, ends, passes_on, deeper_refused, alone_refused, end_refused, nested}
use Rattle.pb_verifier_structure.proofs.bodies.Bodies.of.Goals as goal
use Rattle.pb_verifier_structure.proofs.bodies.Bodies.of.Goals.{in-Loop+else-depth-eq-MAX_LOOPS, in-Next+in-Some, in-End+else-is_some, in_default}

pub loop-place-init : goal.loop-place-init
loop-place-init c = rw (c.in_ok-innermost.ensures.items) (start c.args.code.now)

pub loop-place-preserved : goal.loop-place-preserved
loop-place-preserved c =
    let code = c.args.code.now in
    let h = c.loop-place.invariant in
    let within : c.loop-place.place < length code = c.loop-place-test.true in
    rw (c.in_ok-push.ensures.items) (elim c.match-instruction.branch [
      | in-Loop+else-depth-eq-MAX_LOOPS w ↦ rw (w.around-is, w.depth-is) (enters code c.loop-place.place _ _ _ h w.in-Loop.slot within w.in-Loop.is w.if-depth-eq-MAX_LOOPS.false)
      | in-Next+in-Some w ↦ rw (w.around-is, w.depth-is) (leaves code c.loop-place.place _ _ _ h w.in-Some.home _ within w.in-Next.is w.in-Some.is (rw (c.in_ok-push.ensures.items) at w.index.ensures))
      | in-End+else-is_some w ↦ rw (w.around-is, w.depth-is) (ends code c.loop-place.place _ _ _ h within w.in-End.is w.if-is_some.ensures)
      | in_default w ↦ rw (w.around-is, w.depth-is) (passes_on code c.loop-place.place _ _ _ h within w.in_default.not-Loop w.in_default.not-Next w.in_default.not-End)
    ])

pub returns-then-depth-eq-MAX_LOOPS-clause-refused : goal.returns-then-depth-eq-MAX_LOOPS-clause-refused
returns-then-depth-eq-MAX_LOOPS-clause-refused c =
    rw (c.broken.ensures)
    (deeper_refused c.args.code.now c.loop-place.place _ _ _ c.loop-place.invariant c.in-Loop.slot
    c.loop-place-test.true c.in-Loop.is c.if-depth-eq-MAX_LOOPS.true)

pub returns-in_default-around-clause-refused : goal.returns-in_default-around-clause-refused
returns-in_default-around-clause-refused c = let x = c.in_default-around in
    rw (c.broken-in_default-around.ensures)
    (alone_refused c.args.code.now c.loop-place.place _ _ _ c.loop-place.invariant c.loop-place-test.true c.in-Next.is
    c.in_default-around.is)

pub index-requires : goal.index-requires
index-requires c =
    let h = c.loop-place.invariant in
    let o = outer c.args.code.now c.loop-place.place c.in-Some.home h.within (sym c.in-Some.is ∙ h.innermost) in
    let e = o.earlier in
    let l = h.table_before.long in
    let p = c.in_ok-push.ensures.len in
    omega arith

pub returns-then-is_some-clause-refused : goal.returns-then-is_some-clause-refused
returns-then-is_some-clause-refused c =
    rw (c.broken-then-is_some.ensures)
    (end_refused c.args.code.now c.loop-place.place _ _ _ c.loop-place.invariant c.loop-place-test.true c.in-End.is c.if-is_some.ensures)

pub returns-clause-nested : goal.returns-clause-nested
returns-clause-nested c = nested c.args.code.now c.loop-place.place _ _ _ c.loop-place.invariant c.loop-place-test.false c.if-is_some-2.ensures
