use Rattle.std.proofs.Common.{◌<◌, ◌≤◌, length, sym, arith, Some, None}
use Rattle.std.proofs.lemmas.Result.{err_from_is_err_and}
use Rattle.pb_bytecode_program.specs.declared.instruction.Op.TheVariants as op
use Rattle.pb_verifier.proofs.Taken.{set_twice, unknown_past, known_at, written, flows_nowhere, nothing_flows, flows_both, flows_neither, no_condition}
use Rattle.pb_verifier.proofs.visit.visit_jump_if.Goals as goal

pub returns-then-place-len-clause-ok : goal.returns-then-place-len-clause-ok
returns-then-place-len-clause-ok c = λ names p homes a b.
    let past : length c.args.table.now.items ≤ c.args.place = omega (arith, c.len.ensures, c.if-place-len.true, c.args.table.now.ok.0) in
    flows_nowhere p c.args.place (op.JumpIf c.args.condition c.args.target) homes c.args.table.now.items (unknown_past c.args.table.now.items c.args.place past)

pub returns-in_default-clause-ok : goal.returns-in_default-clause-ok
returns-in_default-clause-ok c = λ names p homes a b.
    let l : c.args.place < length c.args.table.now.items = omega (arith, c.len.ensures, c.if-place-len.false, c.args.table.now.ok.0) in
    nothing_flows p c.args.place (op.JumpIf c.args.condition c.args.target) homes c.args.table.now.items c.index_mut.result.now l (sym c.index_mut.ensures.value) c.in_default.is

pub returns-in_err-pop_bool-clause-refused : goal.returns-in_err-pop_bool-clause-refused
returns-in_err-pop_bool-clause-refused c =
    let l : c.args.place < length c.args.table.now.items = omega (arith, c.len.ensures, c.if-place-len.false, c.args.table.now.ok.0) in
    let known = known_at c.args.table.now.items c.args.place c.index_mut.result.now c.in-Some.state l (sym c.index_mut.ensures.value) c.in-Some.is in
    let r = err_from_is_err_and c.from_residual.result c.from_residual.ensures.1 in
    rw (r.1, r.2) (λ names p homes a b. no_condition p c.args.place c.args.condition c.args.target homes c.args.table.now.items c.in-Some.state known c.in_err-pop_bool.ensures.err)

pub returns-in_err-hand_on-clause-refused : goal.returns-in_err-hand_on-clause-refused
returns-in_err-hand_on-clause-refused c =
    let l : c.args.place < length c.args.table.now.items = omega (arith, c.len.ensures, c.if-place-len.false, c.args.table.now.ok.0) in
    let known = known_at c.args.table.now.items c.args.place c.index_mut.result.now c.in-Some.state l (sym c.index_mut.ensures.value) c.in-Some.is in
    let r = err_from_is_err_and c.from_residual-in_err-hand_on.result c.from_residual-in_err-hand_on.ensures.1 in
    let joined = rw (set_twice c.args.table.now.items c.args.place (Some c.pop_bool.new.self) None) at
    (c.in_err-hand_on.ensures.err c.pop_bool.new.self (written c.args.table.now.items c.args.place c.pop_bool.new.self l)) in
    rw (r.1, r.2)
    (λ names p homes a b. flows_neither p c.args.place c.args.condition c.args.target homes c.args.table.now.items
    c.in-Some.state c.pop_bool.new.self known c.in_ok-pop_bool.ensures.ok.topmost joined)

pub returns-in_err-merge-clause-refused : goal.returns-in_err-merge-clause-refused
returns-in_err-merge-clause-refused c =
    let l : c.args.place < length c.args.table.now.items = omega (arith, c.len.ensures, c.if-place-len.false, c.args.table.now.ok.0) in
    let known = known_at c.args.table.now.items c.args.place c.index_mut.result.now c.in-Some.state l (sym c.index_mut.ensures.value) c.in-Some.is in
    let r = err_from_is_err_and c.from_residual-in_err-merge.result c.from_residual-in_err-merge.ensures.1 in
    let joined = rw (set_twice c.args.table.now.items c.args.place (Some c.pop_bool.new.self) None) at
    (c.in_ok-hand_on.ensures.ok c.pop_bool.new.self (written c.args.table.now.items c.args.place c.pop_bool.new.self l)) in
    rw (r.1, r.2)
    (λ names p homes a b. flows_both p c.args.place c.args.condition c.args.target homes c.args.table.now.items
    c.hand_on.new.table.items c.in-Some.state c.pop_bool.new.self None known c.in_ok-pop_bool.ensures.ok.topmost joined
    (rw (c.from.ensures, c.in_ok-copy.ensures) at c.in_err-merge.ensures.err))

pub returns-clause-ok : goal.returns-clause-ok
returns-clause-ok c = λ names p homes a b.
    let l : c.args.place < length c.args.table.now.items = omega (arith, c.len.ensures, c.if-place-len.false, c.args.table.now.ok.0) in
    let known = known_at c.args.table.now.items c.args.place c.index_mut.result.now c.in-Some.state l (sym c.index_mut.ensures.value) c.in-Some.is in
    let joined = rw (set_twice c.args.table.now.items c.args.place (Some c.pop_bool.new.self) None) at
    (c.in_ok-hand_on.ensures.ok c.pop_bool.new.self (written c.args.table.now.items c.args.place c.pop_bool.new.self l)) in
    flows_both p c.args.place c.args.condition c.args.target homes c.args.table.now.items c.hand_on.new.table.items c.in-Some.state c.pop_bool.new.self _ known c.in_ok-pop_bool.ensures.ok.topmost
    joined
    (rw (c.from.ensures, c.in_ok-copy.ensures) at c.in_ok-merge.ensures.ok)
