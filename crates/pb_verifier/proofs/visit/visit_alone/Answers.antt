use Rattle.std.proofs.Common.{◌<◌, ◌≤◌, length, sym, arith, Some, None}
use Rattle.std.proofs.lemmas.Result.{err_from_is_err_and}
use Rattle.pb_base.proofs.Faults.{if_fault}
use Rattle.pb_verifier.specs.Pass.{innermost}
use Rattle.pb_verifier.proofs.Taken.{set_twice, unknown_past, known_at, written, flows_nowhere, nothing_flows, flows_alone, flows_not}
use Rattle.pb_verifier.proofs.visit.visit_alone.Goals as goal

pub returns-then-place-len-clause-ok : goal.returns-then-place-len-clause-ok
returns-then-place-len-clause-ok c = λ p homes a b.
    let past : length c.args.table.now.items ≤ c.args.place = omega (arith, c.len.ensures, c.if-place-len.true, c.args.table.now.ok.0) in
    flows_nowhere p c.args.place c.args.instruction homes c.args.table.now.items (unknown_past c.args.table.now.items c.args.place past)

pub returns-in_default-clause-ok : goal.returns-in_default-clause-ok
returns-in_default-clause-ok c = λ p homes a b.
    let l : c.args.place < length c.args.table.now.items = omega (arith, c.len.ensures, c.if-place-len.false, c.args.table.now.ok.0) in
    nothing_flows p c.args.place c.args.instruction homes c.args.table.now.items c.index_mut.result.now l (sym c.index_mut.ensures.value) c.in_default.is

pub returns-in_err-go_on-clause-refused : goal.returns-in_err-go_on-clause-refused
returns-in_err-go_on-clause-refused c =
    let l : c.args.place < length c.args.table.now.items = omega (arith, c.len.ensures, c.if-place-len.false, c.args.table.now.ok.0) in
    let known = known_at c.args.table.now.items c.args.place c.index_mut.result.now c.in-Some.state l (sym c.index_mut.ensures.value) c.in-Some.is in
    let r = err_from_is_err_and c.from_residual.result c.from_residual.ensures.1 in
    rw (r.1, r.2)
    (if_fault c.in_err-go_on.field-0.0 (λ rule h p homes a b. flows_not p c.args.place c.args.instruction homes c.args.table.now.items c.in-Some.state known (h p (innermost homes) c.args.place a b))
    c.in_err-go_on.ensures.refused)

pub returns-in_err-hand_on-clause-refused : goal.returns-in_err-hand_on-clause-refused
returns-in_err-hand_on-clause-refused c =
    let l : c.args.place < length c.args.table.now.items = omega (arith, c.len.ensures, c.if-place-len.false, c.args.table.now.ok.0) in
    let known = known_at c.args.table.now.items c.args.place c.index_mut.result.now c.in-Some.state l (sym c.index_mut.ensures.value) c.in-Some.is in
    let r = err_from_is_err_and c.from_residual-in_err-hand_on.result c.from_residual-in_err-hand_on.ensures.1 in
    let joined = rw (set_twice c.args.table.now.items c.args.place (Some c.go_on.new.state) None) at
    (c.in_err-hand_on.ensures.err c.go_on.new.state (written c.args.table.now.items c.args.place c.go_on.new.state l)) in
    rw (r.1, r.2)
    (λ p homes a b. flows_alone p c.args.place c.args.instruction homes c.args.table.now.items c.in-Some.state
    c.go_on.new.state None known (c.in_ok-go_on.ensures.flows p (innermost homes) c.args.place a b) joined)

pub returns-clause-ok : goal.returns-clause-ok
returns-clause-ok c = λ p homes a b.
    let l : c.args.place < length c.args.table.now.items = omega (arith, c.len.ensures, c.if-place-len.false, c.args.table.now.ok.0) in
    let known = known_at c.args.table.now.items c.args.place c.index_mut.result.now c.in-Some.state l (sym c.index_mut.ensures.value) c.in-Some.is in
    let joined = rw (set_twice c.args.table.now.items c.args.place (Some c.go_on.new.state) None) at
    (c.in_ok-hand_on.ensures.ok c.go_on.new.state (written c.args.table.now.items c.args.place c.go_on.new.state l)) in
    flows_alone p c.args.place c.args.instruction homes c.args.table.now.items c.in-Some.state c.go_on.new.state _ known (c.in_ok-go_on.ensures.flows p (innermost homes) c.args.place a b) joined
