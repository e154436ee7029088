-- The parameters of an equation that is called are those at its number, if there are any.
use Rattle.std.proofs.Common.{◌≡◌, ℕ, List, Option, Some, None, sym, subst}
use Rattle.std.specs.Prelude.{IfErr, OnErr, OnOk, slice_get}
use Rattle.pb_sorts.specs.declared.carrier.Carrier.{Carrier}
use Rattle.pb_bytecode_program.specs.Transfer.{abstract_call, to_next_place}
use Rattle.pb_verifier_states.specs.NamedRule.{named_at_call}
use Rattle.pb_verifier_flow.proofs.flow.tree.call.Goals as goal
use Rattle.pb_verifier_flow.proofs.flow.tree.call.Goals.{After-carriers}

called : (c : After-carriers) → slice_get c.args.callees.now c.args.equation ≡ Some c.carriers.result.now
called c = subst (λ (i : ℕ). slice_get c.args.callees.now i ≡ Some c.carriers.result.now) c.from-place.ensures c.carriers.ensures.list

pub returns-clause-flows : goal.returns-clause-flows
returns-clause-flows c =
    subst (λ (x : Option (List Carrier)). OnOk c.call_with.result ((q : ℕ) → abstract_call q c.args.state.now x ≡ to_next_place q c.call_with.new.state))
    (sym (called (goal.at.returns-clause-flows c).After-carriers)) c.call_with.ensures.flows

pub returns-clause-err : goal.returns-clause-err
returns-clause-err c =
    subst (λ (x : Option (List Carrier)). OnErr c.call_with.result ((q : ℕ) → abstract_call q c.args.state.now x ≡ None))
    (sym (called (goal.at.returns-clause-err c).After-carriers)) c.call_with.ensures.err

pub returns-clause-rule : goal.returns-clause-rule
returns-clause-rule c =
    subst (λ (x : Option (List Carrier)). IfErr c.call_with.result (λ r. r ≡ named_at_call c.args.state.now.operands x))
    (sym (called (goal.at.returns-clause-rule c).After-carriers)) c.call_with.ensures.rule
