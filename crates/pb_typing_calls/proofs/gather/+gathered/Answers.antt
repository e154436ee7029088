use Rattle.std.proofs.Common.{◌≡◌, ◌∙◌, ◌++◌, ℕ, List}
use Rattle.std.proofs.Common.{OnOk, append-nil, length, sym, ap, subst, arith}
use Rattle.pb_base_values.specs.Carrier.{Tuple}
use Rattle.pb_typing_tree.specs.Calls.{call_places}
use Rattle.pb_typing_tree.specs.View.{formula_view}
use Rattle.pb_typing_values.specs.Slots.{slots_of}
use Rattle.pb_typing_calls.specs.Gathered.{calls_of, decides_first}
use Rattle.pb_typing_calls.specs.MadeCalls.{MadeCall}
use Rattle.pb_typing_calls.specs.MadeCallView.{call_views}
use Rattle.pb_typing_calls.proofs.ChainGathered.{chain-stopped, fit-chained, gathered-chain}
use Rattle.pb_typing_calls.proofs.Holding.{outer-again, some-room, tuple-fits, tuple-room}
use Rattle.pb_typing_calls.proofs.MadeCalls.{no-places, nothing_gathered}
use Rattle.pb_typing_calls.proofs.Nodes.{chain-read, exists-fits, quantifier-read, IsChainOf, IsQuantifierOf}
use Rattle.pb_typing_calls.proofs.TuplesGathered.{exists-gathers, tuple-done, tuple-last}
use Rattle.pb_typing_calls.proofs.TuplesGathered.{tuple-next, tuples-begun, IsTupleDone}
use Rattle.pb_typing_calls.proofs.TuplesMade.{fewer-left}
use Rattle.pb_typing_calls.proofs.gather.+gathered.Goals as goal
use Rattle.pb_typing_calls.proofs.gather.+gathered.Goals.{push_calls-After-deref-in-Chain-2, push_calls-After-deref-in-Quantified-3, push_calls_for-In_ok-push_calls}

-- ---- chains

read_chain : (t : ℕ) (c : push_calls-After-deref-in-Chain-2 t)
    → IsChainOf c.args.formula.now c.in-Chain.connective c.deref-in-Chain.result.now c.deref-in-Chain-2.result.now
read_chain t c =
    chain-read c.in-Chain.connective c.in-Chain.first c.in-Chain.links c.in-Chain.is c.deref-in-Chain.ensures c.deref-in-Chain-2.ensures.value

pub push_calls-push_chain_calls-requires : goal.push_calls-push_chain_calls-requires
push_calls-push_chain_calls-requires t c =
    let read = read_chain t (goal.at.push_calls-push_chain_calls-requires t c).After-deref-in-Chain-2 in
    let fits = fit-chained c.args.scope.now c.args.slots.now read c.requires in
    (omega (arith, c.decreases, read.weighs), (fits.0, fits.1))

pub push_calls-returns-in-Chain-clause-calls : goal.push_calls-returns-in-Chain-clause-calls
push_calls-returns-in-Chain-clause-calls t c = λ spec of.
    let read = read_chain t (goal.at.push_calls-returns-in-Chain-clause-calls t c).After-deref-in-Chain-2 in
    subst (λ (xs : List MadeCall). OnOk c.push_chain_calls.result (call_views c.push_chain_calls.new.calls.items ≡ call_views c.args.calls.now.items ++ xs))
    (sym (gathered-chain spec c.args.scope.now (slots_of c.args.slots.now) c.in-Chain.connective read)) (c.push_chain_calls.ensures.calls spec of)

pub push_chain_calls-returns-then-decides_first-clause-calls : goal.push_chain_calls-returns-then-decides_first-clause-calls
push_chain_calls-returns-then-decides_first-clause-calls t c = λ spec of.
    let f = c.loop-k.operand.now in
    let done = call_views c.loop-k.calls.items in
    let made =
    c.in_ok-push_calls.ensures.calls spec of
    ∙ ap (λ (ws : Tuple). done ++ calls_of spec c.args.scope.now (slots_of ws) f) c.loop-k.invariant.0 in
    let decides =
    c.decides_first.ensures.gives spec of
    ∙ ap (λ (ws : Tuple). decides_first spec (slots_of ws) c.args.chain.now.connective (formula_view f))
    (c.in_ok-push_calls.ensures.kept ∙ c.loop-k.invariant.0) in
    chain-stopped _ _ _ _ _ _ _ f done c.loop-k.invariant.1 spec of _ made _ decides c.if-decides_first.true

-- ---- quantifiers

read_quantifier : (t : ℕ) (c : push_calls-After-deref-in-Quantified-3 t)
    → IsQuantifierOf c.args.formula.now c.in-Quantified.quantifier c.in-Quantified.slot c.deref-in-Quantified-2.result.now c.deref-in-Quantified-3.result.now
read_quantifier t c =
    quantifier-read c.in-Quantified.quantifier c.in-Quantified.slot c.in-Quantified.carriers c.in-Quantified.body
    c.in-Quantified.is c.deref-in-Quantified-2.ensures.value c.deref-in-Quantified-3.ensures

pub push_calls-returns-then-has_no_call-clause-calls : goal.push_calls-returns-then-has_no_call-clause-calls
push_calls-returns-then-has_no_call-clause-calls t c = λ spec of.
    let f = c.args.formula.now in
    let old = call_views c.args.calls.now.items in
    let body = ap call_places c.in-Quantified.is ∙ ap call_places (sym c.deref-in-Quantified.ensures) in
    let none =
    no-places (call_places c.deref-in-Quantified.result.now)
    (sym c.has_no_call.ensures ∙ c.if-has_no_call.true) in
    sym (ap (λ (xs : List MadeCall). old ++ xs)
    (nothing_gathered spec c.args.scope.now.own.now (slots_of c.args.slots.now) (formula_view f) (call_places f)
    (body ∙ none))
    ∙ append-nil old)

pub push_calls-push_calls_for-requires : goal.push_calls-push_calls_for-requires
push_calls-push_calls_for-requires t c =
    let read = read_quantifier t (goal.at.push_calls-push_calls_for-requires t c).After-deref-in-Quantified-3 in
    let fits = exists-fits (length c.args.scope.now.environment.layout.now) (length c.args.slots.now) (slots_of c.args.slots.now) read c.requires in
    (omega (arith, c.decreases, read.weighs), fits)

pub push_calls-returns-else-has_no_call-clause-calls : goal.push_calls-returns-else-has_no_call-clause-calls
push_calls-returns-else-has_no_call-clause-calls t c = λ spec of.
    let read = read_quantifier t (goal.at.push_calls-returns-else-has_no_call-clause-calls t c).After-deref-in-Quantified-3 in
    subst (λ (xs : List MadeCall). OnOk c.push_calls_for.result (call_views c.push_calls_for.new.calls.items ≡ call_views c.args.calls.now.items ++ xs))
    (exists-gathers spec c.args.scope.now (slots_of c.args.slots.now) read) (c.push_calls_for.ensures.calls spec of)

pub push_calls_for-overflow_add-end : goal.push_calls_for-overflow_add-end
push_calls_for-overflow_add-end t c =
    let room =
    some-room (length c.args.scope.now.environment.layout.now) (formula_view c.args.body.now) c.args.loops.now c.args.slots.now c.requires c.if-is_empty.ensures in
    omega arith

pub push_calls_for-start-requires : goal.push_calls_for-start-requires
push_calls_for-start-requires t c =
    some-room (length c.args.scope.now.environment.layout.now) (formula_view c.args.body.now) c.args.loops.now c.args.slots.now c.requires c.if-is_empty.ensures

pub push_calls_for-tuples-init : goal.push_calls_for-tuples-init
push_calls_for-tuples-init t c =
    tuples-begun c.args.scope.now c.args.loops.now c.args.body.now c.args.slots.now
    (call_views c.args.calls.now.items) c.start.new.slots c.start.ensures

pub push_calls_for-push_calls-requires-in-tuples : goal.push_calls_for-push_calls-requires-in-tuples
push_calls_for-push_calls-requires-in-tuples t c = (
  omega (arith, c.decreases),
  tuple-fits (length c.args.scope.now.environment.layout.now) (formula_view c.args.body.now) c.requires c.tuples.invariant.holds,
)

done_body : (t : ℕ) (c : push_calls_for-In_ok-push_calls t)
    → IsTupleDone c.args.scope.now c.args.loops.now c.args.body.now c.args.slots.now (call_views c.args.calls.now.items)
    c.push_calls-in-tuples.new.slots (call_views c.push_calls-in-tuples.new.calls.items)
done_body t c =
    tuple-done c.tuples.invariant c.deref.result.now (c.deref.ensures.value ∙ c.in_ok-own.ensures)
    c.push_calls-in-tuples.new.slots c.in_ok-push_calls.ensures.kept (call_views c.push_calls-in-tuples.new.calls.items) c.in_ok-push_calls.ensures.calls

pub push_calls_for-advance-requires : goal.push_calls_for-advance-requires
push_calls_for-advance-requires t c = tuple-room (done_body t (goal.at.push_calls_for-advance-requires t c).In_ok-push_calls).holds

pub push_calls_for-clear-requires : goal.push_calls_for-clear-requires
push_calls_for-clear-requires t c =
    omega (arith, c.advance.auto.slots, tuple-room (done_body t (goal.at.push_calls_for-clear-requires t c).In_ok-push_calls).holds)

pub push_calls_for-returns-then-not-advance-clause-calls : goal.push_calls_for-returns-then-not-advance-clause-calls
push_calls_for-returns-then-not-advance-clause-calls t c =
    let done = done_body t (goal.at.push_calls_for-returns-then-not-advance-clause-calls t c).In_ok-push_calls in
    tuple-last done (c.advance.ensures.last c.args.slots.now done.place done.holds c.if-not-advance.true)

pub push_calls_for-returns-then-not-advance-clause-kept : goal.push_calls_for-returns-then-not-advance-clause-kept
push_calls_for-returns-then-not-advance-clause-kept t c =
    outer-again (length c.args.scope.now.environment.layout.now) (formula_view c.args.body.now) c.requires
    (done_body t (goal.at.push_calls_for-returns-then-not-advance-clause-kept t c).In_ok-push_calls).holds
    c.advance.new.slots c.clear.new.slots c.advance.ensures.others c.clear.ensures

pub push_calls_for-tuples-smaller : goal.push_calls_for-tuples-smaller
push_calls_for-tuples-smaller t c =
    let done = done_body t (goal.at.push_calls_for-tuples-smaller t c).In_ok-push_calls in
    fewer-left done.holds (c.advance.ensures.next c.args.slots.now done.place done.holds c.if-not-advance.false) c.in_ok-push_calls.ensures.kept

pub push_calls_for-tuples-preserved : goal.push_calls_for-tuples-preserved
push_calls_for-tuples-preserved t c =
    let done = done_body t (goal.at.push_calls_for-tuples-preserved t c).In_ok-push_calls in
    tuple-next done (c.advance.ensures.next c.args.slots.now done.place done.holds c.if-not-advance.false)
