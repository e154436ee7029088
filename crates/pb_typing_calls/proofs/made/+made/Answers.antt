use Rattle.std.proofs.Common.{◌≡◌, ◌∙◌, ℕ, Bool, false, List, drop, length}
use Rattle.std.proofs.Common.{sym, ap, arith, refl, rules}
use Rattle.pb_base_values.specs.Carrier.{Tuple}
use Rattle.pb_sorts.specs.Instance.{instance_of}
use Rattle.pb_typing_tree.specs.Calls.{call_places}
use Rattle.pb_typing_tree.specs.View.{formula_view, formula_views}
use Rattle.pb_typing_tree.specs.declared.formula.Formula.{Formula}
use Rattle.pb_typing_values.specs.Slots.{slots_of}
use Rattle.pb_typing_calls.specs.Made.{rest_decides}
use Rattle.pb_typing_calls.proofs.ChainMade.{fits-chained, from-place, left-decided, made-chain}
use Rattle.pb_typing_calls.proofs.Holding.{outer-again, some-room, tuple-fits, tuple-room}
use Rattle.pb_typing_calls.proofs.Nodes.{chain-read, exists-fits, quantifier-read, IsChainOf, IsQuantifierOf}
use Rattle.pb_typing_calls.proofs.TuplesMade.{begun, exists-makes, fewer-left, is-made, is-unmade}
use Rattle.pb_typing_calls.proofs.TuplesMade.{next-tuple, tried, IsTried}
use Rattle.pb_typing_calls.proofs.Unmade.{any_at, nothing_made}
use Rattle.pb_typing_calls.proofs.made.+made.Goals as goal
use Rattle.pb_typing_calls.proofs.made.+made.Goals.{makes_call-After-deref-in-Chain-2, makes_call-After-deref-in-Quantified-3, makes_call_for-After-makes_call-in-tuples}

-- ---- chains

read_chain : (t : ℕ) (c : makes_call-After-deref-in-Chain-2 t)
    → IsChainOf c.args.formula.now c.in-Chain.connective c.deref-in-Chain.result.now c.deref-in-Chain-2.result.now
read_chain t c =
    chain-read c.in-Chain.connective c.in-Chain.first c.in-Chain.links c.in-Chain.is c.deref-in-Chain.ensures c.deref-in-Chain-2.ensures.value

pub makes_call-chain_makes_call-requires : goal.makes_call-chain_makes_call-requires
makes_call-chain_makes_call-requires t c =
    let read = read_chain t (goal.at.makes_call-chain_makes_call-requires t c).After-deref-in-Chain-2 in
    let fits = fits-chained c.args.sought.now c.args.slots.now read c.requires in
    (omega (arith, c.decreases, read.weighs), (fits.0, fits.1))

pub makes_call-returns-in-Chain : goal.makes_call-returns-in-Chain
makes_call-returns-in-Chain t c = record {
  gives =
      λ spec of.
      c.chain_makes_call.ensures.gives spec of
      ∙ sym (made-chain spec c.args.sought.now (slots_of c.args.slots.now) c.in-Chain.connective
      (read_chain t (goal.at.makes_call-returns-in-Chain t c).After-deref-in-Chain-2));
  kept = c.chain_makes_call.ensures.kept;
}

pub chain_makes_call-returns-then-rest_decides : goal.chain_makes_call-returns-then-rest_decides
chain_makes_call-returns-then-rest_decides t c = record {
  gives =
      λ spec of.
      let o = c.args.connective in
      let links = c.args.links.now in
      let k = c.loop-k.k in
      let decided : List Formula → Tuple → Bool =
      λ fs vs. rest_decides spec (slots_of vs) o (formula_views fs) in
      let decides =
      ap (decided (drop k links)) (sym c.loop-k.invariant.0)
      ∙ (ap (λ (fs : List Formula). decided fs c.loop-k.slots) (sym (from-place links k))
      ∙ (sym (c.rest_decides.ensures.gives spec of) ∙ c.if-rest_decides.true)) in
      left-decided c.args.sought.now c.args.slots.now o c.args.first.now links k c.loop-k.operand.now
      c.loop-k.invariant.1 spec of decides;
  kept = c.rest_decides.ensures.kept ∙ c.loop-k.invariant.0;
}

-- ---- quantifiers

read_quantifier : (t : ℕ) (c : makes_call-After-deref-in-Quantified-3 t)
    → IsQuantifierOf c.args.formula.now c.in-Quantified.quantifier c.in-Quantified.slot c.deref-in-Quantified-2.result.now c.deref-in-Quantified-3.result.now
read_quantifier t c =
    quantifier-read c.in-Quantified.quantifier c.in-Quantified.slot c.in-Quantified.carriers c.in-Quantified.body
    c.in-Quantified.is c.deref-in-Quantified-2.ensures.value c.deref-in-Quantified-3.ensures

pub makes_call-returns-then-not-has_call_at : goal.makes_call-returns-then-not-has_call_at
makes_call-returns-then-not-has_call_at t c = record {
  gives =
      λ spec of.
      let s = c.args.sought.now in
      let f = c.args.formula.now in
      let is_false : c.has_call_at.result ≡ false = search rules in
      let any : Formula → Bool = λ g. any_at s.place (call_places g) in
      let no_call = ap any c.in-Quantified.is ∙ (ap any (sym c.deref-in-Quantified.ensures)
      ∙ (sym c.has_call_at.ensures ∙ is_false)) in
      sym (nothing_made spec (instance_of s.called.now) s.place (slots_of c.args.slots.now)
      (formula_view f) (call_places f) no_call);
  kept = refl;
}

pub makes_call-makes_call_for-requires : goal.makes_call-makes_call_for-requires
makes_call-makes_call_for-requires t c =
    let read = read_quantifier t (goal.at.makes_call-makes_call_for-requires t c).After-deref-in-Quantified-3 in (
      omega (arith, c.decreases, read.weighs),
      exists-fits (length c.args.sought.now.environment.layout.now) (length c.args.slots.now) (slots_of c.args.slots.now) read c.requires,
    )

pub makes_call-returns-else-not-has_call_at : goal.makes_call-returns-else-not-has_call_at
makes_call-returns-else-not-has_call_at t c = record {
  gives =
      λ spec of.
      c.makes_call_for.ensures.gives spec of
      ∙ exists-makes spec c.args.sought.now (slots_of c.args.slots.now)
      (read_quantifier t (goal.at.makes_call-returns-else-not-has_call_at t c).After-deref-in-Quantified-3);
  kept = c.makes_call_for.ensures.kept;
}

pub makes_call_for-start-requires : goal.makes_call_for-start-requires
makes_call_for-start-requires t c =
    some-room (length c.args.sought.now.environment.layout.now) (formula_view c.args.body.now) c.args.loops.now c.args.slots.now c.requires c.if-is_empty.ensures

pub makes_call_for-tuples-init : goal.makes_call_for-tuples-init
makes_call_for-tuples-init t c =
    begun c.args.sought.now c.args.loops.now c.args.body.now c.args.slots.now c.start.new.slots c.start.ensures

pub makes_call_for-makes_call-requires-in-tuples : goal.makes_call_for-makes_call-requires-in-tuples
makes_call_for-makes_call-requires-in-tuples t c = (
  omega (arith, c.decreases),
  tuple-fits (length c.args.sought.now.environment.layout.now) (formula_view c.args.body.now) c.requires c.tuples.invariant.holds,
)

tried_body : (t : ℕ) (c : makes_call_for-After-makes_call-in-tuples t)
    → IsTried c.args.sought.now c.args.loops.now c.args.body.now c.args.slots.now c.makes_call-in-tuples.new.slots c.makes_call-in-tuples.result
tried_body t c = tried c.tuples.invariant c.makes_call-in-tuples.new.slots c.makes_call-in-tuples.ensures.kept c.makes_call-in-tuples.ensures.gives

pub makes_call_for-clear-requires : goal.makes_call_for-clear-requires
makes_call_for-clear-requires t c =
    tuple-room (tried_body t (goal.at.makes_call_for-clear-requires t c).After-makes_call-in-tuples).holds

pub makes_call_for-returns-then-makes_call : goal.makes_call_for-returns-then-makes_call
makes_call_for-returns-then-makes_call t c = record {
  gives =
      is-made (tried_body t (goal.at.makes_call_for-returns-then-makes_call t c).After-makes_call-in-tuples) c.if-makes_call.true;
  kept = outer-again (length c.args.sought.now.environment.layout.now) (formula_view c.args.body.now) c.requires
      (tried_body t (goal.at.makes_call_for-returns-then-makes_call t c).After-makes_call-in-tuples).holds
      c.makes_call-in-tuples.new.slots c.clear.new.slots (λ vs count. refl) c.clear.ensures;
}

pub makes_call_for-advance-requires : goal.makes_call_for-advance-requires
makes_call_for-advance-requires t c =
    tuple-room (tried_body t (goal.at.makes_call_for-advance-requires t c).After-makes_call-in-tuples).holds

pub makes_call_for-clear-requires-then-not-advance : goal.makes_call_for-clear-requires-then-not-advance
makes_call_for-clear-requires-then-not-advance t c =
    omega (
      arith,
      c.advance.auto.slots,
      tuple-room (tried_body t (goal.at.makes_call_for-clear-requires-then-not-advance t c).After-makes_call-in-tuples).holds,
    )

pub makes_call_for-returns-then-not-advance : goal.makes_call_for-returns-then-not-advance
makes_call_for-returns-then-not-advance t c = record {
  gives =
      let done = tried_body t (goal.at.makes_call_for-returns-then-not-advance t c).After-makes_call-in-tuples in
      is-unmade done c.if-makes_call.false (c.advance.ensures.last c.args.slots.now done.place done.holds c.if-not-advance.true);
  kept = outer-again (length c.args.sought.now.environment.layout.now) (formula_view c.args.body.now) c.requires
      (tried_body t (goal.at.makes_call_for-returns-then-not-advance t c).After-makes_call-in-tuples).holds
      c.advance.new.slots c.clear-then-not-advance.new.slots c.advance.ensures.others c.clear-then-not-advance.ensures;
}

pub makes_call_for-tuples-smaller : goal.makes_call_for-tuples-smaller
makes_call_for-tuples-smaller t c =
    let done = tried_body t (goal.at.makes_call_for-tuples-smaller t c).After-makes_call-in-tuples in
    fewer-left done.holds (c.advance.ensures.next c.args.slots.now done.place done.holds c.if-not-advance.false) c.makes_call-in-tuples.ensures.kept

pub makes_call_for-tuples-preserved : goal.makes_call_for-tuples-preserved
makes_call_for-tuples-preserved t c =
    let done = tried_body t (goal.at.makes_call_for-tuples-preserved t c).After-makes_call-in-tuples in
    next-tuple done c.if-makes_call.false (c.advance.ensures.next c.args.slots.now done.place done.holds c.if-not-advance.false)
