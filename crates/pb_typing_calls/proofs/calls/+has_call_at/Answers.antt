use Rattle.std.proofs.Common.{◌≡◌, ◌∙◌, ◌+◌, ◌||◌, ℕ, Bool, List, drop, sym, ap}
use Rattle.pb_typing_tree.specs.Calls.{call_places, places_of}
use Rattle.pb_typing_tree.specs.declared.formula.Formula.{Formula}
use Rattle.pb_typing_calls.proofs.Operands.{any-chain, any-link}
use Rattle.pb_typing_calls.proofs.Truths.{goes_on, makes}
use Rattle.pb_typing_calls.proofs.Unmade.{any_at}
use Rattle.pb_typing_calls.proofs.calls.+has_call_at.Goals as goal
use Rattle.pb_typing_calls.proofs.calls.+has_call_at.Goals.{After-has_call_at-in-Chain, After-has_call_at-in-loop-link}

-- the first operand's answer, or else that of those linked to it
by_first : (t : ℕ) (c : After-has_call_at-in-Chain t)
    → any_at c.args.place (call_places c.args.formula.now) ≡ c.has_call_at-in-Chain.result || any_at c.args.place (places_of c.in-Chain.links.items)
by_first t c =
    let place = c.args.place in
    any-chain place c.args.formula.now c.in-Chain.connective c.in-Chain.first c.in-Chain.links c.in-Chain.is
    ∙ ap (λ (b : Bool). b || any_at place (places_of c.in-Chain.links.items))
    (sym (c.has_call_at-in-Chain.ensures ∙ ap (λ (g : Formula). any_at place (call_places g)) c.deref-in-Chain.ensures))

-- a linked operand's answer, or else that of those behind it
by_link : (t : ℕ) (c : After-has_call_at-in-loop-link t)
    → any_at c.args.place (call_places c.args.formula.now)
    ≡ c.has_call_at-in-loop-link.result || any_at c.args.place (places_of (drop (c.loop-link.link-index + 1) c.deref-link-items.result.now))
by_link t c =
    let place = c.args.place in
    let fs = c.deref-link-items.result.now in
    let k = c.loop-link.link-index in
    sym c.loop-link.invariant ∙ (any-link place fs k c.link-item.result c.loop-link-test.true c.link-item.is
    ∙ ap (λ (b : Bool). b || any_at place (places_of (drop (k + 1) fs))) (sym c.has_call_at-in-loop-link.ensures))

pub returns-then-has_call_at : goal.returns-then-has_call_at
returns-then-has_call_at t c =
    makes _ _ _ (by_first t (goal.at.returns-then-has_call_at t c).After-has_call_at-in-Chain) c.if-has_call_at.true

pub loop-link-init : goal.loop-link-init
loop-link-init t c =
    ap (λ (fs : List Formula). any_at c.args.place (places_of fs)) c.deref-link-items.ensures.value
    ∙ goes_on _ _ _ (by_first t (goal.at.loop-link-init t c).After-has_call_at-in-Chain) c.if-has_call_at.false

pub returns-then-has_call_at-2 : goal.returns-then-has_call_at-2
returns-then-has_call_at-2 t c =
    makes _ _ _ (by_link t (goal.at.returns-then-has_call_at-2 t c).After-has_call_at-in-loop-link) c.if-has_call_at-2.true

pub loop-link-preserved : goal.loop-link-preserved
loop-link-preserved t c =
    goes_on _ _ _ (by_link t (goal.at.loop-link-preserved t c).After-has_call_at-in-loop-link) c.if-has_call_at-2.false
