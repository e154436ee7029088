use Rattle.std.proofs.Common.{◌∙◌, ◌++◌, List, sym, ap, append_assoc}
use Rattle.pb_text_tree.specs.declared.place.Place.{Place}
use Rattle.pb_typing_tree.specs.Calls.{call_places, places_of}
use Rattle.pb_typing_tree.specs.declared.formula.Formula.{Formula}
use Rattle.pb_typing_calls.proofs.Operands.{chain-calls, places-all, places-more}
use Rattle.pb_typing_calls.proofs.calls.+push_calls.Goals as goal

pub loop-link-init : goal.loop-link-init
loop-link-init t c =
    let f = c.in-Chain.first in
    let old = c.args.places.now.items in
    let left = places_of c.in-Chain.links.items in
    ap (λ (fs : List Formula). c.push_calls-in-Chain.new.places.items ++ places_of fs)
    c.deref-link-items.ensures.value
    ∙ (ap (λ (ps : List Place). ps ++ left) (c.in_ok-push_calls-in-Chain.ensures
    ∙ ap (λ (g : Formula). old ++ call_places g) c.deref-in-Chain.ensures)
    ∙ (append_assoc old (call_places f.value) left
    ∙ ap (λ (ps : List Place). old ++ ps)
    (sym (chain-calls c.args.formula.now c.in-Chain.connective f c.in-Chain.links c.in-Chain.is))))

pub loop-link-preserved : goal.loop-link-preserved
loop-link-preserved t c =
    places-more c.deref-link-items.result.now c.loop-link.link-index c.link-item.result
    c.loop-link.places.items c.push_calls-in-loop-link.new.places.items
    (c.args.places.now.items ++ call_places c.args.formula.now) c.loop-link-test.true c.link-item.is
    c.in_ok-push_calls-in-Chain-2.ensures c.loop-link.invariant

pub returns-after-loop-link : goal.returns-after-loop-link
returns-after-loop-link t c =
    places-all c.deref-link-items.result.now c.loop-link.link-index c.loop-link.places.items
    (c.args.places.now.items ++ call_places c.args.formula.now) c.loop-link-test.false
    c.loop-link.invariant
