use Rattle.std.proofs.Common.{◌∙◌, ◌≡◌, ◌==◌, ◌&&◌, Bool, List, length, sym, ap, true, rules}
use Rattle.pb_typing_tree.specs.Calls.{call_places, places_of}
use Rattle.pb_typing_tree.specs.declared.formula.Formula.{Formula}
use Rattle.pb_typing_calls.proofs.Operands.{none-chain}
use Rattle.pb_typing_calls.proofs.Truths.{passes}
use Rattle.pb_typing_calls.proofs.calls.+has_no_call.Goals as goal

pub loop-link-init : goal.loop-link-init
loop-link-init t c =
    let f = c.in-Chain.first in
    let here = c.has_no_call-in-Chain.result in
    let rest = length (places_of c.in-Chain.links.items) == 0 in
    let here_is =
    c.has_no_call-in-Chain.ensures
    ∙ ap (λ (g : Formula). length (call_places g) == 0) c.deref-in-Chain.ensures in
    let is_true : here ≡ true = search rules in
    ap (λ (fs : List Formula). length (places_of fs) == 0) c.deref-link-items.ensures.value
    ∙ passes here rest (length (call_places c.args.formula.now) == 0)
    (none-chain c.args.formula.now c.in-Chain.connective f c.in-Chain.links c.in-Chain.is
    ∙ ap (λ (b : Bool). b && rest) (sym here_is)) is_true
