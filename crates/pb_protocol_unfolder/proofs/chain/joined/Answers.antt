use Rattle.std.proofs.Common.{◌≡◌, ◌∙◌, sym, map, flat_map, ◌++◌}
use Rattle.std.proofs.lemmas.Result.{IfOk-weaker}
use Rattle.pb_model_tree.specs.declared.formula.Formula.{Formula}
use Rattle.pb_protocol_folding.specs.Places.{AreAmong, places_of}
use Rattle.pb_protocol_folding.specs.View.{formula_of}
use Rattle.pb_protocol_unfolder.specs.Links.{folded_chain, folded_connected, linked_formula}
use Rattle.pb_protocol_unfolder.proofs.ChainFormulas.{chain-begun}
use Rattle.pb_protocol_unfolder.specs.Places.{flat_link_places}
use Rattle.pb_protocol_unfolder.proofs.PlaceLemmas.{joined-last}
use Rattle.pb_protocol_unfolder.proofs.chain.joined.Goals as goal

pub returns-clause-formula : goal.returns-clause-formula
returns-clause-formula c =
    let k = c.args.connective in
    let f = formula_of c.args.first in
    IfOk-weaker c.connected.result
    (λ (h : Formula). formula_of h ≡ folded_connected k f (linked_formula c.in_ok-others.others))
    (λ (h : Formula). formula_of h ≡ folded_chain k f (map linked_formula c.args.links.items))
    (λ h e. e ∙ sym (c.in_ok-others.ensures.formula f) ∙ chain-begun k f c.args.links.items c.pop.new.self.items c.in-Some.last c.in-Some.ensures.items) c.connected.ensures.formula

pub returns-clause-places : goal.returns-clause-places
returns-clause-places c =
    let first = places_of c.args.first in
    let all = flat_map flat_link_places c.args.links.items in
    let others = flat_link_places c.in_ok-others.others in
    IfOk-weaker c.connected.result (λ (h : Formula). AreAmong (places_of h) (first ++ others)) (λ (h : Formula). AreAmong (places_of h) (first ++ all))
    (λ h among. joined-last first others flat_link_places c.args.links.items c.pop.new.self.items c.in-Some.last (places_of h) c.in-Some.ensures.items c.in_ok-others.ensures.places among)
    c.connected.ensures.places
