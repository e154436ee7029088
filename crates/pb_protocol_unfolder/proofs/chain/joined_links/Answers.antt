use Rattle.std.proofs.Common.{◌∙◌, ◌++◌, refl, sym, flat_map, arith}
use Rattle.std.proofs.lemmas.List.Elements.{Contains-append_right}
use Rattle.pb_protocol_folding.specs.Places.{places_of}
use Rattle.pb_protocol_folding.specs.View.{formula_of}
use Rattle.pb_protocol_folding.proofs.Places.{last-among, same-among}
use Rattle.pb_protocol_unfolder.specs.Places.{flat_link_places}
use Rattle.pb_protocol_unfolder.proofs.ChainFormulas.{chain-goes, chain-ends}
use Rattle.pb_protocol_unfolder.proofs.chain.joined_links.Goals as goal

pub loop-before-init : goal.loop-before-init
loop-before-init c = record {
  formula = λ f. refl;
  places = same-among _ _ refl;
}

pub loop-before-preserved : goal.loop-before-preserved
loop-before-preserved c = record {
  formula = λ f.
      c.loop-before.invariant.formula f
      ∙ sym (chain-goes c.args.connective f (formula_of c.in_ok-operand.operand) c.loop-before.links.items
      c.pop.new.self.items c.in-Some.before c.loop-before.last c.in-Some.ensures.items c.in_ok-operand.ensures.formula);
  places = last-among flat_link_places c.loop-before.links.items c.pop.new.self.items c.in-Some.before
      (flat_link_places c.loop-before.last) (places_of c.in_ok-operand.operand) (flat_map flat_link_places c.args.links.items ++ flat_link_places c.args.last)
      c.in-Some.ensures.items c.in_ok-operand.ensures.places c.loop-before.invariant.places;
}

pub returns-clause-formula : goal.returns-clause-formula
returns-clause-formula c = λ f.
    c.loop-before.invariant.formula f ∙ chain-ends c.args.connective f _ c.loop-before.links.items (omega (arith, c.in_default.ensures.cases, c.loop-before.links.ok.0))

pub returns-clause-places : goal.returns-clause-places
returns-clause-places c = λ x at. c.loop-before.invariant.places x (Contains-append_right (flat_map flat_link_places c.loop-before.links.items) (flat_link_places c.loop-before.last) x at)
