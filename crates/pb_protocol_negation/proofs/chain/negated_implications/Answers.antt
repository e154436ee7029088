use Rattle.std.proofs.Common.{◌∙◌, List, ap, refl, map, reverse, None, arith}
use Rattle.std.proofs.lemmas.List.{nil_from_length}
use Rattle.pb_protocol_tree.specs.declared.formula.Formula.{Formula}
use Rattle.pb_protocol_tree.specs.declared.formula.Link.{Link}
use Rattle.pb_protocol_tree.specs.Form.{formula_form}
use Rattle.pb_protocol_negation.specs.Links.{antecedent, link_form}
use Rattle.pb_protocol_negation.proofs.Chains.{begun, begun-nowhere, begun-next, begun-all}
use Rattle.pb_protocol_negation.proofs.chain.negated_implications.Goals as goal

pub loop-link-init : goal.loop-link-init
loop-link-init c =
    let f = formula_form c.args.first in
    let links = map link_form c.args.links.items in
    (refl, ap (λ (ks : List Link). begun f links None (map link_form (reverse ks))) c.new-negations.ensures.items ∙ begun-nowhere f links)

pub loop-link-preserved : goal.loop-link-preserved
loop-link-preserved c =
    let link = c.in-Some.link in (
      c.loop-link.invariant.0,
      begun-next (formula_form c.args.first) c.pop.new.self.items c.loop-link.operands.items link (record { place = link.place; operand = c.in_ok-operand.operand }) c.loop-link.implication
          c.loop-link.negations.items c.push.new.self.items _ c.in-Some.ensures.items c.in_ok-push.ensures.items refl c.in_ok-operand.ensures c.loop-link.invariant.1,
    )

pub returns : goal.returns
returns c =
    begun-all (formula_form c.args.first) c.in_ok-new.field-0 c.reverse.new.self c.loop-link.operands.items c.loop-link.implication c.loop-link.negations.items _
    (nil_from_length c.loop-link.operands.items (omega (arith, c.in_default.ensures.cases.0, c.loop-link.operands.ok.0))) c.reverse.ensures.items
    (ap formula_form c.in_ok-new.ensures.ok ∙ c.in_ok-first.ensures ∙ ap (λ (f : Formula). antecedent c.loop-link.implication (formula_form f)) c.loop-link.invariant.0)
    c.loop-link.invariant.1
