use Rattle.std.proofs.Common.{◌∙◌, ap, map, flat_map, ◌++◌}
use Rattle.std.proofs.lemmas.List.{append-nil}
use Rattle.std.proofs.lemmas.List.Elements.{Contains-append_right}
use Rattle.pb_text_meaning.specs.Syntax.{Term}
use Rattle.pb_model_meaning.specs.Syntax.{Formula}
use Rattle.pb_protocol_folding.specs.FoldedModels.{folded_joined_formula}
use Rattle.pb_protocol_folding.specs.Kept.{joining}
use Rattle.pb_protocol_folding.specs.Places.{places_of}
use Rattle.pb_protocol_folding.specs.View.{formula_of}
use Rattle.pb_protocol_folding.proofs.Joined.{behind_formula, all-behind-formula, step-joined-formula}
use Rattle.pb_protocol_folding.proofs.Places.{last-among, same-among}
use Rattle.pb_protocol_folding.proofs.formula.joined_formula.Goals as goal

pub loop-operand-init : goal.loop-operand-init
loop-operand-init c = record {
  formula =
      ap (behind_formula (joining c.args.quantifier) (map formula_of c.args.operands.items)) (c.data_truth-joined.ensures.formula ∙ ap (λ b. Formula.Data (Term.Truth b)) c.neutral.ensures)
      ∙ all-behind-formula c.args.quantifier (map formula_of c.args.operands.items);
  places =
      let all = flat_map places_of c.args.operands.items in
      same-among _ all (ap (λ ps. all ++ ps) c.data_truth-joined.ensures.places ∙ append-nil all);
}

pub loop-operand-preserved : goal.loop-operand-preserved
loop-operand-preserved c = record {
  formula = step-joined-formula c.args.quantifier c.loop-operand.operands.items c.pop.new.self.items c.in-Some.operand c.loop-operand.joined c.in_ok-joined.joined c.joining-connective.result
      c.in-Some.ensures.items c.joining-connective.ensures c.in_ok-joined.ensures.formula
      (folded_joined_formula c.args.quantifier (map formula_of c.args.operands.items)) c.loop-operand.invariant.formula;
  places = last-among places_of c.loop-operand.operands.items c.pop.new.self.items c.in-Some.operand
      (places_of c.loop-operand.joined) (places_of c.in_ok-joined.joined) (flat_map places_of c.args.operands.items)
      c.in-Some.ensures.items c.in_ok-joined.ensures.places c.loop-operand.invariant.places;
}

pub returns-clause-places : goal.returns-clause-places
returns-clause-places c = λ x at. c.loop-operand.invariant.places x (Contains-append_right (flat_map places_of c.loop-operand.operands.items) (places_of c.loop-operand.joined) x at)
