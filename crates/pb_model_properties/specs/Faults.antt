-- What keeps constants from being settled, and a protocol from being unfolded, as a fault of a
-- model.
use Rattle.pb_text.specs.declared.error.TextRule.TheVariants.{LimitExceeded}
use Rattle.pb_text_tree.specs.declared.place.Place.{Place}
use Rattle.pb_typing_declarations.specs.declared.fault.TypingRule.{TypingRule}
use Rattle.pb_typing_declarations.specs.declared.fault.TypingRule.TheVariants as rule
use Rattle.pb_protocol_unfolder_terms.specs.declared.fault.UnfoldRule.{UnfoldRule}
use Rattle.pb_protocol_unfolder_terms.specs.declared.fault.UnfoldRule.TheVariants as unfold_rule
use Rattle.pb_protocol_constants.specs.declared.fault.ConstantsFault.{ConstantsFault}
use Rattle.pb_protocol_constants.specs.declared.fault.ConstantsFault.TheVariants as constants
use Rattle.pb_protocol_unfolder.specs.declared.fault.UnfoldingFault.{UnfoldingFault}
use Rattle.pb_protocol_unfolder.specs.declared.fault.UnfoldingRule.{UnfoldingRule}
use Rattle.pb_protocol_unfolder.specs.declared.fault.UnfoldingRule.TheVariants as unfolding_rule
use Rattle.pb_model_faults.specs.declared.ModelFault.{ModelFault}
use Rattle.pb_model_faults.specs.declared.ModelFault.TheVariants as model_fault

abbrev typing_fault : TypingRule → Place → ModelFault
typing_fault r p = model_fault.Typing (record { rule = r; place = p })

abbrev fault_at : UnfoldingRule → Place → ModelFault
fault_at unfolding_rule.Names p = typing_fault rule.NameTwice p
fault_at unfolding_rule.Value p = typing_fault rule.WrongKind p
fault_at unfolding_rule.Index p = typing_fault rule.OutsideCarrier p
fault_at unfolding_rule.Count p = typing_fault rule.Limit p
fault_at unfolding_rule.Operators p = model_fault.Text (record { rule = LimitExceeded; place = p })

abbrev pub as_model_fault : UnfoldingFault → ModelFault
as_model_fault fault = fault_at fault.rule fault.place

abbrev pub term_fault : UnfoldRule → Place → ModelFault
term_fault unfold_rule.Index p = typing_fault rule.OutsideCarrier p
term_fault unfold_rule.Operators p = model_fault.Text (record { rule = LimitExceeded; place = p })
term_fault unfold_rule.Depth p = model_fault.Text (record { rule = LimitExceeded; place = p })
term_fault unfold_rule.Values p = model_fault.Text (record { rule = LimitExceeded; place = p })

abbrev pub constants_fault : ConstantsFault → ModelFault
constants_fault (constants.Typing f) = model_fault.Typing f
constants_fault (constants.Term f) = term_fault f.rule f.place
