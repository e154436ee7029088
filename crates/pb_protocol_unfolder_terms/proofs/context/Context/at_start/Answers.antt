use Rattle.std.proofs.Common.{◌∙◌, ap, map}
use Rattle.pb_text_tree.specs.Form.{sort_declaration_form}
use Rattle.pb_text_meaning.specs.Erase.{erased_declaration}
use Rattle.pb_protocol_tree.specs.Form.{definition_form, protocol_form}
use Rattle.pb_protocol_meaning.specs.Erase.{erased_definition}
use Rattle.pb_protocol_unfolder_terms.specs.View.{ranges_said}
use Rattle.pb_protocol_unfolder_terms.specs.Contexts.{state_variable_of}
use Rattle.pb_protocol_unfolder_terms.specs.TermFaults.{term_of_definition}
use Rattle.pb_protocol_unfolder_terms.proofs.ContextLemmas.{declared-sorts}
use Rattle.pb_protocol_unfolder_terms.proofs.ProtocolLemmas.{same-at-start}
use Rattle.pb_protocol_unfolder_terms.proofs.context.Context.at_start.Goals as goal

pub returns-clause-context : goal.returns-clause-context
returns-clause-context c = record {
  sorts = declared-sorts c.deref-3.result.now ∙ ap (λ ds. map erased_declaration (map sort_declaration_form ds)) c.deref-3.ensures.value;
  ranges = ap ranges_said c.deref-4.ensures.value;
  variables = ap (map state_variable_of) c.new.ensures.items;
  definitions = c.in_ok-definitions.ensures.definitions ∙ ap (λ ds. map erased_definition (map definition_form ds)) c.deref.ensures.value;
}

pub returns-clause-surroundings : goal.returns-clause-surroundings
returns-clause-surroundings c =
    same-at-start (protocol_form c.args.protocol.now) _ (returns-clause-context c)
    (c.in_ok-definitions.ensures.terms ∙ ap (λ ds. map term_of_definition (map definition_form ds)) c.deref.ensures.value)
