use Rattle.pb_protocol_tree.specs.Form.{protocol_form}
use Rattle.pb_protocol_constants.specs.Contexts.{IsOfConstants}
use Rattle.pb_protocol_constants.proofs.valued.value_of.Goals as goal
use Rattle.pb_protocol_constants.proofs.valued.value_of.Goals.{In_ok-context}

here : (c : In_ok-context) → IsOfConstants (protocol_form c.args.constants.now) c.in_ok-context.context
here c = record { context = c.in_ok-context.ensures.context; surroundings = c.in_ok-context.ensures.surroundings }

pub returns-clause-value : goal.returns-clause-value
returns-clause-value c = c.unfolded_number.ensures.value (protocol_form c.args.constants.now) (here (goal.at.returns-clause-value c).In_ok-context)

pub returns-clause-refused : goal.returns-clause-refused
returns-clause-refused c = c.unfolded_number.ensures.refused (protocol_form c.args.constants.now) (here (goal.at.returns-clause-refused c).In_ok-context)
