use Rattle.pb_verifier_flow.proofs.Pushes.{not_goes_on}
use Rattle.pb_verifier_flow.proofs.flow.data.negation.Goals as goal

pub returns-clause-flows : goal.returns-clause-flows
returns-clause-flows c = not_goes_on c.args.state.now c.in_ok-test_bool.ensures.ok c.in_ok-test_bool.ensures.room
