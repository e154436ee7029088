use Rattle.pb_verifier_flow.proofs.Pushes.{logic_goes_on}
use Rattle.pb_verifier_flow.proofs.flow.data.logic.Goals as goal

pub returns-clause-flows : goal.returns-clause-flows
returns-clause-flows c =
    logic_goes_on c.args.connective c.args.state.now c.pop_bool.new.self c.in_ok-pop_bool.ensures.ok.topmost c.in_ok-test_bool.ensures.ok c.in_ok-test_bool.ensures.room
