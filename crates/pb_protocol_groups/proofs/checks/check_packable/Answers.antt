-- A model that passed can be packed.
use Rattle.pb_model_tree.specs.Form.{model_form}
use Rattle.pb_protocol_groups.proofs.Packable.{packable-where-passed}
use Rattle.pb_protocol_groups.proofs.checks.check_packable.Goals as goal

pub returns-clause-accepted : goal.returns-clause-accepted
returns-clause-accepted c = packable-where-passed (model_form c.args.model.now) c.check_all.result c.check_all.ensures
