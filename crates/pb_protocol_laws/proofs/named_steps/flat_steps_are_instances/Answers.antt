use Rattle.pb_protocol_laws.proofs.NamedSteps.{flat_steps_are_instances, each_flat_step_is_an_instance, instances_are_apart}
use Rattle.pb_protocol_laws.proofs.named_steps.flat_steps_are_instances.Goals as goal

pub returns : goal.returns
returns c = record { names = flat_steps_are_instances; each = each_flat_step_is_an_instance; apart = instances_are_apart }
