use Rattle.pb_property_symmetry.proofs.Instances.{modules-move}
use Rattle.pb_property_symmetry.proofs.modules_move_with_states.Goals as goal

pub returns : goal.returns
returns c = modules-move c.modules_of_models_are_symmetric.ensures c.made_programs_are_the_schemes.ensures c.compiled_equations_decide.ensures
