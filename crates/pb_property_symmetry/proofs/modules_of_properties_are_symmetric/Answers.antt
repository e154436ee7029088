use Rattle.pb_property_symmetry.proofs.Properties.{modules-symmetric}
use Rattle.pb_property_symmetry.proofs.modules_of_properties_are_symmetric.Goals as goal

pub returns : goal.returns
returns c =
    let solved = c.solved_equations_are_symmetric.ensures in
    modules-symmetric c.modules_move_with_states.ensures c.packed_numbers_move_alike.ensures c.packed_models_are_symmetric.ensures.properties c.properties_name_no_whole.ensures
    solved.flat solved.equations solved.packed c.tested_protocols_are_symmetric.ensures c.tested_formulas_have_kinds.ensures
