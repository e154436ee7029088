use Rattle.pb_protocol_symmetry_solved.specs.Laws.{FlatModelsAreSymmetric, FlatEquationsAreSymmetric}
use Rattle.pb_protocol_symmetry_solved.proofs.Solved.{flat-symmetric, flat-equations, packed-equations, tested-equations}
use Rattle.pb_protocol_symmetry_solved.proofs.solved_equations_are_symmetric.Goals as goal

pub returns : goal.returns
returns c =
    let models : FlatModelsAreSymmetric = flat-symmetric c.unfolded_models_are_symmetric.ensures.model c.folded_models_are_symmetric.ensures in
    let translations = c.translations_are_symmetric.ensures in
    let equations : FlatEquationsAreSymmetric = flat-equations models c.flat_models_do_the_same.ensures.names translations in
    record {
      flat = models;
      equations = equations;
      packed = packed-equations c.properties_name_no_whole.ensures models c.packed_models_are_symmetric.ensures.properties c.packed_models_have_the_answer.ensures.names translations;
      tested = tested-equations equations c.tested_protocols_are_symmetric.ensures c.tested_formulas_have_kinds.ensures;
    }
