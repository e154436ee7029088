-- The flat model of a protocol that has words has words, and so have its formulas.
use Rattle.std.specs.Prelude.{false, []}
use Rattle.pb_model_meaning.specs.Steps.{data_of}
use Rattle.pb_protocol_folding.specs.FoldedModels.{is_left}
use Rattle.pb_protocol_unfolding.specs.Unfolding.{unfolded, unfolded_formula}
use Rattle.pb_protocol_laws.specs.SpellingLaws.{FlatModelsAreWritable, FlatFormulasAreWritable}
use Rattle.pb_protocol_laws.proofs.Folded.{arguments-writable, steps-writable, formula-writable}
use Rattle.pb_protocol_laws.proofs.Unfolded.{unfolded-writable, formula-unfolded}

pub flat-writable : FlatModelsAreWritable
flat-writable m h =
    let spec = data_of (unfolded m) in
    let w = unfolded-writable m h in
    record {
      sorts = h.sorts;
      ranges = h.ranges;
      variables = w.variables;
      steps = steps-writable spec (unfolded m).steps w.steps;
      initial = arguments-writable spec false (unfolded m).initial w.initial;
    }

pub flat-formula-writable : FlatFormulasAreWritable
flat-formula-writable m f h w =
    formula-writable (data_of (unfolded m)) (is_left (unfolded m)) (unfolded_formula m [] f) (formula-unfolded m h f [] tt w)
