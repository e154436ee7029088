-- A folded model has the symmetries of the model (Emerson and Sistla 1996): constant folding keeps
-- steps, and what formulas mean.
use Rattle.pb_model_meaning.specs.Syntax.{Formula, Model}
use Rattle.pb_model_meaning.specs.Steps.{State}
use Rattle.pb_model_symmetry.specs.Symmetry.{IsModelSymmetry}
use Rattle.pb_protocol_folding.specs.FoldedModels.{folded_model, folded_property_formula}
use Rattle.pb_protocol_folding.specs.Laws.{HidesNoNames}

abbrev pub FoldedModelsAreSymmetric : Type 0
FoldedModelsAreSymmetric =
    (m : Model) → HidesNoNames m → (g : Formula) (f : State → State) → IsModelSymmetry m g f →
    IsModelSymmetry (folded_model m) (folded_property_formula m g) f
