use Rattle.std.proofs.Common.{sym}
use Rattle.pb_typing_declarations.proofs.ShapeLaws.{shape_carrier-sort_shape}
use Rattle.pb_normal.proofs.Truth.{normal-truth}
use Rattle.pb_normal.proofs.laws.normal_forms_keep_truth.Goals as goal

pub returns : goal.returns
returns c = λ spec t f even scope positive plain. normal-truth spec t f even scope (λ s. sym (shape_carrier-sort_shape spec s)) positive plain
