use Rattle.std.proofs.Common.{sym}
use Rattle.pb_typing_declarations.proofs.ShapeLaws.{shape_carrier-sort_shape}
use Rattle.pb_typing_tree.proofs.Fits.{slotted-fits, elaborated-fits, expanded-fits}
use Rattle.pb_typing_tree.proofs.laws.elaboration_keeps_fits.Goals as goal

pub returns : goal.returns
returns c = record {
  term = slotted-fits;
  formula = λ spec f scope plain k n m. elaborated-fits spec m f scope (λ s. sym (shape_carrier-sort_shape spec s)) plain k n;
  expanded = expanded-fits;
}
