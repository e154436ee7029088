use Rattle.std.proofs.Common.{sym}
use Rattle.pb_typing_declarations.proofs.ShapeLaws.{shape_carrier-sort_shape}
use Rattle.pb_typing_tree.proofs.Expanded.{expanded-truth}
use Rattle.pb_typing_tree.proofs.Slotted.{slotted-value}
use Rattle.pb_typing_tree.proofs.Truth.{elaborated-truth}
use Rattle.pb_typing_tree.proofs.laws.elaboration_keeps_meaning.Goals as goal

pub returns : goal.returns
returns c = record {
  value = slotted-value;
  truth = λ spec t f scope plain. elaborated-truth spec t f scope (λ s. sym (shape_carrier-sort_shape spec s)) plain;
  expanded = λ spec t f g. expanded-truth spec t f g;
}
