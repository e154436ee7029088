-- What the check of a text finds besides faults.
use Rattle.std.specs.Prelude.{◌≡◌}
use Rattle.pb_text_tree.specs.Form.{SpecForm}
use Rattle.pb_text_meaning.specs.Erase.{erase}
use Rattle.pb_typing_tree.specs.Calls.{text_calls, tree_calls}
use Rattle.pb_typing_tree.specs.Elaboration.{elaborated_equations}
use Rattle.pb_typing_tree.specs.InitialPlace.{IsInitial}
use Rattle.pb_typing_tree.specs.Loops.{all_loops}
use Rattle.pb_typing_tree.specs.View.{loop_shapes, right_views}
use Rattle.pb_typing.specs.declared.spec.Checked.{Checked}
use Rattle.pb_typing.specs.Typed.{IsLayout}

-- the layout, the typed trees and the initial instance are the text's
pub record IsChecked (text : SpecForm) (checked : Checked) : Type 0 where
  pub laid_out : IsLayout (erase text) checked.layout
  pub rights : right_views checked.equations.items
      ≡ elaborated_equations (erase text) (erase text).equations
  pub loops : loop_shapes checked.equations.items ≡ all_loops (erase text)
  pub calls : tree_calls checked.equations.items ≡ text_calls text.equations
  pub asked : IsInitial (erase text) checked.initial.equation checked.initial.values.items
