-- The slots that the quantifiers of a formula take.
pub use Rattle.pb_typing_tree.specs.Loops.{variable_shapes, loops, equation_loops, all_loops}
pub use Rattle.pb_typing_tree.specs.Loops.{AreShaped, IsShaped}
