-- Rows in an order.
use Rattle.std.specs.Prelude.{List}
use Rattle.pb_fixpoint_trees.specs.Row.{TokenRow}
use Rattle.pb_fixpoint_trees.specs.declared.index.Order.{Order}
use Rattle.pb_fixpoint_trees.specs.declared.index.Order.TheVariants.{Single, Several}

-- the rows, wherever their tokens stand
abbrev pub rows_in_order : Order → List TokenRow
rows_in_order (Single rows) = rows
rows_in_order (Several rows) = rows
