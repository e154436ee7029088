-- The variables of a quantifier that are bound.
use Rattle.std.specs.Prelude.{◌≡◌, List, length}
use Rattle.pb_sorts.specs.declared.carrier.Carrier.{Carrier}
use Rattle.pb_text_meaning.specs.Syntax as syntax
use Rattle.pb_text_meaning.specs.Syntax.{Spec}
use Rattle.pb_typing_declarations.specs.Entries.{shapes_of}
use Rattle.pb_typing_rules.specs.Scope.{bound, outermost}
use Rattle.pb_typing_tree.specs.Elaboration.{unslotted, with_slots}
use Rattle.pb_typing_tree.specs.Loops.{variable_shapes}
use Rattle.pb_typing_nodes.specs.declared.variables.Bound.{Bound}
use Rattle.pb_typing_nodes.specs.Scopes.{table_slots, table_view}

-- they have the shapes of their sorts and the slots behind those of the carriers before
pub record IsBound (spec : Spec) (xs : List syntax.Variable) (before : List Carrier) (b : Bound)
    : Type 0 where
  pub shapes : table_view b.table ≡ bound spec xs outermost
  pub slots : table_slots b.table ≡ with_slots xs (length before) unslotted
  pub slot : b.slot ≡ length before
  pub carriers : shapes_of b.carriers.items ≡ variable_shapes spec xs
