-- The named functions of data, by their names.
use Rattle.std.specs.Prelude.{if◌then◌else◌, Option, Some, None, codes}
use Rattle.pb_text_meaning.specs.Syntax.{Name, same_name}
use Rattle.pb_text_meaning.specs.declared.function.NamedFunction.{NamedFunction}
use Rattle.pb_text_meaning.specs.declared.function.NamedFunction.TheVariants.{If, Succ, Pred, Abs}
use Rattle.pb_text_meaning.specs.declared.function.NamedFunction.TheVariants.{Max, Min, Pos2Nat}
use Rattle.pb_text_meaning.specs.declared.function.NamedFunction.TheVariants.{Pos2Int, Nat2Int}

-- the function of a name, if there is one
unfoldable pub named_function : Name → Option NamedFunction
named_function f =
    if same_name f (codes "if") then Some If else
    if same_name f (codes "succ") then Some Succ else
    if same_name f (codes "pred") then Some Pred else
    if same_name f (codes "abs") then Some Abs else
    if same_name f (codes "max") then Some Max else
    if same_name f (codes "min") then Some Min else
    if same_name f (codes "Pos2Nat") then Some Pos2Nat else
    if same_name f (codes "Pos2Int") then Some Pos2Int else
    if same_name f (codes "Nat2Int") then Some Nat2Int else None
