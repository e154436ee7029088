-- The sort of a variable in scope.
use Rattle.std.specs.Prelude.{Bool, if◌then◌else◌, List, [], ◌∷◌, string_bytes, Option, Some}
use Rattle.pb_text_tree.specs.declared.name.Name as declared_name
use Rattle.pb_text_meaning.specs.Syntax.{Name, same_name, Variable}

-- whether a name is spelled so
abbrev pub is_called : Name → declared_name.Name → Bool
is_called x n = same_name (string_bytes n.text) x

-- the sort of the last variable of a name, if there is one, else this
abbrev pub last_sort : Option Name → List Variable → Name → Option Name
last_sort o [] x = o
last_sort o (y ∷ ys) x = last_sort (if same_name y.name x then Some y.sort else o) ys x
