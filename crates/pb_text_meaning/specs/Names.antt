-- Names of predicate variables: declared once.
use Rattle.std.specs.Prelude.{◌≢◌, Bool, List, AllPairs}
use Rattle.std.specs.List.{list_any}
use Rattle.pb_text_meaning.specs.Syntax.{Name, same_name, Equation}

-- no two equations have one name
abbrev pub AreNamedApart : List Equation → Type 0
AreNamedApart E = AllPairs (λ (X Y : Equation). X.name ≢ Y.name) E

-- some equation has the name
abbrev pub is_declared : List Equation → Name → Bool
is_declared E x = list_any (λ X. same_name X.name x) E
