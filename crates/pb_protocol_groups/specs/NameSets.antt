-- Sets of names, as the program holds them.
use Rattle.std.specs.Prelude.{ℕ, Bool, List}
use denote.Ref.{Bor}
use Rattle.std.specs.HashSet.{HashSet, contains_by}
use Rattle.std.specs.Str.{bytes_eq}
use Rattle.std.specs.declared.hash.FoldHasher.{FoldHasher}
use Rattle.std.specs.declared.hash.BuildHasherDefault.{BuildHasherDefault}
use Rattle.pb_text_meaning.specs.Syntax.{Name}

-- whether a set has a name
abbrev pub is_name_in : HashSet (Bor (List ℕ)) (BuildHasherDefault FoldHasher) → Name → Bool
is_name_in set x = contains_by (λ (k : Bor (List ℕ)). bytes_eq x k.now) set
