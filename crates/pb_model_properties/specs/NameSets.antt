-- Sets of names.
use Rattle.std.specs.Prelude.{◌≡◌, ℕ, List}
use denote.Ref.{Bor}
use Rattle.std.specs.HashSet.{HashSet, contains_by}
use Rattle.std.specs.Str.{bytes_eq}
use Rattle.std.specs.declared.hash.FoldHasher.{FoldHasher}
use Rattle.std.specs.declared.hash.BuildHasherDefault.{BuildHasherDefault}
use Rattle.pb_typing_declarations.specs.Faults.{is_among}

abbrev pub NameSet : Type 0
NameSet = HashSet (Bor (List ℕ)) (BuildHasherDefault FoldHasher)

-- the set has these names and no others
abbrev pub IsSetOf : List (List ℕ) → NameSet → Type 0
IsSetOf names set =
    (name : List ℕ) →
    contains_by (λ (k : Bor (List ℕ)). bytes_eq name k.now) set ≡ is_among names name
