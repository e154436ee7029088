-- Sets of names that are taken, and the numbers after names at which searches begin.
use Rattle.std.specs.Prelude.{◌≡◌, ◌<◌, ◌++◌, ℕ, List, true, false, Some, String}
use Rattle.std.specs.Prelude.{string_bytes}
use Rattle.std.specs.declared.alloc.Global.{Global}
use Rattle.std.specs.HashMap.{HashMap, get_by_text}
use Rattle.std.specs.HashSet.{HashSet, contains_text}
use Rattle.std.specs.List.{list_any}
use Rattle.std.specs.declared.hash.FoldHasher.{FoldHasher}
use Rattle.std.specs.declared.hash.BuildHasherDefault.{BuildHasherDefault}
use Rattle.pb_text_meaning.specs.Syntax.{Name, same_name}
use Rattle.pb_model_names.specs.declared.fresh.FreeName.{FreeName}
use Rattle.pb_model_translation.specs.Names.{numbered}

abbrev pub NameSet : Type 0
NameSet = HashSet (String Global) (BuildHasherDefault FoldHasher)

abbrev pub Starts : Type 0
Starts = HashMap (String Global) ℕ (BuildHasherDefault FoldHasher)

-- the set has these names and no others
abbrev pub IsSetOf : List Name → NameSet → Type 0
IsSetOf names set = (x : Name) → contains_text set x ≡ list_any (same_name x) names

-- the second set has the names of the first and these
abbrev pub Adds : NameSet → NameSet → List Name → Type 0
Adds old new xs = (names : List Name) → IsSetOf names old → IsSetOf (names ++ xs) new

-- with each lower number from 1 on after it the name is taken
abbrev pub IsStart : NameSet → Name → ℕ → Type 0
IsStart taken x k =
    (0 < k) × ((i : ℕ) → 0 < i → i < k → contains_text taken (numbered x i) ≡ true)

abbrev pub AreStarts : NameSet → Starts → Type 0
AreStarts taken starts = (x : Name) (k : ℕ) → get_by_text starts x ≡ Some k → IsStart taken x k

-- the name with the first number after it with which it isn't taken
abbrev pub IsFirstFree : NameSet → Name → FreeName → Type 0
IsFirstFree taken x n =
    IsStart taken x n.number × (contains_text taken (numbered x n.number) ≡ false)
    × (string_bytes n.text ≡ numbered x n.number)
