-- How many definitions there are up to the last of each name.
use Rattle.std.specs.Prelude.{◌≡◌, ◌<◌, ℕ, List, Some, bytes_eq, unwrap_or}
use denote.Ref.{Bor}
use Rattle.std.specs.HashMap.{HashMap, get_by}
use Rattle.std.specs.List.{slice_get}
use Rattle.std.specs.declared.hash.FoldHasher.{FoldHasher}
use Rattle.std.specs.declared.hash.BuildHasherDefault.{BuildHasherDefault}
use Rattle.pb_text_meaning.specs.Syntax.{Name}
use Rattle.pb_protocol_unfolder_terms.specs.declared.context.Definition.{Definition}

abbrev pub Counts : Type 0
Counts = HashMap (Bor (List ℕ)) ℕ (BuildHasherDefault FoldHasher)

-- that of a name, and 0 where it has none
abbrev pub count_of : Counts → Name → ℕ
count_of counts x = unwrap_or (get_by (λ (k : Bor (List ℕ)). bytes_eq x k.now) counts) 0

-- each definition is among as many as its name's
abbrev pub AreCounts : Counts → List Definition → Type 0
AreCounts counts ds =
    (k : ℕ) (d : Definition) → slice_get ds k ≡ Some d → k < count_of counts d.name.now
