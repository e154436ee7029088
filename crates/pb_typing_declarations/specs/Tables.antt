-- Look-up tables as lists of entries.
use Rattle.std.specs.Prelude.{ℕ, List, map, Option, bytes_eq}
use denote.Ref.{Bor}
use Rattle.std.specs.HashMap.{HashMap, get_by}
use Rattle.std.specs.declared.hash.FoldHasher.{FoldHasher}
use Rattle.std.specs.declared.hash.BuildHasherDefault.{BuildHasherDefault}
use Rattle.pb_text_tree.specs.Form.{Named}
use Rattle.pb_text_meaning.specs.Syntax.{Name}
use Rattle.pb_typing_declarations.specs.declared.entry.Entry.{Entry}

abbrev pub Table : Type 0 → Type 0
Table V = HashMap (Bor (List ℕ)) V (BuildHasherDefault FoldHasher)

-- the value at a name
abbrev pub entry_of : {V : Type 0} → Table V → Name → Option V
entry_of table x = get_by (λ (k : Bor (List ℕ)). bytes_eq x k.now) table

abbrev pub entry_names : {V : Type 0} → List (Entry V) → List Named
entry_names entries = map (λ e. record { place = e.place; text = e.name.now }) entries

abbrev pub entry_values : {V : Type 0} → List (Entry V) → List (Name × V)
entry_values entries = map (λ e. (e.name.now, e.value)) entries
