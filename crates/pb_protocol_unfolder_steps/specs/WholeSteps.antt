-- The names by which steps that stay whole are distinguished.
use Rattle.std.specs.Prelude.{◌≡◌, ◌<◌, ◌≤◌, ℕ, Bool, Option, Some, None, List, [], map, flat_map}
use Rattle.std.specs.Borrow.{Bor}
use Rattle.pb_text_tree.specs.declared.name.Name as declared_name
use Rattle.pb_text_tree.specs.declared.sort.Enumerator.{Enumerator}
use Rattle.pb_text_tree.specs.declared.sort.Sort.TheVariants as sort
use Rattle.pb_text_tree.specs.declared.sort.Sort.{Sort}
use Rattle.pb_text_tree.specs.declared.sort.SortDeclaration.{SortDeclaration}
use Rattle.pb_text_meaning.specs.Syntax.{Name, Spec, Term}
use Rattle.pb_protocol_tree.specs.declared.step.Step as declared_step
use Rattle.pb_protocol_meaning.specs.Syntax.{Protocol}
use Rattle.pb_protocol_unfolding.specs.Written.{written_tuples}
use Rattle.pb_protocol_unfolding.specs.Unfolding.{flat_names, has_many_steps, most_written}
use Rattle.pb_protocol_unfolding.specs.Whole.{valued_by}
use Rattle.pb_protocol_whole_steps.specs.View.{name_bytes, name_in}
use Rattle.pb_protocol_unfolder_steps.specs.Elements.{own_variables}

-- ---- enumerators

abbrev pub enumerator_name : Enumerator → Name
enumerator_name e = name_bytes e.name

abbrev pub enumerator_names : List Enumerator → List Name
enumerator_names enumerators = map enumerator_name enumerators

abbrev pub names_of_sort : Sort → List Name
names_of_sort (sort.Struct enumerators) = enumerator_names enumerators.items
names_of_sort (sort.Alias target) = []

abbrev pub declared_names : SortDeclaration → List Name
declared_names d = names_of_sort d.sort

abbrev pub names_declared : List SortDeclaration → List Name
names_declared declarations = flat_map declared_names declarations

-- ---- counts

abbrev pub tuples_of_step : Spec → declared_step.Step → List (List Term)
tuples_of_step spec a = written_tuples spec (own_variables a)

abbrev pub tuples_of_steps : Spec → List declared_step.Step → List (List Term)
tuples_of_steps spec steps = flat_map (tuples_of_step spec) steps

-- so many there are, and no more than there may be steps; or there are more
abbrev pub IsCount : ℕ → Option ℕ → Type 0
IsCount n None = most_written < n
IsCount n (Some k) = (k ≡ n) × (n ≤ most_written)

-- ---- what is known of a protocol

-- whether it has too many steps with their values, the names that own variables may not have, and
-- those of the steps that are named by values
pub record IsToldOf (m : Protocol) (many : Bool) (others : List declared_name.Name)
    (valued : List (Bor declared_name.Name)) : Type 0 where
  pub counted : many ≡ has_many_steps m
  pub fresh : map name_bytes others ≡ flat_names m
  pub by_values : map name_in valued ≡ valued_by m.properties
