-- Where the terms stand with which the variables of a packed model begin: each at a value of
-- `init`.
use Rattle.std.specs.Prelude.{ℤ, pos, ◌+ℤ◌, int_le, int_lt, Bool, true, false, not, ◌&&◌, List, []}
use Rattle.std.specs.Prelude.{◌∷◌, map, if◌then◌else◌, Option, Some, None, unwrap_or}
use Rattle.pb_text_tree.specs.declared.place.Place.{Place}
use Rattle.pb_text_tree.specs.declared.term.Argument.{Argument}
use Rattle.pb_text_tree.specs.Form.{ArgumentForms, no_arguments, argument}
use Rattle.pb_text_meaning.specs.Erase.{erased_term, erased_variables}
use Rattle.pb_text_meaning.specs.Syntax.{Name, same_name, Term}
use Rattle.pb_model_tree.specs.Form.{ModelForm}
use Rattle.pb_protocol_packing.specs.Numbers.{Kind, Boolean, Enumeration, Whole}
use Rattle.pb_protocol_packing.specs.Packing.{Member, Group, Alone, Joined}
use Rattle.pb_protocol_packer.specs.Initial.{variable_name}
use Rattle.pb_protocol_packer.specs.Written.{written_number}
use Rattle.pb_protocol_packer.specs.declared.initial_place.Sought.{Sought}
use Rattle.pb_protocol_packer.specs.declared.initial_place.Sought.TheVariants as sought

-- ---- values of `init`

-- a state variable with the value that it begins with, and the value's place
pub record Begun : Type 0 where
  pub name : Name
  pub place : Place
  pub term : Term

-- variables of these names with the values of `init`, as long as there are both
abbrev pub begun_with : List Name → ArgumentForms → List Begun
begun_with (x ∷ xs) (argument p e es) =
    record { name = x; place = p; term = erased_term e } ∷ begun_with xs es
begun_with xs es = []

-- the first of a name
abbrev pub begun_at : List Begun → Name → Option Begun
begun_at [] x = None
begun_at (b ∷ bs) x = if same_name b.name x then Some b else begun_at bs x

-- where values stand
abbrev pub argument_place : Argument → Place
argument_place a = a.place

abbrev pub value_places : ArgumentForms → List Place
value_places no_arguments = []
value_places (argument p e es) = p ∷ value_places es

-- ---- the value of a group at whose place the group's term stands

-- a number that is written and isn't one of the variable's
abbrev pub lies_outside : Member → Kind → Option ℤ → Bool
lies_outside p Boolean n = false
lies_outside p (Enumeration es) n = false
lies_outside p Whole None = false
lies_outside p Whole (Some n) = not (int_le p.low n && int_lt n (p.low +ℤ pos p.size))

-- a number that isn't written
abbrev pub is_computed : Kind → Option ℤ → Bool
is_computed Boolean n = false
is_computed (Enumeration es) n = false
is_computed Whole (Some n) = false
is_computed Whole None = true

abbrev pub is_sought : Sought → Member → Term → Bool
is_sought sought.Outside p x = lies_outside p p.kind (written_number x)
is_sought sought.Computed p x = is_computed p.kind (written_number x)
is_sought sought.Any p x = true

-- the place of the first value that is sought
abbrev pub place_or_next : Sought → Member → Option Begun → Option Place → Option Place
place_or_next s p (Some b) next = if is_sought s p b.term then Some b.place else next
place_or_next s p None next = next

abbrev pub place_sought : Sought → List Begun → List Member → Option Place
place_sought s bs [] = None
place_sought s bs (p ∷ ps) =
    place_or_next s p (begun_at bs p.variable.name) (place_sought s bs ps)

abbrev pub begun_place : Option Begun → Place → Place
begun_place (Some b) q = b.place
begun_place None q = q

-- Of several variables it is the first value that is written outside its variable's range; where
-- there is none the first that isn't written, since that may lie outside; else the first.
abbrev pub joined_place : List Begun → Place → List Member → Place
joined_place bs q ps =
    unwrap_or (place_sought sought.Outside bs ps)
    (unwrap_or (place_sought sought.Computed bs ps)
    (unwrap_or (place_sought sought.Any bs ps) q))

abbrev pub group_place : List Begun → Place → Group → Place
group_place bs q (Alone x) = begun_place (begun_at bs x.name) q
group_place bs q (Joined x ps) = joined_place bs q ps

-- ---- models

abbrev pub begun_in_model : ModelForm → List Begun
begun_in_model m =
    begun_with (map variable_name (erased_variables m.variables)) m.initial.values

-- the places of the terms with which the variables of groups begin, in order
abbrev pub initial_places : List Group → ModelForm → List Place
initial_places gs m = map (group_place (begun_in_model m) m.initial.place) gs
