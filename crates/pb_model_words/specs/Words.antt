-- How values, states and moves of a model are written, in a vocabulary.
use Rattle.std.specs.Prelude.{ℕ, zero, suc, ◌==◌, pos, negsuc, Bool, true, false, ◌&&◌}
use Rattle.std.specs.Prelude.{if◌then◌else◌, List, [], ◌∷◌, ◌++◌, map, length, Option, Some, None}
use Rattle.std.specs.Prelude.{codes}
use Rattle.std.specs.Fmt.{signed_decimal}
use Rattle.std.specs.List.{find, slice_get}
use Rattle.std.specs.Ordering.{int_eq}
use Rattle.pb_base_values.specs.Carrier.{Value, Tuple, of_bool}
use Rattle.pb_text_tree.specs.declared.place.Place.{Place}
use Rattle.pb_text_tree.specs.Form.{VariableForm}
use Rattle.pb_text_meaning.specs.Syntax.{Name, same_name, Enumerator, Sort, Struct, Alias}
use Rattle.pb_text_meaning.specs.Syntax.{SortDeclaration}
use Rattle.pb_text_meaning.specs.Sorts.{declared}
use Rattle.pb_text_meaning.specs.Erase.{erased_declaration}
use Rattle.pb_model_words.specs.Vocabulary.{ToldStep, Vocabulary}
use Rattle.pb_model_words.specs.Arrays.{VariableValue, state_values}
use Rattle.pb_model_words.specs.States.{says, says_after}

-- ---- values

-- a truth value, of which 0 is false
abbrev pub truth_text : Value → List ℕ
truth_text v = if int_eq v (of_bool false) then codes "false" else codes "true"

-- the name of an enumerator that may be missing
abbrev pub name_of_enumerator : Option Enumerator → List ℕ
name_of_enumerator None = []
name_of_enumerator (Some e) = e.name

-- the enumerator at a place; nothing where there is none
abbrev pub enumerator_text : List Enumerator → Value → List ℕ
enumerator_text es (pos k) = name_of_enumerator (slice_get es k)
enumerator_text es (negsuc k) = []

-- by what the sort is declared to be; what isn't declared is a sort of whole numbers
abbrev pub value_by : Bool → Option Sort → (Name → Value → List ℕ) → Value → List ℕ
value_by true sort target v = truth_text v
value_by false None target v = signed_decimal v
value_by false (Some (Struct es)) target v = enumerator_text es v
value_by false (Some (Alias s)) target v = target s v

-- through at most n sorts
abbrev pub value_within : ℕ → List SortDeclaration → Name → Value → List ℕ
value_within zero sorts s v = signed_decimal v
value_within (suc n) sorts s v =
    value_by (same_name s (codes "Bool")) (declared sorts s) (value_within n sorts) v

-- a value of a sort: no chain of aliases is longer than the list of sorts
abbrev pub value_text : List SortDeclaration → Name → Value → List ℕ
value_text sorts s v = value_within (suc (length sorts)) sorts s v

-- a variable, a sign and a value of its sort
abbrev pub binding_text : List SortDeclaration → VariableForm → List ℕ → Value → List ℕ
binding_text sorts x sign v = x.name.text ++ (sign ++ value_text sorts x.sort.text v)

-- ---- lists of words

-- words, each behind a mark: the first one has its own, all others have the next one
abbrev pub marked : List ℕ → List ℕ → List (List ℕ) → List ℕ
marked first next [] = []
marked first next (w ∷ ws) = first ++ (w ++ marked next next ws)

-- `(v,w)`, and nothing where there are no words
abbrev pub in_brackets : List (List ℕ) → List ℕ
in_brackets [] = []
in_brackets (w ∷ ws) = marked (codes "(") (codes ",") (w ∷ ws) ++ codes ")"

-- ---- states

-- the sorts of a vocabulary
abbrev pub sorts_of : Vocabulary → List SortDeclaration
sorts_of m = map erased_declaration m.sorts

-- `p = idle`
abbrev pub equation_text : List SortDeclaration → VariableValue → List ℕ
equation_text sorts e = e.name ++ (codes " = " ++ value_text sorts e.sort e.value)

-- one for each variable, and for an array of equal elements one: `said = none`
abbrev pub equations : List SortDeclaration → List VariableForm → Tuple → List (List ℕ)
equations sorts xs vs = map (equation_text sorts) (state_values xs vs)

-- `p = idle, said = none`
abbrev pub state_text : Vocabulary → Tuple → List ℕ
state_text m s = marked [] (codes ", ") (equations (sorts_of m) m.variables (says m s))

-- values of variables
abbrev pub value_texts : List SortDeclaration → List VariableForm → Tuple → List (List ℕ)
value_texts sorts (x ∷ xs) (v ∷ vs) =
    value_text sorts x.sort.text v ∷ value_texts sorts xs vs
value_texts sorts xs vs = []

-- a state by its values alone: `(idle,3)`
abbrev pub values_text : Vocabulary → Tuple → List ℕ
values_text m s = in_brackets (value_texts (sorts_of m) m.variables (says m s))

-- ---- moves

-- `p := trying` for each variable whose value after isn't the one before
abbrev pub changes : List SortDeclaration → List VariableForm → Tuple → Tuple → List (List ℕ)
changes sorts (x ∷ xs) (v ∷ vs) (w ∷ ws) =
    if int_eq v w then changes sorts xs vs ws
    else binding_text sorts x (codes " := ") w ∷ changes sorts xs vs ws
changes sorts xs vs ws = []

-- `: p := trying, n := 4`, and nothing where no value is another one
abbrev pub changes_text : Vocabulary → Tuple → Tuple → List ℕ
changes_text m before after =
    marked (codes ": ") (codes ", ")
    (changes (sorts_of m) m.variables (says m before) (says_after m before after))

-- a step's name stands at the place
abbrev pub stands_at : Place → ToldStep → Bool
stands_at p a = (a.name.place.line == p.line) && (a.name.place.column == p.column)

-- the first step whose name stands at the place
abbrev pub step_at : Vocabulary → Place → Option ToldStep
step_at m p = find (stands_at p) m.steps

-- a step's name with values of its own variables in brackets: `put(1,green)`
abbrev pub named_step : List SortDeclaration → ToldStep → Tuple → List ℕ
named_step sorts a own = a.name.text ++ in_brackets (value_texts sorts a.variables own)

-- a step with its own values; with no step the state stays
abbrev pub step_text : List SortDeclaration → Option ToldStep → Tuple → List ℕ
step_text sorts None own = codes "stays"
step_text sorts (Some a) own = named_step sorts a own

-- the step at a place with its own values, and the values that are others after it:
-- `put(1,green): x := 1`
abbrev pub move_text : Vocabulary → Place → Tuple → Tuple → Tuple → List ℕ
move_text m place own before after =
    step_text (sorts_of m) (step_at m place) own ++ changes_text m before after

-- ---- marks

-- a step with its own values behind a sign; nothing where there is no step
abbrev pub step_mark : List SortDeclaration → Option ToldStep → Tuple → List ℕ
step_mark sorts None own = []
step_mark sorts (Some a) own = codes "@" ++ named_step sorts a own

-- the step at a place with its own values: `@put(1,green)`
abbrev pub mark_text : Vocabulary → Place → Tuple → List ℕ
mark_text m place own = step_mark (sorts_of m) (step_at m place) own
