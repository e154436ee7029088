-- What is put in has the value of what it is put in for.
use Rattle.std.specs.Prelude.{◌≡◌, ⊤, List, [], map, Option, Some, None}
use Rattle.pb_base_values.specs.Carrier.{Value}
use Rattle.pb_text_meaning.specs.Syntax.{Name, Term, Terms, Spec}
use Rattle.pb_text_meaning.specs.Sorts.{carrier_of}
use Rattle.pb_text_meaning.specs.Value.{Assignment, value, values}
use Rattle.pb_text_meaning.specs.Meaning.{assigned}
use Rattle.pb_model_meaning.specs.Steps.{State}
use Rattle.pb_protocol_folding.specs.Names.{AreDistinct, enumerators_in, HidesNoEnumerator}
use Rattle.pb_protocol_meaning.specs.Syntax as protocol
use Rattle.pb_protocol_meaning.specs.Syntax.{Definition, Protocol}
use Rattle.pb_protocol_meaning.specs.Meaning.{Functions, meaning}
use Rattle.pb_protocol_meaning.specs.Meaning as function
use Rattle.pb_protocol_meaning.specs.Steps.{data_of, updates, value_after, variables_at}
use Rattle.pb_protocol_unfolding.specs.Written.{written_values}
use Rattle.pb_protocol_unfolding.specs.PutIn.{TermScope, Forms, put_in, reads}
use Rattle.pb_protocol_unfolding.specs.PutIn as form
use Rattle.pb_protocol_unfolding.specs.Unfolding.{Element, variables_of, term_after, valued}
use Rattle.pb_protocol_unfolding.specs.Hygiene.{HidesNothing}

-- ---- written values

-- what is written for the values of a sort has these values
abbrev pub KeepsWrittenValues : Spec → Assignment → Type 0
KeepsWrittenValues spec a =
    (s : Name) → map (value spec a) (written_values spec s) ≡ carrier_of spec s

-- so it is where enumerators' names are apart and none is hidden
abbrev pub WrittenValuesAreKept : Type 0
WrittenValuesAreKept =
    (spec : Spec) (a : Assignment) → AreDistinct (enumerators_in spec.sorts) →
    HidesNoEnumerator spec a → KeepsWrittenValues spec a

-- ---- what names stand for

-- a term has this value, or there is neither
abbrev pub HasValue : Spec → Assignment → Option Term → Option Value → Type 0
HasValue spec a None None = ⊤
HasValue spec a (Some t) (Some v) = value spec a t ≡ v
HasValue spec a None (Some v) = ⊥
HasValue spec a (Some t) None = ⊥

-- what a name becomes with terms has the value that it gives of their values
abbrev pub FormsMean : Spec → Assignment → Forms → Functions → Type 0
FormsMean spec a forms functions =
    (x : Name) (ts : Terms) → HasValue spec a (forms x ts) (functions x (values spec a ts))

-- what terms are put in under: written values are kept, and forms have what functions give
pub record Means (spec : Spec) (a : Assignment) (forms : Forms) (functions : Functions) : Type 0
  where
    pub written : KeepsWrittenValues spec a
    pub enumerators : HidesNoEnumerator spec a
    pub named : FormsMean spec a forms functions

-- ---- laws

-- A term has the value that it has where names stand for the values of what is put in for them.
-- Its quantifiers are written out, and so is counting.
abbrev pub TermsPutInHaveTheValue : Type 0
TermsPutInHaveTheValue =
    (spec : Spec) (a : Assignment) (forms : Forms) (functions : Functions) →
    Means spec a forms functions → (ρ : TermScope) (x : Term) →
    value spec a (put_in spec forms ρ x) ≡ meaning spec functions (valued spec a ρ) x

-- A definition with arguments put in has the value that its term has where its parameters have the
-- arguments' values.
abbrev pub DefinitionsArePutIn : Type 0
DefinitionsArePutIn =
    (spec : Spec) (a : Assignment) (forms : Forms) (functions : Functions) →
    Means spec a forms functions → (definitions : List Definition) →
    Means spec a (form.with_definitions spec forms definitions)
    (function.with_definitions spec functions definitions)

-- what the elements' names stand for at a state
abbrev pub elements_at : Protocol → State → Assignment
elements_at m s = assigned (variables_of m) s []

-- x(t, ..) has the value that x has at the values of t, ..
abbrev pub ElementsAreRead : Type 0
ElementsAreRead =
    (m : Protocol) → HidesNothing m → (s : State) →
    Means (data_of m) (elements_at m s) (reads (data_of m) m.variables)
    (variables_at (data_of m) m.variables s)

-- After all assignments, each for all values of its variables, an element has the value of the last
-- term that is assigned to it: at the values of an index. Else it has the value before.
abbrev pub ElementsAreAssigned : Type 0
ElementsAreAssigned =
    (spec : Spec) (a : Assignment) (forms : Forms) (functions : Functions) →
    Means spec a forms functions →
    (ρ : TermScope) (assignments : List protocol.Assignment) (e : Element) (before : Term) →
    value spec a (term_after spec forms ρ assignments e before)
    ≡ value_after (updates spec functions (valued spec a ρ) assignments) e.array
    (map (value spec a) e.index) (value spec a before)
