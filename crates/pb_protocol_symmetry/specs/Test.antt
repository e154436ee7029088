-- The kind of a term, computed: the test of a scalar set (Ip and Dill 1996, there by declarations;
-- here by the sorts alone). It may refuse a term that has a kind, never the other way.
use Rattle.std.specs.Prelude.{◌≡◌, Bool, true, false, not, ◌&&◌, if◌then◌else◌, List, [], ◌∷◌}
use Rattle.std.specs.Prelude.{Option, Some, None}
use Rattle.std.specs.List.{list_any}
use Rattle.pb_base_values.specs.Carrier.{Carrier, contains}
use Rattle.pb_text_meaning.specs.declared.function.NamedFunction.{NamedFunction}
use Rattle.pb_text_meaning.specs.declared.function.NamedFunction.TheVariants.{If}
use Rattle.pb_text_meaning.specs.Functions.{named_function}
use Rattle.pb_text_meaning.specs.Syntax.{Name, same_name, Variable, Operator, Term, Terms, Enumerator}
use Rattle.pb_text_meaning.specs.Syntax.{Sort, Struct, Alias, Spec}
use Rattle.pb_text_meaning.specs.Sorts.{carrier_of, declared}
use Rattle.pb_text_counting.specs.Counting.{is_counting}
use Rattle.pb_protocol_symmetry.specs.Permutation.{Kind, Element, Plain, kind_of}
use Rattle.pb_protocol_symmetry.specs.Kinds.{Signature, sort_in, extended, enumerator_value, HasKind}

abbrev pub signature_in : List Signature → Name → Option Signature
signature_in [] x = None
signature_in (s ∷ signatures) x =
    if same_name s.name x then Some s else signature_in signatures x

abbrev pub when : Bool → Kind → Option Kind
when true k = Some k
when false k = None

abbrev pub same_kind : Kind → Kind → Bool
same_kind Element Element = true
same_kind Plain Plain = true
same_kind Element Plain = false
same_kind Plain Element = false

abbrev pub is_plain : Option Kind → Bool
is_plain (Some Plain) = true
is_plain (Some Element) = false
is_plain None = false

abbrev pub is_equality : Operator → Bool
is_equality Operator.Equal = true
is_equality Operator.NotEqual = true
is_equality o = false

abbrev pub operator_kind : Operator → Option Kind → Option Kind → Option Kind
operator_kind o (Some Plain) (Some Plain) = Some Plain
operator_kind o (Some Element) (Some Element) = when (is_equality o) Plain
operator_kind o (Some Plain) (Some Element) = None
operator_kind o (Some Element) (Some Plain) = None
operator_kind o None k = None
operator_kind o (Some j) None = None

abbrev pub has_enumerator : Option Sort → Name → Bool
has_enumerator None x = false
has_enumerator (Some (Struct es)) x = list_any (λ (e : Enumerator). same_name e.name x) es
has_enumerator (Some (Alias s)) x = false

-- an element of the sort only where it isn't moved
abbrev pub enumerator_kind : Spec → Name → Carrier → Name → Option Kind
enumerator_kind spec sort M x =
    let v = enumerator_value spec x in
    if has_enumerator (declared spec.sorts sort) x then
    when (not (contains M v) && contains (carrier_of spec sort) v) Element else Some Plain

-- of a state variable or definition without parameters
abbrev pub bare_kind : List Variable → Option Kind → Option Kind
bare_kind [] k = k
bare_kind (z ∷ zs) k = None

abbrev pub scalar_kind : Option Kind → Option Signature → Option Kind
scalar_kind enumerator None = enumerator
scalar_kind enumerator (Some s) = bare_kind s.parameters s.kind

abbrev pub name_kind : Name → Option Kind → Option Name → Option Kind
name_kind sort other (Some s) = Some (kind_of sort s)
name_kind sort other None = other

-- arguments have the kinds of parameters
abbrev pub are_for : Name → List Variable → List (Option Kind) → Bool
are_for sort [] [] = true
are_for sort (z ∷ zs) (Some k ∷ ks) = same_kind (kind_of sort z.sort) k && are_for sort zs ks
are_for sort (z ∷ zs) (None ∷ ks) = false
are_for sort [] (k ∷ ks) = false
are_for sort (z ∷ zs) [] = false

abbrev pub are_plain : List (Option Kind) → Bool
are_plain [] = true
are_plain (k ∷ ks) = is_plain k && are_plain ks

abbrev pub both_kinds : Option Kind → Option Kind → Option Kind
both_kinds (Some j) (Some k) = when (same_kind j k) j
both_kinds None k = None
both_kinds (Some j) None = None

abbrev pub choice_kind : List (Option Kind) → Option Kind
choice_kind (c ∷ j ∷ k ∷ []) = if is_plain c then both_kinds j k else None
choice_kind (c ∷ j ∷ k ∷ l ∷ ks) = None
choice_kind (c ∷ j ∷ []) = None
choice_kind (c ∷ []) = None
choice_kind [] = None

abbrev pub is_choice : Option NamedFunction → Bool
is_choice (Some If) = true
is_choice g = false

-- in front of brackets: a state variable or definition, `if`, another function
abbrev pub call_kind : Name → List Variable → Option Kind → List (Option Kind) → Option Kind
call_kind sort [] k ks = None
call_kind sort (z ∷ zs) k ks = if are_for sort (z ∷ zs) ks then k else None

abbrev pub function_kind : Bool → List (Option Kind) → Option Kind
function_kind true ks = choice_kind ks
function_kind false ks = when (are_plain ks) Plain

abbrev pub applied_kind : Name → Option Signature → Bool → List (Option Kind) → Option Kind
applied_kind sort (Some s) choice ks = call_kind sort s.parameters s.kind ks
applied_kind sort None choice ks = function_kind choice ks

module _ (spec : Spec) (sort : Name) (M : Carrier) (signatures : List Signature) where
  abbrev mutual
    pub kind_in : List Variable → Term → Option Kind
    kind_in scope (Term.Truth b) = Some Plain
    kind_in scope (Term.Number n) = Some Plain
    kind_in scope (Term.Named x) =
        name_kind sort (scalar_kind (enumerator_kind spec sort M x) (signature_in signatures x))
        (sort_in scope x)
    kind_in scope (Term.Not x) = when (is_plain (kind_in scope x)) Plain
    kind_in scope (Term.Negative x) = when (is_plain (kind_in scope x)) Plain
    kind_in scope (Term.Binary o x y) = operator_kind o (kind_in scope x) (kind_in scope y)
    kind_in scope (Term.Apply f xs) =
        if is_counting f then count_kind scope xs else
        applied_kind sort (signature_in signatures f) (is_choice (named_function f))
        (kinds_in scope xs)
    kind_in scope (Term.Quantified q xs x) =
        when (is_plain (kind_in (extended xs scope) x)) Plain

    pub kinds_in : List Variable → Terms → List (Option Kind)
    kinds_in scope Terms.NoTerms = []
    kinds_in scope (Terms.Then x xs) = kind_in scope x ∷ kinds_in scope xs

    -- of how many values a quantifier's body is true
    pub count_kind : List Variable → Terms → Option Kind
    count_kind scope Terms.NoTerms = None
    count_kind scope (Terms.Then x Terms.NoTerms) = body_kind scope x
    count_kind scope (Terms.Then x (Terms.Then y xs)) = None

    pub body_kind : List Variable → Term → Option Kind
    body_kind scope (Term.Quantified q xs x) =
        when (is_plain (kind_in (extended xs scope) x)) Plain
    body_kind scope x = None

-- a term that passes has the kind
abbrev pub TestedTermsHaveKinds : Type 0
TestedTermsHaveKinds =
    (spec : Spec) (sort : Name) (M : Carrier) (signatures : List Signature)
    (scope : List Variable) (x : Term) (k : Kind) →
    kind_in spec sort M signatures scope x ≡ Some k → HasKind spec sort M signatures scope k x
