-- The flat model: a variable for each element, a step for each tuple of values of its own
-- variables, unless these are too many and it stays whole, and formulas without quantifiers.
use Rattle.std.specs.Prelude.{ℕ, nat_lt, Bool, true, false, ◌&&◌, if◌then◌else◌, List, [], ◌∷◌}
use Rattle.std.specs.Prelude.{◌++◌, map, filter, flat_map, length}
use Rattle.pb_text_tree.specs.declared.operator.Quantifier.{Quantifier}
use Rattle.pb_text_tree.specs.declared.operator.Quantifier.TheVariants.{Forall, Exists}
use Rattle.pb_base_values.specs.Carrier.{Tuple}
use Rattle.pb_text_meaning.specs.Syntax.{Name, same_name, Variable, Operator, Term, Terms, Spec}
use Rattle.pb_text_meaning.specs.Value.{Assignment, value}
use Rattle.pb_model_meaning.specs.Syntax as flat
use Rattle.pb_protocol_folding.specs.Names.{enumerators_in}
use Rattle.pb_protocol_meaning.specs.Syntax.{StateVariable, Step, StepSet, Formula}
use Rattle.pb_protocol_meaning.specs.Syntax.{Property, Protocol}
use Rattle.pb_protocol_meaning.specs.Syntax as protocol
use Rattle.pb_protocol_meaning.specs.Steps.{data_of, has_step}
use Rattle.pb_protocol_unfolding.specs.Written.{written_tuples, element_of}
use Rattle.pb_protocol_unfolding.specs.PutIn.{TermScope, standing, Forms, no_forms, copies, put_in}
use Rattle.pb_protocol_unfolding.specs.PutIn.{all_put_in, choice, reads, with_definitions}
use Rattle.pb_protocol_unfolding.specs.Whole.{stays_whole, valued_by}

-- ---- state variables

-- an element of an array, with its index as it is written
pub record Element : Type 0 where
  pub array : Name
  pub index : List Term
  pub sort : Name

abbrev pub name_of : Element → Name
name_of e = element_of e.array e.index

abbrev pub variable_of : Element → Variable
variable_of e = record { name = name_of e; sort = e.sort }

abbrev pub elements_of : Spec → StateVariable → List Element
elements_of spec y =
    map (λ (ks : List Term). record { array = y.name; index = ks; sort = y.sort })
    (written_tuples spec y.indices)

abbrev pub all_elements : Protocol → List Element
all_elements m = flat_map (elements_of (data_of m)) m.variables

abbrev pub variables_of : Protocol → List Variable
variables_of m = map variable_of (all_elements m)

-- ---- terms

abbrev pub forms_of : Protocol → Forms
forms_of m = with_definitions (data_of m) (reads (data_of m) m.variables) m.definitions

abbrev pub unfolded_term : Protocol → TermScope → Term → Term
unfolded_term m ρ x = put_in (data_of m) (forms_of m) ρ x

abbrev pub terms_of : List Term → Terms
terms_of [] = Terms.NoTerms
terms_of (k ∷ ks) = Terms.Then k (terms_of ks)

-- variables stand for written values
abbrev pub written : List Variable → List Term → TermScope
written xs ks = standing xs (terms_of ks) []

-- ---- steps

-- t == k && ..
abbrev pub is_index : Terms → List Term → Term
is_index Terms.NoTerms [] = Term.Truth true
is_index (Terms.Then t ts) (k ∷ ks) =
    Term.Binary Operator.And (Term.Binary Operator.Equal t k) (is_index ts ks)
is_index Terms.NoTerms (k ∷ ks) = Term.Truth false
is_index (Terms.Then t ts) [] = Term.Truth false

-- an assignment, with what names stand for in it
pub record Copy : Type 0 where
  pub scope : TermScope
  pub assignment : protocol.Assignment

-- one for each tuple of values of its variables, in order
abbrev pub copies_of : Spec → TermScope → protocol.Assignment → List Copy
copies_of spec ρ a = copies spec a.variables (λ σ. record { scope = σ; assignment = a }) ρ

abbrev pub all_copies : Spec → TermScope → List protocol.Assignment → List Copy
all_copies spec ρ assignments = flat_map (copies_of spec ρ) assignments

-- what an element is after all of these; of several to one element the last counts
abbrev pub after_copies : Spec → Forms → List Copy → Element → Term → Term
after_copies spec forms [] e before = before
after_copies spec forms (c ∷ others) e before =
    after_copies spec forms others e
    (if same_name c.assignment.variable e.array then
    choice (is_index (all_put_in spec forms c.scope c.assignment.index) e.index)
    (put_in spec forms c.scope c.assignment.term) before
    else before)

-- and after all assignments
abbrev pub term_after :
    Spec → Forms → TermScope → List protocol.Assignment → Element → Term → Term
term_after spec forms ρ assignments e before =
    after_copies spec forms (all_copies spec ρ assignments) e before

-- of an element that is not assigned this is the element itself
abbrev pub unfolded_assignment :
    Protocol → TermScope → List protocol.Assignment → Element → flat.Assignment
unfolded_assignment m ρ assignments e = record {
  variable = name_of e;
  term = term_after (data_of m) (forms_of m) ρ assignments e (Term.Named (name_of e));
}

-- the names that the own variables of a step that stays whole may not have
abbrev pub flat_names : Protocol → List Name
flat_names m = map name_of (all_elements m) ++ enumerators_in m.sorts

-- how many steps there may be, over all values of their own variables
abbrev pub most_written : ℕ
most_written = 8192

-- whether there are more
abbrev pub has_many_steps : Protocol → Bool
has_many_steps m =
    nat_lt most_written
    (length (flat_map (λ (a : Step). written_tuples (data_of m) a.variables) m.steps))

-- whether a step stays whole, with its own variables: where there are too many
abbrev pub is_whole : Protocol → Step → Bool
is_whole m a = has_many_steps m && stays_whole (flat_names m) (valued_by m.properties) a

-- a step that stays whole, or one with a written value for each of its own variables
pub record Instance : Type 0 where
  pub step : Step
  pub whole : Bool
  pub own : List Term

abbrev pub whole_step : Step → Instance
whole_step a = record { step = a; whole = true; own = [] }

abbrev pub with_own : Step → List Term → Instance
with_own a ks = record { step = a; whole = false; own = ks }

abbrev pub instances_of : Protocol → Step → List Instance
instances_of m a =
    if is_whole m a then whole_step a ∷ []
    else map (with_own a) (written_tuples (data_of m) a.variables)

abbrev pub instances : Protocol → List Instance
instances m = flat_map (instances_of m) m.steps

abbrev pub instance_name : Instance → Name
instance_name i = element_of i.step.name i.own

-- what a step's own variables stand for: in one that stays whole for themselves
abbrev pub own_terms : Bool → List Variable → List Term → List Term
own_terms true xs ks = map (λ (x : Variable). Term.Named x.name) xs
own_terms false xs ks = ks

-- and which of them it keeps
abbrev pub own_left : Bool → List Variable → List Variable
own_left true xs = xs
own_left false xs = []

abbrev pub own_scope : Instance → TermScope
own_scope i = written i.step.variables (own_terms i.whole i.step.variables i.own)

abbrev pub unfolded_step : Protocol → Instance → flat.Step
unfolded_step m i = record {
  name = instance_name i;
  variables = own_left i.whole i.step.variables;
  guard = unfolded_term m (own_scope i) i.step.guard;
  assignments =
      map (unfolded_assignment m (own_scope i) i.step.assignments) (all_elements m);
}

-- ---- sets of steps

-- the values of what is written
abbrev pub values_of : Protocol → List Term → Tuple
values_of m ks = map (value (data_of m) []) ks

-- names stand for the values of what is put in for them
abbrev pub valued : Spec → Assignment → TermScope → Assignment
valued spec a [] = []
valued spec a ((x, t) ∷ ρ) = (x, value spec a t) ∷ valued spec a ρ

-- the steps of these names
abbrev pub named_steps : List Name → flat.StepSet
named_steps [] = flat.StepSet.Complement flat.StepSet.All
named_steps (x ∷ []) = flat.StepSet.Only x
named_steps (x ∷ y ∷ xs) = flat.StepSet.Union (flat.StepSet.Only x) (named_steps (y ∷ xs))

abbrev pub is_in_set : Protocol → TermScope → StepSet → Instance → Bool
is_in_set m ρ A i = has_step m (valued (data_of m) [] ρ) A i.step.name (values_of m i.own)

abbrev pub unfolded_set : Protocol → TermScope → StepSet → flat.StepSet
unfolded_set m ρ StepSet.All = flat.StepSet.All
unfolded_set m ρ A = named_steps (map instance_name (filter (is_in_set m ρ A) (instances m)))

-- ---- formulas

-- f1 && f2 && .. && true, a test: so it is not `true`, over however many values
abbrev pub conjunction : List flat.Formula → flat.Formula
conjunction [] = flat.Formula.Data (Term.Truth true)
conjunction (f ∷ fs) = flat.Formula.And f (conjunction fs)

-- f1 || f2 || .. || false
abbrev pub disjunction : List flat.Formula → flat.Formula
disjunction [] = flat.Formula.Data (Term.Truth false)
disjunction (f ∷ fs) = flat.Formula.Or f (disjunction fs)

abbrev pub joined_formulas : Quantifier → List flat.Formula → flat.Formula
joined_formulas Forall fs = conjunction fs
joined_formulas Exists fs = disjunction fs

abbrev pub unfolded_formula : Protocol → TermScope → Formula → flat.Formula
unfolded_formula m ρ (Formula.Truth b) = flat.Formula.Truth b
unfolded_formula m ρ (Formula.Data x) = flat.Formula.Data (unfolded_term m ρ x)
unfolded_formula m ρ (Formula.Named X) = flat.Formula.Named X
unfolded_formula m ρ (Formula.Not f) = flat.Formula.Not (unfolded_formula m ρ f)
unfolded_formula m ρ (Formula.And f g) =
    flat.Formula.And (unfolded_formula m ρ f) (unfolded_formula m ρ g)
unfolded_formula m ρ (Formula.Or f g) =
    flat.Formula.Or (unfolded_formula m ρ f) (unfolded_formula m ρ g)
unfolded_formula m ρ (Formula.Implies f g) =
    flat.Formula.Implies (unfolded_formula m ρ f) (unfolded_formula m ρ g)
unfolded_formula m ρ (Formula.Box A f) =
    flat.Formula.Box (unfolded_set m ρ A) (unfolded_formula m ρ f)
unfolded_formula m ρ (Formula.Diamond A f) =
    flat.Formula.Diamond (unfolded_set m ρ A) (unfolded_formula m ρ f)
unfolded_formula m ρ (Formula.Fixpoint sign X f) =
    flat.Formula.Fixpoint sign X (unfolded_formula m ρ f)
unfolded_formula m ρ (Formula.Quantified q xs f) =
    joined_formulas q (copies (data_of m) xs (λ σ. unfolded_formula m σ f) ρ)

-- ---- models

-- definitions alone, at the start
abbrev pub forms_at_start : Protocol → Forms
forms_at_start m = with_definitions (data_of m) no_forms m.definitions

-- the term of a variable for each of its elements, the index put in
abbrev pub unfolded_initial : Spec → Forms → List StateVariable → Terms → List Term
unfolded_initial spec forms (y ∷ ys) (Terms.Then x xs) =
    map (λ (ks : List Term). put_in spec forms (written y.indices ks) x)
    (written_tuples spec y.indices) ++ unfolded_initial spec forms ys xs
unfolded_initial spec forms [] xs = []
unfolded_initial spec forms (y ∷ ys) Terms.NoTerms = []

abbrev pub unfolded_property : Protocol → Property → flat.Property
unfolded_property m p = record { name = p.name; formula = unfolded_formula m [] p.formula }

abbrev pub unfolded : Protocol → flat.Model
unfolded m = record {
  sorts = m.sorts;
  ranges = m.ranges;
  variables = variables_of m;
  steps = map (unfolded_step m) (instances m);
  initial = terms_of (unfolded_initial (data_of m) (forms_at_start m) m.variables m.initial);
  properties = map (unfolded_property m) m.properties;
}
