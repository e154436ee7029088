-- Flat models of folded terms: steps that can't be taken are gone, and so are their names in the
-- formulas' sets of steps.
use Rattle.std.specs.Prelude.{Bool, true, false, not, if◌then◌else◌, List, [], ◌∷◌, map, filter}
use Rattle.std.specs.Prelude.{Option, Some, None}
use Rattle.std.specs.List.{list_any}
use Rattle.pb_text_tree.specs.declared.operator.Quantifier.{Quantifier}
use Rattle.pb_text_tree.specs.declared.operator.Quantifier.TheVariants.{Forall, Exists}
use Rattle.pb_text_meaning.specs.Syntax.{Name, same_name, Term, Spec}
use Rattle.pb_model_meaning.specs.Syntax.{Assignment, Step, StepSet, Formula, Property, Model}
use Rattle.pb_model_meaning.specs.Steps.{data_of}
use Rattle.pb_model_translation.specs.Positive.{is_constant}
use Rattle.pb_protocol_folding.specs.Folding.{truth_value, is_false, folded, folded_arguments}

-- ---- steps

abbrev pub folded_assignment : Spec → Assignment → Assignment
folded_assignment spec a = record { variable = a.variable; term = folded spec false a.term }

-- whether a term is this name
abbrev pub is_name : Name → Term → Bool
is_name x (Term.Named y) = same_name x y
is_name x t = false

-- whether an assignment isn't x := x
abbrev pub is_change : Assignment → Bool
is_change a = not (is_name a.variable a.term)

-- what is assigned, without x := x
abbrev pub folded_assignments : Spec → List Assignment → List Assignment
folded_assignments spec assignments = filter is_change (map (folded_assignment spec) assignments)

abbrev pub folded_step : Spec → Step → Step
folded_step spec a = record {
  name = a.name;
  variables = a.variables;
  guard = folded spec true a.guard;
  assignments = folded_assignments spec a.assignments;
}

-- whether a step may be taken; else its guard is `false`
abbrev pub is_possible : Step → Bool
is_possible a = not (is_false a.guard)

abbrev pub folded_steps : Spec → List Step → List Step
folded_steps spec steps = filter is_possible (map (folded_step spec) steps)

-- ---- sets of steps

-- whether a step of this name is left
abbrev pub is_left : Model → Name → Bool
is_left m x = list_any (λ (a : Step). same_name a.name x) (folded_steps (data_of m) m.steps)

-- whether a set is that of all steps, and whether it is written as that of no step
abbrev pub is_all : StepSet → Bool
is_all StepSet.All = true
is_all A = false

abbrev pub is_none : StepSet → Bool
is_none (StepSet.Complement A) = is_all A
is_none A = false

abbrev pub folded_only : Bool → Name → StepSet
folded_only left x = if left then StepSet.Only x else StepSet.Complement StepSet.All

abbrev pub folded_union : StepSet → StepSet → StepSet
folded_union A B = if is_none A then B else if is_none B then A else StepSet.Union A B

-- a set without the names of steps that aren't left
abbrev pub folded_set : (Name → Bool) → StepSet → StepSet
folded_set left StepSet.All = StepSet.All
folded_set left (StepSet.Only x) = folded_only (left x) x
folded_set left (StepSet.Complement A) = StepSet.Complement (folded_set left A)
folded_set left (StepSet.Union A B) = folded_union (folded_set left A) (folded_set left B)

-- ---- connectives of formulas, by what is decided

-- what a formula says that is a written truth value as data
abbrev pub decided : Formula → Option Bool
decided (Formula.Data x) = truth_value x
decided f = None

-- `true` and `false` themselves stay where they are, since in them a successor outside the ranges
-- is seen
abbrev pub unless_constant : Formula → Formula → Formula
unless_constant f whole = if is_constant f then whole else f

abbrev pub and_formula : Option Bool → Option Bool → Formula → Formula → Formula
and_formula (Some true) p f g = unless_constant g (Formula.And f g)
and_formula (Some false) p f g = f
and_formula None (Some true) f g = unless_constant f (Formula.And f g)
and_formula None (Some false) f g = g
and_formula None None f g = Formula.And f g

abbrev pub or_formula : Option Bool → Option Bool → Formula → Formula → Formula
or_formula (Some true) p f g = f
or_formula (Some false) p f g = unless_constant g (Formula.Or f g)
or_formula None (Some true) f g = g
or_formula None (Some false) f g = unless_constant f (Formula.Or f g)
or_formula None None f g = Formula.Or f g

abbrev pub implies_formula : Option Bool → Option Bool → Formula → Formula → Formula
implies_formula (Some true) p f g = unless_constant g (Formula.Implies f g)
implies_formula (Some false) p f g = Formula.Data (Term.Truth true)
implies_formula None (Some true) f g = g
implies_formula None (Some false) f g = Formula.Not f
implies_formula None None f g = Formula.Implies f g

abbrev pub not_formula : Option Bool → Formula → Formula
not_formula (Some b) f = Formula.Data (Term.Truth (not b))
not_formula None f = Formula.Not f

-- f && g, f || g, f => g and !f of folded operands
abbrev pub folded_and_formula : Formula → Formula → Formula
folded_and_formula f g = and_formula (decided f) (decided g) f g

abbrev pub folded_or_formula : Formula → Formula → Formula
folded_or_formula f g = or_formula (decided f) (decided g) f g

abbrev pub folded_implies_formula : Formula → Formula → Formula
folded_implies_formula f g = implies_formula (decided f) (decided g) f g

abbrev pub folded_not_formula : Formula → Formula
folded_not_formula f = not_formula (decided f) f

-- f1 && .. && fn && true and f1 || .. || fn || false of folded operands
abbrev pub folded_joined_formula : Quantifier → List Formula → Formula
folded_joined_formula Forall [] = Formula.Data (Term.Truth true)
folded_joined_formula Exists [] = Formula.Data (Term.Truth false)
folded_joined_formula Forall (f ∷ fs) = folded_and_formula f (folded_joined_formula Forall fs)
folded_joined_formula Exists (f ∷ fs) = folded_or_formula f (folded_joined_formula Exists fs)

-- ---- formulas and models

-- a formula about the steps that are left
abbrev pub folded_formula : Spec → (Name → Bool) → Formula → Formula
folded_formula spec left (Formula.Truth b) = Formula.Truth b
folded_formula spec left (Formula.Data x) = Formula.Data (folded spec true x)
folded_formula spec left (Formula.Named X) = Formula.Named X
folded_formula spec left (Formula.Not f) = folded_not_formula (folded_formula spec left f)
folded_formula spec left (Formula.And f g) =
    folded_and_formula (folded_formula spec left f) (folded_formula spec left g)
folded_formula spec left (Formula.Or f g) =
    folded_or_formula (folded_formula spec left f) (folded_formula spec left g)
folded_formula spec left (Formula.Implies f g) =
    folded_implies_formula (folded_formula spec left f) (folded_formula spec left g)
folded_formula spec left (Formula.Box A f) =
    Formula.Box (folded_set left A) (folded_formula spec left f)
folded_formula spec left (Formula.Diamond A f) =
    Formula.Diamond (folded_set left A) (folded_formula spec left f)
folded_formula spec left (Formula.Fixpoint sign X f) =
    Formula.Fixpoint sign X (folded_formula spec left f)

-- a formula of a model's, as one of the folded model's
abbrev pub folded_property_formula : Model → Formula → Formula
folded_property_formula m f = folded_formula (data_of m) (is_left m) f

abbrev pub folded_property : Model → Property → Property
folded_property m p = record { name = p.name; formula = folded_property_formula m p.formula }

abbrev pub folded_model : Model → Model
folded_model m = record {
  sorts = m.sorts;
  ranges = m.ranges;
  variables = m.variables;
  steps = folded_steps (data_of m) m.steps;
  initial = folded_arguments (data_of m) false m.initial;
  properties = map (folded_property m) m.properties;
}
