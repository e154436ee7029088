-- The flat model does what the protocol does.
use Rattle.std.specs.Prelude.{◌≡◌, Bool, true, false, List, [], Contains}
use Rattle.std.specs.List.{list_any, list_all}
use Rattle.pb_text_tree.specs.declared.operator.Quantifier.{Quantifier}
use Rattle.pb_text_tree.specs.declared.operator.Quantifier.TheVariants.{Forall, Exists}
use Rattle.pb_text_meaning.specs.Syntax.{Name, Variable}
use Rattle.pb_text_meaning.specs.Meaning.{answer}
use Rattle.pb_model_meaning.specs.Syntax as flat
use Rattle.pb_model_meaning.specs.Steps as flat_steps
use Rattle.pb_model_meaning.specs.Steps.{State}
use Rattle.pb_model_meaning.specs.Satisfaction as flat_satisfaction
use Rattle.pb_model_meaning.specs.Satisfaction.{Valuation}
use Rattle.pb_model_translation.specs.Names.{translation}
use Rattle.pb_model_translation.specs.Apart.{HasNamesApart}
use Rattle.pb_protocol_folding.specs.FoldedModels.{folded_model, folded_property_formula}
use Rattle.pb_protocol_meaning.specs.Syntax.{Step, StepSet, Formula, Property, Protocol}
use Rattle.pb_protocol_meaning.specs.Steps.{data_of, initial_state, is_state, successors}
use Rattle.pb_protocol_meaning.specs.Satisfaction.{satisfying, satisfies}
use Rattle.pb_protocol_unfolding.specs.PutIn.{TermScope, copies}
use Rattle.pb_protocol_unfolding.specs.Whole.{is_among, valued_in, valued_in_set}
use Rattle.pb_protocol_unfolding.specs.Unfolding.{is_whole, unfolded_set, unfolded_formula}
use Rattle.pb_protocol_unfolding.specs.Unfolding.{unfolded}
use Rattle.pb_protocol_unfolding.specs.Hygiene.{HidesNothing}

-- ---- steps that stay whole

-- none of the steps of these names stays whole
abbrev pub NamesNoWhole : Protocol → List Name → Type 0
NamesNoWhole m names = (a : Step) → is_whole m a ≡ true → is_among names a.name ≡ false

-- so it is with those that a property names by values
abbrev pub PropertiesNameNoWhole : Type 0
PropertiesNameNoWhole =
    (m : Protocol) (p : Property) → Contains m.properties p → NamesNoWhole m (valued_in p.formula)

-- ---- the unfolded model

-- its steps lead where those of the protocol do
abbrev pub StepsAreUnfolded : Type 0
StepsAreUnfolded =
    (m : Protocol) → HidesNothing m → (A : StepSet) → NamesNoWhole m (valued_in_set A) →
    (s : State) →
    flat_steps.successors (unfolded m) (unfolded_set m [] A) s ≡ successors m [] A s

-- all, or some
abbrev pub of_formulas : Quantifier → (flat.Formula → Bool) → List flat.Formula → Bool
of_formulas Forall p fs = list_all p fs
of_formulas Exists p fs = list_any p fs

-- what a quantified formula is unfolded to is satisfied where all, or some, of its copies are
abbrev pub QuantifiedFormulasAreCopies : Type 0
QuantifiedFormulasAreCopies =
    (m : Protocol) (V : Valuation) (ρ : TermScope) (q : Quantifier) (xs : List Variable)
    (f : Formula) (s : State) →
    flat_satisfaction.satisfying (unfolded m) V (unfolded_formula m ρ (Formula.Quantified q xs f)) s
    ≡ of_formulas q (λ g. flat_satisfaction.satisfying (unfolded m) V g s)
    (copies (data_of m) xs (λ σ. unfolded_formula m σ f) ρ)

-- its formulas are satisfied where those of the protocol are
abbrev pub FormulasAreUnfolded : Type 0
FormulasAreUnfolded =
    (m : Protocol) → HidesNothing m → (V : Valuation) (f : Formula) →
    NamesNoWhole m (valued_in f) → (s : State) →
    flat_satisfaction.satisfying (unfolded m) V (unfolded_formula m [] f) s
    ≡ satisfying m V [] f s

-- it begins where the protocol does, has the same states, and satisfies what the protocol does
abbrev pub ModelsAreUnfolded : Type 0
ModelsAreUnfolded =
    (m : Protocol) → HidesNothing m →
    (flat_steps.initial_state (unfolded m) ≡ initial_state m) ×
    ((s : State) → flat_steps.is_state (unfolded m) s ≡ is_state m s) ×
    ((f : Formula) → NamesNoWhole m (valued_in f) →
    flat_satisfaction.satisfies (unfolded m) (unfolded_formula m [] f) ≡ satisfies m f)

-- ---- the flat model: the unfolded one, folded

abbrev pub flat_model : Protocol → flat.Model
flat_model m = folded_model (unfolded m)

-- a formula of the protocol's, as one of the flat model's
abbrev pub flat_formula : Protocol → Formula → flat.Formula
flat_formula m f = folded_property_formula (unfolded m) (unfolded_formula m [] f)

-- it satisfies what the protocol does
abbrev pub FlatModelsSatisfyTheSame : Type 0
FlatModelsSatisfyTheSame =
    (m : Protocol) → HidesNothing m → (f : Formula) → NamesNoWhole m (valued_in f) →
    flat_satisfaction.satisfies (flat_model m) (flat_formula m f) ≡ satisfies m f

-- it begins where the protocol does, has the same states, and its steps lead where those of the
-- protocol do
abbrev pub FlatModelsGoTheSame : Type 0
FlatModelsGoTheSame =
    (m : Protocol) → HidesNothing m →
    (flat_steps.initial_state (flat_model m) ≡ initial_state m) ×
    ((s : State) → flat_steps.is_state (flat_model m) s ≡ is_state m s) ×
    ((s : State) →
    flat_steps.successors (flat_model m) flat.StepSet.All s ≡ successors m [] StepSet.All s)

-- the names of its variables are apart, also from those of steps' own variables
abbrev pub FlatNamesAreApart : Type 0
FlatNamesAreApart = (m : Protocol) → HidesNothing m → HasNamesApart (flat_model m)

-- and the text to which it is translated has the answer
abbrev pub FlatTranslationsHaveTheAnswer : Type 0
FlatTranslationsHaveTheAnswer =
    (m : Protocol) → HidesNothing m → (f : Formula) → NamesNoWhole m (valued_in f) →
    answer (translation (flat_model m) (flat_formula m f)) ≡ satisfies m f
