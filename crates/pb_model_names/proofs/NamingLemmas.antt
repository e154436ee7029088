-- Names are given one after another, to equations of one part of a formula and then to those of another.
use Rattle.std.proofs.Common.{◌≡◌, Bool, true, false, List, [], ◌∷◌, ◌++◌, refl, sym, ap, ◌∙◌, append_assoc, subst, Box, Global, if◌then◌else◌}
use Rattle.std.specs.HashSet.{contains_text}
use Rattle.std.specs.List.{list_any}
use Rattle.std.specs.Prelude.{box_value}
use Rattle.pb_text_meaning.specs.Syntax.{Name, same_name}
use Rattle.pb_text_tree.specs.declared.place.Place.{Place}
use Rattle.pb_model_tree.specs.declared.formula.Formula as formula
use Rattle.pb_model_tree.specs.declared.formula.Formula.{Formula}
use Rattle.pb_model_tree.specs.declared.formula.Modality.{Modality}
use Rattle.pb_model_tree.specs.declared.formula.Modality.TheVariants as modality
use Rattle.pb_model_tree.specs.declared.step_set.StepSet.{StepSet}
use Rattle.pb_model_translation.specs.Translation.{has_equation}
use Rattle.pb_model_translation.specs.Names.{Wanted, operand_named, new_name, wanted_names, with_name}
use Rattle.pb_model_names.specs.declared.naming.Naming.{Naming}
use Rattle.pb_model_names.specs.Given.{with_given}
use Rattle.pb_model_names.specs.Naming.{IsNaming, Gives, GivesName}
use Rattle.pb_model_names.specs.Taken.{NameSet, IsSetOf, Adds}
use Rattle.pb_model_names.specs.View.{formula_of, names_in}
use Rattle.pb_model_names.proofs.GivenLemmas.{with_given-append}

pub gives-none : (n : Naming) → Gives n n []
gives-none n variables h = (h, refl)

pub gives-both : (a b c : Naming) (ws vs all : List Wanted) → all ≡ ws ++ vs → Gives a b ws → Gives b c vs → Gives a c all
gives-both a b c ws vs all e first second variables h =
    let one = first variables h in
    let two = second variables one.0 in (
      two.0,
      two.1 ∙ ap (λ (xs : List Name). with_given variables xs vs) one.1 ∙ sym (with_given-append variables (names_in a.names.items) ws vs)
          ∙ ap (with_given variables (names_in a.names.items)) (sym e),
    )

-- a name is given, and both sets have it
pub name-given : (old new : Naming) (x : Name) → names_in new.names.items ≡ names_in old.names.items ++ (x ∷ []) → Adds old.for_operands.names new.for_operands.names (x ∷ [])
    → Adds old.for_fixpoints.names new.for_fixpoints.names (x ∷ []) → GivesName old new x
name-given old new x names operands fixpoints = (
  names,
  λ variables h. (
    subst (λ (xs : List Name). IsSetOf xs new.for_operands.names)
        (append_assoc variables (names_in old.names.items) (x ∷ []) ∙ ap (λ (xs : List Name). variables ++ xs) (sym names))
        (operands (variables ++ names_in old.names.items) h.0),
    subst (λ (xs : List Name). IsSetOf xs new.for_fixpoints.names) (sym names) (fixpoints (names_in old.names.items) h.1),
  ),
)

-- the names are the same
same-naming : (old new : Naming) (variables : List Name) → new.names ≡ old.names → new.for_operands.names ≡ old.for_operands.names → new.for_fixpoints.names ≡ old.for_fixpoints.names
    → IsNaming variables old → IsNaming variables new
same-naming old new variables names operands fixpoints h =
    let all : names_in new.names.items ≡ names_in old.names.items = ap (λ v. names_in v.items) names in (
      λ x. ap (λ (s : NameSet). contains_text s x) operands ∙ h.0 x ∙ ap (λ (xs : List Name). list_any (same_name x) (variables ++ xs)) (sym all),
      λ x. ap (λ (s : NameSet). contains_text s x) fixpoints ∙ h.1 x ∙ ap (λ (xs : List Name). list_any (same_name x) xs) (sym all),
    )

-- a name is given to the equation that wants it
module _ (old : Naming) (w : Wanted) where
  abbrev given : List Name
  given = names_in old.names.items

  pub wanted-given : (middle new : Naming) (x : Name) → middle.names ≡ old.names → middle.for_operands.names ≡ old.for_operands.names → middle.for_fixpoints.names ≡ old.for_fixpoints.names
      → ((variables : List Name) → IsNaming variables old → x ≡ new_name (if w.is_operand then variables ++ given else given) w.name) → GivesName middle new x → Gives old new (w ∷ [])
  wanted-given middle new x names operands fixpoints is named variables h = (
    named.1 variables (same-naming old middle variables names operands fixpoints h),
    named.0 ∙ ap (λ v. names_in v.items ++ (x ∷ [])) names ∙ ap (λ (y : Name). given ++ (y ∷ [])) (is variables h),
  )

-- ---- modalities

pub wanted-modal : (around : Name) (place : Place) (m : Modality) (steps : StepSet) (operand : Box Formula Global)
    → wanted_names around (formula_of (formula.Modal place m steps operand))
    ≡ with_name (has_equation (formula_of (box_value operand))) (operand_named around) (wanted_names around (formula_of (box_value operand)))
wanted-modal around place modality.Box steps operand = refl
wanted-modal around place modality.Diamond steps operand = refl

-- a name is given, or none is wanted
pub gives-one : (b : Bool) (old new : Naming) (w : Wanted) → true ≡ b → Gives old new (w ∷ []) → Gives old new (with_name b w [])
gives-one b old new w is = subst (λ (b : Bool). Gives old new (with_name b w [])) is

pub gives-no_name : (b : Bool) (n : Naming) (w : Wanted) → false ≡ b → Gives n n (with_name b w [])
gives-no_name b n w is = subst (λ (b : Bool). Gives n n (with_name b w [])) is (gives-none n)
