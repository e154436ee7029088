-- What the check finds of a part: no fault, and its typed tree; or a fault.
use Rattle.std.specs.Prelude.{◌≡◌, ℕ, Bool, true, ◌++◌, [], List, Result}
use Rattle.std.specs.Prelude.{MatchResult, Some, map}
use Rattle.pb_text_tree.specs.declared.place.Place.{Place}
use Rattle.pb_text_tree.specs.Form.{FormulaForm, InstanceForm, TermForm}
use Rattle.pb_text_meaning.specs.Syntax.{Spec}
use Rattle.pb_text_meaning.specs.Erase.{erased_arguments, erased_formula, erased_term}
use Rattle.pb_typing_declarations.specs.declared.fault.TypingRule.TheVariants.{WrongKind}
use Rattle.pb_typing_declarations.specs.declared.fault.TypingFault.{TypingFault}
use Rattle.pb_base.specs.declared.or_memory.OrMemory.{OrMemory}
use Rattle.pb_typing_declarations.specs.Faults.{IsAmong, unless}
use Rattle.pb_typing_declarations.specs.Shapes.{Shape}
use Rattle.pb_typing_rules.specs.Faults.{formula_faults, term_faults}
use Rattle.pb_typing_rules.specs.Scope.{Scope}
use Rattle.pb_typing_rules.specs.Shapes.{may_be_truth}
use Rattle.pb_typing_rules.specs.Term.{shape}
use Rattle.pb_typing_tree.specs.declared.formula.Formula as code
use Rattle.pb_typing_tree.specs.Elaboration.{Slotting, arguments, elaborated, place_of}
use Rattle.pb_typing_tree.specs.Expansion.{expanded, expanded_term}
use Rattle.pb_typing_tree.specs.Tree.{Formula}
use Rattle.pb_typing_tree.specs.View.{argument_view, formula_view}
use Rattle.pb_typing.specs.declared.instance.Call.{Call}
use Rattle.pb_typing.specs.declared.joined.Value as program
use Rattle.pb_typing.specs.Value.{TermValue, term_value}
use Rattle.pb_typing.specs.ValueView.{value_shape, value_view}

-- ---- data below val

abbrev pub ElaboratesValue : List TypingFault → Shape → TermValue
    → Result program.Value (OrMemory TypingFault) → Type 0
ElaboratesValue all s v result =
    MatchResult result (λ r. (all ≡ []) × (value_shape r ≡ s) × (value_view r ≡ v)) (IsAmong all)

-- a term where quantifiers may stand, the slots from n on being free
abbrev pub ChecksValueIn : Spec → Scope → Slotting → ℕ → TermForm
    → Result program.Value (OrMemory TypingFault) → Type 0
ChecksValueIn S a c n x result =
    ElaboratesValue (term_faults S true a x) (shape S a (erased_term x))
    (term_value S c a n (erased_term x)) result

-- ---- formulas

abbrev pub ElaboratesFormula : List TypingFault → Formula
    → Result code.Formula (OrMemory TypingFault) → Type 0
ElaboratesFormula all f result =
    MatchResult result (λ r. (all ≡ []) × (formula_view r ≡ f)) (IsAmong all)

-- a term that must be a Boolean at a place that wants one
abbrev pub truth_faults : Spec → Scope → TermForm → Place → List TypingFault
truth_faults S a x place =
    term_faults S true a x ++ unless (may_be_truth (shape S a (erased_term x))) WrongKind place

abbrev pub ChecksTruthIn : Spec → Scope → Slotting → ℕ → TermForm → Place
    → Result code.Formula (OrMemory TypingFault) → Type 0
ChecksTruthIn S a c n x place result =
    ElaboratesFormula (truth_faults S a x place)
    (elaborated S c a n (expanded_term (erased_term x))) result

abbrev pub ChecksFormulaIn : Spec → Scope → Slotting → Bool → ℕ → FormulaForm
    → Result code.Formula (OrMemory TypingFault) → Type 0
ChecksFormulaIn S a c even n f result =
    ElaboratesFormula (formula_faults S even a f)
    (elaborated S c a n (expanded (erased_formula f))) result

-- an instance of the equation that has its name, with its arguments
pub record IsCall (S : Spec) (a : Scope) (c : Slotting) (i : InstanceForm) (call : Call)
    : Type 0 where
  pub equation : place_of 0 S.equations i.name.text ≡ Some call.equation
  pub arguments : map argument_view call.arguments.items
      ≡ arguments S c a (erased_arguments i.arguments)
