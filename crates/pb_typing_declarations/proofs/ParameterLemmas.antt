-- An equation's parameters, by the check of their list.
use Rattle.std.proofs.Common.{◌≡◌, List, [], subst, Vec, Global}
use Rattle.std.specs.Prelude.{Result, Ok, Err, MatchResult}
use Rattle.pb_base.specs.declared.limits.TheConstants.{MAX_PARAMETERS}
use Rattle.pb_sorts.specs.declared.carrier.Carrier.{Carrier}
use Rattle.pb_text_tree.specs.Form.{VariableForm, EquationForm}
use Rattle.pb_text_meaning.specs.Syntax.{Spec}
use Rattle.pb_base.specs.declared.or_memory.OrMemory.{OrMemory}
use Rattle.pb_typing_declarations.specs.declared.fault.TypingFault.{TypingFault}
use Rattle.pb_typing_declarations.specs.Faults.{length_faults, IsAmong}
use Rattle.pb_typing_declarations.specs.Reading.{HasVariables, HasParameters}
use Rattle.pb_typing_declarations.specs.Declarations.{limit_faults, variable_names, variables_faults, equation_faults}
use Rattle.pb_typing_declarations.proofs.Parts.{among_right, no_whole}
use Rattle.pb_typing_declarations.proofs.VariableLemmas.{carriers_few}

abbrev Checked : Spec → List VariableForm → Result (Vec Carrier Global) (OrMemory TypingFault) → Type 0
Checked S xs r = MatchResult r (λ carriers. HasVariables S xs carriers.items) (IsAmong (variables_faults S xs))

at_parameters : (S : Spec) (X : EquationForm) (r : Result (Vec Carrier Global) (OrMemory TypingFault))
    → length_faults X.name ≡ [] → limit_faults MAX_PARAMETERS (variable_names X.parameters) ≡ [] → Checked S X.parameters r
    → MatchResult r (λ carriers. HasParameters S X carriers.items) (IsAmong (equation_faults S X))
at_parameters S X (Ok carriers) short few h = record {
  clear = no_whole (length_faults X.name) _ short (no_whole (limit_faults MAX_PARAMETERS (variable_names X.parameters)) _ few h.clear);
  values = h.values;
  shapes = h.shapes;
  few = carriers_few S X.parameters carriers.items MAX_PARAMETERS h.values few;
}
at_parameters S X (Err e) short few h =
    among_right (length_faults X.name) _ e (among_right (limit_faults MAX_PARAMETERS (variable_names X.parameters)) _ e h)

-- the list of variables is that of the parameters
pub parameters_are : (S : Spec) (X : EquationForm) (xs : List VariableForm) (r : Result (Vec Carrier Global) (OrMemory TypingFault)) → xs ≡ X.parameters
    → length_faults X.name ≡ [] → limit_faults MAX_PARAMETERS (variable_names X.parameters) ≡ [] → Checked S xs r
    → MatchResult r (λ carriers. HasParameters S X carriers.items) (IsAmong (equation_faults S X))
parameters_are S X xs r are short few h = at_parameters S X r short few (subst (λ (ys : List VariableForm). Checked S ys r) are h)
