use Rattle.std.proofs.Common.{◌≡◌, ◌∙◌, List, [], Vec, Global, ap, subst, Result, Ok, Err}
use Rattle.std.specs.Prelude.{MatchResult, IfOk}
use Rattle.pb_sorts.specs.declared.carrier.Carrier.{Carrier}
use Rattle.pb_base.specs.declared.or_memory.OrMemory.{OrMemory}
use Rattle.pb_text_tree.specs.Form.{VariableForm, variable_forms}
use Rattle.pb_text_meaning.specs.Syntax.{Spec}
use Rattle.pb_text_meaning.specs.Erase.{erased_variables}
use Rattle.pb_typing_declarations.specs.declared.fault.TypingFault.{TypingFault}
use Rattle.pb_typing_declarations.specs.Declarations.{variables_faults}
use Rattle.pb_typing_declarations.specs.Entries.{shapes_of}
use Rattle.pb_typing_declarations.specs.Faults.{IsAmong}
use Rattle.pb_typing_declarations.specs.Reading.{HasVariables}
use Rattle.pb_typing_declarations.specs.Shapes.{variable_shapes}
use Rattle.pb_typing_declarations.specs.Variables.{variables_of}
use Rattle.pb_typing_declarations.specs.View.{limit_of, spec_of, text_of}
use Rattle.pb_typing_declarations.proofs.DeclaredEnds.{faultless_ends}
use Rattle.pb_typing_declarations.proofs.declarations.Declarations.check_variables.Goals as goal
use Rattle.pb_typing_declarations.proofs.declarations.Declarations.check_variables.Goals.{After-deref}

abbrev Found : Spec → List VariableForm → Result (Vec Carrier Global) (OrMemory TypingFault) → Type 0
Found S xs r = MatchResult r (λ carriers. HasVariables S xs carriers.items) (IsAmong (variables_faults S xs))

checked : (S : Spec) (xs : List VariableForm) (r : Result (Vec Carrier Global) (OrMemory TypingFault)) → Found S xs r
    → MatchResult r (λ _. variables_faults S xs ≡ []) (IsAmong (variables_faults S xs))
checked S xs (Ok carriers) h = h.clear
checked S xs (Err e) h = h

shown : (S : Spec) (xs : List VariableForm) (r : Result (Vec Carrier Global) (OrMemory TypingFault)) → Found S xs r
    → IfOk r (λ carriers. shapes_of carriers.items ≡ variable_shapes S (erased_variables xs))
shown S xs (Ok carriers) h = h.shapes
shown S xs (Err e) h = tt

pub variable_carriers-requires : goal.variable_carriers-requires
variable_carriers-requires c = faultless_ends (limit_of c.args.self.now) (text_of c.args.self.now) c.args.self.now.faultless

-- the variables of the entries are those of the groups
of_groups : (c : After-deref) (r : Result (Vec Carrier Global) (OrMemory TypingFault)) → Found (spec_of c.args.self.now) (variables_of c.deref.result.now) r
    → Found (spec_of c.args.self.now) (variable_forms c.args.groups.now) r
of_groups c r h = subst (λ (xs : List VariableForm). Found (spec_of c.args.self.now) xs r) (ap variables_of c.deref.ensures.value ∙ c.in_ok-variables.ensures) h

pub returns-clause-checked : goal.returns-clause-checked
returns-clause-checked c =
    let r = c.variable_carriers in
    checked (spec_of c.args.self.now) (variable_forms c.args.groups.now) r.result (of_groups (goal.at.returns-clause-checked c).After-deref r.result r.ensures)

pub returns-clause-shapes : goal.returns-clause-shapes
returns-clause-shapes c =
    let r = c.variable_carriers in
    shown (spec_of c.args.self.now) (variable_forms c.args.groups.now) r.result (of_groups (goal.at.returns-clause-shapes c).After-deref r.result r.ensures)
