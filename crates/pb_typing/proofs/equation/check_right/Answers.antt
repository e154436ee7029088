use Rattle.std.proofs.Common.{◌≡◌, ℕ, [], true, List, length, ◌∙◌, sym, ap, subst, arith, Result, Ok, Err}
use Rattle.std.specs.Prelude.{MatchResult}
use Rattle.std.proofs.lemmas.List.{length-map}
use Rattle.pb_sorts.specs.declared.carrier.Carrier.{Carrier}
use Rattle.pb_text_tree.specs.declared.variable.Variables.{Variables}
use Rattle.pb_text_tree.specs.declared.formula.Formula as ast
use Rattle.pb_text_tree.specs.declared.spec.Equation as declared
use Rattle.pb_text_tree.specs.Form.{equation_form, formula_form, variable_forms}
use Rattle.pb_text_meaning.specs.Erase.{erased_variable}
use Rattle.pb_text_meaning.specs.Syntax.{Spec}
use Rattle.pb_base.specs.declared.or_memory.OrMemory.{OrMemory}
use Rattle.pb_typing_declarations.specs.declared.fault.TypingFault.{TypingFault}
use Rattle.pb_typing_declarations.specs.Entries.{shapes_of}
use Rattle.pb_typing_declarations.specs.Faults.{IsAmong}
use Rattle.pb_typing_declarations.specs.View.{spec_of}
use Rattle.pb_typing_rules.specs.Faults.{formula_faults}
use Rattle.pb_typing_rules.specs.Scope.{Scope, bound, outermost}
use Rattle.pb_typing_tree.specs.declared.formula.Equation.{Equation}
use Rattle.pb_typing_tree.specs.Elaboration.{Slotting, unslotted, with_slots}
use Rattle.pb_typing_tree.specs.Loops.{variable_shapes}
use Rattle.pb_typing.specs.Rights.{IsRight, IsRightIn, right_own_faults}
use Rattle.pb_typing_nodes.specs.Scopes.{inner_slots}
use Rattle.pb_typing_nodes.proofs.SlotLemmas.{inner_scope, inner_slotting, length-shapes, length-variables, variables_of}
use Rattle.pb_typing.proofs.equation.check_right.Goals as goal

-- what is found of a right side in a scope
abbrev Found : Spec → ast.Formula → Result Equation (OrMemory TypingFault) → Scope → Slotting → ℕ → Type 0
Found S f r a c n = MatchResult r (λ X. (formula_faults S true a (formula_form f) ≡ []) × IsRightIn S a c n f X) (IsAmong (formula_faults S true a (formula_form f)))

-- under an equation's parameters it is the equation's
made : (S : Spec) (X : declared.Equation) (r : Result Equation (OrMemory TypingFault))
    → Found S X.right r (bound S (variables_of X.parameters.items) outermost) (with_slots (variables_of X.parameters.items) 0 unslotted) (length (variables_of X.parameters.items))
    → MatchResult r (λ Y. (right_own_faults S (equation_form X) ≡ []) × IsRight S (equation_form X) Y) (IsAmong (right_own_faults S (equation_form X)))
made S X (Ok Y) h = (h.0, record { right = h.1.right; loops = h.1.loops; calls = h.1.calls })
made S X (Err e) h = h

counted : (S : Spec) (groups : List Variables) (carriers : List Carrier) → shapes_of carriers ≡ variable_shapes S (variables_of groups) → length carriers ≡ length (variables_of groups)
counted S groups carriers are =
    let shapes = length-shapes carriers in
    let variables = length-variables S (variables_of groups) in
    let same : length (shapes_of carriers) ≡ length (variable_shapes S (variables_of groups)) = ap length are in
    omega (arith, shapes, variables, same)

pub declare_variables-requires : goal.declare_variables-requires
declare_variables-requires c =
    let count = counted (spec_of c.args.declarations.now) c.args.equation.now.parameters.items c.args.parameters.now c.requires.parameters in
    let forms = length-map (variable_forms c.args.equation.now.parameters.items) erased_variable in
    let same : length (variable_forms c.deref.result.now) ≡ length (variable_forms c.args.equation.now.parameters.items) =
    ap (λ (gs : List Variables). length (variable_forms gs)) c.deref.ensures.value in
    omega (arith, count, forms, same)

pub returns : goal.returns
returns c =
    let S = spec_of c.args.declarations.now in
    let groups = c.args.equation.now.parameters.items in
    let xs = variables_of groups in
    let f = c.args.equation.now.right in
    let r = c.check_under.result in
    let table = c.in_ok-table.table in
    let carriers = c.args.parameters.now in
    let own = c.requires.parameters ∙ ap (λ (gs : List Variables). variable_shapes S (variables_of gs)) (sym c.deref.ensures.value) in
    let shapes = c.in_ok-table.ensures.shapes S own ∙ ap (λ (gs : List Variables). bound S (variables_of gs) outermost) c.deref.ensures.value in
    let slots = c.in_ok-table.ensures.slots ∙ ap (λ (gs : List Variables). with_slots (variables_of gs) 0 unslotted) c.deref.ensures.value in
    made S c.args.equation.now r
    (subst (λ (n : ℕ). Found S f r (bound S xs outermost) (with_slots xs 0 unslotted) n) (counted S groups carriers c.requires.parameters)
    (subst (λ (s : Slotting). Found S f r (bound S xs outermost) s (length carriers)) (inner_slotting xs 0 table unslotted slots)
    (subst (λ (a : Scope). Found S f r a (inner_slots table unslotted) (length carriers)) (inner_scope S xs table outermost shapes) c.check_under.ensures)))
