-- The first fault of a formula: a name that no fixpoint around has (T01), what is called under an
-- odd number of negations (T06), names that hide others (T02), and those of its data and its sets.
use Rattle.std.specs.Prelude.{Bool, true, false, not, ◌||◌, List, Option, None}
use Rattle.std.specs.Prelude.{is_some}
use Rattle.pb_text_tree.specs.Form.{Named, VariableForm}
use Rattle.pb_typing_declarations.specs.Declarations.{variable_names}
use Rattle.pb_typing_declarations.specs.declared.fault.TypingFault.{TypingFault}
use Rattle.pb_typing_declarations.specs.declared.fault.TypingRule.TheVariants as rule
use Rattle.pb_typing_rules.specs.Faults.{left_parity}
use Rattle.pb_protocol_tree.specs.Form.{FormulaForm}
use Rattle.pb_protocol_typing.specs.Fault.{fault_unless, either_fault, first_fault}
use Rattle.pb_protocol_typing.specs.Scopes.{Scope, variables, fixpoint, inside, is_reserved}
use Rattle.pb_protocol_typing.specs.Scopes.{sort_around, is_fixpoint}
use Rattle.pb_protocol_typing.specs.Sets.{StepShapes, set_fault}
use Rattle.pb_protocol_typing.specs.Terms.{condition_fault}

abbrev pub is_constant : FormulaForm → Bool
is_constant (FormulaForm.constant p b) = true
is_constant f = false

-- T02: a fixpoint's variable has no name of a state variable, a definition or a variable around
abbrev pub fixpoint_fault : Scope → Named → Option TypingFault
fixpoint_fault s x =
    fault_unless (not (is_some (s.signatures x.text) || is_some (sort_around s.around x.text)))
    rule.NameTwice x.place

-- T02: and a quantifier's variable none of a state variable, a definition or a fixpoint around
abbrev pub hidden_fault : Scope → Named → Option TypingFault
hidden_fault s x =
    fault_unless (not (is_reserved s.signatures x || is_fixpoint s.around x.text)) rule.NameTwice
    x.place

abbrev pub variables_fault : Scope → List VariableForm → Option TypingFault
variables_fault s xs = first_fault (hidden_fault s) (variable_names xs)

-- What is called stands under an even number of negations: a variable, a fixpoint, and a modality
-- whose operand is neither `true` nor `false`. Such an operand and a fixpoint's body have equations
-- of their own, so that the negations around don't count in them. The left side of => counts as
-- one, and quantifiers change nothing.
abbrev pub formula_fault : StepShapes → Scope → Bool → FormulaForm → Option TypingFault
formula_fault steps s even (FormulaForm.constant p b) = None
formula_fault steps s even (FormulaForm.«data» p x) = condition_fault s p x
formula_fault steps s even (FormulaForm.variable x) =
    either_fault (fault_unless (is_fixpoint s.around x.text) rule.UnknownName x.place)
    (fault_unless even rule.OddNegations x.place)
formula_fault steps s even (FormulaForm.negation p f) = formula_fault steps s (not even) f
formula_fault steps s even (FormulaForm.connected c p f g) =
    either_fault (formula_fault steps s (left_parity c even) f) (formula_fault steps s even g)
formula_fault steps s even (FormulaForm.modal k p A f) =
    either_fault (fault_unless (is_constant f || even) rule.OddNegations p)
    (either_fault (set_fault steps s A) (formula_fault steps s true f))
formula_fault steps s even (FormulaForm.fixpoint sign p x f) =
    either_fault (fault_unless even rule.OddNegations p)
    (either_fault (fixpoint_fault s x) (formula_fault steps (inside (fixpoint x.text) s) true f))
formula_fault steps s even (FormulaForm.quantified q p xs f) =
    either_fault (variables_fault s xs) (formula_fault steps (inside (variables xs) s) even f)
