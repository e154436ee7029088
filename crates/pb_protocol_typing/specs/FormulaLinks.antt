-- The first fault of sets and formulas that are joined, link by link.
use Rattle.std.specs.Prelude.{Bool, List, [], ◌∷◌, length, Option, None}
use Rattle.pb_text_tree.specs.declared.operator.Connective.{Connective}
use Rattle.pb_typing_declarations.specs.declared.fault.TypingFault.{TypingFault}
use Rattle.pb_typing_rules.specs.Faults.{operand_parity}
use Rattle.pb_protocol_tree.specs.declared.formula.Link.{Link}
use Rattle.pb_protocol_tree.specs.declared.step_set.StepSetLink.{StepSetLink}
use Rattle.pb_protocol_tree.specs.Form.{formula_form, step_set_form}
use Rattle.pb_protocol_typing.specs.Fault.{either_fault}
use Rattle.pb_protocol_typing.specs.Scopes.{Scope}
use Rattle.pb_protocol_typing.specs.Sets.{StepShapes, set_fault}
use Rattle.pb_protocol_typing.specs.Formulas.{formula_fault}

abbrev pub sets_fault : StepShapes → Scope → List StepSetLink → Option TypingFault
sets_fault steps s [] = None
sets_fault steps s (link ∷ links) =
    either_fault (set_fault steps s (step_set_form link.operand)) (sets_fault steps s links)

-- behind a connective, where `even` says whether the negations around the chain are even in number
abbrev pub operands_fault :
    StepShapes → Scope → Connective → Bool → List Link → Option TypingFault
operands_fault steps s c even [] = None
operands_fault steps s c even (link ∷ links) =
    either_fault
    (formula_fault steps s (operand_parity c even (length links)) (formula_form link.operand))
    (operands_fault steps s c even links)
