-- Which rule is named where an instruction is refused for what is known at its place: the first, in
-- the order of the list, that the instruction breaks as a whole. Missing operands come before
-- kinds, kinds before the divisor, the divisor before the result, the kinds of all arguments before
-- their intervals, and the brackets before the root.
use Rattle.std.specs.Prelude.{◌≡◌, ℕ, Bool, not, ◌&&◌, List, [], ◌∷◌, length, reverse, Option, Some, None, is_some, nat_lt, nat_le, if◌then◌else◌, slice_get}
use Rattle.pb_base.specs.declared.limits.TheConstants.{MAX_BRACKETS}
use Rattle.pb_bytecode_program.specs.declared.domain.AbstractValue.{AbstractValue}
use Rattle.pb_bytecode_program.specs.Values.{has_divisor}
use Rattle.pb_bytecode_program.specs.Transfer.{AbstractState, abstract_slot, enum_fits}
use Rattle.pb_bytecode_program.specs.declared.instruction.Op.{Op}
use Rattle.pb_bytecode_program.specs.declared.instruction.Op.TheVariants as op
use Rattle.pb_sorts.specs.declared.carrier.Carrier.{Carrier}
use Rattle.pb_verifier_states.specs.Kinds.{are_arguments, are_numbers_on_top, are_of_kinds, are_there, is_number_on_top, may_be_no_divisor}
use Rattle.pb_verifier_states.specs.declared.rule.AcceptanceRule.{AcceptanceRule}
use Rattle.pb_verifier_states.specs.declared.rule.AcceptanceRule.TheVariants as rule

-- a rule, and whether it is kept
abbrev pub Tested : Type 0
Tested = Bool × AcceptanceRule

-- the first of the rules that isn't kept, or else the last one
abbrev pub first_broken : List Tested → AcceptanceRule → AcceptanceRule
first_broken [] last = last
first_broken (t ∷ ts) last = if t.0 then first_broken ts last else t.1

-- where two operands, or the one on top, are to be of some kind
abbrev pub named_at_two : List AbstractValue → AcceptanceRule
named_at_two ss = first_broken ((are_there 2 ss, rule.MissingOperand) ∷ []) rule.WrongKind

abbrev pub named_at_top : List AbstractValue → AcceptanceRule
named_at_top ss = first_broken ((are_there 1 ss, rule.MissingOperand) ∷ []) rule.WrongKind

-- where a result is computed of the number on top
abbrev pub named_at_number : List AbstractValue → AcceptanceRule
named_at_number ss =
    first_broken
    ((are_there 1 ss, rule.MissingOperand) ∷ (is_number_on_top ss, rule.WrongKind) ∷ [])
    rule.Overflow

-- where a result is computed of two numbers, of which the one on top may be a divisor
abbrev pub named_at_numbers : Bool → List AbstractValue → AcceptanceRule
named_at_numbers is_divided ss =
    first_broken
    ((are_there 2 ss, rule.MissingOperand) ∷ (are_numbers_on_top ss, rule.WrongKind)
    ∷ (not (is_divided && may_be_no_divisor ss), rule.Divisor) ∷ []) rule.Overflow

-- where a slot is to hold a number
abbrev pub named_at_slot : AbstractState → ℕ → AcceptanceRule
named_at_slot k i =
    first_broken ((is_some (abstract_slot k.loops k.parameters i), rule.UnknownName) ∷ [])
    rule.WrongKind

-- where a call is to find its arguments, and its leaf is no second root
abbrev pub named_at_call : List AbstractValue → Option (List Carrier) → AcceptanceRule
named_at_call ss None = rule.UnknownName
named_at_call ss (Some cs) =
    first_broken
    ((are_there (length cs) ss, rule.MissingOperand)
    ∷ (are_of_kinds (reverse cs) ss, rule.WrongKind)
    ∷ (are_arguments (reverse cs) ss, rule.ArgumentOutside) ∷ []) rule.Roots

-- the rule that is named where the instruction is refused; `sorts` has the counts of enumerators,
-- `callees` the carriers of each equation's parameters. The last line is for the start and the end
-- of a loop; a jump to a place is never refused.
abbrev pub named_rule : List ℕ → List (List Carrier) → Op → AbstractState → AcceptanceRule
named_rule sorts callees op.End k =
    first_broken
    ((nat_le (length k.loops) 0, rule.LoopStructure) ∷ (nat_le k.brackets 0, rule.Brackets) ∷ [])
    rule.Roots
named_rule sorts callees (op.PushInt z) k = rule.TooManyOperands
named_rule sorts callees (op.PushBool b) k = rule.TooManyOperands
named_rule sorts callees (op.PushEnum s i) k =
    first_broken ((enum_fits (slice_get sorts s) i, rule.UnknownName) ∷ []) rule.TooManyOperands
named_rule sorts callees (op.Get i) k =
    first_broken ((is_some (abstract_slot k.loops k.parameters i), rule.UnknownName) ∷ [])
    rule.TooManyOperands
named_rule sorts callees op.Pop k = rule.MissingOperand
named_rule sorts callees (op.Arithmetic c) k = named_at_numbers (has_divisor c) k.operands
named_rule sorts callees op.Negate k = named_at_number k.operands
named_rule sorts callees op.Absolute k = named_at_number k.operands
named_rule sorts callees (op.Compare o) k = named_at_two k.operands
named_rule sorts callees (op.Equality wanted) k = named_at_two k.operands
named_rule sorts callees op.Not k = named_at_top k.operands
named_rule sorts callees (op.Logic c) k = named_at_two k.operands
named_rule sorts callees (op.JumpIf on to) k = named_at_top k.operands
named_rule sorts callees (op.InRange low high to) k = named_at_top k.operands
named_rule sorts callees (op.SlotInRange i low high to) k = named_at_slot k i
named_rule sorts callees (op.Open c) k =
    first_broken ((nat_lt k.brackets MAX_BRACKETS, rule.Brackets) ∷ []) rule.Roots
named_rule sorts callees op.Close k = rule.Brackets
named_rule sorts callees (op.Emit l) k = rule.Roots
named_rule sorts callees (op.Call eq) k = named_at_call k.operands (slice_get callees eq)
named_rule sorts callees _ k = rule.LoopStructure

-- the rule is the one that is named where the instruction is refused
abbrev pub IsNamed : Op → AbstractState → AcceptanceRule → Type 0
IsNamed i k rule =
    (sorts : List ℕ) (callees : List (List Carrier)) → rule ≡ named_rule sorts callees i k
