-- What an instruction finds among the operands above the floor, the topmost first.
use Rattle.std.specs.Prelude.{◌≡◌, ℕ, ◌+◌, Bool, true, false, ◌&&◌, List, [], ◌∷◌, length, Some, pos, int_lt, is_some, nat_le, nat_lt}
use Rattle.pb_base.specs.declared.limits.TheConstants.{MAX_OPERANDS}
use Rattle.pb_bytecode_program.specs.Abstract.{abstraction_of, same_kind}
use Rattle.pb_bytecode_program.specs.Transfer.{AbstractState, abstract_pop_args, abstract_pop_int}
use Rattle.pb_bytecode_program.specs.declared.domain.AbstractValue.{AbstractValue}
use Rattle.pb_bytecode_program.specs.declared.domain.AbstractValue.TheVariants as abstract
use Rattle.pb_sorts.specs.declared.carrier.Carrier.{Carrier}

-- room for another operand
abbrev pub has_room : AbstractState → Bool
has_room k = nat_lt (length k.operands + k.operands_below) MAX_OPERANDS

-- the value was the topmost operand; where it is gone, there is room for another
pub record IsPopped (before : AbstractState) (value : AbstractValue) (after : AbstractState)
    : Type 0 where
  pub topmost : before ≡ record after { operands = value ∷ after.operands }
  pub room : has_room after ≡ true

-- so many operands, at least
abbrev pub are_there : ℕ → List AbstractValue → Bool
are_there n ss = nat_le n (length ss)

-- a number on top
abbrev pub is_number_on_top : List AbstractValue → Bool
is_number_on_top ss = is_some (abstract_pop_int ss (λ l h ts. Some []))

-- two numbers on top
abbrev pub are_numbers_on_top : List AbstractValue → Bool
are_numbers_on_top ss =
    is_some (abstract_pop_int ss (λ m n ts. abstract_pop_int ts (λ l h us. Some [])))

-- on top a number that may be below 1
abbrev pub may_be_no_divisor : List AbstractValue → Bool
may_be_no_divisor (abstract.Int l h ∷ ss) = int_lt l (pos 1)
may_be_no_divisor _ = false

-- on top values of the carriers' kinds, that of the first carrier topmost
abbrev pub are_of_kinds : List Carrier → List AbstractValue → Bool
are_of_kinds [] ss = true
are_of_kinds (c ∷ cs) [] = false
are_of_kinds (c ∷ cs) (s ∷ ss) = same_kind s (abstraction_of c) && are_of_kinds cs ss

-- on top values of the carriers, that of the first carrier topmost
abbrev pub are_arguments : List Carrier → List AbstractValue → Bool
are_arguments cs ss = is_some (abstract_pop_args cs ss (λ ts. Some []))
