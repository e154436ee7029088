-- The tagged machine: a stack machine whose operands carry their kinds, which faults where a rule
-- is broken. A run from an instance's arguments ends with the tokens of the instance's and/or tree
-- (small-step semantics, Plotkin 1981).
use Rattle.std.specs.Prelude.{ℕ, zero, suc, ◌+◌, ◌-◌, Bool, false, not, ◌&&◌, ◌||◌, List, [], ◌∷◌, ◌++◌, length, map, reverse, Option, Some, None, ℤ, pos, neg_ℤ, int_lt, int_le, ◌==◌, nat_lt, if◌then◌else◌, slice_get}
use Rattle.pb_sorts.specs.Instance.{number_of}
use Rattle.pb_sorts.specs.Layout.{carriers_of}
use Rattle.pb_fixpoint_trees.specs.declared.Token.{Token}
use Rattle.pb_fixpoint_trees.specs.declared.Token.TheVariants as token
pub use Rattle.pb_fixpoint_trees.specs.Tokens.{opening}
use Rattle.pb_base.specs.declared.limits.TheConstants.{MAX_OPERANDS, MAX_BRACKETS, MAX_LOOPS}
use Rattle.pb_bytecode_program.specs.Values.{TaggedValue, BoolValue, IntValue, EnumValue, tagged_values, untagged, arithmetic, has_divisor, absolute, compares, equals, answers, joined, fits64}
use Rattle.pb_sorts.specs.declared.carrier.Carrier.{Carrier}
use Rattle.pb_sorts.specs.declared.carrier.Carrier.TheVariants as carrier
use Rattle.pb_bytecode_program.specs.declared.instruction.Equality.{Equality}
use Rattle.pb_bytecode_program.specs.declared.instruction.Leaf.{Leaf}
use Rattle.pb_bytecode_program.specs.declared.instruction.Leaf.TheVariants.{Yes, No, Cut}
use Rattle.pb_bytecode_program.specs.declared.instruction.Op.{Op}
use Rattle.pb_bytecode_program.specs.declared.instruction.Op.TheVariants as op

-- the code of one equation, and what it stands in
pub record Program : Type 0 where
  pub sorts : List ℕ  -- how many enumerators each sort has
  pub callees : List (List Carrier)  -- each equation's parameters
  pub parameters : List Carrier
  pub loops : List Carrier  -- of the slots after the parameters
  pub stated_steps : ℕ
  pub stated_tokens : ℕ
  pub code : List Op

pub data MachineFault : Type 0 where
  MissingOperand : MachineFault
  WrongKind : MachineFault
  Divisor : MachineFault  -- below 1
  Overflow : MachineFault  -- outside 64 bits
  NoPlace : MachineFault  -- no instruction there
  Argument : MachineFault  -- outside its carrier
  NoSlot : MachineFault
  NoCallee : MachineFault
  Depth : MachineFault  -- more than MAX_OPERANDS operands
  Bracket : MachineFault  -- none open, one open at the end, or more than MAX_BRACKETS
  Root : MachineFault  -- none at the end, or a second one
  Loop : MachineFault

-- a loop under way: the place of its LOOP, its slot, the slot's value, and the values that remain
pub record Frame : Type 0 where
  pub loop_place : ℕ
  pub slot : ℕ
  pub value : TaggedValue
  pub remaining : List TaggedValue

pub record State : Type 0 where
  pub place : ℕ
  pub operands : List TaggedValue  -- the topmost first
  pub parameters : List TaggedValue
  pub loops : List Frame  -- the innermost first
  pub brackets : ℕ  -- how many are open
  pub roots : ℕ  -- how many leaves and brackets were written outside brackets
  pub output : List Token

-- what a step, or a run, comes to
pub data Outcome : Type 0 where
  Continues : State → Outcome
  Ends : List Token → Outcome
  Faults : MachineFault → Outcome

-- ---- tokens

abbrev pub leaf : Leaf → Token
leaf Yes = token.Yes
leaf No = token.No
leaf Cut = token.Cut

-- ---- operands

-- the topmost operand, then what is done with it and the rest
abbrev pub pop_any : List TaggedValue → (TaggedValue → List TaggedValue → Outcome) → Outcome
pop_any [] go = Faults MissingOperand
pop_any (v ∷ vs) go = go v vs

abbrev pub pop_int : List TaggedValue → (ℤ → List TaggedValue → Outcome) → Outcome
pop_int [] go = Faults MissingOperand
pop_int (IntValue z ∷ vs) go = go z vs
pop_int (BoolValue b ∷ vs) go = Faults WrongKind
pop_int (EnumValue s i ∷ vs) go = Faults WrongKind

abbrev pub pop_bool : List TaggedValue → (Bool → List TaggedValue → Outcome) → Outcome
pop_bool [] go = Faults MissingOperand
pop_bool (BoolValue b ∷ vs) go = go b vs
pop_bool (IntValue z ∷ vs) go = Faults WrongKind
pop_bool (EnumValue s i ∷ vs) go = Faults WrongKind

-- pushes a value and goes on at the next place
abbrev pub push : State → List TaggedValue → TaggedValue → Outcome
push st vs v =
    if nat_lt (length vs) MAX_OPERANDS
    then Continues (record st { place = st.place + 1; operands = v ∷ vs })
    else Faults Depth

abbrev pub push_int : State → List TaggedValue → ℤ → Outcome
push_int st vs z = if fits64 z z then push st vs (IntValue z) else Faults Overflow

-- pushes the answer, where the two values are of one kind
abbrev pub push_equality : State → List TaggedValue → Equality → Option Bool → Outcome
push_equality st vs wanted None = Faults WrongKind
push_equality st vs wanted (Some b) = push st vs (BoolValue (answers wanted b))

-- what is wrong with an argument
abbrev pub argument_fault : TaggedValue → Carrier → Option MachineFault
argument_fault (BoolValue b) carrier.Bool = None
argument_fault (IntValue z) (carrier.Range range) =
    if int_le range.low z && int_le z range.high then None else Some Argument
argument_fault (EnumValue s i) (carrier.Enum enum) =
    if s == enum.sort then (if nat_lt i enum.count then None else Some Argument) else Some WrongKind
argument_fault _ _ = Some WrongKind

-- the fault where there is one
abbrev pub fault_or : Option MachineFault → Outcome → Outcome
fault_or None next = next
fault_or (Some f) next = Faults f

-- the arguments of a call, from the last one down
abbrev pub pop_args : List Carrier → List TaggedValue → List TaggedValue
    → (List TaggedValue → List TaggedValue → Outcome)
    → Outcome
pop_args [] args vs go = go args vs
pop_args (c ∷ cs) args [] go = Faults MissingOperand
pop_args (c ∷ cs) args (v ∷ vs) go = fault_or (argument_fault v c) (pop_args cs (v ∷ args) vs go)

-- ---- slots

-- the value of a slot: of a loop under way, else of a parameter
abbrev pub value_at : List Frame → List TaggedValue → ℕ → Option TaggedValue
value_at [] parameters i = slice_get parameters i
value_at (f ∷ fs) parameters i = if i == f.slot then Some f.value else value_at fs parameters i

-- whether a loop of the slot is under way
abbrev pub is_running : List Frame → ℕ → Bool
is_running [] i = false
is_running (f ∷ fs) i = (i == f.slot) || is_running fs i

abbrev pub with_slot : Option TaggedValue → (TaggedValue → Outcome) → Outcome
with_slot None go = Faults NoSlot
with_slot (Some v) go = go v

abbrev pub with_int : TaggedValue → (ℤ → Outcome) → Outcome
with_int (IntValue z) go = go z
with_int (BoolValue b) go = Faults WrongKind
with_int (EnumValue s i) go = Faults WrongKind

-- ---- brackets and roots

-- the count of roots after a leaf or an opened bracket, which is a root where no bracket is open
abbrev pub with_root : ℕ → ℕ → (ℕ → Outcome) → Outcome
with_root (suc n) roots go = go roots
with_root zero zero go = go 1
with_root zero (suc n) go = Faults Root

-- the count of open brackets after CLOSE
abbrev pub close_bracket : ℕ → (ℕ → Outcome) → Outcome
close_bracket zero go = Faults Bracket
close_bracket (suc n) go = go n

-- the end, where no loop and no bracket is open and there is one root
abbrev pub end_run : List Frame → ℕ → ℕ → List Token → Outcome
end_run (f ∷ fs) n r out = Faults Loop
end_run [] (suc n) r out = Faults Bracket
end_run [] zero zero out = Faults Root
end_run [] zero (suc zero) out = Ends out
end_run [] zero (suc (suc r)) out = Faults Root

-- ---- loops

-- the carrier of a loop slot
abbrev pub carrier_of : Program → ℕ → Option Carrier
carrier_of p i =
    if nat_lt i (length p.parameters) then None else slice_get p.loops (i - length p.parameters)

abbrev pub enter_loop : State → ℕ → List TaggedValue → Outcome
enter_loop st i [] = Faults Loop
enter_loop st i (v ∷ left) =
    Continues
    (record st {
      place = st.place + 1;
      loops = record { loop_place = st.place; slot = i; value = v; remaining = left } ∷ st.loops;
    })

-- LOOP, at most MAX_LOOPS of them nested
abbrev pub begin_loop : State → ℕ → Option Carrier → Outcome
begin_loop st i None = Faults NoSlot
begin_loop st i (Some c) =
    if nat_lt (length st.loops) MAX_LOOPS && not (is_running st.loops i)
    then enter_loop st i (tagged_values c) else Faults Loop

-- the next value of the loop, or the place after its NEXT where none remains
abbrev pub next_turn : State → Frame → List Frame → List TaggedValue → Outcome
next_turn st f fs [] = Continues (record st { place = st.place + 1; loops = fs })
next_turn st f fs (v ∷ left) =
    Continues
    (record st {
      place = f.loop_place + 1;
      loops = record { loop_place = f.loop_place; slot = f.slot; value = v; remaining = left } ∷ fs;
    })

abbrev pub repeat_or_leave : State → List Frame → Outcome
repeat_or_leave st [] = Faults Loop
repeat_or_leave st (f ∷ fs) = next_turn st f fs f.remaining

-- ---- calls

-- the number of an equation's instance
abbrev pub number : Program → ℕ → List TaggedValue → ℕ
number p eq args =
    number_of (carriers_of p.callees) (record { equation = eq; values = map untagged args })

abbrev pub call_instance : Program → State → ℕ → Option (List Carrier) → Outcome
call_instance p st eq None = Faults NoCallee
call_instance p st eq (Some cs) =
    pop_args (reverse cs) [] st.operands (λ args vs.
    with_root st.brackets st.roots (λ r.
    Continues
    (record st {
      place = st.place + 1;
      operands = vs;
      roots = r;
      output = st.output ++ token.Call (number p eq args) ∷ [];
    })))

-- ---- one instruction

abbrev pub jump_to : State → ℕ → List TaggedValue → Outcome
jump_to st to vs = Continues (record st { place = to; operands = vs })

-- what an instruction does
abbrev pub execute : Program → Op → State → Outcome
execute p op.End st = end_run st.loops st.brackets st.roots st.output
execute p (op.PushInt z) st = push st st.operands (IntValue z)
execute p (op.PushBool b) st = push st st.operands (BoolValue b)
execute p (op.PushEnum s i) st = push st st.operands (EnumValue s i)
execute p (op.Get i) st = with_slot (value_at st.loops st.parameters i) (λ v. push st st.operands v)
execute p op.Pop st = pop_any st.operands (λ v vs. jump_to st (st.place + 1) vs)
execute p (op.Arithmetic c) st =
    pop_int st.operands (λ b vs. pop_int vs (λ a ws.
    if has_divisor c && int_lt b (pos 1) then Faults Divisor else push_int st ws
    (arithmetic c a b)))
execute p op.Negate st = pop_int st.operands (λ a vs. push_int st vs (neg_ℤ a))
execute p op.Absolute st = pop_int st.operands (λ a vs. push_int st vs (absolute a))
execute p (op.Compare o) st =
    pop_int st.operands (λ b vs. pop_int vs (λ a ws. push st ws (BoolValue (compares o a b))))
execute p (op.Equality wanted) st =
    pop_any st.operands (λ b vs. pop_any vs (λ a ws. push_equality st ws wanted (equals a b)))
execute p op.Not st = pop_bool st.operands (λ a vs. push st vs (BoolValue (not a)))
execute p (op.Logic c) st =
    pop_bool st.operands (λ b vs. pop_bool vs (λ a ws. push st ws (BoolValue (joined c a b))))
execute p (op.Jump to) st = jump_to st to st.operands
execute p (op.JumpIf on to) st =
    pop_bool st.operands
    (λ b vs. if (if on then b else not b) then jump_to st to vs else jump_to st (st.place + 1) vs)
execute p (op.InRange low high to) st =
    pop_int st.operands (λ z vs.
    if int_le low z && int_le z high then jump_to st (st.place + 1) (IntValue z ∷ vs)
    else jump_to st to (IntValue z ∷ vs))
execute p (op.SlotInRange i low high to) st =
    with_slot (value_at st.loops st.parameters i) (λ v. with_int v (λ z.
    if int_le low z && int_le z high then jump_to st (st.place + 1) st.operands
    else jump_to st to st.operands))
execute p (op.Loop i) st = begin_loop st i (carrier_of p i)
execute p op.Next st = repeat_or_leave st st.loops
execute p (op.Open c) st =
    if nat_lt st.brackets MAX_BRACKETS
    then with_root st.brackets st.roots
    (λ r. Continues
    (record st {
      place = st.place + 1;
      brackets = st.brackets + 1;
      roots = r;
      output = st.output ++ opening c ∷ [];
    }))
    else Faults Bracket
execute p op.Close st =
    close_bracket st.brackets
    (λ n. Continues
    (record st { place = st.place + 1; brackets = n; output = st.output ++ token.Close ∷ [] }))
execute p (op.Emit l) st =
    with_root st.brackets st.roots
    (λ r. Continues
    (record st { place = st.place + 1; roots = r; output = st.output ++ leaf l ∷ [] }))
execute p (op.Call eq) st = call_instance p st eq (slice_get p.callees eq)

abbrev pub execute_at : Program → Option Op → State → Outcome
execute_at p None st = Faults NoPlace
execute_at p (Some i) st = execute p i st

abbrev pub step : Program → State → Outcome
step p st = execute_at p (slice_get p.code st.place) st

-- ---- runs

abbrev pub and_then : Outcome → (State → Outcome) → Outcome
and_then (Continues st) go = go st
and_then (Ends out) go = Ends out
and_then (Faults f) go = Faults f

-- at most n steps
abbrev pub run : Program → ℕ → State → Outcome
run p zero st = Continues st
run p (suc n) st = and_then (step p st) (run p n)

-- the state at place 0 with the parameters' values
abbrev pub start : List TaggedValue → State
start args =
    record {
      place = 0;
      operands = [];
      parameters = args;
      loops = [];
      brackets = 0;
      roots = 0;
      output = [];
    }
