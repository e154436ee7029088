-- What it is for code to be accepted: a table of abstract states that each instruction agrees with,
-- after the rules of bytecode verification (Lindholm and Yellin 1996). A verifier makes one pass;
-- this is a relation between a program and a table, without order.
use Rattle.std.specs.Prelude.{◌≡◌, ℕ, ◌<◌, ◌≤◌, List, [], ◌∷◌, length, map, Option, Some, None, slice_get, IsSome, Contains, ◌⊎◌}
use Rattle.pb_base.specs.declared.limits.TheConstants.{MAX_LOOPS, MAX_STEPS, MAX_TOKENS}
use Rattle.pb_bytecode_program.specs.Abstract.{Covers, abstraction_of}
use Rattle.pb_bytecode_program.specs.Machine.{Program, carrier_of}
use Rattle.pb_bytecode_program.specs.Counts.{Leaves, loop_effect, loops_around, static_steps, static_tokens}
use Rattle.pb_bytecode_program.specs.Transfer.{AbstractState, Edge, Flow, transfer}
use Rattle.pb_bytecode_program.specs.declared.domain.AbstractValue.{AbstractValue}
use Rattle.pb_bytecode_program.specs.declared.instruction.Op.{Op}
use Rattle.pb_bytecode_program.specs.declared.instruction.Op.TheVariants as op

-- what is known at each place; nothing where no way leads there
abbrev pub Table : Type 0
Table = List (Option AbstractState)

abbrev pub join_option : Option (Option AbstractState) → Option AbstractState
join_option None = None
join_option (Some o) = o

abbrev pub state_at : Table → ℕ → Option AbstractState
state_at table q = join_option (slice_get table q)

-- what is known at the innermost of these LOOPs
abbrev pub state_at_loop : Table → List ℕ → Option AbstractState
state_at_loop table [] = None
state_at_loop table (q ∷ qs) = state_at table q

abbrev pub CoversEach : List AbstractValue → List AbstractValue → Type 0
CoversEach [] [] = Unit {0}
CoversEach (s ∷ ss) (t ∷ ts) = Covers s t × CoversEach ss ts
CoversEach [] (t ∷ ts) = ⊥
CoversEach (s ∷ ss) [] = ⊥

abbrev pub CoversLoops : List (ℕ × AbstractValue) → List (ℕ × AbstractValue) → Type 0
CoversLoops [] [] = Unit {0}
CoversLoops (s ∷ ss) (t ∷ ts) = (s.0 ≡ t.0) × Covers s.1 t.1 × CoversLoops ss ts
CoversLoops [] (t ∷ ts) = ⊥
CoversLoops (s ∷ ss) [] = ⊥

-- the second knows no more than the first, and the same of all else
pub record IsCovered (k m : AbstractState) : Type 0 where
  pub operands : CoversEach k.operands m.operands
  pub operands_below : k.operands_below ≡ m.operands_below
  pub parameters : CoversEach k.parameters m.parameters
  pub loops : CoversLoops k.loops m.loops
  pub brackets : k.brackets ≡ m.brackets
  pub brackets_below : k.brackets_below ≡ m.brackets_below
  pub roots : k.roots ≡ m.roots

-- the table has a state at the edge's place (V15), which covers what flows there (V11)
pub record Leads (table : Table) (e : Edge) : Type 0 where
  pub known : AbstractState
  pub there : state_at table e.to ≡ Some known
  pub covered : IsCovered e.state known

abbrev pub AllLead : Table → List Edge → Type 0
AllLead table [] = Unit {0}
AllLead table (e ∷ es) = Leads table e × AllLead table es

abbrev pub FlowIsCovered : Table → Flow → Type 0
FlowIsCovered table None = ⊥
FlowIsCovered table (Some es) = AllLead table es

-- a jump's target: it is inside the code (V05), behind the jump (V06) and in the same body (V07)
pub record IsTarget (code : List Op) (q to : ℕ) : Type 0 where
  pub later : q < to
  pub inside : to < length code
  pub one_body : loops_around code to ≡ loops_around code q

-- the rules on where an instruction stands, whether it is reached or not
abbrev pub HasValidTarget : Program → ℕ → Op → Type 0
HasValidTarget p q (op.Jump to) = IsTarget p.code q to
HasValidTarget p q (op.JumpIf on to) = IsTarget p.code q to
HasValidTarget p q (op.InRange low high to) = IsTarget p.code q to
HasValidTarget p q (op.SlotInRange i low high to) = IsTarget p.code q to
HasValidTarget p q _ = Unit {0}

-- the slots of these LOOPs
abbrev pub slots_at : Option Op → List ℕ → List ℕ
slots_at (Some (op.Loop i)) is = i ∷ is
slots_at _ is = is

abbrev pub loop_slots : List Op → List ℕ → List ℕ
loop_slots code [] = []
loop_slots code (q ∷ qs) = slots_at (slice_get code q) (loop_slots code qs)

-- a parameter, or the slot of a loop around
abbrev pub IsVisible : Program → ℕ → ℕ → Type 0
IsVisible p q i = (i < length p.parameters) ⊎ Contains (loop_slots p.code (loops_around p.code q)) i

-- which slots and callees an instruction may name (V09), and which loops may be open there (V12)
abbrev pub NamesInScope : Program → ℕ → Op → Type 0
NamesInScope p q (op.Get i) = IsVisible p q i
NamesInScope p q (op.SlotInRange i low high to) = IsVisible p q i
NamesInScope p q (op.Loop i) =
    (IsSome (carrier_of p i)) × (Contains (loop_slots p.code (loops_around p.code q)) i → ⊥)
    × (length (loops_around p.code q) < MAX_LOOPS)
NamesInScope p q (op.Call eq) = eq < length p.callees
NamesInScope p q op.End = loops_around p.code q ≡ []
NamesInScope p q _ = Unit {0}

-- what is known at place 0
abbrev pub entry : Program → AbstractState
entry p =
    record {
      operands = [];
      operands_below = 0;
      parameters = map abstraction_of p.parameters;
      loops = [];
      brackets = 0;
      brackets_below = 0;
      roots = 0;
    }

-- the code keeps the rules by position, states counts that are large enough and within the limits
-- (V16), and has a table whose state at each place covers what flows there
pub record Accepted (p : Program) (table : Table) : Type 0 where
  pub placed : (q : ℕ) (i : Op) → slice_get p.code q ≡ Some i → HasValidTarget p q i
  pub sited : (q : ℕ) (i : Op) → slice_get p.code q ≡ Some i → NamesInScope p q i
  pub all_closed : loops_around p.code (length p.code) ≡ []
  pub closes : (q : ℕ) (i : Op) → slice_get p.code q ≡ Some i → loop_effect i ≡ Leaves
      → 0 < length (loops_around p.code q)
  pub begins : Leads table (record { to = 0; state = entry p })
  pub each : (q : ℕ) (i : Op) (k : AbstractState) → slice_get p.code q ≡ Some i
      → state_at table q ≡ Some k
      → FlowIsCovered table (transfer p (state_at_loop table (loops_around p.code q)) q i k)
  pub long : length table ≡ length p.code
  pub steps_stated : static_steps p ≤ p.stated_steps
  pub steps_limit : p.stated_steps ≤ MAX_STEPS
  pub tokens_stated : static_tokens p ≤ p.stated_tokens
  pub tokens_limit : p.stated_tokens ≤ MAX_TOKENS
