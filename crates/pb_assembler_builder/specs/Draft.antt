-- Code in the making: instructions, each jump with its label, and the places of the labels so far.
use Rattle.std.specs.Prelude.{ℕ, suc, Bool, true, false, nat_le, nat_lt, is_some, List, [], ◌∷◌, map, Option, Some, None, unwrap_or, if◌then◌else◌}
use Rattle.std.specs.List.{slice_get, list_all, list_any}
use Rattle.pb_bytecode_program.specs.declared.instruction.Op.{Op}
use Rattle.pb_bytecode_program.specs.declared.instruction.Op.TheVariants as op
use Rattle.pb_bytecode_program.specs.declared.version.Version.{Version}
use Rattle.pb_bytecode_program.specs.declared.version.Version.TheVariants as version
use Rattle.pb_assembler_builder.specs.declared.instruction.Jump.{Jump}
use Rattle.pb_assembler_builder.specs.declared.instruction.Jump.TheVariants as jump
use Rattle.pb_assembler_builder.specs.declared.instruction.Instruction.{Instruction}
use Rattle.pb_assembler_builder.specs.declared.instruction.Instruction.TheVariants as instruction

pub record Draft : Type 0 where
  pub ops : List Instruction
  pub places : List (Option ℕ)  -- of each label

-- ---- what is known of labels

-- a jump's label is there
abbrev pub is_labelled : ℕ → Instruction → Bool
is_labelled n (instruction.Plain o) = true
is_labelled n (instruction.Jump j l) = nat_lt l n

abbrev pub are_labelled : ℕ → List Instruction → Bool
are_labelled n ops = list_all (is_labelled n) ops

abbrev pub is_at_or_behind : ℕ → Option ℕ → Bool
is_at_or_behind n None = true
is_at_or_behind n (Some q) = nat_le q n

-- no label is placed behind the end
abbrev pub are_within : ℕ → List (Option ℕ) → Bool
are_within n places = list_all (is_at_or_behind n) places

-- how many labels have no place
abbrev pub open_labels : List (Option ℕ) → ℕ
open_labels [] = 0
open_labels (None ∷ places) = suc (open_labels places)
open_labels (Some q ∷ places) = open_labels places

abbrev pub are_placed : List (Option ℕ) → Bool
are_placed places = list_all is_some places

-- ---- what it stands for

-- the jump to a place
abbrev pub jump_op : Jump → ℕ → Op
jump_op jump.Always q = op.Jump q
jump_op (jump.If condition) q = op.JumpIf condition q
jump_op (jump.InRange low high) q = op.InRange low high q
jump_op (jump.SlotInRange slot low high) q = op.SlotInRange slot low high q

abbrev pub known_place : Option (Option ℕ) → Option ℕ
known_place None = None
known_place (Some o) = o

abbrev pub label_place : List (Option ℕ) → ℕ → Option ℕ
label_place places l = known_place (slice_get places l)

-- a label's place, where it has one
abbrev pub Places : Type 0
Places = ℕ → Option ℕ

abbrev pub resolved_op : Places → Instruction → Op
resolved_op place (instruction.Plain o) = o
resolved_op place (instruction.Jump j l) = jump_op j (unwrap_or (place l) 0)

-- the instructions, each target being its label's place
abbrev pub resolved : Places → List Instruction → List Op
resolved place ops = map (resolved_op place) ops

-- ---- versions

-- whether version 1 of the module format lacks the instruction
abbrev pub is_slot_test : Instruction → Bool
is_slot_test (instruction.Jump (jump.SlotInRange slot low high) l) = true
is_slot_test i = false

-- the least version that has all instructions
abbrev pub needed_version : List Instruction → Version
needed_version ops = if list_any is_slot_test ops then version.Two else version.One
