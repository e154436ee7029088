-- Two operands that an instruction has taken, and the machine without them.
use Rattle.std.proofs.Common.{◌≡◌, ◌+◌, ◌^◌, ◌<◌, ◌∷◌, List, ℤ, length, refl, arith, to_z, of_z, w64}
use lib.Signed.{mag}
use Rattle.arrayvec.specs.ArrayVec.{array_vec_len}
use Rattle.pb_base.specs.declared.limits.TheConstants.{MAX_OPERANDS}
use Rattle.pb_bytecode_program.specs.Values.{TaggedValue, untagged}
use Rattle.pb_bytecode_program.specs.Machine.{Program, State, Outcome}
use Rattle.pb_machine.specs.Mirror.{Mirrors}
use Rattle.pb_machine.specs.declared.machine.Machine.{Machine}
use Rattle.pb_machine.specs.declared.registers.Registers.{Registers}
use Rattle.pb_machine.proofs.Inversion.{ReplacesTwo}
use Rattle.pb_machine.proofs.Mirrored.{handed_on}

-- the topmost operand is taken
abbrev pub Pops : Machine → Registers → Registers → ℤ → Type 0
Pops m before after z = (p : Program) (st : State) (v : TaggedValue) (vs : List TaggedValue) → st.operands ≡ v ∷ vs → Mirrors p m before st
    → (z ≡ untagged v) × Mirrors p m after (record st { operands = vs })

-- the numbers, as they are handed on, are those of two operands, and the machine stands for the state without these
pub record AreTaken (p : Program) (m : Machine) (r : Registers) (st : State) (a b : TaggedValue) (rest : List TaggedValue) (y z : ℤ) : Type 0 where
  pub first : to_z w64 (of_z w64 y) ≡ untagged a
  pub second : to_z w64 (of_z w64 z) ≡ untagged b
  pub left : Mirrors p m r (record st { operands = rest })

pub two_taken : {p : Program} {st : State} {x : Outcome} {a b v : TaggedValue} (m : Machine) (before between after : Registers) (y z : ℤ)
    → mag y < 2 ^ 63 → mag z < 2 ^ 63 → Pops m before between z → Pops m between after y
    → (t : ReplacesTwo st x b a v) → Mirrors p m before st → AreTaken p m after st a b t.rest y z
two_taken {p} {st} {x} {a} {b} m before between after y z fits_y fits_z top next t mirrors =
    let second = top p st b (a ∷ t.rest) t.shape mirrors in
    let first = next p (record st { operands = a ∷ t.rest }) a t.rest refl second.1 in
    record { first = handed_on y _ (record { sfits = fits_y }) first.0; second = handed_on z _ (record { sfits = fits_z }) second.0; left = first.1 }

-- there is a place for the result, and one for the next instruction
pub record HasRoom (m : Machine) (r : Registers) : Type 0 where
  pub deep : r.depth < array_vec_len m.operands
  pub place : r.place + 1 < 2 ^ 64

pub has_room : {p : Program} {m : Machine} {r : Registers} {st : State} {a b : TaggedValue} {rest : List TaggedValue} {y z : ℤ}
    → AreTaken p m r st a b rest y z → length rest < MAX_OPERANDS → st.place + 1 < 2 ^ 64 → HasRoom m r
has_room t room within = record { deep = omega (arith, room, t.left.depth, t.left.places); place = omega (arith, within, t.left.place) }
