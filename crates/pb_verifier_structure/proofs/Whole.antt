-- The rules by position of each instruction are those of the code.
use Rattle.std.proofs.Common.{◌≡◌, ℕ, ◌<◌, length, Some, Result, Ok, Err, refl, sym, subst}
use Rattle.std.specs.Prelude.{slice_get, ℤ, Bool}
use Rattle.std.specs.Result.{IsErrAnd}
use Rattle.std.proofs.lemmas.Option.{slice_get_within}
use Rattle.pb_bytecode_program.specs.Accepted.{HasValidTarget, NamesInScope}
use Rattle.pb_bytecode_program.specs.Counts.{Leaves, loop_effect, loops_around}
use Rattle.pb_bytecode_program.specs.Machine.{Program}
use Rattle.pb_bytecode_program.specs.declared.instruction.Op.{Op}
use Rattle.pb_bytecode_program.specs.declared.instruction.Op.TheVariants as op
use Rattle.pb_base.specs.OrMemory.{IfFault, OnRefused}
use Rattle.pb_base.specs.declared.or_memory.OrMemory.{OrMemory}
use Rattle.pb_base.specs.declared.or_memory.OrMemory.TheVariants.{Refused, Memory}
use Rattle.pb_verifier_structure.specs.Nesting.{NestsAt, IsNested}
use Rattle.pb_verifier_structure.specs.Structure.{IsStructured}

-- an instruction that names nothing and has no target
pub record NamesNothing (i : Op) : Type 0 where
  pub get : (slot : ℕ) → i ≡ op.Get slot → ⊥
  pub jump : (to : ℕ) → i ≡ op.Jump to → ⊥
  pub jump_if : (on : Bool) (to : ℕ) → i ≡ op.JumpIf on to → ⊥
  pub in_range : (low high : ℤ) (to : ℕ) → i ≡ op.InRange low high to → ⊥
  pub slot_in_range : (slot : ℕ) (low high : ℤ) (to : ℕ) → i ≡ op.SlotInRange slot low high to → ⊥
  pub loop : (slot : ℕ) → i ≡ op.Loop slot → ⊥
  pub call : (equation : ℕ) → i ≡ op.Call equation → ⊥

pub free : (p : Program) (q : ℕ) (i : Op) → NestsAt p.code q i → NamesNothing i → HasValidTarget p q i × NamesInScope p q i
free p q op.End n f = (tt, n)
free p q (op.PushInt z) n f = (tt, tt)
free p q (op.PushBool b) n f = (tt, tt)
free p q (op.PushEnum s j) n f = (tt, tt)
free p q (op.Get s) n f = absurd (f.get s refl)
free p q op.Pop n f = (tt, tt)
free p q (op.Arithmetic a) n f = (tt, tt)
free p q op.Negate n f = (tt, tt)
free p q op.Absolute n f = (tt, tt)
free p q (op.Compare o) n f = (tt, tt)
free p q (op.Equality o) n f = (tt, tt)
free p q op.Not n f = (tt, tt)
free p q (op.Logic c) n f = (tt, tt)
free p q (op.Jump to) n f = absurd (f.jump to refl)
free p q (op.JumpIf on to) n f = absurd (f.jump_if on to refl)
free p q (op.InRange low high to) n f = absurd (f.in_range low high to refl)
free p q (op.SlotInRange s low high to) n f = absurd (f.slot_in_range s low high to refl)
free p q (op.Loop s) n f = absurd (f.loop s refl)
free p q op.Next n f = (tt, tt)
free p q (op.Open c) n f = (tt, tt)
free p q op.Close n f = (tt, tt)
free p q (op.Emit l) n f = (tt, tt)
free p q (op.Call e) n f = absurd (f.call e refl)

-- code whose loops nest, as the rules ask
module _ (p : Program) where
  nests_by : (q : ℕ) (i : Op) → NamesInScope p q i → (loop_effect i ≡ Leaves → 0 < length (loops_around p.code q)) → NestsAt p.code q i
  nests_by q op.End s c = s
  nests_by q (op.PushInt z) s c = tt
  nests_by q (op.PushBool b) s c = tt
  nests_by q (op.PushEnum slot j) s c = tt
  nests_by q (op.Get slot) s c = tt
  nests_by q op.Pop s c = tt
  nests_by q (op.Arithmetic a) s c = tt
  nests_by q op.Negate s c = tt
  nests_by q op.Absolute s c = tt
  nests_by q (op.Compare o) s c = tt
  nests_by q (op.Equality o) s c = tt
  nests_by q op.Not s c = tt
  nests_by q (op.Logic connective) s c = tt
  nests_by q (op.Jump to) s c = tt
  nests_by q (op.JumpIf on to) s c = tt
  nests_by q (op.InRange low high to) s c = tt
  nests_by q (op.SlotInRange slot low high to) s c = tt
  nests_by q (op.Loop slot) s c = s.2
  nests_by q op.Next s c = c refl
  nests_by q (op.Open connective) s c = tt
  nests_by q op.Close s c = tt
  nests_by q (op.Emit l) s c = tt
  nests_by q (op.Call equation) s c = tt

  pub structured_nests : IsStructured p → IsNested p.code
  structured_nests w = record { each = λ q i at. nests_by q i (w.sited q i at) (w.closes q i at); all_closed = w.all_closed }

  closes_by : (q : ℕ) (i : Op) → loop_effect i ≡ Leaves → NestsAt p.code q i → 0 < length (loops_around p.code q)
  closes_by q op.End e n = cc
  closes_by q (op.PushInt z) e n = cc
  closes_by q (op.PushBool b) e n = cc
  closes_by q (op.PushEnum slot j) e n = cc
  closes_by q (op.Get slot) e n = cc
  closes_by q op.Pop e n = cc
  closes_by q (op.Arithmetic a) e n = cc
  closes_by q op.Negate e n = cc
  closes_by q op.Absolute e n = cc
  closes_by q (op.Compare o) e n = cc
  closes_by q (op.Equality o) e n = cc
  closes_by q op.Not e n = cc
  closes_by q (op.Logic connective) e n = cc
  closes_by q (op.Jump to) e n = cc
  closes_by q (op.JumpIf on to) e n = cc
  closes_by q (op.InRange low high to) e n = cc
  closes_by q (op.SlotInRange slot low high to) e n = cc
  closes_by q (op.Loop slot) e n = cc
  closes_by q op.Next e n = n
  closes_by q (op.Open connective) e n = cc
  closes_by q op.Close e n = cc
  closes_by q (op.Emit l) e n = cc
  closes_by q (op.Call equation) e n = cc

  pub all_structured : IsNested p.code → ((q : ℕ) (i : Op) → q < length p.code → slice_get p.code q ≡ Some i → HasValidTarget p q i × NamesInScope p q i) → IsStructured p
  all_structured n each = record {
    placed = λ q i at. (each q i (slice_get_within p.code q i at) at).0;
    sited = λ q i at. (each q i (slice_get_within p.code q i at) at).1;
    all_closed = n.all_closed;
    closes = λ q i at e. closes_by q i e (n.each q i at);
  }

pub refused_same : {A F : Type 0} (r : Result A (OrMemory F)) (e : OrMemory F) (P Q : Type 0) → IsErrAnd r (λ x. x ≡ e) → IfFault e (λ _. P) → (P → Q) → OnRefused r Q
refused_same (Ok x) e P Q h b f = absurd h
refused_same {F = F} (Err x) e P Q h b f = more x (subst (λ z. IfFault z (λ _. P)) (sym h) b)
  where
    more : (x : OrMemory F) → IfFault x (λ _. P) → IfFault x (λ _. Q)
    more (Refused fault) b = f b
    more Memory b = tt
