-- One forward pass over code finds how its loops nest.
use Rattle.std.proofs.Common.{◌≡◌, ℕ, suc, ◌+◌, ◌-◌, ◌<◌, ◌≤◌, true, false, List, [], ◌∷◌, ◌++◌, length, Option, Some, None, refl, sym, ap, ◌∙◌, subst, arith, get_or, ⊎_elim}
use Rattle.std.specs.Prelude.{slice_get}
use Rattle.std.specs.Option.{is_some}
use Rattle.std.proofs.lemmas.Option.{slice_get_within, slice_get-get_or, same_Some}
use Rattle.pb_bytecode_program.specs.Counts.{Leaves, Straight, loop_effect, loops_after, loops_around}
use Rattle.pb_bytecode_program.specs.declared.instruction.Op.{Op}
use Rattle.pb_bytecode_program.specs.declared.instruction.Op.TheVariants as op
use Rattle.pb_bytecode_program.proofs.Places.{around_next}
use Rattle.pb_verifier_structure.specs.Nesting.{innermost_of, NestsAt, IsNested}
use Rattle.pb_verifier_structure.proofs.Around.{IsInnermostBefore, NestBefore, one_more, outer, none_around, some_around, start_around, get_before, split}

-- what is known before the place q
pub record HasNested (code : List Op) (q : ℕ) (table : List (Option ℕ)) (around : Option ℕ) (depth : ℕ) : Type 0 where
  pub within : q ≤ length code
  pub table_before : IsInnermostBefore code q table
  pub innermost : around ≡ innermost_of (loops_around code q)
  pub deep : depth ≡ length (loops_around code q)
  pub shallow : depth ≤ 8
  pub nest : NestBefore code q

pub start : (code : List Op) → HasNested code 0 [] None 0
start code = record {
  within = omega arith;
  table_before = record { long = refl; each = λ k h. absurd (omega arith) };
  innermost = rw (start_around code) refl;
  deep = rw (start_around code) refl;
  shallow = omega arith;
  nest = λ k i h at. absurd (omega arith);
}

-- an instruction that does nothing to loops
pub quiet : (i : Op) → ((s : ℕ) → i ≡ op.Loop s → ⊥) → (i ≡ op.Next → ⊥) → loop_effect i ≡ Straight
quiet op.End f g = refl
quiet (op.PushInt z) f g = refl
quiet (op.PushBool b) f g = refl
quiet (op.PushEnum s i) f g = refl
quiet (op.Get s) f g = refl
quiet op.Pop f g = refl
quiet (op.Arithmetic a) f g = refl
quiet op.Negate f g = refl
quiet op.Absolute f g = refl
quiet (op.Compare o) f g = refl
quiet (op.Equality o) f g = refl
quiet op.Not f g = refl
quiet (op.Logic c) f g = refl
quiet (op.Jump to) f g = refl
quiet (op.JumpIf b to) f g = refl
quiet (op.InRange low high to) f g = refl
quiet (op.SlotInRange s low high to) f g = refl
quiet (op.Loop s) f g = absurd (f s refl)
quiet op.Next f g = absurd (g refl)
quiet (op.Open c) f g = refl
quiet op.Close f g = refl
quiet (op.Emit l) f g = refl
quiet (op.Call e) f g = refl

quiet_nests : (code : List Op) (q : ℕ) (i : Op) → ((s : ℕ) → i ≡ op.Loop s → ⊥) → (i ≡ op.Next → ⊥) → (i ≡ op.End → ⊥) → NestsAt code q i
quiet_nests code q op.End f g h = absurd (h refl)
quiet_nests code q (op.PushInt z) f g h = tt
quiet_nests code q (op.PushBool b) f g h = tt
quiet_nests code q (op.PushEnum s i) f g h = tt
quiet_nests code q (op.Get s) f g h = tt
quiet_nests code q op.Pop f g h = tt
quiet_nests code q (op.Arithmetic a) f g h = tt
quiet_nests code q op.Negate f g h = tt
quiet_nests code q op.Absolute f g h = tt
quiet_nests code q (op.Compare o) f g h = tt
quiet_nests code q (op.Equality o) f g h = tt
quiet_nests code q op.Not f g h = tt
quiet_nests code q (op.Logic c) f g h = tt
quiet_nests code q (op.Jump to) f g h = tt
quiet_nests code q (op.JumpIf b to) f g h = tt
quiet_nests code q (op.InRange low high to) f g h = tt
quiet_nests code q (op.SlotInRange s low high to) f g h = tt
quiet_nests code q (op.Loop s) f g h = absurd (f s refl)
quiet_nests code q op.Next f g h = absurd (g refl)
quiet_nests code q (op.Open c) f g h = tt
quiet_nests code q op.Close f g h = tt
quiet_nests code q (op.Emit l) f g h = tt
quiet_nests code q (op.Call e) f g h = tt

is_some_none : (o : Option ℕ) → false ≡ is_some o → o ≡ None
is_some_none None h = refl
is_some_none (Some x) h = cc

is_some_some : (o : Option ℕ) → true ≡ is_some o → (x : ℕ) × (o ≡ Some x)
is_some_some None h = cc
is_some_some (Some x) h = (x, refl)

module _ (code : List Op) (q : ℕ) (table : List (Option ℕ)) (around : Option ℕ) (depth : ℕ) (h : HasNested code q table around depth) where
  -- the instruction at q is this one, which nests
  more : (i : Op) → q < length code → slice_get code q ≡ Some i → NestsAt code q i → (after : Option ℕ) (deeper : ℕ)
      → after ≡ innermost_of (loops_after (loop_effect i) q (loops_around code q))
      → deeper ≡ length (loops_after (loop_effect i) q (loops_around code q)) → deeper ≤ 8
      → HasNested code (q + 1) (table ++ around ∷ []) after deeper
  more i w at n after deeper a d l =
      let next = around_next code q i at in record {
        within = omega arith;
        table_before = one_more code q table around h.table_before h.innermost;
        innermost = a ∙ ap innermost_of (sym next);
        deep = d ∙ ap length (sym next);
        shallow = l;
        nest = λ k j less there. ⊎_elim
            (λ (b : k < q). h.nest k j b there)
            (λ (same : k ≡ q). subst (λ z. NestsAt code z j) (sym same) (let here : j ≡ i = same_Some j i (sym there ∙ ap (slice_get code) same ∙ at) in subst (NestsAt code q) (sym here) n))
            (split k q less);
      }

  here : (i : Op) → q < length code → get_or code q op.End ≡ i → slice_get code q ≡ Some i
  here i w e = slice_get-get_or code q op.End w ∙ ap Some e

  pub enters : (s : ℕ) → q < length code → get_or code q op.End ≡ op.Loop s → (depth ≡ 8 → ⊥) → HasNested code (q + 1) (table ++ around ∷ []) (Some q) (depth + 1)
  enters s w e n =
      let d = h.deep in
      let l = h.shallow in
      let less : length (loops_around code q) < 8 = omega arith in
      more (op.Loop s) w (here (op.Loop s) w e) less (Some q) (depth + 1) refl (omega arith) (omega arith)

  pub deeper_refused : (s : ℕ) → q < length code → get_or code q op.End ≡ op.Loop s → depth ≡ 8 → IsNested code → ⊥
  deeper_refused s w e n ok = let d = h.deep in let x : length (loops_around code q) < 8 = ok.each q (op.Loop s) (here (op.Loop s) w e) in omega arith

  pub leaves : (home : ℕ) (r : Option ℕ) → q < length code → get_or code q op.End ≡ op.Next → around ≡ Some home
      → r ≡ get_or (table ++ around ∷ []) home r → HasNested code (q + 1) (table ++ around ∷ []) r (depth - 1)
  leaves home r w e a b =
      let l = h.within in
      let o = outer code q home l (sym a ∙ h.innermost) in
      let x = o.earlier in
      let d = h.deep in
      let s = h.shallow in
      let t = h.table_before.long in
      let longer : length (loops_around code q) ≡ suc (length (loops_around code home)) = ap length o.around in
      let some : 0 < length (loops_around code q) = omega arith in
      let there : slice_get table home ≡ Some (innermost_of (loops_around code home)) = h.table_before.each home x in
      let value : slice_get (table ++ around ∷ []) home ≡ Some r =
      slice_get-get_or (table ++ around ∷ []) home r
      (let z = slice_get_within (table ++ around ∷ []) home _ (get_before table around home (omega arith) ∙ there)
      in z) ∙ ap Some (sym b) in
      let same : r ≡ innermost_of (loops_around code home) = one (sym value ∙ get_before table around home (omega arith) ∙ there) in
      more op.Next w (here op.Next w e) some r (depth - 1)
      (same ∙ ap (λ st. innermost_of (loops_after Leaves q st)) (sym o.around))
      (let y : length (loops_after Leaves q (loops_around code q)) ≡ length (loops_around code home) = ap (λ st. length (loops_after Leaves q st)) o.around in omega arith)
      (omega arith)
    where
      one : {x y : Option ℕ} → Some x ≡ Some y → x ≡ y
      one e = cc

  pub alone_refused : q < length code → get_or code q op.End ≡ op.Next → around ≡ None → IsNested code → ⊥
  alone_refused w e a ok =
      let x : 0 < length (loops_around code q) = ok.each q op.Next (here op.Next w e) in
      let none = ap (λ (st : List ℕ). length st) (none_around (loops_around code q) (sym a ∙ h.innermost)) in
      omega arith

  pub ends : q < length code → get_or code q op.End ≡ op.End → false ≡ is_some around → HasNested code (q + 1) (table ++ around ∷ []) around depth
  ends w e a = more op.End w (here op.End w e) (none_around (loops_around code q) (sym (is_some_none around a) ∙ h.innermost)) around depth h.innermost h.deep h.shallow

  pub end_refused : q < length code → get_or code q op.End ≡ op.End → true ≡ is_some around → IsNested code → ⊥
  end_refused w e a ok =
      let none : loops_around code q ≡ [] = ok.each q op.End (here op.End w e) in
      let s = is_some_some around a in
      let some = some_around (loops_around code q) s.0 (sym s.1 ∙ h.innermost) in
      let zero_long = ap (λ (st : List ℕ). length st) none in
      omega arith

  pub passes_on : q < length code → ((s : ℕ) → get_or code q op.End ≡ op.Loop s → ⊥)
      → (get_or code q op.End ≡ op.Next → ⊥) → (get_or code q op.End ≡ op.End → ⊥)
      → HasNested code (q + 1) (table ++ around ∷ []) around depth
  passes_on w f g e =
      let i = get_or code q op.End in
      let s = quiet i f g in
      more i w (here i w refl) (quiet_nests code q i f g e) around depth
      (h.innermost ∙ ap (λ t. innermost_of (loops_after t q (loops_around code q))) (sym s))
      (h.deep ∙ ap (λ t. length (loops_after t q (loops_around code q))) (sym s))
      h.shallow

  at_end : length code ≤ q → q ≡ length code
  at_end l = let w = h.within in omega arith

  pub nested : length code ≤ q → false ≡ is_some around → IsNested code
  nested l a = record {
    each = λ k i at. h.nest k i (let x = slice_get_within code k i at in omega arith) at;
    all_closed = ap (loops_around code) (sym (at_end l)) ∙ none_around (loops_around code q) (sym (is_some_none around a) ∙ h.innermost);
  }
