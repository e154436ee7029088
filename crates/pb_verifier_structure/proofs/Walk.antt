-- From a place outwards through the loops around it.
use Rattle.std.proofs.Common.{◌≡◌, ℕ, suc, ◌<◌, ◌≤◌, List, [], ◌∷◌, length, Option, Some, None, sym, ap, ◌∙◌, subst, arith, Contains, get_or, ⊎_elim}
use Rattle.std.specs.Prelude.{slice_get}
use Rattle.std.proofs.lemmas.Option.{slice_get-get_or, same_Some}
use Rattle.std.proofs.lemmas.List.Elements.{Contains-append_right, Contains-append_left, Contains-append_cases, Contains-push, Contains-push_cases}
use Rattle.pb_bytecode_program.specs.Accepted.{loop_slots, slots_at}
use Rattle.pb_bytecode_program.specs.Counts.{loops_around}
use Rattle.pb_bytecode_program.specs.declared.instruction.Op.{Op}
use Rattle.pb_bytecode_program.specs.declared.instruction.Op.TheVariants as op
use Rattle.pb_verifier_structure.specs.Nesting.{innermost_of, IsInnermost}
use Rattle.pb_verifier_structure.proofs.Around.{IsOuter, outer, none_around}

-- how far it is outwards
abbrev pub left : Option ℕ → ℕ
left None = 0
left (Some x) = suc x

-- the loops that are left are those around some place, and the slot is one of theirs where it is one around q
pub record IsFrom (code : List Op) (q slot : ℕ) (around : Option ℕ) : Type 0 where
  pub place : ℕ
  pub within : place ≤ length code
  pub innermost : around ≡ innermost_of (loops_around code place)
  pub left_slots : Contains (loop_slots code (loops_around code place)) slot → Contains (loop_slots code (loops_around code q)) slot
  pub all_slots : Contains (loop_slots code (loops_around code q)) slot → Contains (loop_slots code (loops_around code place)) slot

one : {x y : Option ℕ} → Some x ≡ Some y → x ≡ y
one e = cc

pub table_at : (code : List Op) (table : List (Option ℕ)) (q : ℕ) (r : Option ℕ) → IsInnermost code table → q < length code → r ≡ get_or table q r → r ≡ innermost_of (loops_around code q)
table_at code table q r t w e =
    let l = t.long in
    one (ap Some e ∙ sym (slice_get-get_or table q r (omega arith)) ∙ t.each q w)

pub from_here : (code : List Op) (table : List (Option ℕ)) (q slot : ℕ) (r : Option ℕ) → IsInnermost code table → q < length code → r ≡ get_or table q r → IsFrom code q slot r
from_here code table q slot r t w e = record { place = q; within = omega arith; innermost = table_at code table q r t w e; left_slots = λ h. h; all_slots = λ h. h }

no_slot : (slot : ℕ) → Contains {X = ℕ} [] slot → ⊥
no_slot slot h = let x = h.1 in omega arith

-- the slots of one more LOOP
slots_more : (o : Option Op) (slots : List ℕ) (slot : ℕ) → Contains slots slot → Contains (slots_at o slots) slot
slots_more None slots slot h = h
slots_more (Some op.End) slots slot h = h
slots_more (Some (op.PushInt z)) slots slot h = h
slots_more (Some (op.PushBool b)) slots slot h = h
slots_more (Some (op.PushEnum s i)) slots slot h = h
slots_more (Some (op.Get s)) slots slot h = h
slots_more (Some op.Pop) slots slot h = h
slots_more (Some (op.Arithmetic a)) slots slot h = h
slots_more (Some op.Negate) slots slot h = h
slots_more (Some op.Absolute) slots slot h = h
slots_more (Some (op.Compare o)) slots slot h = h
slots_more (Some (op.Equality o)) slots slot h = h
slots_more (Some op.Not) slots slot h = h
slots_more (Some (op.Logic c)) slots slot h = h
slots_more (Some (op.Jump to)) slots slot h = h
slots_more (Some (op.JumpIf b to)) slots slot h = h
slots_more (Some (op.InRange low high to)) slots slot h = h
slots_more (Some (op.SlotInRange s low high to)) slots slot h = h
slots_more (Some (op.Loop s)) slots slot h = Contains-append_right (s ∷ []) slots slot h
slots_more (Some op.Next) slots slot h = h
slots_more (Some (op.Open c)) slots slot h = h
slots_more (Some op.Close) slots slot h = h
slots_more (Some (op.Emit l)) slots slot h = h
slots_more (Some (op.Call e)) slots slot h = h

-- another LOOP's slot is one of the others
single : (s slot : ℕ) → Contains (s ∷ []) slot → s ≡ slot
single s slot h = ⊎_elim (λ (e : Contains {X = ℕ} [] slot). absurd (no_slot slot e)) (λ (e : s ≡ slot). e) (Contains-push_cases [] s slot h)

slots_less : (o : Option Op) (slots : List ℕ) (slot : ℕ) → (o ≡ Some (op.Loop slot) → ⊥) → Contains (slots_at o slots) slot → Contains slots slot
slots_less None slots slot n h = h
slots_less (Some op.End) slots slot n h = h
slots_less (Some (op.PushInt z)) slots slot n h = h
slots_less (Some (op.PushBool b)) slots slot n h = h
slots_less (Some (op.PushEnum s i)) slots slot n h = h
slots_less (Some (op.Get s)) slots slot n h = h
slots_less (Some op.Pop) slots slot n h = h
slots_less (Some (op.Arithmetic a)) slots slot n h = h
slots_less (Some op.Negate) slots slot n h = h
slots_less (Some op.Absolute) slots slot n h = h
slots_less (Some (op.Compare o)) slots slot n h = h
slots_less (Some (op.Equality o)) slots slot n h = h
slots_less (Some op.Not) slots slot n h = h
slots_less (Some (op.Logic c)) slots slot n h = h
slots_less (Some (op.Jump to)) slots slot n h = h
slots_less (Some (op.JumpIf b to)) slots slot n h = h
slots_less (Some (op.InRange low high to)) slots slot n h = h
slots_less (Some (op.SlotInRange s low high to)) slots slot n h = h
slots_less (Some (op.Loop s)) slots slot n h =
    ⊎_elim (λ (e : Contains (s ∷ []) slot). absurd
    (n (let f : (x y : ℕ) → x ≡ y → Some (op.Loop x) ≡ Some (op.Loop y) = λ x y e. ap (λ z. Some (op.Loop z)) e in
    f s slot (single s slot e)))) (λ (e : Contains slots slot). e) (Contains-append_cases (s ∷ []) slots slot h)
slots_less (Some op.Next) slots slot n h = h
slots_less (Some (op.Open c)) slots slot n h = h
slots_less (Some op.Close) slots slot n h = h
slots_less (Some (op.Emit l)) slots slot n h = h
slots_less (Some (op.Call e)) slots slot n h = h

module _ (code : List Op) (table : List (Option ℕ)) (q slot home : ℕ) (t : IsInnermost code table) (f : IsFrom code q slot (Some home)) where
  abbrev out : IsOuter code f.place home
  out = outer code f.place home f.within f.innermost

  pub home_within : home < length code
  home_within = let x = f.within in let y = out.earlier in omega arith

  slots_here : loop_slots code (loops_around code f.place) ≡ slots_at (slice_get code home) (loop_slots code (loops_around code home))
  slots_here = ap (loop_slots code) out.around

  at_home : (i : Op) → get_or code home op.End ≡ i → slice_get code home ≡ Some i
  at_home i e = slice_get-get_or code home op.End home_within ∙ ap Some e

  pub found : get_or code home op.End ≡ op.Loop slot → Contains (loop_slots code (loops_around code q)) slot
  found e = f.left_slots
      (subst (λ slots. Contains slots slot)
      (sym (slots_here ∙ ap (λ o. slots_at o (loop_slots code (loops_around code home))) (at_home (op.Loop slot) e)))
      (Contains-append_left (slot ∷ []) (loop_slots code (loops_around code home)) slot (Contains-push [] slot)))

  pub outwards : (get_or code home op.End ≡ op.Loop slot → ⊥) → (r : Option ℕ) → r ≡ get_or table home r → IsFrom code q slot r
  outwards n r e = record {
    place = home;
    within = let x = home_within in omega arith;
    innermost = table_at code table home r t home_within e;
    left_slots = λ h. f.left_slots (subst (λ slots. Contains slots slot) (sym slots_here) (slots_more (slice_get code home) (loop_slots code (loops_around code home)) slot h));
    all_slots =
        λ h. slots_less (slice_get code home) (loop_slots code (loops_around code home)) slot
        (λ g. n (same_Some (get_or code home op.End) (op.Loop slot)
        (sym (slice_get-get_or code home op.End home_within) ∙ g))) (subst (λ slots. Contains slots slot) slots_here (f.all_slots h));
  }

  pub nearer : (r : Option ℕ) → r ≡ get_or table home r → left r < left (Some home)
  nearer r e = by r (table_at code table home r t home_within e)
    where
      by : (r : Option ℕ) → r ≡ innermost_of (loops_around code home) → left r < suc home
      by None e = omega arith
      by (Some x) e = let w = home_within in let o = outer code home x (omega arith) e in let y = o.earlier in omega arith

pub not_found : (code : List Op) (q slot : ℕ) → IsFrom code q slot None → Contains (loop_slots code (loops_around code q)) slot → ⊥
not_found code q slot f h = no_slot slot (subst (λ st. Contains (loop_slots code st) slot) (none_around (loops_around code f.place) f.innermost) (f.all_slots h))
