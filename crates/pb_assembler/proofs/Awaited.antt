-- Code whose jumps go to one label at its end, which has no place yet.
use Rattle.std.proofs.Common.{◌≡◌, ℕ, suc, ◌+◌, ◌<◌, ◌≤◌, Bool, List, [], ◌∷◌, ◌++◌, length, Some, None, sym, ap, ◌∙◌, arith, append_assoc, length-append}
use Rattle.std.specs.Prelude.{unwrap_or}
use Rattle.std.specs.List.{slice_set}
use Rattle.std.proofs.lemmas.List.{length-map}
use Rattle.pb_assembler_scheme.proofs.Flat.{long}
use Rattle.pb_bytecode_program.specs.declared.instruction.Op.{Op}
use Rattle.pb_bytecode_program.specs.declared.instruction.Op.TheVariants as op
use Rattle.pb_assembler_scheme.specs.Pieces.{Piece, Then, Unless, Choose, end, flat}
use Rattle.pb_assembler_builder.specs.Draft.{Draft, Places, open_labels, label_place, resolved, resolved_op}
use Rattle.pb_assembler_builder.specs.declared.instruction.Instruction.{Instruction}
use Rattle.pb_assembler_builder.specs.declared.instruction.Instruction.TheVariants as instruction
use Rattle.pb_assembler_builder.specs.declared.instruction.Jump.TheVariants as jump
use Rattle.pb_assembler.specs.Emitted.{Keeps, Emits, nowhere}
use Rattle.pb_assembler.proofs.Emitting.{Adds, Makes, Sets, Follows, beyond, earlier, emits_follows, adds_follows, makes_follows, then_follows, set_follows, set_keeps, none_some, emitted_long, added_long, added_code, place_at, makes_from, adds_from, sets_from, unplaced, new_place}

-- a label that is there, and has no place
pub record IsOpen (l : ℕ) (d : Draft) : Type 0 where
  pub there : l < length d.places
  pub open_yet : label_place d.places l ≡ None

-- the piece was emitted, and the label's place is its end
pub record Ends (x : Piece) (l : ℕ) (d d' : Draft) : Type 0 where
  pub grown : length d.places ≤ length d'.places
  pub kept : (i : ℕ) → i < length d.places → (i ≡ l → ⊥) → label_place d'.places i ≡ label_place d.places i
  pub placed : label_place d'.places l ≡ Some (length d'.ops)
  pub settled : suc (open_labels d'.places) ≡ open_labels d.places
  pub code : (M : Places) → Keeps d' M → resolved M d'.ops ≡ resolved M d.ops ++ flat (length d.ops) 0 x

still_open : (l : ℕ) (d d' : Draft) → IsOpen l d → Follows d d' → IsOpen l d'
still_open l d d' w f = record { there = let a = w.there in let b = f.grown in omega arith; open_yet = f.kept l w.there ∙ w.open_yet }

ends_keeps : (x : Piece) (l : ℕ) (d d' : Draft) (M : Places) → IsOpen l d → Ends x l d d' → Keeps d' M → Keeps d M
ends_keeps x l d d' M w h k i q e = k i q (h.kept i (beyond d.places i q e) (λ same. none_some q (sym w.open_yet ∙ ap (label_place d.places) (sym same) ∙ e)) ∙ e)

ended_long : (x : Piece) (l : ℕ) (d d' : Draft) → Ends x l d d' → length d'.ops ≡ end (length d.ops) x
ended_long x l d d' h =
    let M : Places = label_place d'.places in
    let f = flat (length d.ops) 0 x in
    sym (length-map d'.ops (resolved_op M)) ∙ ap length (h.code M (λ i q e. e)) ∙ length-append (resolved M d.ops) f
    ∙ ap (λ n. n + length f) (length-map d.ops (resolved_op M)) ∙ sym (long (length d.ops) 0 x)

-- ---- the parts of such code

pub ends_last : (x : Piece) (l : ℕ) (d d1 d2 : Draft) → Emits x nowhere d d1 → Sets d1 d2 l → Ends x l d d2
ends_last x l d d1 d2 h s = record {
  grown = let a = h.grown in let b = s.long in omega arith;
  kept = λ i b n. s.others i n ∙ h.kept i b;
  placed = s.placed ∙ ap (λ (is : List Instruction). Some (length is)) (sym s.ops);
  settled = omega (arith, h.settled, s.less);
  code = λ M k. ap (resolved M) s.ops ∙ h.code M (set_keeps d1 d2 l M s k);
}

pub ends_then : (x y : Piece) (l : ℕ) (d d1 d2 : Draft) → IsOpen l d → Emits x nowhere d d1 → Ends y l d1 d2 → Ends (Then x y) l d d2
ends_then x y l d d1 d2 w hx hy =
    let f = emits_follows x nowhere d d1 hx in record {
      grown = let a = hx.grown in let b = hy.grown in omega arith;
      kept = λ i b n. hy.kept i (let a = hx.grown in omega arith) n ∙ hx.kept i b;
      placed = hy.placed;
      settled = omega (arith, hx.settled, hy.settled);
      code = λ M k.
          let k1 = ends_keeps y l d1 d2 M (still_open l d d1 w f) hy k in
          hy.code M k
          ∙ ap (λ (is : List Op). is ++ flat (length d1.ops) 0 y) (hx.code M k1)
          ∙ append_assoc (resolved M d.ops) (flat (length d.ops) 0 x) (flat (length d1.ops) 0 y)
          ∙ ap (λ n. resolved M d.ops ++ (flat (length d.ops) 0 x ++ flat n 0 y)) (emitted_long x nowhere d d1 M hx k1);
    }

pub ends_unless : (on : Bool) (x : Piece) (l : ℕ) (d d1 d2 : Draft) → IsOpen l d → Adds d d1 (instruction.Jump (jump.If on) l) → Ends x l d1 d2 → Ends (Unless on x) l d d2
ends_unless on x l d d1 d2 w a h =
    let o : Instruction = (instruction.Jump (jump.If on) l) in
    let f = adds_follows d d1 o a in record {
      grown = let g = f.grown in let b = h.grown in omega arith;
      kept = λ i b n. h.kept i (let g = f.grown in omega arith) n ∙ f.kept i b;
      placed = h.placed;
      settled = omega (arith, ap open_labels a.places, h.settled);
      code = λ M k.
          let n = length d.ops in
          let n1 : length d1.ops ≡ n + 1 = added_long d d1 o a in
          let n2 : length d2.ops ≡ end (n + 1) x = ended_long x l d1 d2 h ∙ ap (λ q. end q x) n1 in
          let at : unwrap_or (M l) 0 ≡ end (n + 1) x = place_at M l (length d2.ops) (k l (length d2.ops) h.placed) ∙ n2 in
          let c1 : resolved M d1.ops ≡ resolved M d.ops ++ op.JumpIf on (end (n + 1) x) ∷ [] = added_code d d1 o M a ∙ ap (λ q. resolved M d.ops ++ op.JumpIf on q ∷ []) at in
          h.code M k ∙ ap (λ (is : List Op). is ++ flat (length d1.ops) 0 x) c1 ∙ ap (λ q. (resolved M d.ops ++ op.JumpIf on (end (n + 1) x) ∷ []) ++ flat q 0 x) n1
          ∙ append_assoc (resolved M d.ops) (op.JumpIf on (end (n + 1) x) ∷ []) (flat (n + 1) 0 x);
    }

-- a test's label, the test, the first part, the jump to the end, the label's place, and the second part up to the end
pub ends_choose : (on : Bool) (x y : Piece) (d d0 d1 d2 d3 d4 d5 : Draft) (other l : ℕ) → IsOpen l d → Makes d d0 other
    → Adds d0 d1 (instruction.Jump (jump.If on) other) → Emits x nowhere d1 d2
    → Adds d2 d3 (instruction.Jump jump.Always l) → Sets d3 d4 other → Ends y l d4 d5
    → IsOpen l d4 → Follows d d4 → Ends (Choose on x y) l d d5
ends_choose on x y d d0 d1 d2 d3 d4 d5 other l w m a1 hx a3 s4 hy w4 f4 =
    let o1 : Instruction = (instruction.Jump (jump.If on) other) in
    let o3 : Instruction = (instruction.Jump jump.Always l) in record {
      grown = let g = f4.grown in let b = hy.grown in omega arith;
      kept = λ i b n. hy.kept i (let g = f4.grown in omega arith) n ∙ f4.kept i b;
      placed = hy.placed;
      settled = omega (arith, m.more, ap open_labels a1.places, hx.settled, ap open_labels a3.places, s4.less, hy.settled);
      code = λ M k5.
          let k4 = ends_keeps y l d4 d5 M w4 hy k5 in
          let k3 = set_keeps d3 d4 other M s4 k4 in
          let k2 = earlier d2 d3 M (adds_follows d2 d3 o3 a3) k3 in
          let n = length d.ops in
          let n1 : length d1.ops ≡ n + 1 = added_long d0 d1 o1 a1 ∙ ap (λ (is : List Instruction). length is + 1) m.ops in
          let n2 : length d2.ops ≡ end (n + 1) x = emitted_long x nowhere d1 d2 M hx k2 ∙ ap (λ q. end q x) n1 in
          let n3 : length d3.ops ≡ end (n + 1) x + 1 = added_long d2 d3 o3 a3 ∙ ap (λ q. q + 1) n2 in
          let n4 : length d4.ops ≡ end (n + 1) x + 1 = ap length s4.ops ∙ n3 in
          let n5 : length d5.ops ≡ end (end (n + 1) x + 1) y = ended_long y l d4 d5 hy ∙ ap (λ q. end q y) n4 in
          let there : unwrap_or (M other) 0 ≡ end (n + 1) x + 1 = place_at M other (length d3.ops) (k4 other (length d3.ops) s4.placed) ∙ n3 in
          let finally : unwrap_or (M l) 0 ≡ end (end (n + 1) x + 1) y = place_at M l (length d5.ops) (k5 l (length d5.ops) hy.placed) ∙ n5 in
          let c1 : resolved M d1.ops ≡ resolved M d.ops ++ op.JumpIf on (end (n + 1) x + 1) ∷ [] =
          added_code d0 d1 o1 M a1 ∙ ap (λ (is : List Instruction). resolved M is ++ op.JumpIf on (unwrap_or (M other) 0) ∷ []) m.ops ∙ ap (λ q. resolved M d.ops ++ op.JumpIf on q ∷ []) there in
          let c2 : resolved M d2.ops ≡ (resolved M d.ops ++ op.JumpIf on (end (n + 1) x + 1) ∷ []) ++ flat (n + 1) 0 x =
          hx.code M k2 ∙ ap (λ (is : List Op). is ++ flat (length d1.ops) 0 x) c1 ∙ ap (λ q. (resolved M d.ops ++ op.JumpIf on (end (n + 1) x + 1) ∷ []) ++ flat q 0 x) n1 in
          let c4 : resolved M d4.ops ≡ resolved M d2.ops ++ op.Jump (end (end (n + 1) x + 1) y) ∷ [] =
          ap (resolved M) s4.ops ∙ added_code d2 d3 o3 M a3 ∙ ap (λ q. resolved M d2.ops ++ op.Jump q ∷ []) finally in
          let c5 : resolved M d5.ops ≡ resolved M d4.ops ++ flat (end (n + 1) x + 1) 0 y = hy.code M k5 ∙ ap (λ q. resolved M d4.ops ++ flat q 0 y) n4 in
          c5 ∙ ap (λ (is : List Op). is ++ flat (end (n + 1) x + 1) 0 y) (c4 ∙ ap (λ (is : List Op). is ++ op.Jump (end (end (n + 1) x + 1) y) ∷ []) c2) ∙ simp append_assoc;
    }

-- ---- code that awaits its end: whatever emits the rest up to the label's place completes the whole

pub record Awaits (whole rest : Piece) (l : ℕ) (d0 d : Draft) : Type 0 where
  pub is_open : IsOpen l d
  pub follows : Follows d0 d
  pub completed : (d' : Draft) → Ends rest l d d' → Emits whole nowhere d0 d'

pub awaits_all : {x : Piece} {l : ℕ} {d0 d : Draft} → l ≡ length d0.places → d ≡ record d0 { places = d0.places ++ None ∷ [] } → Awaits x x l d0 d
awaits_all {x} {l} {d0} {d} n e =
    let m = makes_from d0 d l n e in
    let long1 = m.long in record {
      is_open = record { there = omega arith; open_yet = new_place d0 d l n e };
      follows = makes_follows d0 d l m;
      completed = λ d' h. record {
        grown = let g = h.grown in omega arith;
        kept = λ i b. h.kept i (omega arith) (λ same. absurd (omega (arith, same, n, b))) ∙ m.others i b;
        settled = omega (arith, h.settled, m.more);
        code = λ M k. h.code M k ∙ ap (λ (is : List Instruction). resolved M is ++ flat (length is) 0 x) m.ops;
      };
    }

pub awaits_then : {whole x y : Piece} {l : ℕ} {d0 d d1 : Draft} → Awaits whole (Then x y) l d0 d → Emits x nowhere d d1 → Awaits whole y l d0 d1
awaits_then {whole} {x} {y} {l} {d0} {d} {d1} a h =
    let f = emits_follows x nowhere d d1 h in record {
      is_open = still_open l d d1 a.is_open f;
      follows = then_follows d0 d d1 a.follows f;
      completed = λ d' k. a.completed d' (ends_then x y l d d1 d' a.is_open h k);
    }

pub awaits_unless : {whole : Piece} {on : Bool} {x : Piece} {l : ℕ} {d0 d d1 : Draft}
    → Awaits whole (Unless on x) l d0 d → d1 ≡ record d { ops = d.ops ++ (instruction.Jump (jump.If on) l) ∷ [] } → Awaits whole x l d0 d1
awaits_unless {whole} {on} {x} {l} {d0} {d} {d1} a e =
    let s = adds_from d d1 (instruction.Jump (jump.If on) l) e in
    let f = adds_follows d d1 (instruction.Jump (jump.If on) l) s in record {
      is_open = still_open l d d1 a.is_open f;
      follows = then_follows d0 d d1 a.follows f;
      completed = λ d' k. a.completed d' (ends_unless on x l d d1 d' a.is_open s k);
    }

pub awaits_choose : {whole : Piece} {on : Bool} {x y : Piece} {l other : ℕ} {d0 d d1 d2 d3 d4 d5 : Draft} → Awaits whole (Choose on x y) l d0 d
    → other ≡ length d.places → d1 ≡ record d { places = d.places ++ None ∷ [] } → d2 ≡ record d1 { ops = d1.ops ++ (instruction.Jump (jump.If on) other) ∷ [] } → Emits x nowhere d2 d3
    → d4 ≡ record d3 { ops = d3.ops ++ (instruction.Jump jump.Always l) ∷ [] } → d5 ≡ record d4 { places = slice_set d4.places other (Some (length d4.ops)) } → Awaits whole y l d0 d5
awaits_choose {whole} {on} {x} {y} {l} {other} {d0} {d} {d1} {d2} {d3} {d4} {d5} a n e1 e2 hx e4 e5 =
    let m = makes_from d d1 other n e1 in
    let a2 = adds_from d1 d2 (instruction.Jump (jump.If on) other) e2 in
    let a4 = adds_from d3 d4 (instruction.Jump jump.Always l) e4 in
    let long1 = m.long in
    let f14 = then_follows d1 d3 d4
    (then_follows d1 d2 d3 (adds_follows d1 d2 (instruction.Jump (jump.If on) other) a2)
    (emits_follows x nowhere d2 d3 hx)) (adds_follows d3 d4 (instruction.Jump jump.Always l) a4) in
    let g14 = f14.grown in
    let s5 = sets_from d4 d5 other (unplaced d4.places other (omega arith) (f14.kept other (omega arith) ∙ new_place d d1 other n e1)) e5 in
    let f5 = set_follows d d4 d5 other (omega arith) (then_follows d d1 d4 (makes_follows d d1 other m) f14) s5 in
    let w5 = still_open l d d5 a.is_open f5 in record {
      is_open = w5;
      follows = then_follows d0 d d5 a.follows f5;
      completed = λ d' k. a.completed d' (ends_choose on x y d d1 d2 d3 d4 d5 d' other l a.is_open m a2 hx a4 s5 k w5 f5);
    }

pub awaits_no_more : {whole x : Piece} {l : ℕ} {d0 d d1 d2 : Draft} → Awaits whole x l d0 d → Emits x nowhere d d1
    → d2 ≡ record d1 { places = slice_set d1.places l (Some (length d1.ops)) } → Emits whole nowhere d0 d2
awaits_no_more {whole} {x} {l} {d0} {d} {d1} {d2} a h e =
    let w = still_open l d d1 a.is_open (emits_follows x nowhere d d1 h) in
    a.completed d2 (ends_last x l d d1 d2 h (sets_from d1 d2 l (unplaced d1.places l w.there w.open_yet) e))
