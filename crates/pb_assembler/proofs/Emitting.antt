-- Emitting the parts of a piece, with the labels of its jumps, emits the piece.
use Rattle.std.proofs.Common.{◌≡◌, ℕ, zero, suc, ◌+◌, ◌<◌, ◌≤◌, Bool, true, List, [], ◌∷◌, ◌++◌, length, Option, Some, None, refl, sym, ap, ◌∙◌, subst, arith, append_assoc, length-append}
use Rattle.std.specs.Prelude.{ℤ, unwrap_or, Result, Ok, Err, OnOk}
use Rattle.std.specs.List.{slice_get, slice_set}
use Rattle.std.proofs.lemmas.Option.{slice_get_within}
use Rattle.std.proofs.lemmas.List.{map-append, length-map}
use Rattle.pb_fixpoint_trees.specs.declared.junction.Junction.{Junction}
use Rattle.pb_bytecode_program.specs.declared.instruction.Op.{Op}
use Rattle.pb_bytecode_program.specs.declared.instruction.Op.TheVariants as op
use Rattle.pb_assembler_scheme.specs.Scheme.{bracketed}
use Rattle.pb_assembler_scheme.specs.Pieces.{Piece, Empty, Plain, Then, Unless, Choose, Repeat, Block, Leave, Guard, end, flat}
use Rattle.pb_assembler_scheme.proofs.Flat.{long}
use Rattle.pb_assembler_scheme.proofs.Positions.{HasNoLeave}
use Rattle.pb_assembler_builder.specs.Draft.{Draft, Places, are_placed, known_place, open_labels, label_place, resolved, resolved_op}
use Rattle.pb_assembler_builder.specs.declared.instruction.Instruction.{Instruction}
use Rattle.pb_assembler_builder.specs.declared.instruction.Instruction.TheVariants as instruction
use Rattle.pb_assembler_builder.specs.declared.instruction.Jump.TheVariants as jump
use Rattle.pb_assembler.specs.Emitted.{Keeps, Emits, nowhere}

-- ---- the builder's steps

pub record Adds (d d' : Draft) (o : Instruction) : Type 0 where
  pub ops : d'.ops ≡ d.ops ++ o ∷ []
  pub places : d'.places ≡ d.places

-- one more label, which has no place yet
pub record Makes (d d' : Draft) (l : ℕ) : Type 0 where
  pub number : l ≡ length d.places
  pub ops : d'.ops ≡ d.ops
  pub long : length d'.places ≡ suc (length d.places)
  pub others : (i : ℕ) → i < length d.places → label_place d'.places i ≡ label_place d.places i
  pub more : open_labels d'.places ≡ suc (open_labels d.places)

-- one label gets its place
pub record Sets (d d' : Draft) (l : ℕ) : Type 0 where
  pub unplaced : label_place d.places l ≡ None
  pub placed : label_place d'.places l ≡ Some (length d.ops)
  pub ops : d'.ops ≡ d.ops
  pub long : length d'.places ≡ length d.places
  pub others : (i : ℕ) → (i ≡ l → ⊥) → label_place d'.places i ≡ label_place d.places i
  pub less : suc (open_labels d'.places) ≡ open_labels d.places

-- what comes between two drafts: labels keep their places, and what has one is kept
pub record Follows (d d' : Draft) : Type 0 where
  pub grown : length d.places ≤ length d'.places
  pub kept : (l : ℕ) → l < length d.places → label_place d'.places l ≡ label_place d.places l

pub beyond : (places : List (Option ℕ)) (l q : ℕ) → label_place places l ≡ Some q → l < length places
beyond [] l q e = cc
beyond (x ∷ xs) zero q e = omega arith
beyond (x ∷ xs) (suc l) q e = let h = beyond xs l q e in omega arith

pub earlier : (d d' : Draft) (M : Places) → Follows d d' → Keeps d' M → Keeps d M
earlier d d' M f k l q e = k l q (f.kept l (beyond d.places l q e) ∙ e)

pub emits_follows : (x : Piece) (e : Places → ℕ) (d d' : Draft) → Emits x e d d' → Follows d d'
emits_follows x e d d' h = record { grown = h.grown; kept = h.kept }

pub adds_follows : (d d' : Draft) (o : Instruction) → Adds d d' o → Follows d d'
adds_follows d d' o a = record { grown = let l = ap (λ (ps : List (Option ℕ)). length ps) a.places in omega arith; kept = λ l b. ap (λ ps. label_place ps l) a.places }

pub makes_follows : (d d' : Draft) (l : ℕ) → Makes d d' l → Follows d d'
makes_follows d d' l m = record { grown = let e = m.long in omega arith; kept = m.others }

pub none_some : (q : ℕ) → (None ≡ Some q) → ⊥
none_some q e = cc

pub set_keeps : (d d' : Draft) (l : ℕ) (M : Places) → Sets d d' l → Keeps d' M → Keeps d M
set_keeps d d' l M s k i q e = k i q (s.others i (λ same. none_some q (sym s.unplaced ∙ ap (label_place d.places) (sym same) ∙ e)) ∙ e)

pub then_follows : (d e f : Draft) → Follows d e → Follows e f → Follows d f
then_follows d e f a b = record {
  grown = let x = a.grown in let y = b.grown in omega arith;
  kept = λ l h. b.kept l (let x = a.grown in omega arith) ∙ a.kept l h;
}

-- a label that was made later gets its place
pub set_follows : (d e f : Draft) (l : ℕ) → length d.places ≤ l → Follows d e → Sets e f l → Follows d f
set_follows d e f l new a s = record {
  grown = let x = a.grown in let y = s.long in omega arith;
  kept = λ i h. s.others i (λ same. absurd (omega arith)) ∙ a.kept i h;
}

-- ---- lengths

pub emitted_long : (x : Piece) (e : Places → ℕ) (d d' : Draft) (M : Places) → Emits x e d d' → Keeps d' M → length d'.ops ≡ end (length d.ops) x
emitted_long x e d d' M h k =
    let f = flat (length d.ops) (e M) x in
    sym (length-map d'.ops (resolved_op M)) ∙ ap length (h.code M k) ∙ length-append (resolved M d.ops) f
    ∙ ap (λ n. n + length f) (length-map d.ops (resolved_op M)) ∙ sym (long (length d.ops) (e M) x)

pub added_long : (d d' : Draft) (o : Instruction) → Adds d d' o → length d'.ops ≡ length d.ops + 1
added_long d d' o a = ap length a.ops ∙ length-append d.ops (o ∷ [])

pub added_code : (d d' : Draft) (o : Instruction) (M : Places) → Adds d d' o → resolved M d'.ops ≡ resolved M d.ops ++ resolved_op M o ∷ []
added_code d d' o M a = ap (resolved M) a.ops ∙ map-append (resolved_op M) d.ops (o ∷ [])

-- ---- pieces

pub emits_then : {x y : Piece} {e : Places → ℕ} {d d1 d2 : Draft} → Emits x e d d1 → Emits y e d1 d2 → Emits (Then x y) e d d2
emits_then {x} {y} {e} {d} {d1} {d2} hx hy =
    let f = then_follows d d1 d2 (emits_follows x e d d1 hx) (emits_follows y e d1 d2 hy) in record {
      grown = f.grown;
      kept = f.kept;
      settled = hy.settled ∙ hx.settled;
      code = λ M k.
          let k1 = earlier d1 d2 M (emits_follows y e d1 d2 hy) k in
          hy.code M k
          ∙ ap (λ (is : List Op). is ++ flat (length d1.ops) (e M) y) (hx.code M k1)
          ∙ append_assoc (resolved M d.ops) (flat (length d.ops) (e M) x) (flat (length d1.ops) (e M) y)
          ∙ ap (λ n. resolved M d.ops ++ (flat (length d.ops) (e M) x ++ flat n (e M) y)) (emitted_long x e d d1 M hx k1);
    }

pub place_at : (M : Places) (l q : ℕ) → M l ≡ Some q → unwrap_or (M l) 0 ≡ q
place_at M l q e = ap (λ (o : Option ℕ). unwrap_or o 0) e

-- a label, a test, the part, the label's place
pub emits_unless : (on : Bool) (x : Piece) (e : Places → ℕ) (d d1 d2 d3 d4 : Draft) (l : ℕ) → Makes d d1 l
    → Adds d1 d2 (instruction.Jump (jump.If on) l) → Emits x e d2 d3 → Sets d3 d4 l → Emits (Unless on x) e d d4
emits_unless on x e d d1 d2 d3 d4 l m a h s =
    let o : Instruction = (instruction.Jump (jump.If on) l) in
    let new = m.number in
    let f = set_follows d d3 d4 l (omega arith) (then_follows d d2 d3 (then_follows d d1 d2 (makes_follows d d1 l m) (adds_follows d1 d2 o a)) (emits_follows x e d2 d3 h)) s in record {
      grown = f.grown;
      kept = f.kept;
      settled = omega (arith, m.more, ap open_labels a.places, h.settled, s.less);
      code = λ M k4.
          let k3 = set_keeps d3 d4 l M s k4 in
          let n = length d.ops in
          let r = e M in
          let n2 : length d2.ops ≡ n + 1 = added_long d1 d2 o a ∙ ap (λ (is : List Instruction). length is + 1) m.ops in
          let n3 : length d3.ops ≡ end (n + 1) x = emitted_long x e d2 d3 M h k3 ∙ ap (λ k. end k x) n2 in
          let at : unwrap_or (M l) 0 ≡ end (n + 1) x = place_at M l (length d3.ops) (k4 l (length d3.ops) s.placed) ∙ n3 in
          let c2 : resolved M d2.ops ≡ resolved M d.ops ++ op.JumpIf on (end (n + 1) x) ∷ [] =
          added_code d1 d2 o M a ∙ ap (λ (is : List Instruction). resolved M is ++ op.JumpIf on (unwrap_or (M l) 0) ∷ []) m.ops ∙ ap (λ k. resolved M d.ops ++ op.JumpIf on k ∷ []) at in
          ap (resolved M) s.ops ∙ h.code M k3 ∙ ap (λ (is : List Op). is ++ flat (length d2.ops) r x) c2 ∙ ap (λ k. (resolved M d.ops ++ op.JumpIf on (end (n + 1) x) ∷ []) ++ flat k r x) n2
          ∙ append_assoc (resolved M d.ops) (op.JumpIf on (end (n + 1) x) ∷ []) (flat (n + 1) r x);
    }

-- two labels, a test, the first part, a jump, the first label's place, the second part, the second label's place
pub emits_choose : (on : Bool) (x y : Piece) (e : Places → ℕ) (d d0 d1 d2 d3 d4 d5 d6 d7 : Draft) (other last : ℕ)
    → Makes d d0 other → Makes d0 d1 last → Adds d1 d2 (instruction.Jump (jump.If on) other) → Emits x e d2 d3
    → Adds d3 d4 (instruction.Jump jump.Always last) → Sets d4 d5 other → Emits y e d5 d6 → Sets d6 d7 last
    → Emits (Choose on x y) e d d7
emits_choose on x y e d d0 d1 d2 d3 d4 d5 d6 d7 other last m0 m1 a2 hx a4 s5 hy s7 =
    let o2 : Instruction = (instruction.Jump (jump.If on) other) in
    let o4 : Instruction = (instruction.Jump jump.Always last) in
    let new0 = m0.number in
    let new1 = m1.number in
    let long0 = m0.long in
    let f4 = then_follows d d3 d4
    (then_follows d d2 d3
    (then_follows d d1 d2 (then_follows d d0 d1 (makes_follows d d0 other m0) (makes_follows d0 d1 last m1))
    (adds_follows d1 d2 o2 a2)) (emits_follows x e d2 d3 hx)) (adds_follows d3 d4 o4 a4) in
    let f5 = set_follows d d4 d5 other (omega arith) f4 s5 in
    let f7 = set_follows d d6 d7 last (omega arith) (then_follows d d5 d6 f5 (emits_follows y e d5 d6 hy)) s7 in record {
      grown = f7.grown;
      kept = f7.kept;
      settled = omega (arith, m0.more, m1.more, ap open_labels a2.places, hx.settled, ap open_labels a4.places, s5.less, hy.settled, s7.less);
      code = λ M k7.
          let k6 = set_keeps d6 d7 last M s7 k7 in
          let k5 = earlier d5 d6 M (emits_follows y e d5 d6 hy) k6 in
          let k4 = set_keeps d4 d5 other M s5 k5 in
          let k3 = earlier d3 d4 M (adds_follows d3 d4 o4 a4) k4 in
          let r = e M in
          let n = length d.ops in
          let same : d1.ops ≡ d.ops = m1.ops ∙ m0.ops in
          let n2 : length d2.ops ≡ n + 1 = added_long d1 d2 o2 a2 ∙ ap (λ (is : List Instruction). length is + 1) same in
          let n3 : length d3.ops ≡ end (n + 1) x = emitted_long x e d2 d3 M hx k3 ∙ ap (λ k. end k x) n2 in
          let n4 : length d4.ops ≡ end (n + 1) x + 1 = added_long d3 d4 o4 a4 ∙ ap (λ k. k + 1) n3 in
          let n5 : length d5.ops ≡ end (n + 1) x + 1 = ap length s5.ops ∙ n4 in
          let n6 : length d6.ops ≡ end (end (n + 1) x + 1) y = emitted_long y e d5 d6 M hy k6 ∙ ap (λ k. end k y) n5 in
          let there : unwrap_or (M other) 0 ≡ end (n + 1) x + 1 = place_at M other (length d4.ops) (k5 other (length d4.ops) s5.placed) ∙ n4 in
          let finally : unwrap_or (M last) 0 ≡ end (end (n + 1) x + 1) y = place_at M last (length d6.ops) (k7 last (length d6.ops) s7.placed) ∙ n6 in
          let c2 : resolved M d2.ops ≡ resolved M d.ops ++ op.JumpIf on (end (n + 1) x + 1) ∷ [] =
          added_code d1 d2 o2 M a2 ∙ ap (λ (is : List Instruction). resolved M is ++ op.JumpIf on (unwrap_or (M other) 0) ∷ []) same ∙ ap (λ k. resolved M d.ops ++ op.JumpIf on k ∷ []) there in
          let c3 : resolved M d3.ops ≡ (resolved M d.ops ++ op.JumpIf on (end (n + 1) x + 1) ∷ []) ++ flat (n + 1) r x =
          hx.code M k3 ∙ ap (λ (is : List Op). is ++ flat (length d2.ops) r x) c2 ∙ ap (λ k. (resolved M d.ops ++ op.JumpIf on (end (n + 1) x + 1) ∷ []) ++ flat k r x) n2 in
          let c5 : resolved M d5.ops ≡ resolved M d3.ops ++ op.Jump (end (end (n + 1) x + 1) y) ∷ [] =
          ap (resolved M) s5.ops ∙ added_code d3 d4 o4 M a4 ∙ ap (λ k. resolved M d3.ops ++ op.Jump k ∷ []) finally in
          let c7 : resolved M d7.ops ≡ resolved M d5.ops ++ flat (end (n + 1) x + 1) r y =
          ap (resolved M) s7.ops ∙ hy.code M k6 ∙ ap (λ k. resolved M d5.ops ++ flat k r y) n5 in
          c7 ∙ ap (λ (is : List Op). is ++ flat (end (n + 1) x + 1) r y) (c5 ∙ ap (λ (is : List Op). is ++ op.Jump (end (end (n + 1) x + 1) y) ∷ []) c3) ∙ simp append_assoc;
    }

-- the loop, its body, and its end
pub emits_repeat : (s : ℕ) (x : Piece) (e : Places → ℕ) (d d1 d2 d3 : Draft) → Adds d d1 (instruction.Plain (op.Loop s))
    → Emits x e d1 d2 → Adds d2 d3 (instruction.Plain op.Next) → Emits (Repeat s x) e d d3
emits_repeat s x e d d1 d2 d3 a h b =
    let f = then_follows d d2 d3 (then_follows d d1 d2 (adds_follows d d1 (instruction.Plain (op.Loop s)) a) (emits_follows x e d1 d2 h)) (adds_follows d2 d3 (instruction.Plain op.Next) b) in record {
      grown = f.grown;
      kept = f.kept;
      settled = ap open_labels b.places ∙ h.settled ∙ ap open_labels a.places;
      code = λ M k3.
          let k2 = earlier d2 d3 M (adds_follows d2 d3 (instruction.Plain op.Next) b) k3 in
          let n1 = added_long d d1 (instruction.Plain (op.Loop s)) a in
          added_code d2 d3 (instruction.Plain op.Next) M b
          ∙ ap (λ (is : List Op). is ++ op.Next ∷ [])
          (h.code M k2
          ∙ ap (λ (is : List Op). is ++ flat (length d1.ops) (e M) x)
          (added_code d d1 (instruction.Plain (op.Loop s)) M a) ∙ ap (λ k. (resolved M d.ops ++ op.Loop s ∷ []) ++ flat k (e M) x) n1)
          ∙ simp append_assoc;
    }

-- a label, the block, the label's place
pub emits_block : (x : Piece) (e : Places → ℕ) (d d1 d2 d3 : Draft) (l : ℕ) → Makes d d1 l → Emits x (λ M. unwrap_or (M l) 0) d1 d2 → Sets d2 d3 l → Emits (Block x) e d d3
emits_block x e d d1 d2 d3 l m h s =
    let new = m.number in
    let at_end : Places → ℕ = λ M. unwrap_or (M l) 0 in
    let f = set_follows d d2 d3 l (omega arith) (then_follows d d1 d2 (makes_follows d d1 l m) (emits_follows x at_end d1 d2 h)) s in record {
      grown = f.grown;
      kept = f.kept;
      settled = omega (arith, m.more, h.settled, s.less);
      code = λ M k3.
          let k2 = set_keeps d2 d3 l M s k3 in
          let n1 : length d1.ops ≡ length d.ops = ap length m.ops in
          let n2 : length d2.ops ≡ end (length d.ops) x = emitted_long x at_end d1 d2 M h k2 ∙ ap (λ k. end k x) n1 in
          let at : unwrap_or (M l) 0 ≡ end (length d.ops) x = place_at M l (length d2.ops) (k3 l (length d2.ops) s.placed) ∙ n2 in
          ap (resolved M) s.ops ∙ h.code M k2
          ∙ ap (λ (is : List Instruction). resolved M is ++ flat (length is) (unwrap_or (M l) 0) x) m.ops
          ∙ ap (λ k. resolved M d.ops ++ flat (length d.ops) k x) at;
    }

-- a label, the range's test, the part, the label's place, POP
pub emits_guard : (low high : ℤ) (x : Piece) (e : Places → ℕ) (d d1 d2 d3 d4 d5 : Draft) (l : ℕ) → Makes d d1 l
    → Adds d1 d2 (instruction.Jump (jump.InRange low high) l) → Emits x e d2 d3 → Sets d3 d4 l
    → Adds d4 d5 (instruction.Plain op.Pop) → Emits (Guard low high x) e d d5
emits_guard low high x e d d1 d2 d3 d4 d5 l m a h s b =
    let o : Instruction = (instruction.Jump (jump.InRange low high) l) in
    let new = m.number in
    let f4 = set_follows d d3 d4 l (omega arith) (then_follows d d2 d3 (then_follows d d1 d2 (makes_follows d d1 l m) (adds_follows d1 d2 o a)) (emits_follows x e d2 d3 h)) s in
    let f = then_follows d d4 d5 f4 (adds_follows d4 d5 (instruction.Plain op.Pop) b) in record {
      grown = f.grown;
      kept = f.kept;
      settled = omega (arith, m.more, ap open_labels a.places, h.settled, s.less, ap open_labels b.places);
      code = λ M k5.
          let k4 = earlier d4 d5 M (adds_follows d4 d5 (instruction.Plain op.Pop) b) k5 in
          let k3 = set_keeps d3 d4 l M s k4 in
          let n = length d.ops in
          let r = e M in
          let n2 : length d2.ops ≡ n + 1 = added_long d1 d2 o a ∙ ap (λ (is : List Instruction). length is + 1) m.ops in
          let n3 : length d3.ops ≡ end (n + 1) x = emitted_long x e d2 d3 M h k3 ∙ ap (λ k. end k x) n2 in
          let at : unwrap_or (M l) 0 ≡ end (n + 1) x = place_at M l (length d3.ops) (k4 l (length d3.ops) s.placed) ∙ n3 in
          let c2 : resolved M d2.ops ≡ resolved M d.ops ++ op.InRange low high (end (n + 1) x) ∷ [] =
          added_code d1 d2 o M a ∙ ap (λ (is : List Instruction). resolved M is ++ op.InRange low high (unwrap_or (M l) 0) ∷ []) m.ops ∙ ap (λ k. resolved M d.ops ++ op.InRange low high k ∷ []) at in
          let c4 : resolved M d4.ops ≡ (resolved M d.ops ++ op.InRange low high (end (n + 1) x) ∷ []) ++ flat (n + 1) r x =
          ap (resolved M) s.ops ∙ h.code M k3 ∙ ap (λ (is : List Op). is ++ flat (length d2.ops) r x) c2 ∙ ap (λ k. (resolved M d.ops ++ op.InRange low high (end (n + 1) x) ∷ []) ++ flat k r x) n2 in
          added_code d4 d5 (instruction.Plain op.Pop) M b ∙ ap (λ (is : List Op). is ++ op.Pop ∷ []) c4 ∙ simp append_assoc;
    }

-- ---- at the end of all

-- where each label has its place, the draft of a whole piece finishes as its code
pub finished : {x : Piece} {e : Places → ℕ} {d : Draft} → Emits x e (record { ops = []; places = [] }) d → resolved (label_place d.places) d.ops ≡ flat 0 (e (label_place d.places)) x
finished {x} {e} {d} h = h.code (label_place d.places) (λ l q at. at)

-- and each label has its place
pub all_settled : {x : Piece} {e : Places → ℕ} {d : Draft} → Emits x e (record { ops = []; places = [] }) d → are_placed d.places ≡ true
all_settled {x} {e} {d} h = none_open d.places h.settled
  where
    none_open : (places : List (Option ℕ)) → open_labels places ≡ 0 → are_placed places ≡ true
    none_open [] n = refl
    none_open (None ∷ xs) n = absurd (omega (arith, n))
    none_open (Some q ∷ xs) n = none_open xs n

-- ---- the builder's calls

pub adds_from : (d d' : Draft) (o : Instruction) → d' ≡ record d { ops = d.ops ++ o ∷ [] } → Adds d d' o
adds_from d d' o e = record { ops = ap (λ (x : Draft). x.ops) e; places = ap (λ (x : Draft). x.places) e }

more_place : (places : List (Option ℕ)) (l : ℕ) → l < length places → label_place (places ++ None ∷ []) l ≡ label_place places l
more_place [] l b = absurd (omega arith)
more_place (x ∷ xs) zero b = refl
more_place (x ∷ xs) (suc l) b = more_place xs l (omega arith)

more_open : (places : List (Option ℕ)) → open_labels (places ++ None ∷ []) ≡ suc (open_labels places)
more_open [] = refl
more_open (None ∷ xs) = ap suc (more_open xs)
more_open (Some q ∷ xs) = more_open xs

pub makes_from : (d d' : Draft) (l : ℕ) → l ≡ length d.places → d' ≡ record d { places = d.places ++ None ∷ [] } → Makes d d' l
makes_from d d' l n e = record {
  number = n;
  ops = ap (λ (x : Draft). x.ops) e;
  long = let f = ap (λ (x : Draft). length x.places) e in omega (arith, f, length-append d.places (None ∷ []));
  others = λ i b. ap (λ (x : Draft). label_place x.places i) e ∙ more_place d.places i b;
  more = ap (λ (x : Draft). open_labels x.places) e ∙ more_open d.places;
}

set_place : (places : List (Option ℕ)) (l q : ℕ) → l < length places → label_place (slice_set places l (Some q)) l ≡ Some q
set_place [] l q b = absurd (omega arith)
set_place (x ∷ xs) zero q b = refl
set_place (x ∷ xs) (suc l) q b = set_place xs l q (omega arith)

other_place : (places : List (Option ℕ)) (l q i : ℕ) → (i ≡ l → ⊥) → label_place (slice_set places l (Some q)) i ≡ label_place places i
other_place [] l q i n = refl
other_place (x ∷ xs) zero q zero n = absurd (n refl)
other_place (x ∷ xs) zero q (suc i) n = refl
other_place (x ∷ xs) (suc l) q zero n = refl
other_place (x ∷ xs) (suc l) q (suc i) n = other_place xs l q i (λ e. n (ap suc e))

set_open : (places : List (Option ℕ)) (l q : ℕ) → slice_get places l ≡ Some None → suc (open_labels (slice_set places l (Some q))) ≡ open_labels places
set_open [] l q e = cc
set_open (None ∷ xs) zero q e = refl
set_open (Some p ∷ xs) zero q e = cc
set_open (None ∷ xs) (suc l) q e = ap suc (set_open xs l q e)
set_open (Some p ∷ xs) (suc l) q e = set_open xs l q e

pub set_long : (places : List (Option ℕ)) (l q : ℕ) → length (slice_set places l (Some q)) ≡ length places
set_long [] l q = refl
set_long (x ∷ xs) zero q = refl
set_long (x ∷ xs) (suc l) q = ap suc (set_long xs l q)

pub sets_from : (d d' : Draft) (l : ℕ) → slice_get d.places l ≡ Some None → d' ≡ record d { places = slice_set d.places l (Some (length d.ops)) } → Sets d d' l
sets_from d d' l u e = record {
  unplaced = ap known_place u;
  placed = ap (λ (x : Draft). label_place x.places l) e ∙ set_place d.places l (length d.ops) (slice_get_within d.places l None u);
  ops = ap (λ (x : Draft). x.ops) e;
  long = ap (λ (x : Draft). length x.places) e ∙ set_long d.places l (length d.ops);
  others = λ i n. ap (λ (x : Draft). label_place x.places i) e ∙ other_place d.places l (length d.ops) i n;
  less = ap (λ (x : Draft). suc (open_labels x.places)) e ∙ set_open d.places l (length d.ops) u;
}

-- a label that has no place yet
pub unplaced : (places : List (Option ℕ)) (l : ℕ) → l < length places → label_place places l ≡ None → slice_get places l ≡ Some None
unplaced [] l b e = absurd (omega arith)
unplaced (x ∷ xs) zero b e = ap Some e
unplaced (x ∷ xs) (suc l) b e = unplaced xs l (omega arith) e

pub new_place : (d d' : Draft) (l : ℕ) → l ≡ length d.places → d' ≡ record d { places = d.places ++ None ∷ [] } → label_place d'.places l ≡ None
new_place d d' l n e = ap (λ (x : Draft). label_place x.places l) e ∙ ap (label_place (d.places ++ None ∷ [])) n ∙ at_end d.places
  where
    at_end : (places : List (Option ℕ)) → label_place (places ++ None ∷ []) (length places) ≡ None
    at_end [] = refl
    at_end (x ∷ xs) = at_end xs

pub on_ok : {A E : Type 0} (r : Result A E) (P Q : Type 0) → OnOk r P → (P → Q) → OnOk r Q
on_ok (Ok a) P Q h f = f h
on_ok (Err e) P Q h f = tt

-- a choice, as the builder's calls make it
pub choice_emitted : {on : Bool} {x y : Piece} {e : Places → ℕ} {d0 d1 d2 d3 d4 d5 d6 d7 d8 : Draft} {other last : ℕ}
    → other ≡ length d0.places → d1 ≡ record d0 { places = d0.places ++ None ∷ [] } → last ≡ length d1.places → d2 ≡ record d1 { places = d1.places ++ None ∷ [] }
    → d3 ≡ record d2 { ops = d2.ops ++ (instruction.Jump (jump.If on) other) ∷ [] } → Emits x e d3 d4 → d5 ≡ record d4 { ops = d4.ops ++ (instruction.Jump jump.Always last) ∷ [] }
    → d6 ≡ record d5 { places = slice_set d5.places other (Some (length d5.ops)) } → Emits y e d6 d7 → d8 ≡ record d7 { places = slice_set d7.places last (Some (length d7.ops)) }
    → Emits (Choose on x y) e d0 d8
choice_emitted {on} {x} {y} {e} {d0} {d1} {d2} {d3} {d4} {d5} {d6} {d7} {d8} {other} {last} n0 e1 n1 e2 e3 hx e5 e6 hy e8 =
    let m0 = makes_from d0 d1 other n0 e1 in
    let m1 = makes_from d1 d2 last n1 e2 in
    let a3 = adds_from d2 d3 (instruction.Jump (jump.If on) other) e3 in
    let a5 = adds_from d4 d5 (instruction.Jump jump.Always last) e5 in
    let l0 = m0.long in
    let l1 = m1.long in
    let f25 = then_follows d2 d4 d5
    (then_follows d2 d3 d4 (adds_follows d2 d3 (instruction.Jump (jump.If on) other) a3)
    (emits_follows x e d3 d4 hx)) (adds_follows d4 d5 (instruction.Jump jump.Always last) a5) in
    let f15 = then_follows d1 d2 d5 (makes_follows d1 d2 last m1) f25 in
    let g15 = f15.grown in
    let g25 = f25.grown in
    let at_other = f15.kept other (omega arith) ∙ new_place d0 d1 other n0 e1 in
    let s6 = sets_from d5 d6 other (unplaced d5.places other (omega arith) at_other) e6 in
    let l6 = s6.long in
    let g67 = hy.grown in
    let at_last = hy.kept last (omega arith) ∙ s6.others last (λ same. absurd (omega arith)) ∙ f25.kept last (omega arith) ∙ new_place d1 d2 last n1 e2 in
    let s8 = sets_from d7 d8 last (unplaced d7.places last (omega arith) at_last) e8 in
    emits_choose on x y e d0 d1 d2 d3 d4 d5 d6 d7 d8 other last m0 m1 a3 hx a5 s6 hy s8

-- a part that may be passed over, as the builder's calls make it
pub unless_emitted : {on : Bool} {x : Piece} {e : Places → ℕ} {d0 d1 d2 d3 d4 : Draft} {l : ℕ}
    → l ≡ length d0.places → d1 ≡ record d0 { places = d0.places ++ None ∷ [] } → d2 ≡ record d1 { ops = d1.ops ++ (instruction.Jump (jump.If on) l) ∷ [] } → Emits x e d2 d3
    → d4 ≡ record d3 { places = slice_set d3.places l (Some (length d3.ops)) } → Emits (Unless on x) e d0 d4
unless_emitted {on} {x} {e} {d0} {d1} {d2} {d3} {d4} {l} n e1 e2 hx e4 =
    let m = makes_from d0 d1 l n e1 in
    let a = adds_from d1 d2 (instruction.Jump (jump.If on) l) e2 in
    let long1 = m.long in
    let f = then_follows d1 d2 d3 (adds_follows d1 d2 (instruction.Jump (jump.If on) l) a) (emits_follows x e d2 d3 hx) in
    let grown = f.grown in
    let s = sets_from d3 d4 l (unplaced d3.places l (omega arith) (f.kept l (omega arith) ∙ new_place d0 d1 l n e1)) e4 in
    emits_unless on x e d0 d1 d2 d3 d4 l m a hx s

-- a block, as the builder's calls make it
pub block_emitted : (x : Piece) (d0 d1 d2 d3 : Draft) (l : ℕ) → l ≡ length d0.places → d1 ≡ record d0 { places = d0.places ++ None ∷ [] } → Emits x (λ M. unwrap_or (M l) 0) d1 d2
    → d3 ≡ record d2 { places = slice_set d2.places l (Some (length d2.ops)) } → (e : Places → ℕ) → Emits (Block x) e d0 d3
block_emitted x d0 d1 d2 d3 l n e1 hx e3 e =
    let m = makes_from d0 d1 l n e1 in
    let long1 = m.long in
    let grown = hx.grown in
    let s = sets_from d2 d3 l (unplaced d2.places l (omega arith) (hx.kept l (omega arith) ∙ new_place d0 d1 l n e1)) e3 in
    emits_block x e d0 d1 d2 d3 l m hx s

-- a range's test with what is behind it, as the builder's calls make it
pub guard_emitted : {low high : ℤ} {x : Piece} {e : Places → ℕ} {d0 d1 d2 d3 d4 d5 : Draft} {l : ℕ}
    → l ≡ length d0.places → d1 ≡ record d0 { places = d0.places ++ None ∷ [] } → d2 ≡ record d1 { ops = d1.ops ++ (instruction.Jump (jump.InRange low high) l) ∷ [] } → Emits x e d2 d3
    → d4 ≡ record d3 { places = slice_set d3.places l (Some (length d3.ops)) } → Adds d4 d5 (instruction.Plain op.Pop) → Emits (Guard low high x) e d0 d5
guard_emitted {low} {high} {x} {e} {d0} {d1} {d2} {d3} {d4} {d5} {l} n e1 e2 hx e4 b =
    let m = makes_from d0 d1 l n e1 in
    let a = adds_from d1 d2 (instruction.Jump (jump.InRange low high) l) e2 in
    let long1 = m.long in
    let f = then_follows d1 d2 d3 (adds_follows d1 d2 (instruction.Jump (jump.InRange low high) l) a) (emits_follows x e d2 d3 hx) in
    let grown = f.grown in
    let s = sets_from d3 d4 l (unplaced d3.places l (omega arith) (f.kept l (omega arith) ∙ new_place d0 d1 l n e1)) e4 in
    emits_guard low high x e d0 d1 d2 d3 d4 d5 l m a hx s b

-- the code of a piece that leaves no block doesn't read where the block around ends
pub flat_stays : (x : Piece) → HasNoLeave x → (q e f : ℕ) → flat q e x ≡ flat q f x
flat_stays Empty h q e f = refl
flat_stays (Plain i) h q e f = refl
flat_stays (Then a b) h q e f = ap (λ (is : List Op). is ++ flat (end q a) e b) (flat_stays a h.0 q e f) ∙ ap (λ (is : List Op). flat q f a ++ is) (flat_stays b h.1 (end q a) e f)
flat_stays (Unless on a) h q e f = ap (λ (is : List Op). op.JumpIf on (end (q + 1) a) ∷ is) (flat_stays a h (q + 1) e f)
flat_stays (Choose on a b) h q e f =
    let mid = end (q + 1) a + 1 in
    ap (λ (is : List Op). op.JumpIf on mid ∷ (is ++ op.Jump (end mid b) ∷ flat mid e b)) (flat_stays a h.0 (q + 1) e f)
    ∙ ap (λ (is : List Op). op.JumpIf on mid ∷ (flat (q + 1) f a ++ op.Jump (end mid b) ∷ is)) (flat_stays b h.1 mid e f)
flat_stays (Repeat s a) h q e f = ap (λ (is : List Op). op.Loop s ∷ (is ++ op.Next ∷ [])) (flat_stays a h (q + 1) e f)
flat_stays (Block a) h q e f = refl
flat_stays Leave h q e f = absurd h
flat_stays (Guard low high a) h q e f = ap (λ (is : List Op). op.InRange low high (end (q + 1) a) ∷ (is ++ op.Pop ∷ [])) (flat_stays a h (q + 1) e f)

-- so it is emitted in any block
pub emits_anywhere : {x : Piece} → HasNoLeave x → {e f : Places → ℕ} {d d' : Draft} → Emits x e d d' → Emits x f d d'
emits_anywhere {x} h {e} {f} {d} s =
    record {
      grown = s.grown;
      kept = s.kept;
      settled = s.settled;
      code =
          λ M k. s.code M k ∙ ap (λ (is : List Op). resolved M d.ops ++ is) (flat_stays x h (length d.ops) (e M) (f M));
    }

-- ---- brackets

-- an opened bracket, its content, and its end
pub bracket_emitted : (m : Junction) {k : Junction} {x : Piece} {d d1 d2 d3 : Draft} → k ≡ m
    → Emits (Plain (op.Open k)) nowhere d d1 → Emits x nowhere d1 d2
    → Emits (Plain op.Close) nowhere d2 d3 → Emits (bracketed m x) nowhere d d3
bracket_emitted m {k} {x} {d} {d1} kind opened inner closed =
    emits_then (subst (λ (c : Junction). Emits (Plain (op.Open c)) nowhere d d1) kind opened) (emits_then inner closed)
