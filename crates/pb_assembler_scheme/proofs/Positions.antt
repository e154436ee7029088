-- A piece's code keeps the rules by position: its jumps lead on in the same body, and it names slots and callees in scope.
use Rattle.std.proofs.Common.{◌≡◌, ℕ, zero, suc, ◌+◌, ◌<◌, ◌≤◌, Bool, true, false, ◌||◌, List, [], ◌∷◌, map, length, Some, ◌⊎◌, inl, inr, true≢false, refl, sym, ap, ◌∙◌, subst, arith, ⊎_elim}
use Rattle.std.specs.Prelude.{slice_get, Contains, IsSome, ◌==◌}
use Rattle.std.proofs.lemmas.Bool.{cases_lt, eq-eqb, eqb-true}
use Rattle.pb_bytecode_program.specs.declared.domain.AbstractValue.{AbstractValue}
use Rattle.pb_bytecode_program.specs.Machine.{Program, carrier_of}
use Rattle.pb_bytecode_program.specs.Counts.{loops_around, loop_effect, Straight, Leaves}
use Rattle.pb_bytecode_program.specs.Transfer.{among}
use Rattle.pb_bytecode_program.specs.Accepted.{HasValidTarget, IsTarget, NamesInScope, loop_slots, slots_at}
use Rattle.pb_bytecode_program.proofs.Places.{around_next}
use Rattle.pb_bytecode_program.specs.declared.instruction.Op.{Op}
use Rattle.pb_bytecode_program.specs.declared.instruction.Op.TheVariants as op
use Rattle.pb_assembler_scheme.specs.Pieces.{Piece, Empty, Plain, Then, Unless, Choose, Repeat, Block, Leave, Guard, end, HasPieceAt}
use Rattle.pb_assembler_scheme.proofs.Tables.{IsStraight, around_end}

-- the loops around, the innermost first, each with its slot
abbrev pub Loops : Type 0
Loops = List (ℕ × AbstractValue)

abbrev pub slots_of : Loops → List ℕ
slots_of ls = map (λ (l : ℕ × AbstractValue). l.0) ls

among_contains : (ls : Loops) (i : ℕ) → among ls i ≡ true → Contains (slots_of ls) i
among_contains [] i e = absurd (true≢false (sym e))
among_contains (l ∷ ls) i e = by (i == l.0) refl e (among_contains ls i)
  where
    by : (b : Bool) → (i == l.0) ≡ b → (b || among ls i) ≡ true → (among ls i ≡ true → Contains (slots_of ls) i) → Contains (l.0 ∷ slots_of ls) i
    by true k h go = (0, omega arith, sym (eqb-true i l.0 k))
    by false k h go = let c = go h in (suc c.0, omega (arith, c.1), c.2)

contains_among : (ls : Loops) (i : ℕ) → Contains (slots_of ls) i → among ls i ≡ true
contains_among [] i (k, b, e) = absurd (omega arith)
contains_among (l ∷ ls) i (zero, b, e) = ap (λ c. c || among ls i) (eq-eqb i l.0 (sym e))
contains_among (l ∷ ls) i (suc k, b, e) = later (i == l.0) (among ls i) (contains_among ls i (k, omega arith, e))
  where
    later : (c d : Bool) → d ≡ true → (c || d) ≡ true
    later true d h = refl
    later false d h = h

-- nothing in the piece leaves a block that is around it
abbrev pub HasNoLeave : Piece → Type 0
HasNoLeave Empty = Unit {0}
HasNoLeave (Plain i) = Unit {0}
HasNoLeave (Then a b) = HasNoLeave a × HasNoLeave b
HasNoLeave (Unless on a) = HasNoLeave a
HasNoLeave (Choose on a b) = HasNoLeave a × HasNoLeave b
HasNoLeave (Repeat s a) = HasNoLeave a
HasNoLeave (Block a) = Unit {0}
HasNoLeave Leave = ⊥
HasNoLeave (Guard low high a) = HasNoLeave a

module _ (p : Program) where
  -- an instruction that neither jumps nor loops nor ends the run, and names a slot or a callee in scope
  abbrev pub NamesKnown : Loops → Op → Type 0
  NamesKnown ls (op.Get i) = (i < length p.parameters) ⊎ (among ls i ≡ true)
  NamesKnown ls (op.Call equation) = equation < length p.callees
  NamesKnown ls op.End = ⊥
  NamesKnown ls op.Next = ⊥
  NamesKnown ls (op.Loop i) = ⊥
  NamesKnown ls (op.Jump to) = ⊥
  NamesKnown ls (op.JumpIf on to) = ⊥
  NamesKnown ls (op.InRange low high to) = ⊥
  NamesKnown ls (op.SlotInRange i low high to) = ⊥
  NamesKnown ls i = Unit {0}

  abbrev pub IsInScope : Loops → Piece → Type 0
  IsInScope ls Empty = Unit {0}
  IsInScope ls (Plain i) = NamesKnown ls i
  IsInScope ls (Then a b) = IsInScope ls a × IsInScope ls b
  IsInScope ls (Unless on a) = IsInScope ls a
  IsInScope ls (Choose on a b) = IsInScope ls a × IsInScope ls b
  IsInScope ls (Repeat s a) =
      (v : AbstractValue) × IsSome (carrier_of p s) × (among ls s ≡ false) × (length ls < 8) × HasNoLeave a × IsInScope ((s, v) ∷ ls) a
  IsInScope ls (Block a) = IsInScope ls a
  IsInScope ls Leave = Unit {0}
  IsInScope ls (Guard low high a) = IsInScope ls a

  known_straight : (ls : Loops) (i : Op) → NamesKnown ls i → loop_effect i ≡ Straight
  known_straight ls (op.Loop i) h = absurd h
  known_straight ls op.Next h = absurd h
  known_straight ls i h = refl

  pub straight : (ls : Loops) (x : Piece) → IsInScope ls x → IsStraight p x
  straight ls Empty h = tt
  straight ls (Plain i) h = known_straight ls i h
  straight ls (Then a b) h = (straight ls a h.0, straight ls b h.1)
  straight ls (Unless on a) h = straight ls a h
  straight ls (Choose on a b) h = (straight ls a h.0, straight ls b h.1)
  straight ls (Repeat s a) h = straight ((s, h.0) ∷ ls) a h.5
  straight ls (Block a) h = straight ls a h
  straight ls Leave h = tt
  straight ls (Guard low high a) h = straight ls a h

  -- ---- the rules of one place

  pub record IsPlaced (q : ℕ) (i : Op) : Type 0 where
    pub target : HasValidTarget p q i
    pub names : NamesInScope p q i
    pub closes : loop_effect i ≡ Leaves → 0 < length (loops_around p.code q)

  abbrev pub EachPlaced : ℕ → ℕ → Type 0
  EachPlaced low high = (q : ℕ) (i : Op) → low ≤ q → q < high → slice_get p.code q ≡ Some i → IsPlaced q i

  pub placed_one : (q : ℕ) (o : Op) → slice_get p.code q ≡ Some o → IsPlaced q o → EachPlaced q (q + 1)
  placed_one q o h fine r i low high at =
      let e : q ≡ r = omega arith in
      let f : slice_get p.code q ≡ slice_get p.code r = ap (slice_get p.code) e in
      let eo : o ≡ i = cc in
      subst (λ s. IsPlaced s i) e (subst (λ (j : Op). IsPlaced q j) eo fine)

  pub placed_both : (low mid high : ℕ) → EachPlaced low mid → EachPlaced mid high → EachPlaced low high
  placed_both low mid high a b q i l h = ⊎_elim (λ s. a q i l s) (λ s. b q i s h) (cases_lt q mid)

  none_placed : (q : ℕ) → EachPlaced q q
  none_placed q r i low high at = absurd (omega arith)

  -- ---- where a piece stands

  pub grows : (x : Piece) (q : ℕ) → q ≤ end q x
  grows Empty q = omega arith
  grows (Plain i) q = omega arith
  grows (Then a b) q = omega (arith, grows a q, grows b (end q a))
  grows (Unless on a) q = omega (arith, grows a (q + 1))
  grows (Choose on a b) q = omega (arith, grows a (q + 1), grows b (end (q + 1) a + 1))
  grows (Repeat s a) q = omega (arith, grows a (q + 1))
  grows (Block a) q = grows a q
  grows Leave q = omega arith
  grows (Guard low high a) q = omega (arith, grows a (q + 1))

  -- the loops around a place
  pub record Around (q : ℕ) (ls : Loops) : Type 0 where
    pub slots : loop_slots p.code (loops_around p.code q) ≡ slots_of ls
    pub deep : length (loops_around p.code q) ≡ length ls

  moved : (q r : ℕ) (ls : Loops) → loops_around p.code r ≡ loops_around p.code q → Around q ls → Around r ls
  moved q r ls e a = record { slots = ap (loop_slots p.code) e ∙ a.slots; deep = ap length e ∙ a.deep }

  -- the end of the block around, or none is left
  pub record IsBehind (q e : ℕ) (x : Piece) : Type 0 where
    pub after : end q x ≤ e
    pub inside : e < length p.code
    pub one_body : loops_around p.code e ≡ loops_around p.code q

  abbrev MayLeave : ℕ → ℕ → Piece → Type 0
  MayLeave q e x = HasNoLeave x ⊎ IsBehind q e x

  leads : (q to : ℕ) → q < to → to < length p.code → loops_around p.code to ≡ loops_around p.code q → IsTarget p.code q to
  leads q to a b c = record { later = a; inside = b; one_body = c }

  known_placed : (ls : Loops) (q : ℕ) (i : Op) → NamesKnown ls i → Around q ls → IsPlaced q i
  known_placed ls q (op.Get i) h a = record { target = tt; names = ⊎_elim (λ s. inl s) (λ s. inr (subst (λ is. Contains is i) (sym a.slots) (among_contains ls i s))) h; closes = λ e. cc }
  known_placed ls q (op.Call equation) h a = record { target = tt; names = h; closes = λ e. cc }
  known_placed ls q op.End h a = absurd h
  known_placed ls q op.Next h a = absurd h
  known_placed ls q (op.Loop i) h a = absurd h
  known_placed ls q (op.Jump to) h a = absurd h
  known_placed ls q (op.JumpIf on to) h a = absurd h
  known_placed ls q (op.InRange low high to) h a = absurd h
  known_placed ls q (op.SlotInRange i low high to) h a = absurd h
  known_placed ls q i h a = record { target = tt; names = tt; closes = λ e. cc }

  inner_may : (q r e : ℕ) (x y : Piece) → (HasNoLeave x → HasNoLeave y) → end r y ≤ end q x → loops_around p.code q ≡ loops_around p.code r → MayLeave q e x → MayLeave r e y
  inner_may q r e x y none less same m =
      ⊎_elim (λ n. inl (none n)) (λ (b : IsBehind q e x). inr (record { after = let a = b.after in omega arith; inside = b.inside; one_body = b.one_body ∙ same })) m

  pub placed : (x : Piece) (ls : Loops) → IsInScope ls x → (q e : ℕ) → HasPieceAt p.code q e x → Around q ls → end q x < length p.code → MayLeave q e x → EachPlaced q (end q x)
  placed Empty ls sc q e h ar short m = none_placed q
  placed (Plain i) ls sc q e h ar short m = placed_one q i h (known_placed ls q i sc ar)
  placed (Then a b) ls sc q e h ar short m =
      let mid = end q a in
      let less = grows b mid in
      let same = around_end p [] a (straight ls a sc.0) q e h.0 in
      placed_both q mid (end mid b)
      (placed a ls sc.0 q e h.0 ar (omega arith) (inner_may q q e (Then a b) a (λ n. n.0) less refl m))
      (placed b ls sc.1 mid e h.1 (moved q mid ls same ar) short (inner_may q mid e (Then a b) b (λ n. n.1) (omega arith) (sym same) m))
  placed (Unless on a) ls sc q e h ar short m =
      let to = end (q + 1) a in
      let less = grows a (q + 1) in
      let step = around_next p.code q (op.JumpIf on to) h.0 in
      let same = around_end p [] a (straight ls a sc) (q + 1) e h.1 in
      placed_both q (q + 1) to
      (placed_one q (op.JumpIf on to) h.0 (record { target = leads q to (omega arith) short (same ∙ step); names = tt; closes = λ e. cc }))
      (placed a ls sc (q + 1) e h.1 (moved q (q + 1) ls step ar) short (inner_may q (q + 1) e (Unless on a) a (λ n. n) (omega arith) (sym step) m))
  placed (Choose on a b) ls sc q e h ar short m =
      let mid = end (q + 1) a in
      let to = end (mid + 1) b in
      let more = grows a (q + 1) in
      let less = grows b (mid + 1) in
      let step = around_next p.code q (op.JumpIf on (mid + 1)) h.0 in
      let first = around_end p [] a (straight ls a sc.0) (q + 1) e h.1 ∙ step in
      let jump = around_next p.code mid (op.Jump to) h.2 ∙ first in
      let last = around_end p [] b (straight ls b sc.1) (mid + 1) e h.3 ∙ jump in
      placed_both q (q + 1) to
      (placed_one q (op.JumpIf on (mid + 1)) h.0 (record { target = leads q (mid + 1) (omega arith) (omega arith) jump; names = tt; closes = λ e. cc }))
      (placed_both (q + 1) mid to
      (placed a ls sc.0 (q + 1) e h.1 (moved q (q + 1) ls step ar) (omega arith) (inner_may q (q + 1) e (Choose on a b) a (λ n. n.0) (omega arith) (sym step) m))
      (placed_both mid (mid + 1) to
      (placed_one mid (op.Jump to) h.2 (record { target = leads mid to (omega arith) short (last ∙ sym first); names = tt; closes = λ e. cc }))
      (placed b ls sc.1 (mid + 1) e h.3 (moved q (mid + 1) ls jump ar) short (inner_may q (mid + 1) e (Choose on a b) b (λ n. n.1) (omega arith) (sym jump) m))))
  placed (Repeat s a) ls sc q e h ar short m =
      let mid = end (q + 1) a in
      let more = grows a (q + 1) in
      let body : Loops = (s, sc.0) ∷ ls in
      let step = around_next p.code q (op.Loop s) h.0 in
      let round = around_end p [] a (straight body a sc.5) (q + 1) e h.1 ∙ step in
      let inner : Around (q + 1) body = record {
        slots = ap (loop_slots p.code) step ∙ ap (λ o. slots_at o (loop_slots p.code (loops_around p.code q))) h.0 ∙ ap (λ is. s ∷ is) ar.slots;
        deep = ap length step ∙ ap suc ar.deep;
      } in
      let deep = ar.deep in
      let few = sc.3 in
      placed_both q (q + 1) (mid + 1)
      (placed_one q (op.Loop s) h.0 (record {
        target = tt;
        names = (sc.1, λ c. true≢false (sym (contains_among ls s (subst (λ is. Contains is s) ar.slots c)) ∙ sc.2), omega arith);
        closes = λ e. cc;
      }))
      (placed_both (q + 1) mid (mid + 1)
      (placed a body sc.5 (q + 1) e h.1 inner (omega arith) (inl sc.4))
      (placed_one mid op.Next h.2 (record { target = tt; names = tt; closes = λ e. let l = ap length round in omega (arith, l) })))
  placed (Block a) ls sc q e h ar short m =
      placed a ls sc q (end q a) h ar short (inr (record { after = omega arith; inside = short; one_body = around_end p [] a (straight ls a sc) q (end q a) h }))
  placed Leave ls sc q e h ar short m =
      ⊎_elim (λ n. absurd n)
      (λ (b : IsBehind q e Leave). let after = b.after in
      placed_one q (op.Jump e) h (record { target = leads q e (omega arith) b.inside b.one_body; names = tt; closes = λ e. cc })) m
  placed (Guard low high a) ls sc q e h ar short m =
      let mid = end (q + 1) a in
      let more = grows a (q + 1) in
      let step = around_next p.code q (op.InRange low high mid) h.0 in
      let same = around_end p [] a (straight ls a sc) (q + 1) e h.1 ∙ step in
      placed_both q (q + 1) (mid + 1)
      (placed_one q (op.InRange low high mid) h.0 (record { target = leads q mid (omega arith) (omega arith) same; names = tt; closes = λ e. cc }))
      (placed_both (q + 1) mid (mid + 1)
      (placed a ls sc (q + 1) e h.1 (moved q (q + 1) ls step ar) (omega arith) (inner_may q (q + 1) e (Guard low high a) a (λ n. n) (omega arith) (sym step) m))
      (placed_one mid op.Pop h.2 (record { target = tt; names = tt; closes = λ e. cc })))
