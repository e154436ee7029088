-- What is known at each place of a piece's code, put together as the piece is.
use Rattle.std.proofs.Common.{◌≡◌, ℕ, ◌+◌, ◌<◌, ◌≤◌, Bool, true, false, cond, not, ◌&&◌, List, [], ◌∷◌, ◌++◌, length, Option, Some, None, true≢false, refl, sym, ap, ◌∙◌, subst, arith, ⊎_elim, length-append}
use Rattle.std.specs.Int.{int_max, int_min}
use Rattle.std.specs.Prelude.{ℤ, int_le, slice_get, nat_lt}
use Rattle.std.proofs.lemmas.Bool.{and_from, eq-eqb, cases_lt}
use Rattle.pb_sorts.specs.declared.carrier.Carrier.{Carrier}
use Rattle.pb_bytecode_program.specs.Values.{is_inhabited}
use Rattle.pb_bytecode_program.specs.Abstract.{abstraction_of}
use Rattle.pb_bytecode_program.specs.declared.domain.AbstractValue.{AbstractValue}
use Rattle.pb_bytecode_program.specs.declared.domain.AbstractValue.TheVariants as abstract
use Rattle.pb_bytecode_program.specs.Machine.{Program, carrier_of}
use Rattle.pb_bytecode_program.specs.Counts.{loops_around, loop_effect, loops_after, Straight}
use Rattle.pb_bytecode_program.specs.Transfer
use Rattle.pb_bytecode_program.specs.Transfer.{AbstractState, Edge, Flow, to_next_place, transfer, among, abstract_loop, abstract_next}
use Rattle.pb_bytecode_program.specs.Accepted.{Table, state_at, state_at_loop, IsCovered, Leads, AllLead, FlowIsCovered}
use Rattle.pb_bytecode_program.proofs.Places.{around_next}
use Rattle.pb_bytecode_program.specs.declared.instruction.Op.{Op}
use Rattle.pb_bytecode_program.specs.declared.instruction.Op.TheVariants as op
use Rattle.pb_assembler_scheme.specs.Pieces.{Piece, Empty, Plain, Then, Unless, Choose, Repeat, Block, Leave, Guard, end, HasPieceAt}

module _ (p : Program) where
  abbrev pub inside : AbstractState → ℕ → Carrier → AbstractState
  inside k s c =
      record {
        operands = [];
        operands_below = length k.operands + k.operands_below;
        parameters = k.parameters;
        loops =
            (s, abstraction_of c) ∷ k.loops;
        brackets = k.brackets;
        brackets_below = k.brackets;
        roots = k.roots;
      }

  -- a body that ends as it began
  pub record Turns (k : AbstractState) (s : ℕ) (Body : AbstractState → AbstractState → Type 0) : Type 0 where
    pub carrier : Carrier
    pub of_slot : carrier_of p s ≡ Some carrier
    pub nested : (nat_lt (length k.loops) 8 && not (among k.loops s) && is_inhabited carrier) ≡ true
    pub begun : AbstractState
    pub begins : IsCovered (inside k s carrier) begun
    pub last : AbstractState
    pub body : Body begun last
    pub no_operands : last.operands ≡ []
    pub same_brackets : last.brackets ≡ k.brackets
    pub same_roots : last.roots ≡ k.roots

  -- an operator with one way on
  pub record Passes (o : Op) (k k' : AbstractState) : Type 0 where
    pub straight : loop_effect o ≡ Straight
    pub next : AbstractState
    pub way : (home : Option AbstractState) (q : ℕ) → transfer p home q o k ≡ to_next_place q next
    pub covered : IsCovered next k'

  pub record Tests (k : AbstractState) (Rest : AbstractState → Type 0) : Type 0 where
    pub others : List AbstractValue
    pub operands : k.operands ≡ abstract.Bool ∷ others
    pub rest : Rest (record k { operands = others })

  abbrev pub cut : AbstractState → ℤ → ℤ → ℤ → ℤ → List AbstractValue → AbstractState
  cut k l h low high os = record k { operands = abstract.Int (int_max l low) (int_min h high) ∷ os }

  -- a body that is reached, or isn't
  abbrev pub Reached : Bool → AbstractState → AbstractState → (AbstractState → AbstractState → Type 0) → Type 0
  Reached true k k' Body = (m : AbstractState) × IsCovered k m × Body m k'
  Reached false k k' Body = Unit {0}

  pub record Guards (low high : ℤ) (k k' : AbstractState) (Body : AbstractState → AbstractState → Type 0) : Type 0 where
    pub least : ℤ
    pub greatest : ℤ
    pub others : List AbstractValue
    pub operands : k.operands ≡ abstract.Int least greatest ∷ others
    pub leaves : (int_le low least && int_le greatest high) ≡ false
    pub meets : Bool
    pub meeting : (int_le least high && int_le low greatest) ≡ meets
    pub failed : AbstractState
    pub top : AbstractValue
    pub under : List AbstractValue
    pub failed_operands : failed.operands ≡ top ∷ under
    pub body : Reached meets (cut k least greatest low high others) failed Body
    pub outside : IsCovered (record k { operands = abstract.Int least greatest ∷ others }) failed
    pub after : IsCovered (record failed { operands = under }) k'

  abbrev pub dead : Piece → Table
  dead Empty = []
  dead (Plain o) = None ∷ []
  dead (Then a b) = dead a ++ dead b
  dead (Unless on a) = None ∷ dead a
  dead (Choose on a b) = None ∷ (dead a ++ None ∷ dead b)
  dead (Repeat s a) = None ∷ (dead a ++ None ∷ [])
  dead (Block a) = dead a
  dead Leave = None ∷ []
  dead (Guard low high a) = None ∷ (dead a ++ None ∷ [])

  abbrev pub reached_notes : (b : Bool) (k k' : AbstractState) (Body : AbstractState → AbstractState → Type 0) → ((m l : AbstractState) → Body m l → Table) → Table → Reached b k k' Body → Table
  reached_notes true k k' Body f d r = f r.0 k' r.2
  reached_notes false k k' Body f d r = d

  -- only loops turn
  abbrev pub IsStraight : Piece → Type 0
  IsStraight Empty = Unit {0}
  IsStraight (Plain o) = loop_effect o ≡ Straight
  IsStraight (Then a b) = IsStraight a × IsStraight b
  IsStraight (Unless on a) = IsStraight a
  IsStraight (Choose on a b) = IsStraight a × IsStraight b
  IsStraight (Repeat s a) = IsStraight a
  IsStraight (Block a) = IsStraight a
  IsStraight Leave = Unit {0}
  IsStraight (Guard low high a) = IsStraight a

  -- the piece leads from what is known to what is known, and leaves its block with no more than `out`
  abbrev pub Flows : (x : Piece) (out k k' : AbstractState) → Type 0
  Flows Empty out k k' = k ≡ k'
  Flows (Plain o) out k k' = Passes o k k'
  Flows (Then a b) out k k' = (m : AbstractState) × Flows a out k m × Flows b out m k'
  Flows (Unless on a) out k k' = Tests k (λ r. IsCovered r k' × ((m : AbstractState) × IsCovered r m × Flows a out m k'))
  Flows (Choose on a b) out k k' =
      Tests k (λ r. ((m : AbstractState) × (m' : AbstractState) × IsCovered r m × Flows a out m m' × IsCovered m' k') × ((m : AbstractState) × IsCovered r m × Flows b out m k'))
  Flows (Repeat s a) out k k' = Turns k s (λ b l. Flows a out b l) × IsCovered k k'
  Flows (Block a) out k k' = Flows a k' k k'
  Flows Leave out k k' = IsCovered k out
  Flows (Guard low high a) out k k' = Guards low high k k' (λ b l. Flows a out b l)

  -- the table's part for the piece
  abbrev pub states : (x : Piece) (out k k' : AbstractState) → Flows x out k k' → Table
  states Empty out k k' g = []
  states (Plain o) out k k' g = Some k ∷ []
  states (Then a b) out k k' g = states a out k g.0 g.1 ++ states b out g.0 k' g.2
  states (Unless on a) out k k' g = Some k ∷ states a out g.rest.1.0 k' g.rest.1.2
  states (Choose on a b) out k k' g = let l = g.rest.0 in let r = g.rest.1 in Some k ∷ (states a out l.0 l.1 l.3 ++ Some l.1 ∷ states b out r.0 k' r.2)
  states (Repeat s a) out k k' g = let t = g.0 in Some k ∷ (states a out t.begun t.last t.body ++ Some t.last ∷ [])
  states (Block a) out k k' g = states a k' k k' g
  states Leave out k k' g = Some k ∷ []
  states (Guard low high a) out k k' g = Some k ∷ (reached_notes g.meets _ g.failed (λ b l. Flows a out b l) (λ b l x. states a out b l x) (dead a) g.body ++ Some g.failed ∷ [])

  long_dead : (x : Piece) (q : ℕ) → end q x ≡ q + length (dead x)
  long_dead Empty q = omega arith
  long_dead (Plain o) q = omega arith
  long_dead (Then a b) q = omega (arith, long_dead a q, long_dead b (end q a), length-append (dead a) (dead b))
  long_dead (Unless on a) q = omega (arith, long_dead a (q + 1))
  long_dead (Choose on a b) q = let nb = dead b in let na = dead a in omega (arith, long_dead a (q + 1), long_dead b (end (q + 1) a + 1), length-append na (None ∷ nb))
  long_dead (Repeat s a) q = omega (arith, long_dead a (q + 1), length-append (dead a) (None ∷ []))
  long_dead (Block a) q = long_dead a q
  long_dead Leave q = omega arith
  long_dead (Guard low high a) q = omega (arith, long_dead a (q + 1), length-append (dead a) (None ∷ []))

  abbrev inner : (low high : ℤ) (a : Piece) (out k k' : AbstractState) → Flows (Guard low high a) out k k' → Table
  inner low high a out k k' g = reached_notes g.meets (cut k g.least g.greatest low high g.others) g.failed (λ b l. Flows a out b l) (λ b l x. states a out b l x) (dead a) g.body

  long_reached : (a : Piece) (Body : AbstractState → AbstractState → Type 0)
      (f : (m l : AbstractState) → Body m l → Table) (q : ℕ) → ((m l : AbstractState) (x : Body m l) → end q a ≡ q + length (f m l x))
      → (b : Bool) (k k' : AbstractState) (r : Reached b k k' Body) → end q a ≡ q + length (reached_notes b k k' Body f (dead a) r)
  long_reached a Body f q h true k k' r = h r.0 k' r.2
  long_reached a Body f q h false k k' r = long_dead a q

  pub long : (x : Piece) (out k k' : AbstractState) (g : Flows x out k k') (q : ℕ) → end q x ≡ q + length (states x out k k' g)
  long Empty out k k' g q = omega arith
  long (Plain o) out k k' g q = omega arith
  long (Then a b) out k k' g q = omega (arith, long a out k g.0 g.1 q, long b out g.0 k' g.2 (end q a), length-append (states a out k g.0 g.1) (states b out g.0 k' g.2))
  long (Unless on a) out k k' g q = omega (arith, long a out g.rest.1.0 k' g.rest.1.2 (q + 1))
  long (Choose on a b) out k k' g q =
      let l = g.rest.0 in
      let r = g.rest.1 in
      let nb = states b out r.0 k' r.2 in
      omega (arith, long a out l.0 l.1 l.3 (q + 1), long b out r.0 k' r.2 (end (q + 1) a + 1), length-append (states a out l.0 l.1 l.3) (Some l.1 ∷ nb))
  long (Repeat s a) out k k' g q = let t = g.0 in omega (arith, long a out t.begun t.last t.body (q + 1), length-append (states a out t.begun t.last t.body) (Some t.last ∷ []))
  long (Block a) out k k' g q = long a k' k k' g q
  long Leave out k k' g q = omega arith
  long (Guard low high a) out k k' g q =
      omega (
        arith,
        long_reached a (λ b l. Flows a out b l) (λ b l x. states a out b l x) (q + 1)
            (λ m l x. long a out m l x (q + 1)) g.meets (cut k g.least g.greatest low high g.others) g.failed g.body,
        length-append (inner low high a out k k' g) (Some g.failed ∷ []),
      )

  module _ (table : Table) where
    abbrev pub HasStates : ℕ → Table → Type 0
    HasStates q [] = Unit {0}
    HasStates q (o ∷ os) = (state_at table q ≡ o) × HasStates (q + 1) os

    pub noted_front : (q : ℕ) (a b : Table) → HasStates q (a ++ b) → HasStates q a
    noted_front q [] b h = tt
    noted_front q (o ∷ a) b h = (h.0, noted_front (q + 1) a b h.1)

    pub noted_back : (q r : ℕ) (a b : Table) → r ≡ q + length a → HasStates q (a ++ b) → HasStates r b
    noted_back q r [] b e h = let f : q ≡ r = omega arith in subst (λ n. HasStates n b) f h
    noted_back q r (o ∷ a) b e h = noted_back (q + 1) r a b (omega arith) h.1

    -- the first note is what is known before
    pub first : (x : Piece) (out k k' : AbstractState) (g : Flows x out k k') (q : ℕ) → HasStates q (states x out k k' g) → state_at table (end q x) ≡ Some k' → state_at table q ≡ Some k
    first Empty out k k' g q h after = after ∙ ap Some (sym g)
    first (Plain o) out k k' g q h after = h.0
    first (Then a b) out k k' g q h after =
        let na = states a out k g.0 g.1 in
        let nb = states b out g.0 k' g.2 in
        first a out k g.0 g.1 q (noted_front q na nb h) (first b out g.0 k' g.2 (end q a) (noted_back q (end q a) na nb (long a out k g.0 g.1 q) h) after)
    first (Unless on a) out k k' g q h after = h.0
    first (Choose on a b) out k k' g q h after = h.0
    first (Repeat s a) out k k' g q h after = h.0
    first (Block a) out k k' g q h after = first a k' k k' g q h after
    first Leave out k k' g q h after = h.0
    first (Guard low high a) out k k' g q h after = h.0

    -- no piece changes the loops around
    pub around_end : (x : Piece) → IsStraight x → (q e : ℕ) → HasPieceAt p.code q e x → loops_around p.code (end q x) ≡ loops_around p.code q
    around_end Empty g q e h = refl
    around_end (Plain o) g q e h = around_next p.code q o h ∙ ap (λ t. loops_after t q (loops_around p.code q)) g
    around_end (Then a b) g q e h = around_end b g.1 (end q a) e h.1 ∙ around_end a g.0 q e h.0
    around_end (Unless on a) g q e h = around_end a g (q + 1) e h.1 ∙ around_next p.code q _ h.0
    around_end (Choose on a b) g q e h =
        around_end b g.1 (end (q + 1) a + 1) e h.3 ∙ around_next p.code (end (q + 1) a) _ h.2 ∙ around_end a g.0 (q + 1) e h.1 ∙ around_next p.code q _ h.0
    around_end (Repeat s a) g q e h =
        around_next p.code (end (q + 1) a) op.Next h.2 ∙ ap (loops_after (loop_effect op.Next) (end (q + 1) a)) (around_end a g (q + 1) e h.1 ∙ around_next p.code q (op.Loop s) h.0)
    around_end (Block a) g q e h = around_end a g q (end q a) h
    around_end Leave g q e h = around_next p.code q _ h
    around_end (Guard low high a) g q e h = around_next p.code (end (q + 1) a) op.Pop h.2 ∙ around_end a g (q + 1) e h.1 ∙ around_next p.code q _ h.0

    -- each place from low up to high with a note keeps its instruction's rule
    abbrev pub EachIn : ℕ → ℕ → Type 0
    EachIn low high = (q : ℕ) (i : Op) (k : AbstractState) → low ≤ q → q < high → slice_get p.code q ≡ Some i
        → state_at table q ≡ Some k → FlowIsCovered table (transfer p (state_at_loop table (loops_around p.code q)) q i k)

    pub each_one : (q : ℕ) (o : Op) (k : AbstractState) → slice_get p.code q ≡ Some o → state_at table q ≡ Some k
        → FlowIsCovered table (transfer p (state_at_loop table (loops_around p.code q)) q o k) → EachIn q (q + 1)
    each_one q o k h n fine r i m low high at known =
        let e : q ≡ r = omega arith in
        let f : slice_get p.code q ≡ slice_get p.code r = ap (slice_get p.code) e in
        let g : state_at table q ≡ state_at table r = ap (state_at table) e in
        let eo : o ≡ i = cc in
        let ek : k ≡ m = cc in
        subst (λ s. FlowIsCovered table (transfer p (state_at_loop table (loops_around p.code s)) s i m)) e
        (subst (λ (j : Op). FlowIsCovered table (transfer p (state_at_loop table (loops_around p.code q)) q j m)) eo
        (subst (λ (j : AbstractState). FlowIsCovered table (transfer p (state_at_loop table (loops_around p.code q)) q o j)) ek fine))

    pub each_both : (low mid high : ℕ) → EachIn low mid → EachIn mid high → EachIn low high
    each_both low mid high a b q i k l h = ⊎_elim (λ s. a q i k l s) (λ s. b q i k s h) (cases_lt q mid)

    each_none : (q : ℕ) → EachIn q q
    each_none q r i k l h = absurd (omega arith)

    pub leads : (to : ℕ) (k m : AbstractState) → state_at table to ≡ Some m → IsCovered k m → Leads table (record { to = to; state = k })
    leads to k m n c = record { known = m; there = n; covered = c }

    tests_fine : (k : AbstractState) (os : List AbstractValue) (q to : ℕ) → k.operands ≡ abstract.Bool ∷ os
        → Leads table (record { to = q + 1; state = record k { operands = os } })
        → Leads table (record { to = to; state = record k { operands = os } })
        → FlowIsCovered table
        (Transfer.abstract_pop_bool k.operands
        (λ ss. Some
        (record { to = q + 1; state = record k { operands = ss } } ∷ record { to = to; state = record k { operands = ss } } ∷ [])))
    tests_fine k os q to e a b =
        subst (λ (l : List AbstractValue). FlowIsCovered table
        (Transfer.abstract_pop_bool l
        (λ ss. Some
        (record { to = q + 1; state = record k { operands = ss } } ∷ record
        { to = to; state = record k { operands = ss } } ∷ [])))) (sym e) (a, (b, tt))

    loop_fine : (k : AbstractState) (s q : ℕ) (c : Carrier) (o : Option Carrier) → o ≡ Some c
        → (nat_lt (length k.loops) 8 && not (among k.loops s) && is_inhabited c) ≡ true
        → Leads table (record { to = q + 1; state = inside k s c }) → FlowIsCovered table (abstract_loop q k s o)
    loop_fine k s q c o e n l =
        subst (λ (x : Option Carrier). FlowIsCovered table (abstract_loop q k s x)) (sym e)
        (subst (λ b. FlowIsCovered table (cond b (to_next_place q (inside k s c)) None)) (sym n) (l, tt))

    next_fine : (q : ℕ) (l k : AbstractState) (home : Option AbstractState) → home ≡ Some k → l.operands ≡ []
        → l.brackets ≡ k.brackets → l.roots ≡ k.roots → Leads table (record { to = q + 1; state = k })
        → FlowIsCovered table (abstract_next q l l.operands home)
    next_fine q l k home e none b r lead =
        subst (λ (h : Option AbstractState). FlowIsCovered table (abstract_next q l l.operands h)) (sym e)
        (subst (λ (ss : List AbstractValue). FlowIsCovered table (abstract_next q l ss (Some k))) (sym none)
        (subst (λ c. FlowIsCovered table (cond c (to_next_place q k) None)) (sym (and_from _ _ (eq-eqb l.brackets k.brackets b) (eq-eqb l.roots k.roots r))) (lead, tt)))

    each_unreached : (q : ℕ) → state_at table q ≡ None → EachIn q (q + 1)
    each_unreached q n r i m low high at known =
        let e : q ≡ r = omega arith in
        let g : state_at table q ≡ state_at table r = ap (state_at table) e in
        absurd (no_note m (sym n ∙ g ∙ known))
      where
        no_note : (k : AbstractState) → None ≡ Some k → ⊥
        no_note k e = cc

    dead_body : (a : Piece) (q : ℕ) → state_at table q ≡ None → HasStates (q + 1) (dead a ++ None ∷ []) → (HasStates (q + 1) (dead a) → EachIn (q + 1) (end (q + 1) a)) → EachIn q (end (q + 1) a + 1)
    dead_body a q n m go =
        let mid = end (q + 1) a in
        each_both q (q + 1) (mid + 1) (each_unreached q n)
        (each_both (q + 1) mid (mid + 1) (go (noted_front (q + 1) (dead a) (None ∷ []) m)) (each_unreached mid (noted_back (q + 1) mid (dead a) (None ∷ []) (long_dead a (q + 1)) m).0))

    each_dead : (x : Piece) (q : ℕ) → HasStates q (dead x) → EachIn q (end q x)
    each_dead Empty q n = each_none q
    each_dead (Plain o) q n = each_unreached q n.0
    each_dead (Then a b) q n =
        each_both q (end q a) (end (end q a) b) (each_dead a q (noted_front q (dead a) (dead b) n))
        (each_dead b (end q a) (noted_back q (end q a) (dead a) (dead b) (long_dead a q) n))
    each_dead (Unless on a) q n = each_both q (q + 1) (end (q + 1) a) (each_unreached q n.0) (each_dead a (q + 1) n.1)
    each_dead (Choose on a b) q n =
        let mid = end (q + 1) a in
        let nb = dead b in
        let back = noted_back (q + 1) mid (dead a) (None ∷ nb) (long_dead a (q + 1)) n.1 in
        each_both q (q + 1) (end (mid + 1) b) (each_unreached q n.0)
        (each_both (q + 1) mid (end (mid + 1) b) (each_dead a (q + 1) (noted_front (q + 1) (dead a) (None ∷ nb) n.1))
        (each_both mid (mid + 1) (end (mid + 1) b) (each_unreached mid back.0) (each_dead b (mid + 1) back.1)))
    each_dead (Repeat s a) q n = dead_body a q n.0 n.1 (each_dead a (q + 1))
    each_dead (Block a) q n = each_dead a q n
    each_dead Leave q n = each_unreached q n.0
    each_dead (Guard low high a) q n = dead_body a q n.0 n.1 (each_dead a (q + 1))

    split_fine : (k0 k1 : AbstractState) (q to : ℕ) (b c : Bool) → (b ≡ true → Leads table (record { to = q + 1; state = k0 })) → c ≡ false → Leads table (record { to = to; state = k1 })
        → AllLead table (Transfer.when b (record { to = q + 1; state = k0 }) ++ Transfer.when (not c) (record { to = to; state = k1 }))
    split_fine k0 k1 q to true c i e o =
        subst (λ d. AllLead table
        (Transfer.when true (record { to = q + 1; state = k0 })
        ++ Transfer.when (not d) (record { to = to; state = k1 }))) (sym e) (i refl, (o, tt))
    split_fine k0 k1 q to false c i e o = subst (λ d. AllLead table (Transfer.when (not d) (record { to = to; state = k1 }))) (sym e) (o, tt)

    guard_fine : (k : AbstractState) (os : List AbstractValue) (q to : ℕ) (l h low high : ℤ) (meets : Bool)
        → k.operands ≡ abstract.Int l h ∷ os → (int_le low l && int_le h high) ≡ false → (int_le l high && int_le low h) ≡ meets
        → (meets ≡ true → Leads table (record { to = q + 1; state = cut k l h low high os })) → Leads table (record { to = to; state = record k { operands = abstract.Int l h ∷ os } })
        → FlowIsCovered table
        (Transfer.abstract_pop_int k.operands
        (λ l h ss. Transfer.range_edges q to l h low high
        (record k { operands = abstract.Int (int_max l low) (int_min h high) ∷ ss }) (record k { operands = abstract.Int l h ∷ ss })))
    guard_fine k os q to l h low high meets e lv m i o =
        subst (λ (x : List AbstractValue). FlowIsCovered table
        (Transfer.abstract_pop_int x
        (λ l h ss. Transfer.range_edges q to l h low high
        (record k { operands = abstract.Int (int_max l low) (int_min h high) ∷ ss })
        (record k { operands = abstract.Int l h ∷ ss })))) (sym e)
        (split_fine (cut k l h low high os) (record k { operands = abstract.Int l h ∷ os }) q to (int_le l high && int_le low h) (int_le low l && int_le h high) (λ t. i (sym m ∙ t)) lv o)

    pop_fine : (k : AbstractState) (q : ℕ) (s : AbstractValue) (ss : List AbstractValue) → k.operands ≡ s ∷ ss
        → Leads table (record { to = q + 1; state = record k { operands = ss } })
        → FlowIsCovered table (Transfer.abstract_pop k.operands (λ s ss. to_next_place q (record k { operands = ss })))
    pop_fine k q s ss e l = subst (λ (x : List AbstractValue). FlowIsCovered table (Transfer.abstract_pop x (λ s ss. to_next_place q (record k { operands = ss })))) (sym e) (l, tt)

    -- the body of a guard: where it is entered its first place covers, and each of its places keeps its rule
    within : (a : Piece) (out : AbstractState) (q e : ℕ) → HasPieceAt p.code q e a → (failed : AbstractState) (b : Bool) (k : AbstractState) (r : Reached b k failed (λ b l. Flows a out b l))
        → HasStates q (reached_notes b k failed (λ b l. Flows a out b l) (λ b l x. states a out b l x) (dead a) r)
        → ((m : AbstractState) (x : Flows a out m failed) → HasStates q (states a out m failed x) → state_at table q ≡ Some m)
        → ((m : AbstractState) (x : Flows a out m failed) → HasStates q (states a out m failed x) → EachIn q (end q a))
        → (b ≡ true → Leads table (record { to = q; state = k })) × EachIn q (end q a)
    within a out q e h failed true k r n f g = ((λ t. leads q k r.0 (f r.0 r.2 n) r.1), g r.0 r.2 n)
    within a out q e h failed false k r n f g = ((λ t. absurd (true≢false (sym t))), each_dead a q n)

    pub each_in : (x : Piece) (out k k' : AbstractState) (g : Flows x out k k') → IsStraight x → (q e : ℕ)
        → HasPieceAt p.code q e x → state_at table e ≡ Some out → HasStates q (states x out k k' g)
        → state_at table (end q x) ≡ Some k' → EachIn q (end q x)
    each_in Empty out k k' g st q e h leaves n after = each_none q
    each_in (Plain o) out k k' g st q e h leaves n after =
        each_one q o k h n.0 (subst (FlowIsCovered table) (sym (g.way (state_at_loop table (loops_around p.code q)) q)) (leads (q + 1) g.next k' after g.covered, tt))
    each_in (Then a b) out k k' g st q e h leaves n after =
        let na = states a out k g.0 g.1 in
        let nb = states b out g.0 k' g.2 in
        let back = noted_back q (end q a) na nb (long a out k g.0 g.1 q) n in
        each_both q (end q a) (end (end q a) b)
        (each_in a out k g.0 g.1 st.0 q e h.0 leaves (noted_front q na nb n) (first b out g.0 k' g.2 (end q a) back after))
        (each_in b out g.0 k' g.2 st.1 (end q a) e h.1 leaves back after)
    each_in (Unless on a) out k k' g st q e h leaves n after =
        let r = g.rest in
        let m = r.1 in
        each_both q (q + 1) (end (q + 1) a)
        (each_one q _ k h.0 n.0 (tests_fine k g.others q (end (q + 1) a) g.operands
        (leads (q + 1) _ m.0 (first a out m.0 k' m.2 (q + 1) n.1 after) m.1) (leads (end (q + 1) a) _ k' after r.0)))
        (each_in a out m.0 k' m.2 st (q + 1) e h.1 leaves n.1 after)
    each_in (Choose on a b) out k k' g st q e h leaves n after =
        let l = g.rest.0 in
        let r = g.rest.1 in
        let na = states a out l.0 l.1 l.3 in
        let nb = states b out r.0 k' r.2 in
        let mid = end (q + 1) a in
        let front = noted_front (q + 1) na (Some l.1 ∷ nb) n.1 in
        let back = noted_back (q + 1) mid na (Some l.1 ∷ nb) (long a out l.0 l.1 l.3 (q + 1)) n.1 in
        each_both q (q + 1) (end (mid + 1) b)
        (each_one q _ k h.0 n.0 (tests_fine k g.others q (mid + 1) g.operands
        (leads (q + 1) _ l.0 (first a out l.0 l.1 l.3 (q + 1) front back.0) l.2)
        (leads (mid + 1) _ r.0 (first b out r.0 k' r.2 (mid + 1) back.1 after) r.1)))
        (each_both (q + 1) mid (end (mid + 1) b)
        (each_in a out l.0 l.1 l.3 st.0 (q + 1) e h.1 leaves front back.0)
        (each_both mid (mid + 1) (end (mid + 1) b)
        (each_one mid _ l.1 h.2 back.0 (leads (end (mid + 1) b) l.1 k' after l.4, tt))
        (each_in b out r.0 k' r.2 st.1 (mid + 1) e h.3 leaves back.1 after)))
    each_in (Repeat s a) out k k' g st q e h leaves n after =
        let t = g.0 in
        let na = states a out t.begun t.last t.body in
        let mid = end (q + 1) a in
        let front = noted_front (q + 1) na (Some t.last ∷ []) n.1 in
        let back = noted_back (q + 1) mid na (Some t.last ∷ []) (long a out t.begun t.last t.body (q + 1)) n.1 in
        let round : loops_around p.code mid ≡ q ∷ loops_around p.code q = around_end a st (q + 1) e h.1 ∙ around_next p.code q (op.Loop s) h.0 in
        each_both q (q + 1) (mid + 1)
        (each_one q (op.Loop s) k h.0 n.0 (loop_fine k s q t.carrier (carrier_of p s) t.of_slot t.nested (leads (q + 1) _ t.begun (first a out t.begun t.last t.body (q + 1) front back.0) t.begins)))
        (each_both (q + 1) mid (mid + 1)
        (each_in a out t.begun t.last t.body st (q + 1) e h.1 leaves front back.0)
        (each_one mid op.Next t.last h.2 back.0
        (next_fine mid t.last k (state_at_loop table (loops_around p.code mid)) (ap (state_at_loop table) round ∙ n.0) t.no_operands t.same_brackets t.same_roots (leads (mid + 1) k k' after g.1))))
    each_in (Block a) out k k' g st q e h leaves n after = each_in a k' k k' g st q (end q a) h after n after
    each_in Leave out k k' g st q e h leaves n after = each_one q _ k h n.0 (leads e k out leaves g, tt)
    each_in (Guard low high a) out k k' g st q e h leaves n after =
        let mid = end (q + 1) a in
        let na = inner low high a out k k' g in
        let front = noted_front (q + 1) na (Some g.failed ∷ []) n.1 in
        let back =
        noted_back (q + 1) mid na (Some g.failed ∷ [])
        (long_reached a (λ b l. Flows a out b l) (λ b l x. states a out b l x) (q + 1)
        (λ m l x. long a out m l x (q + 1)) g.meets (cut k g.least g.greatest low high g.others) g.failed g.body) n.1 in
        let w = within a out (q + 1) e h.1 g.failed g.meets (cut k g.least g.greatest low high g.others) g.body front
        (λ m x nn. first a out m g.failed x (q + 1) nn back.0) (λ m x nn. each_in a out m g.failed x st (q + 1) e h.1 leaves nn back.0) in
        each_both q (q + 1) (mid + 1)
        (each_one q _ k h.0 n.0 (guard_fine k g.others q mid g.least g.greatest low high g.meets g.operands g.leaves g.meeting w.0 (leads mid _ g.failed back.0 g.outside)))
        (each_both (q + 1) mid (mid + 1) w.1
        (each_one mid op.Pop g.failed h.2 back.0 (pop_fine g.failed mid g.top g.under g.failed_operands (leads (mid + 1) _ k' after g.after))))
