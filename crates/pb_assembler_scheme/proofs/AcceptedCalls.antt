-- The code of a well-typed call leads from what is known back to it: an argument whose interval isn't within its range is
-- tested, and behind the test it is.
use Rattle.std.proofs.Common.{◌≡◌, ℕ, ◌+◌, ◌≤◌, Bool, true, false, cond, ◌&&◌, ◌||◌, List, [], ◌∷◌, ◌++◌, length, Option, Some, None, true≢false, refl, sym, ap, ◌∙◌, subst, arith, append_assoc, append-nil}
use Rattle.std.specs.Int.{int_max, int_min}
use Rattle.std.specs.Prelude.{ℤ, ◌≤ℤ◌, int_le, slice_get, is_some, reverse}
use Rattle.std.proofs.lemmas.List.{reverse-append}
use Rattle.std.proofs.lemmas.Bool.{and_from, and_parts, eq-eqb, le-leb}
use Rattle.std.proofs.lemmas.Int.{ints, clamps}
use Rattle.pb_base_values.specs.Interval as intervals
use Rattle.pb_sorts.specs.declared.carrier.Carrier.{Carrier}
use Rattle.pb_sorts.specs.declared.carrier.Carrier.TheVariants as carrier
use Rattle.pb_typing_declarations.specs.Shapes.{Shape, Unknown, Truths, Places, Wholes}
use Rattle.pb_typing_rules.specs.Shapes.{between}
use Rattle.pb_bytecode_program.specs.Values.{is_inhabited}
use Rattle.pb_bytecode_program.specs.Abstract.{Covers}
use Rattle.pb_bytecode_program.specs.declared.domain.AbstractValue.{AbstractValue}
use Rattle.pb_bytecode_program.specs.declared.domain.AbstractValue.TheVariants as abstract
use Rattle.pb_bytecode_program.specs.Machine.{Program}
use Rattle.pb_bytecode_program.specs.Transfer
use Rattle.pb_bytecode_program.specs.Transfer.{AbstractState, Flow, accepts, abstract_pop_args, to_next_place}
use Rattle.pb_bytecode_program.specs.Accepted.{IsCovered, CoversEach}
use Rattle.pb_bytecode_program.proofs.Ints.{le_true, from_le}
use Rattle.pb_bytecode_program.specs.declared.instruction.Leaf.TheVariants as leaf
use Rattle.pb_bytecode_program.specs.declared.instruction.Op.TheVariants as op
use Rattle.pb_normal.specs.Normal.{Argument}
use Rattle.pb_assembler_scheme.specs.Pieces.{Piece, Plain, Then, Block, Leave, Guard}
use Rattle.pb_assembler_scheme.specs.Scheme.{tested_range, any_tested, guarded, arguments_piece, call_piece, parameters}
use Rattle.pb_assembler_scheme.specs.Limits.{argument_operands}
use Rattle.pb_assembler_scheme.proofs.Tables.{Flows, Passes, Reached, cut}
use Rattle.pb_assembler_scheme.proofs.Typing.{topped, covers_with, covered_solid, yields, solid}
use Rattle.pb_assembler_scheme.proofs.AcceptedFormulas.{known_of, FitsKind, TypedArguments, TypedCall, Settled, rooted, emit_flows, CallsFlow}

-- ---- which arguments are tested

-- a whole number whose interval leaves the range; behind the test CALL takes it
pub record IsTested (c : Carrier) (v : AbstractValue) (low high : ℤ) : Type 0 where
  pub least : ℤ
  pub greatest : ℤ
  pub whole : v ≡ abstract.Int least greatest
  pub outside : (int_le low least && int_le greatest high) ≡ false
  pub passes : (l h : ℤ) → low ≤ℤ l → h ≤ℤ high → accepts (abstract.Int l h) c ≡ true
  pub order : low ≤ℤ high

abbrev Answers : Carrier → AbstractValue → Option (ℤ × ℤ) → Type 0
Answers c v None = accepts v c ≡ true
Answers c v (Some r) = IsTested c v r.0 r.1

answered : (c : Carrier) (shape : Shape) → FitsKind c (known_of shape) → is_inhabited c ≡ true → Answers c (known_of shape) (tested_range c shape)
answered carrier.Bool Unknown f e = refl
answered carrier.Bool Truths f e = refl
answered carrier.Bool (Places s n) f e = absurd f
answered carrier.Bool (Wholes l h) f e = absurd f
answered (carrier.Enum n) Unknown f e = absurd f
answered (carrier.Enum n) Truths f e = absurd f
answered (carrier.Enum n) (Places s m) f e = and_from _ _ (eq-eqb s n.sort f.0) (le-leb m n.count f.1)
answered (carrier.Enum n) (Wholes l h) f e = absurd f
answered (carrier.Range r) Unknown f e = absurd f
answered (carrier.Range r) Truths f e = absurd f
answered (carrier.Range r) (Places s n) f e = absurd f
answered (carrier.Range r) (Wholes l h) f e = by (intervals.is_included (between l h) (between r.low r.high)) refl
  where
    by : (b : Bool) → intervals.is_included (between l h) (between r.low r.high) ≡ b → Answers (carrier.Range r) (abstract.Int l h) (cond b None (Some (r.low, r.high)))
    by true w = w
    by false w = record {
      least = l;
      greatest = h;
      whole = refl;
      outside = w;
      passes = λ m k a b. and_from _ _ (from_le r.low m a) (from_le k r.high b);
      order = le_true r.low r.high e;
    }

-- ---- CALL takes the arguments off

-- of these operands, those for the carriers are taken off, the first carrier's being the topmost
abbrev Takes : List Carrier → List AbstractValue → List AbstractValue → Type 0
Takes [] os rest = os ≡ rest
Takes (c ∷ cs) [] rest = ⊥
Takes (c ∷ cs) (v ∷ os) rest = (accepts v c ≡ true) × Takes cs os rest

taken : (cs : List Carrier) (os rest : List AbstractValue) (go : List AbstractValue → Flow) → Takes cs os rest → abstract_pop_args cs os go ≡ go rest
taken [] os rest go t = ap go t
taken (c ∷ cs) [] rest go t = absurd t
taken (c ∷ cs) (v ∷ os) rest go t = ap (λ b. cond b (abstract_pop_args cs os go) None) t.0 ∙ taken cs os rest go t.1

each_solid : (os es : List AbstractValue) → CoversEach os es → CoversEach es es
each_solid [] [] h = tt
each_solid (o ∷ os) (e ∷ es) h = (covered_solid o e h.0, each_solid os es h.1)
each_solid [] (e ∷ es) h = absurd h
each_solid (o ∷ os) [] h = absurd h

-- what is known of a number behind its test
module _ (l h low high : ℤ) (a : l ≤ℤ h) (b : low ≤ℤ high) (c : l ≤ℤ high) (d : low ≤ℤ h) where
  abbrev cut_value : AbstractValue
  cut_value = abstract.Int (int_max l low) (int_min h high)

  cut_covers : Covers cut_value (abstract.Int l h)
  cut_covers = (omega (arith, ints, clamps), omega (arith, ints, clamps), omega (arith, ints, clamps))

  cut_solid : Covers cut_value cut_value
  cut_solid = covered_from (int_max l low) (int_min h high) cut_covers.1
    where
      covered_from : (m n : ℤ) → m ≤ℤ n → Covers (abstract.Int m n) (abstract.Int m n)
      covered_from m n e = (omega (arith, ints), e, omega (arith, ints))

  cut_low : low ≤ℤ int_max l low
  cut_low = omega (arith, ints, clamps)

  cut_high : int_min h high ≤ℤ high
  cut_high = omega (arith, ints, clamps)

module _ (p : Program) (k : AbstractState) (s : Settled k) (rest : List AbstractValue) (total : List Carrier) (last : Piece) (out : AbstractState) where
  abbrev on : List AbstractValue → AbstractState
  on os = topped p k s.self os

  -- the last piece leads on wherever all arguments are there
  abbrev Lasts : AbstractState → Type 0
  Lasts k' = (os : List AbstractValue) → Takes total os rest → CoversEach os os → Flows p last out (on os) k'

  next_total : (c : Carrier) (cs rs : List Carrier) → reverse (c ∷ cs) ++ rs ≡ total → reverse cs ++ (c ∷ rs) ≡ total
  next_total c cs rs e = sym (append_assoc (reverse cs) (c ∷ []) rs) ∙ ap (λ (ds : List Carrier). ds ++ rs) (sym (reverse-append (c ∷ []) cs)) ∙ e

  all_taken : (rs : List Carrier) (os : List AbstractValue) → reverse [] ++ rs ≡ total → Takes rs os rest → Takes total os rest
  all_taken rs os e t = subst (λ (cs : List Carrier). Takes cs os rest) e t

  -- no further argument is tested
  plainly : (cs : List Carrier) (xs : List Argument) (rs : List Carrier) (os : List AbstractValue) (k' : AbstractState)
      → any_tested cs xs ≡ false → reverse cs ++ rs ≡ total → Takes rs os rest → CoversEach os os
      → TypedArguments p.sorts k.loops k.parameters cs xs → argument_operands xs + (length os + k.operands_below) ≤ 32 → Lasts k' → Flows p (arguments_piece cs xs last) out (on os) k'
  plainly [] [] rs os k' none e t co ty least lasts = lasts os (all_taken rs os e t) co
  plainly [] (x ∷ xs) rs os k' none e t co ty least lasts = absurd ty
  plainly (c ∷ cs) [] rs os k' none e t co ty least lasts = absurd ty
  plainly (c ∷ cs) (x ∷ xs) rs os k' none e t co ty least lasts =
      let v = known_of x.shape in
      let cv = solid p.sorts k.loops k.parameters s.self.loops s.self.parameters x.term v ty.0 in (
        on (v ∷ os),
        yields p k s.self x.term v ty.0 out os v co (omega arith) cv,
        by (tested_range c x.shape) (any_tested cs xs) none (answered c x.shape ty.1 ty.2)
            (λ f a. plainly cs xs (c ∷ rs) (v ∷ os) k' f (next_total c cs rs e) (a, t) (cv, co) ty.3 (omega arith) lasts),
      )
    where
      by : (o : Option (ℤ × ℤ)) (later : Bool) → (is_some o || later) ≡ false → Answers c (known_of x.shape) o
          → (later ≡ false → accepts (known_of x.shape) c ≡ true → Flows p (arguments_piece cs xs last) out (on (known_of x.shape ∷ os)) k')
          → Flows p (guarded o later (arguments_piece cs xs last)) out (on (known_of x.shape ∷ os)) k'
      by None false f a go = go refl a
      by None true f a go = absurd (true≢false f)
      by (Some r) later f a go = absurd (true≢false f)

  popped : (v : AbstractValue) (es : List AbstractValue) → CoversEach es es → Passes p op.Pop (on (v ∷ es)) (on es)
  popped v es co = record { straight = refl; next = on es; way = λ home q. refl; covered = covers_with p k s.self es es co }

  -- with tests, whatever is known behind the last piece
  module _ (lasts : (k' : AbstractState) → Lasts k') where
    -- the test of an argument, and what is behind it
    guard_flows : (c : Carrier) (v : AbstractValue) (low high : ℤ) (x : Piece) (os es : List AbstractValue) → IsTested c v low high → Covers v v → CoversEach os os → CoversEach os es
        → ((w : AbstractValue) → accepts w c ≡ true → Covers w v → Covers w w → Flows p x out (on (w ∷ os)) (on (v ∷ es))) → Flows p (Guard low high x) out (on (v ∷ os)) (on es)
    guard_flows c v low high x os es t cv ho co go =
        record {
          least = t.least;
          greatest = t.greatest;
          others = os;
          operands = ap (λ (u : AbstractValue). u ∷ os) t.whole;
          leaves = t.outside;
          meets = int_le t.least high && int_le low t.greatest;
          meeting = refl;
          failed = on (v ∷ es);
          top = v;
          under = es;
          failed_operands = refl;
          body = by (int_le t.least high && int_le low t.greatest) refl;
          outside = subst (λ (u : AbstractValue). IsCovered (on (u ∷ os)) (on (v ∷ es))) t.whole (covers_with p k s.self (v ∷ os) (v ∷ es) (cv, co));
          after = covers_with p k s.self es es (each_solid os es co);
        }
      where
        whole_solid : Covers (abstract.Int t.least t.greatest) (abstract.Int t.least t.greatest)
        whole_solid = subst (λ u. Covers u u) t.whole cv

        by : (b : Bool) → (int_le t.least high && int_le low t.greatest) ≡ b → Reached p b (cut p (on (v ∷ os)) t.least t.greatest low high os) (on (v ∷ es)) (λ m l. Flows p x out m l)
        by true e =
            let two = and_parts (int_le t.least high) (int_le low t.greatest) e in
            let a = le_true t.least high two.0 in
            let b = le_true low t.greatest two.1 in
            let n = whole_solid.1 in
            let w = abstract.Int (int_max t.least low) (int_min t.greatest high) in
            let self = cut_solid t.least t.greatest low high n t.order a b in (
              on (w ∷ os),
              covers_with p k s.self (w ∷ os) (w ∷ os) (self, ho),
              go w (t.passes _ _ (cut_low t.least t.greatest low high n t.order a b) (cut_high t.least t.greatest low high n t.order a b))
                  (subst (λ u. Covers w u) (sym t.whole) (cut_covers t.least t.greatest low high n t.order a b)) self,
            )
        by false e = tt

    tested : (cs : List Carrier) (xs : List Argument) (rs : List Carrier) (os es : List AbstractValue)
        → any_tested cs xs ≡ true → reverse cs ++ rs ≡ total → Takes rs os rest → CoversEach os os → CoversEach os es
        → TypedArguments p.sorts k.loops k.parameters cs xs → argument_operands xs + (length os + k.operands_below) ≤ 32 → Flows p (arguments_piece cs xs last) out (on os) (on es)
    tested [] xs rs os es some e t co ce ty least = absurd (true≢false (sym some))
    tested (c ∷ cs) [] rs os es some e t co ce ty least = absurd ty
    tested (c ∷ cs) (x ∷ xs) rs os es some e t co ce ty least =
        let v = known_of x.shape in
        let cv = solid p.sorts k.loops k.parameters s.self.loops s.self.parameters x.term v ty.0 in (
          on (v ∷ os),
          yields p k s.self x.term v ty.0 out os v co (omega arith) cv,
          by (tested_range c x.shape) (any_tested cs xs) refl some (answered c x.shape ty.1 ty.2) cv
              (λ f w u cw a k'. plainly cs xs (c ∷ rs) (w ∷ os) k' f (next_total c cs rs e) (a, t) (cw, co) ty.3 (omega arith) (lasts k'))
              (λ f w u cw cu a. tested cs xs (c ∷ rs) (w ∷ os) (u ∷ es) f (next_total c cs rs e) (a, t) (cw, co) (cu, ce) ty.3 (omega arith)),
        )
      where
        -- the rest of the arguments, where the topmost operand is this one
        by : (o : Option (ℤ × ℤ)) (later : Bool) → any_tested cs xs ≡ later → (is_some o || later) ≡ true → Answers c (known_of x.shape) o → Covers (known_of x.shape) (known_of x.shape)
            → (later ≡ false → (w u : AbstractValue) → Covers w w → accepts w c ≡ true → (k' : AbstractState) → Flows p (arguments_piece cs xs last) out (on (w ∷ os)) k')
            → (later ≡ true → (w u : AbstractValue) → Covers w w → Covers w u → accepts w c ≡ true → Flows p (arguments_piece cs xs last) out (on (w ∷ os)) (on (u ∷ es)))
            → Flows p (guarded o later (arguments_piece cs xs last)) out (on (known_of x.shape ∷ os)) (on es)
        by None false l f a cv plain more = absurd (true≢false (sym f))
        by None true l f a cv plain more = (
          on (known_of x.shape ∷ es),
          more refl (known_of x.shape) (known_of x.shape) cv cv a,
          popped (known_of x.shape) es (each_solid os es ce),
        )
        by (Some r) false l f a cv plain more =
            guard_flows c (known_of x.shape) r.0 r.1 (arguments_piece cs xs last) os es a cv co ce (λ w ok cu cw. plain refl w (known_of x.shape) cw ok (on (known_of x.shape ∷ es)))
        by (Some r) true l f a cv plain more =
            guard_flows c (known_of x.shape) r.0 r.1 (arguments_piece cs xs last) os es a cv co ce (λ w ok cu cw. more refl w (known_of x.shape) cw cu ok)

-- ---- the call itself

module _ (p : Program) (equation : ℕ) (cs : List Carrier) (at : slice_get p.callees equation ≡ Some cs) (k : AbstractState) (s : Settled k) where
  call_flows : (out : AbstractState) (os : List AbstractValue) → Takes (reverse cs) os k.operands → Flows p (Plain (op.Call equation)) out (topped p k s.self os) k
  call_flows out os t = record {
    straight = refl;
    next = k;
    way = λ home q.
        ap (Transfer.abstract_call q (topped p k s.self os)) at
        ∙ taken (reverse cs) os k.operands (λ ss. Transfer.abstract_root k.brackets k.roots (λ r. to_next_place q (record k { operands = ss; roots = r }))) t
        ∙ rooted p k.brackets k.roots s.outer _ s.open_one;
    covered = s.self;
  }

  settled_call : (xs : List Argument) (out : AbstractState) (b : Bool) → any_tested cs xs ≡ b
      → TypedArguments p.sorts k.loops k.parameters cs xs → argument_operands xs + (length k.operands + k.operands_below) ≤ 32
      → Flows p (cond b (Block (Then (arguments_piece cs xs (Then (Plain (op.Call equation)) Leave)) (Plain (op.Emit leaf.Cut)))) (arguments_piece cs xs (Plain (op.Call equation)))) out k k
  settled_call xs out false e ty least =
      plainly p k s k.operands (reverse cs) (Plain (op.Call equation)) out cs xs [] k.operands k e (append-nil (reverse cs)) refl s.self.operands ty least (λ os t co. call_flows out os t)
  settled_call xs out true e ty least = (
    k,
    tested p k s k.operands (reverse cs) (Then (Plain (op.Call equation)) Leave) k (λ k' os t co. (k, call_flows k os t, s.self))
        cs xs [] k.operands k.operands e (append-nil (reverse cs)) refl s.self.operands s.self.operands ty least,
    emit_flows p leaf.Cut k k s,
  )

pub calls_flow : (p : Program) → CallsFlow p
calls_flow p equation xs out k s ty least = by (slice_get p.callees equation) refl ty
  where
    by : (o : Option (List Carrier)) → slice_get p.callees equation ≡ o → TypedCall p.sorts k.loops k.parameters o xs → Flows p (call_piece equation (parameters o) xs) out k k
    by None e ty = absurd ty
    by (Some cs) e ty = settled_call p equation cs e k s xs out (any_tested cs xs) refl ty least
