-- The code of an equation whose right side is well typed is accepted, where it keeps the limits.
use Rattle.std.proofs.Common.{◌≡◌, ℕ, suc, ◌+◌, ◌<◌, true, List, [], ◌∷◌, ◌++◌, map, length, Option, Some, inl, refl, sym, ap, ◌∙◌, subst, arith, length-append}
use Rattle.std.specs.Prelude.{slice_get}
use Rattle.std.proofs.lemmas.Option.{slice_get_within}
use Rattle.std.proofs.lemmas.List.{length-map}
use Rattle.pb_sorts.specs.declared.carrier.Carrier.{Carrier}
use Rattle.pb_bytecode_program.specs.Values.{is_inhabited}
use Rattle.pb_bytecode_program.specs.Abstract.{abstraction_of}
use Rattle.pb_bytecode_program.specs.Machine.{Program}
use Rattle.pb_bytecode_program.specs.Counts.{loops_around}
use Rattle.pb_bytecode_program.specs.Transfer.{AbstractState}
use Rattle.pb_bytecode_program.specs.Accepted.{Accepted, Table, loop_slots, CoversEach, IsCovered, entry, state_at}
use Rattle.pb_bytecode_program.specs.declared.instruction.Op.{Op}
use Rattle.pb_bytecode_program.specs.declared.instruction.Op.TheVariants as op
use Rattle.pb_bytecode_program.proofs.Places.{around_next}
use Rattle.pb_bytecode_program.proofs.Monotone.{self_covers}
use Rattle.pb_normal.specs.Normal.{Formula}
use Rattle.pb_assembler_scheme.specs.Pieces.{Piece, end}
use Rattle.pb_assembler_scheme.specs.Scheme.{head, bracketed, formula_piece, equation_piece}
use Rattle.pb_assembler_scheme.specs.Correct.{IsCompiled}
use Rattle.pb_assembler_scheme.proofs.Flat as code
use Rattle.pb_assembler_scheme.proofs.Whole.{equation_stands}
use Rattle.pb_assembler_scheme.specs.Limits.{KeepsLimits}
use Rattle.pb_assembler_scheme.proofs.Limits.{IsWithinLimits, within_limits}
use Rattle.pb_assembler_scheme.proofs.Tables.{Flows, states, HasStates, long, first, noted_front, noted_back, each_in, each_both, each_one, EachIn, around_end}
use Rattle.pb_assembler_scheme.proofs.AcceptedFormulas.{TypedFormula, Settled, formula_flows}
use Rattle.pb_assembler_scheme.proofs.AcceptedCalls.{calls_flow}
use Rattle.pb_assembler_scheme.proofs.Positions.{IsInScope, HasNoLeave, straight, placed, EachPlaced, placed_one, placed_both}
use Rattle.pb_assembler_scheme.proofs.Sites.{formula_scope, formula_stays}

abbrev pub AreInhabited : List Carrier → Type 0
AreInhabited [] = Unit {0}
AreInhabited (c ∷ cs) = (is_inhabited c ≡ true) × AreInhabited cs

pub parameters_solid : Program → (cs : List Carrier) → AreInhabited cs → CoversEach (map abstraction_of cs) (map abstraction_of cs)
parameters_solid p [] h = tt
parameters_solid p (c ∷ cs) h = (self_covers c h.0, parameters_solid p cs h.1)

module _ (p : Program) (f : Formula) (compiled : IsCompiled p f) (typed : TypedFormula p [] (map abstraction_of p.parameters) f) (inhabited : AreInhabited p.parameters) (kept : KeepsLimits p f) where
  limits : IsWithinLimits p f
  limits = within_limits p f kept

  abbrev inner : Piece
  inner = formula_piece p.callees (head f) f

  abbrev body : Piece
  body = bracketed (head f) inner

  -- ---- what is known

  abbrev opened : AbstractState
  opened = record (entry p) { brackets = 1; roots = 1 }

  abbrev last : AbstractState
  last = record (entry p) { roots = 1 }

  solid : (b r : ℕ) → IsCovered (record (entry p) { brackets = b; roots = r }) (record (entry p) { brackets = b; roots = r })
  solid b r = record { operands = tt; operands_below = refl; parameters = parameters_solid p p.parameters inhabited; loops = tt; brackets = refl; brackets_below = refl; roots = refl }

  settled : Settled opened
  settled = record { self = solid 1 1; outer = 0; open_one = refl; brackets_below = omega arith }

  body_flows : Flows p body (entry p) (entry p) last
  body_flows = (
    opened,
    record { straight = refl; next = opened; way = λ home q. refl; covered = solid 1 1 },
    (
      opened,
      formula_flows p (calls_flow p) f (head f) (entry p) opened typed (let l = limits.operands in omega arith)
          (let l = limits.nesting in omega arith) 1 settled (let l = limits.brackets in omega arith),
      record { straight = refl; next = last; way = λ home q. refl; covered = solid 0 1 },
    ),
  )

  -- ---- where it stands

  code_long : length p.code ≡ end 0 body + 1
  code_long = ap length compiled.code ∙ sym (let l = code.long 0 0 (equation_piece p.callees f) in omega (arith, l))

  scope : IsInScope p [] body
  scope = (tt, (formula_scope p (map abstraction_of p.parameters) (length-map p.parameters abstraction_of) f [] (head f) typed (let l = limits.nesting in omega arith), tt))

  stays : HasNoLeave body
  stays = (tt, (formula_stays p.callees f (head f), tt))

  around_last : loops_around p.code (end 0 body) ≡ []
  around_last = around_end p [] body (straight p [] body scope) 0 0 (equation_stands p f compiled).0 ∙ start p.code
    where
      start : (is : List Op) → loops_around is 0 ≡ []
      start [] = refl
      start (i ∷ is) = refl

  -- ---- the table

  abbrev table : Table
  table = states p body (entry p) (entry p) last body_flows ++ Some last ∷ []

  has_cons : (o : Option AbstractState) (t os : Table) (q : ℕ) → HasStates p t q os → HasStates p (o ∷ t) (suc q) os
  has_cons o t [] q h = tt
  has_cons o t (s ∷ os) q h =
      let e : suc (q + 1) ≡ suc q + 1 = omega arith in
      (h.0, subst (λ n. HasStates p (o ∷ t) n os) e (has_cons o t os (q + 1) h.1))

  has_all : (t : Table) → HasStates p t 0 t
  has_all [] = tt
  has_all (o ∷ t) = (refl, has_cons o t t 0 (has_all t))

  table_long : end 0 body ≡ 0 + length (states p body (entry p) (entry p) last body_flows)
  table_long = long p body (entry p) (entry p) last body_flows 0

  front : HasStates p table 0 (states p body (entry p) (entry p) last body_flows)
  front = noted_front p table 0 (states p body (entry p) (entry p) last body_flows) (Some last ∷ []) (has_all table)

  at_last : state_at table (end 0 body) ≡ Some last
  at_last = (noted_back p table 0 (end 0 body) (states p body (entry p) (entry p) last body_flows) (Some last ∷ []) table_long (has_all table)).0

  at_first : state_at table 0 ≡ Some (entry p)
  at_first = first p table body (entry p) (entry p) last body_flows 0 front at_last

  each : EachIn p table 0 (end 0 body + 1)
  each =
      each_both p table 0 (end 0 body) (end 0 body + 1)
      (each_in p table body (entry p) (entry p) last body_flows (straight p [] body scope) 0 0 (equation_stands p f compiled).0 at_first front at_last)
      (each_one p table (end 0 body) op.End last (equation_stands p f compiled).1 at_last tt)

  all_placed : EachPlaced p 0 (end 0 body + 1)
  all_placed =
      placed_both p 0 (end 0 body) (end 0 body + 1)
      (placed p body [] scope 0 0 (equation_stands p f compiled).0 (record { slots = around_zero p.code; deep = deep_zero p.code }) (let l = code_long in omega arith) (inl stays))
      (placed_one p (end 0 body) op.End (equation_stands p f compiled).1 (record { target = tt; names = around_last; closes = λ e. cc }))
    where
      around_zero : (is : List Op) → loop_slots is (loops_around is 0) ≡ []
      around_zero [] = refl
      around_zero (i ∷ is) = refl

      deep_zero : (is : List Op) → length (loops_around is 0) ≡ 0
      deep_zero [] = refl
      deep_zero (i ∷ is) = refl

  below : (q : ℕ) (i : Op) → slice_get p.code q ≡ Some i → q < end 0 body + 1
  below q i at = let l = code_long in let w = slice_get_within p.code q i at in omega arith

  accepted : Accepted p table
  accepted = record {
    placed = λ q i at. (all_placed q i (omega arith) (below q i at) at).target;
    sited = λ q i at. (all_placed q i (omega arith) (below q i at) at).names;
    all_closed = ap (loops_around p.code) code_long ∙ around_next p.code (end 0 body) op.End (equation_stands p f compiled).1 ∙ around_last;
    closes = λ q i at. (all_placed q i (omega arith) (below q i at) at).closes;
    begins = record { known = entry p; there = at_first; covered = solid 0 0 };
    each = λ q i k at known. each q i k (omega arith) (below q i at) at known;
    long = let a = code_long in let b = table_long in omega (arith, a, b, length-append (states p body (entry p) (entry p) last body_flows) (Some last ∷ []));
    steps_stated = let e = compiled.steps in omega arith;
    steps_limit = let e = compiled.steps in let l = limits.steps in omega arith;
    tokens_stated = let e = compiled.tokens in omega arith;
    tokens_limit = let e = compiled.tokens in let l = limits.tokens in omega arith;
  }

  pub has_table : (t : Table) × Accepted p t
  has_table = (table, accepted)
