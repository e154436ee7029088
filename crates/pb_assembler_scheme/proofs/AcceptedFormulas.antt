-- The code of a well-typed formula leads from what is known back to it.
use Rattle.std.proofs.Common.{◌≡◌, ℕ, suc, ◌+◌, ◌≤◌, max, Bool, true, false, cond, not, List, [], ◌∷◌, length, Option, Some, None, refl, ap, ◌∙◌, arith, add-one}
use Rattle.std.specs.Prelude.{slice_get}
use Rattle.std.proofs.lemmas.Bool.{le-leb, lt-ltb, and_from}
use Rattle.pb_sorts.specs.declared.carrier.Carrier.{Carrier}
use Rattle.pb_sorts.specs.declared.carrier.Carrier.TheVariants as carrier
use Rattle.pb_typing_declarations.specs.Shapes.{Shape, Unknown, Truths, Places, Wholes}
use Rattle.pb_bytecode_program.specs.Values.{is_inhabited}
use Rattle.pb_bytecode_program.specs.Abstract.{abstraction_of}
use Rattle.pb_bytecode_program.specs.declared.domain.AbstractValue.{AbstractValue}
use Rattle.pb_bytecode_program.specs.declared.domain.AbstractValue.TheVariants as abstract
use Rattle.pb_bytecode_program.specs.Machine.{Program, carrier_of}
use Rattle.pb_bytecode_program.specs.Transfer
use Rattle.pb_bytecode_program.specs.Transfer.{AbstractState, Flow, to_next_place, among}
use Rattle.pb_bytecode_program.specs.Accepted.{IsCovered}
use Rattle.pb_bytecode_program.specs.declared.instruction.Leaf.{Leaf}
use Rattle.pb_bytecode_program.specs.declared.instruction.Leaf.TheVariants as leaf
use Rattle.pb_bytecode_program.specs.declared.instruction.Op.TheVariants as op
use Rattle.pb_bytecode_program.proofs.Monotone.{self_covers}
use Rattle.pb_fixpoint_trees.specs.declared.junction.Junction.{Junction}
use Rattle.pb_fixpoint_trees.specs.declared.junction.Junction.TheVariants.{Conjunction, Disjunction}
use Rattle.pb_normal.specs.Normal.{Term, Argument, Formula, Test, Join, Each, Call}
use Rattle.pb_assembler_scheme.specs.Pieces.{Piece, Plain, Then, Unless, Choose, Repeat}
use Rattle.pb_assembler_scheme.specs.Scheme.{data_piece, deciding_leaf, neutral, junction_of, bracketed, under, test_piece, tested_piece, test_of, join_piece, call_piece, parameters, formula_piece}
use Rattle.pb_assembler_scheme.specs.Limits.{term_operands, argument_operands, formula_operands, brackets_under, join_brackets, formula_brackets, formula_loops}
use Rattle.pb_assembler_scheme.proofs.Tables.{Flows, inside}
use Rattle.pb_assembler_scheme.proofs.Typing.{Typed, topped, yields}

-- ---- well-typed formulas over slots

-- what is known of the values of a shape
abbrev pub known_of : Shape → AbstractValue
known_of Unknown = abstract.Bool
known_of Truths = abstract.Bool
known_of (Places s n) = abstract.Enum s n
known_of (Wholes l h) = abstract.Int l h

-- of the carrier's kind
abbrev pub FitsKind : Carrier → AbstractValue → Type 0
FitsKind carrier.Bool abstract.Bool = Unit {0}
FitsKind (carrier.Enum e) (abstract.Enum s n) = (s ≡ e.sort) × (n ≤ e.count)
FitsKind (carrier.Range r) (abstract.Int l h) = Unit {0}
FitsKind c v = ⊥

abbrev pub TypedArguments : List ℕ → List (ℕ × AbstractValue) → List AbstractValue → List Carrier → List Argument → Type 0
TypedArguments sorts ls ps [] [] = Unit {0}
TypedArguments sorts ls ps (c ∷ cs) (x ∷ xs) =
    Typed sorts ls ps x.term (known_of x.shape) × FitsKind c (known_of x.shape) × (is_inhabited c ≡ true) × TypedArguments sorts ls ps cs xs
TypedArguments sorts ls ps [] (x ∷ xs) = ⊥
TypedArguments sorts ls ps (c ∷ cs) [] = ⊥

abbrev pub TypedCall : List ℕ → List (ℕ × AbstractValue) → List AbstractValue → Option (List Carrier) → List Argument → Type 0
TypedCall sorts ls ps None xs = ⊥
TypedCall sorts ls ps (Some cs) xs = TypedArguments sorts ls ps cs xs

abbrev pub TypedFormula : Program → List (ℕ × AbstractValue) → List AbstractValue → Formula → Type 0
TypedFormula p ls ps (Test t) = Typed p.sorts ls ps t abstract.Bool
TypedFormula p ls ps (Join m f g) = TypedFormula p ls ps f × TypedFormula p ls ps g
TypedFormula p ls ps (Each q s shape f) =
    (c : Carrier) × (carrier_of p s ≡ Some c) × (among ls s ≡ false) × (is_inhabited c ≡ true) × TypedFormula p ((s, abstraction_of c) ∷ ls) ps f
TypedFormula p ls ps (Call equation xs) = TypedCall p.sorts ls ps (slice_get p.callees equation) xs

-- ---- under an open bracket, with no empty interval

pub record Settled (k : AbstractState) : Type 0 where
  pub self : IsCovered k k
  pub outer : ℕ
  pub open_one : k.brackets ≡ suc outer
  pub brackets_below : k.brackets_below ≤ k.brackets

abbrev pub bracketed_by : AbstractState → ℕ → AbstractState
bracketed_by k b = record k { brackets = b }

module _ (p : Program) where
  pub rooted : (b r n : ℕ) (go : ℕ → Flow) → b ≡ suc n → Transfer.abstract_root b r go ≡ go r
  rooted b r n go e = ap (λ m. Transfer.abstract_root m r go) e

  pub emit_flows : (l : Leaf) (out k : AbstractState) → Settled k → Flows p (Plain (op.Emit l)) out k k
  emit_flows l out k s = record { straight = refl; next = k; way = λ home q. rooted k.brackets k.roots s.outer _ s.open_one; covered = s.self }

  -- ---- tests

  module _ (t : Term) (out k : AbstractState) (s : Settled k) (ty : Typed p.sorts k.loops k.parameters t abstract.Bool) (low : term_operands t + (length k.operands + k.operands_below) ≤ 32) where
    value_flows : Flows p (data_piece t) out k (topped p k s.self (abstract.Bool ∷ k.operands))
    value_flows = yields p k s.self t abstract.Bool ty out k.operands abstract.Bool s.self.operands low tt

    unless_flows : (on : Bool) (x : Piece) → Flows p x out k k → Flows p (Then (data_piece t) (Unless on x)) out k k
    unless_flows on x g = (topped p k s.self (abstract.Bool ∷ k.operands), value_flows, record { others = k.operands; operands = refl; rest = (s.self, (k, s.self, g)) })

    choose_flows : (on : Bool) (x y : Piece) → Flows p x out k k → Flows p y out k k → Flows p (Then (data_piece t) (Choose on x y)) out k k
    choose_flows on x y g h = (topped p k s.self (abstract.Bool ∷ k.operands), value_flows, record { others = k.operands; operands = refl; rest = ((k, k, s.self, g, s.self), (k, s.self, h)) })

    pub tested_flows : (m around : Junction) (x : Piece) → Flows p x out k k → Flows p (tested_piece m around t x) out k k
    tested_flows Conjunction Conjunction x g = choose_flows true (Plain (op.Emit leaf.No)) x (emit_flows leaf.No out k s) g
    tested_flows Disjunction Disjunction x g = choose_flows false (Plain (op.Emit leaf.Yes)) x (emit_flows leaf.Yes out k s) g
    tested_flows Conjunction Disjunction x g = unless_flows false x g
    tested_flows Disjunction Conjunction x g = unless_flows true x g

    pub test_flows : (around : Junction) → Flows p (test_piece around t) out k k
    test_flows around = unless_flows (neutral around) (Plain (op.Emit (deciding_leaf around))) (emit_flows (deciding_leaf around) out k s)

  -- ---- brackets

  abbrev opened : AbstractState → AbstractState
  opened k = record k { brackets = k.brackets + 1 }

  opened_settled : (k : AbstractState) → Settled k → Settled (opened k)
  opened_settled k s = record {
    self = let c = s.self in record { operands = c.operands; operands_below = refl; parameters = c.parameters; loops = c.loops; brackets = refl; brackets_below = refl; roots = refl };
    outer = k.brackets;
    open_one = add-one k.brackets;
    brackets_below = let f = s.brackets_below in omega arith;
  }

  pub closing : (b brackets_below n : ℕ) (go : ℕ → Flow) → b ≡ suc n → brackets_below ≤ n → Transfer.abstract_close brackets_below b go ≡ go n
  closing b brackets_below n go e l = ap (λ m. Transfer.abstract_close brackets_below m go) e ∙ ap (λ c. cond c (go n) None) (le-leb brackets_below n l)

  bracketed_flows : (m : Junction) (x : Piece) (out k : AbstractState) → Settled k → k.brackets + 1 ≤ 32 → Flows p x out (opened k) (opened k) → Flows p (bracketed m x) out k k
  bracketed_flows m x out k s low g =
      let o = opened_settled k s in (
        opened k,
        record {
          straight = refl;
          next = opened k;
          covered = o.self;
          way = λ home q.
              ap (λ c. cond c (Transfer.abstract_root k.brackets k.roots (λ r. to_next_place q (record k { brackets = k.brackets + 1; roots = r }))) None) (lt-ltb k.brackets 32 (omega arith))
              ∙ rooted k.brackets k.roots s.outer _ s.open_one;
        },
        (opened k, g, record { straight = refl; next = k; covered = s.self; way = λ home q. closing (k.brackets + 1) k.brackets_below k.brackets _ (add-one k.brackets) s.brackets_below }),
      )

  -- the piece leads from each settled state with these operands and slots back to it, where n more brackets may be open
  abbrev Holds : Piece → AbstractState → AbstractState → ℕ → Type 0
  Holds x out k n = (b : ℕ) → Settled (bracketed_by k b) → b + n ≤ 32 → Flows p x out (bracketed_by k b) (bracketed_by k b)

  under_flows : (m around : Junction) (x : Piece) (out k : AbstractState) (n : ℕ) → Holds x out k n → Holds (under m around x) out k (brackets_under m around n)
  under_flows Conjunction Conjunction x out k n h b s low = h b s low
  under_flows Disjunction Disjunction x out k n h b s low = h b s low
  under_flows Conjunction Disjunction x out k n h b s low = bracketed_flows Conjunction x out (bracketed_by k b) s (omega arith) (h (b + 1) (opened_settled (bracketed_by k b) s) (omega arith))
  under_flows Disjunction Conjunction x out k n h b s low = bracketed_flows Disjunction x out (bracketed_by k b) s (omega arith) (h (b + 1) (opened_settled (bracketed_by k b) s) (omega arith))

  -- ---- loops

  inside_settled : (k : AbstractState) (s : ℕ) (c : Carrier) → Settled k → is_inhabited c ≡ true → Settled (inside p k s c)
  inside_settled k s c t e = record {
    self = record { operands = tt; operands_below = refl; parameters = t.self.parameters; loops = (refl, self_covers c e, t.self.loops); brackets = refl; brackets_below = refl; roots = refl };
    outer = t.outer;
    open_one = t.open_one;
    brackets_below = omega arith;
  }

  repeat_flows : (s : ℕ) (c : Carrier) (x : Piece) (out k : AbstractState) → Settled k → carrier_of p s ≡ Some c → among k.loops s ≡ false → is_inhabited c ≡ true → length k.loops + 1 ≤ 8
      → Flows p x out (inside p k s c) (inside p k s c) → Flows p (Repeat s x) out k k
  repeat_flows s c x out k t of fresh some low g = (
    record {
      carrier = c;
      of_slot = of;
      nested = and_from _ _ (and_from _ _ (lt-ltb (length k.loops) 8 (omega arith)) (ap not fresh)) some;
      begun = inside p k s c;
      begins = (inside_settled k s c t some).self;
      last = inside p k s c;
      body = g;
      no_operands = refl;
      same_brackets = refl;
      same_roots = refl;
    },
    t.self,
  )

  -- ---- joins

  -- a test among the operands of a join
  abbrev FitsTest : AbstractState → Option Term → Type 0
  FitsTest k None = Unit {0}
  FitsTest k (Some t) = Typed p.sorts k.loops k.parameters t abstract.Bool × (term_operands t + (length k.operands + k.operands_below) ≤ 32)

  join_flows : (m around : Junction) (s t : Option Term) (fa ga fo go : Piece) (out k : AbstractState) (na nb nc nd : ℕ) → FitsTest k s → FitsTest k t
      → Holds fa out k na → Holds ga out k nb → Holds fo out k nc → Holds go out k nd → Holds (join_piece m around s t fa ga fo go) out k (join_brackets m around s t na nb nc nd)
  join_flows m around (Some s) t fa ga fo go out k na nb nc nd es et hfa hga hfo hgo b st low = tested_flows s out (bracketed_by k b) st es.0 es.1 m around ga (hga b st low)
  join_flows m around None (Some t) fa ga fo go out k na nb nc nd es et hfa hga hfo hgo b st low = tested_flows t out (bracketed_by k b) st et.0 et.1 m around fa (hfa b st low)
  join_flows m around None None fa ga fo go out k na nb nc nd es et hfa hga hfo hgo b st low =
      under_flows m around (Then fo go) out k (max nc nd) (λ b st low. (bracketed_by k b, hfo b st (omega arith), hgo b st (omega arith))) b st low

  fits_test : (k : AbstractState) (f : Formula) → TypedFormula p k.loops k.parameters f → formula_operands f + (length k.operands + k.operands_below) ≤ 32 → FitsTest k (test_of f)
  fits_test k (Test t) ty low = (ty, low)
  fits_test k (Join m f g) ty low = tt
  fits_test k (Each q s shape f) ty low = tt
  fits_test k (Call equation xs) ty low = tt

  -- ---- all formulas

  abbrev pub CallsFlow : Type 0
  CallsFlow =
      (equation : ℕ) (xs : List Argument) (out k : AbstractState) → Settled k
      → TypedCall p.sorts k.loops k.parameters (slice_get p.callees equation) xs
      → argument_operands xs + (length k.operands + k.operands_below) ≤ 32
      → Flows p (call_piece equation (parameters (slice_get p.callees equation)) xs) out k k

  module _ (calls : CallsFlow) where
    pub formula_flows : (f : Formula) (around : Junction) (out k : AbstractState)
        → TypedFormula p k.loops k.parameters f → formula_operands f + (length k.operands + k.operands_below) ≤ 32
        → length k.loops + formula_loops f ≤ 8
        → Holds (formula_piece p.callees around f) out k (formula_brackets around f)
    formula_flows (Test t) around out k ty ops loops b s low = test_flows t out (bracketed_by k b) s ty ops around
    formula_flows (Join m f g) around out k ty ops loops b s low =
        join_flows m around (test_of f) (test_of g) _ _ _ _ out k
        (formula_brackets around f) (formula_brackets around g) (formula_brackets m f) (formula_brackets m g)
        (fits_test k f ty.0 (omega arith)) (fits_test k g ty.1 (omega arith))
        (formula_flows f around out k ty.0 (omega arith) (omega arith)) (formula_flows g around out k ty.1 (omega arith) (omega arith))
        (formula_flows f m out k ty.0 (omega arith) (omega arith)) (formula_flows g m out k ty.1 (omega arith) (omega arith)) b s low
    formula_flows (Each q s shape f) around out k ty ops loops b0 st0 low0 =
        under_flows (junction_of q) around _ out k (formula_brackets (junction_of q) f)
        (λ b st low. repeat_flows s ty.0 (formula_piece p.callees (junction_of q) f) out (bracketed_by k b) st ty.1 ty.2 ty.3 (omega arith)
        (formula_flows f (junction_of q) out (inside p (bracketed_by k b) s ty.0) ty.4 (omega arith) (omega arith) b (inside_settled (bracketed_by k b) s ty.0 st ty.3) low)) b0 st0 low0
    formula_flows (Call equation xs) around out k ty ops loops b s low = calls equation xs out (bracketed_by k b) s ty ops
