-- The code of a well-typed formula names slots and callees in scope, and leaves no block around it.
use Rattle.std.proofs.Common.{◌≡◌, ℕ, ◌+◌, ◌<◌, ◌≤◌, Bool, true, false, cond, ◌||◌, List, [], ◌∷◌, length, Option, Some, None, ◌⊎◌, inl, inr, refl, sym, subst, arith}
use Rattle.std.specs.Prelude.{slice_get, IsSome, ◌==◌, ℤ}
use Rattle.std.proofs.lemmas.Option.{slice_get_within}
use Rattle.pb_text_meaning.specs.Syntax.{Operator}
use Rattle.pb_sorts.specs.declared.carrier.Carrier.{Carrier}
use Rattle.pb_bytecode_program.specs.Abstract.{abstraction_of}
use Rattle.pb_bytecode_program.specs.declared.domain.AbstractValue.{AbstractValue}
use Rattle.pb_bytecode_program.specs.Machine.{Program, carrier_of}
use Rattle.pb_bytecode_program.specs.Transfer.{abstract_slot, among}
use Rattle.pb_bytecode_program.specs.declared.instruction.Leaf.TheVariants as leaf
use Rattle.pb_bytecode_program.specs.declared.instruction.Op.TheVariants as op
use Rattle.pb_fixpoint_trees.specs.declared.junction.Junction.{Junction}
use Rattle.pb_fixpoint_trees.specs.declared.junction.Junction.TheVariants.{Conjunction, Disjunction}
use Rattle.pb_normal.specs.Normal.{Term, Number, Slot, Negative, Absolute, Successor, Predecessor, Binary, Maximum, Minimum, Choice, Recognised, Argument, Formula, Test, Join, Each, Call}
use Rattle.pb_assembler_scheme.specs.Pieces.{Piece, Plain, Then, Block, Leave}
use Rattle.pb_assembler_scheme.specs.Scheme.{data_piece, binary_piece, junction_of, under, tested_piece, test_of, join_piece, tested_range, any_tested, guarded, arguments_piece, call_piece, parameters, formula_piece}
use Rattle.pb_assembler_scheme.specs.Limits.{formula_loops}
use Rattle.pb_assembler_scheme.proofs.Typing.{Typed}
use Rattle.pb_assembler_scheme.proofs.AcceptedFormulas.{TypedArguments, TypedCall, TypedFormula}
use Rattle.pb_assembler_scheme.proofs.Positions.{Loops, HasNoLeave, IsInScope}

-- ---- nothing leaves

pub binary_stays : (o : Operator) (x y : Piece) → HasNoLeave x → HasNoLeave y → HasNoLeave (binary_piece o x y)
binary_stays Operator.And x y a b = (b, (a, tt))
binary_stays Operator.Or x y a b = (b, (a, tt))
binary_stays Operator.Implies x y a b = (b, ((a, tt), tt))
binary_stays Operator.Equal x y a b = (a, (b, tt))
binary_stays Operator.NotEqual x y a b = (a, (b, tt))
binary_stays Operator.Less x y a b = (a, (b, tt))
binary_stays Operator.LessEqual x y a b = (a, (b, tt))
binary_stays Operator.Greater x y a b = (a, (b, tt))
binary_stays Operator.GreaterEqual x y a b = (a, (b, tt))
binary_stays Operator.Plus x y a b = (a, (b, tt))
binary_stays Operator.Minus x y a b = (a, (b, tt))
binary_stays Operator.Times x y a b = (a, (b, tt))
binary_stays Operator.Div x y a b = (a, (b, tt))
binary_stays Operator.Mod x y a b = (a, (b, tt))

pub data_stays : (t : Term) → HasNoLeave (data_piece t)
data_stays (Term.Truth b) = tt
data_stays (Number n) = tt
data_stays (Term.Enumerator s i) = tt
data_stays (Slot s) = tt
data_stays (Term.Not x) = (data_stays x, tt)
data_stays (Negative x) = (data_stays x, tt)
data_stays (Absolute x) = (data_stays x, tt)
data_stays (Successor x) = (data_stays x, (tt, tt))
data_stays (Predecessor x) = (data_stays x, (tt, tt))
data_stays (Binary o x y) = binary_stays o (data_piece x) (data_piece y) (data_stays x) (data_stays y)
data_stays (Maximum x y) = (data_stays x, (data_stays y, tt))
data_stays (Minimum x y) = (data_stays x, (data_stays y, tt))
data_stays (Choice c x y) = (data_stays c, (data_stays x, data_stays y))
data_stays (Recognised s i x) = (data_stays x, (tt, tt))

under_stays : (m around : Junction) (x : Piece) → HasNoLeave x → HasNoLeave (under m around x)
under_stays Conjunction Conjunction x h = h
under_stays Disjunction Disjunction x h = h
under_stays Conjunction Disjunction x h = (tt, (h, tt))
under_stays Disjunction Conjunction x h = (tt, (h, tt))

tested_stays : (m around : Junction) (t : Term) (x : Piece) → HasNoLeave x → HasNoLeave (tested_piece m around t x)
tested_stays Conjunction Conjunction t x h = (data_stays t, (tt, h))
tested_stays Disjunction Disjunction t x h = (data_stays t, (tt, h))
tested_stays Conjunction Disjunction t x h = (data_stays t, h)
tested_stays Disjunction Conjunction t x h = (data_stays t, h)

join_stays : (m around : Junction) (s t : Option Term) (fa ga fo go : Piece) → HasNoLeave fa → HasNoLeave ga → HasNoLeave fo → HasNoLeave go → HasNoLeave (join_piece m around s t fa ga fo go)
join_stays m around (Some s) t fa ga fo go a b c d = tested_stays m around s ga b
join_stays m around None (Some t) fa ga fo go a b c d = tested_stays m around t fa a
join_stays m around None None fa ga fo go a b c d = under_stays m around (Then fo go) (c, d)

guarded_stays : (o : Option (ℤ × ℤ)) (later : Bool) (x : Piece) → HasNoLeave x → HasNoLeave (guarded o later x)
guarded_stays (Some r) later x h = h
guarded_stays None true x h = (h, tt)
guarded_stays None false x h = h

arguments_stay : (cs : List Carrier) (xs : List Argument) (last : Piece) → HasNoLeave last → HasNoLeave (arguments_piece cs xs last)
arguments_stay (c ∷ cs) (x ∷ xs) last h = (data_stays x.term, guarded_stays (tested_range c x.shape) (any_tested cs xs) (arguments_piece cs xs last) (arguments_stay cs xs last h))
arguments_stay [] (x ∷ xs) last h = (data_stays x.term, arguments_stay [] xs last h)
arguments_stay [] [] last h = h
arguments_stay (c ∷ cs) [] last h = h

call_stays : (equation : ℕ) (cs : List Carrier) (xs : List Argument) → HasNoLeave (call_piece equation cs xs)
call_stays equation cs xs = by (any_tested cs xs)
  where
    by : (b : Bool) → HasNoLeave (cond b (Block (Then (arguments_piece cs xs (Then (Plain (op.Call equation)) Leave)) (Plain (op.Emit leaf.Cut)))) (arguments_piece cs xs (Plain (op.Call equation))))
    by true = tt
    by false = arguments_stay cs xs (Plain (op.Call equation)) tt

pub formula_stays : (callees : List (List Carrier)) (f : Formula) (around : Junction) → HasNoLeave (formula_piece callees around f)
formula_stays callees (Test t) around = (data_stays t, tt)
formula_stays callees (Join m f g) around =
    join_stays m around (test_of f) (test_of g) _ _ _ _ (formula_stays callees f around) (formula_stays callees g around) (formula_stays callees f m) (formula_stays callees g m)
formula_stays callees (Each q s shape f) around = under_stays (junction_of q) around _ (formula_stays callees f (junction_of q))
formula_stays callees (Call equation xs) around = call_stays equation (parameters (slice_get callees equation)) xs

-- ---- names

slot_known : (ls : Loops) (ps : List AbstractValue) (i : ℕ) (v : AbstractValue) → abstract_slot ls ps i ≡ Some v → (i < length ps) ⊎ (among ls i ≡ true)
slot_known [] ps i v e = inl (slice_get_within ps i v e)
slot_known (l ∷ ls) ps i v e = by (i == l.0) e (slot_known ls ps i v)
  where
    by : (b : Bool) → cond b (Some l.1) (abstract_slot ls ps i) ≡ Some v → (abstract_slot ls ps i ≡ Some v → (i < length ps) ⊎ (among ls i ≡ true)) → (i < length ps) ⊎ ((b || among ls i) ≡ true)
    by true e go = inr refl
    by false e go = go e

module _ (p : Program) (ps : List AbstractValue) (long : length ps ≡ length p.parameters) where
  module _ (ls : Loops) where
    binary_scope : (o : Operator) (x y : Piece) → IsInScope p ls x → IsInScope p ls y → IsInScope p ls (binary_piece o x y)
    binary_scope Operator.And x y a b = (b, (a, tt))
    binary_scope Operator.Or x y a b = (b, (a, tt))
    binary_scope Operator.Implies x y a b = (b, ((a, tt), tt))
    binary_scope Operator.Equal x y a b = (a, (b, tt))
    binary_scope Operator.NotEqual x y a b = (a, (b, tt))
    binary_scope Operator.Less x y a b = (a, (b, tt))
    binary_scope Operator.LessEqual x y a b = (a, (b, tt))
    binary_scope Operator.Greater x y a b = (a, (b, tt))
    binary_scope Operator.GreaterEqual x y a b = (a, (b, tt))
    binary_scope Operator.Plus x y a b = (a, (b, tt))
    binary_scope Operator.Minus x y a b = (a, (b, tt))
    binary_scope Operator.Times x y a b = (a, (b, tt))
    binary_scope Operator.Div x y a b = (a, (b, tt))
    binary_scope Operator.Mod x y a b = (a, (b, tt))

    slot_scope : (s : ℕ) (v : AbstractValue) → abstract_slot ls ps s ≡ Some v → (s < length p.parameters) ⊎ (among ls s ≡ true)
    slot_scope s v t = subst (λ n. (s < n) ⊎ (among ls s ≡ true)) long (slot_known ls ps s v t)

    data_scope : (t : Term) (v : AbstractValue) → Typed p.sorts ls ps t v → IsInScope p ls (data_piece t)
    data_scope (Term.Truth b) v t = tt
    data_scope (Number n) v t = tt
    data_scope (Term.Enumerator s i) v t = tt
    data_scope (Slot s) v t = slot_scope s v t
    data_scope (Term.Not x) v t = (data_scope x _ t.0, tt)
    data_scope (Negative x) v t = (data_scope x _ t.operand, tt)
    data_scope (Absolute x) v t = (data_scope x _ t.operand, tt)
    data_scope (Successor x) v t = (data_scope x _ t.1, (tt, tt))
    data_scope (Predecessor x) v t = (data_scope x _ t.1, (tt, tt))
    data_scope (Binary o x y) v t = binary_scope o (data_piece x) (data_piece y) (data_scope x _ t.2) (data_scope y _ t.3)
    data_scope (Maximum x y) v t = (data_scope x _ t.2, (data_scope y _ t.3, tt))
    data_scope (Minimum x y) v t = (data_scope x _ t.2, (data_scope y _ t.3, tt))
    data_scope (Choice c x y) v t = (data_scope c _ t.0, (data_scope x _ t.1.1, data_scope y _ t.2.1))
    data_scope (Recognised s i x) v t = (data_scope x _ t.2, (tt, tt))

    under_scope : (m around : Junction) (x : Piece) → IsInScope p ls x → IsInScope p ls (under m around x)
    under_scope Conjunction Conjunction x h = h
    under_scope Disjunction Disjunction x h = h
    under_scope Conjunction Disjunction x h = (tt, (h, tt))
    under_scope Disjunction Conjunction x h = (tt, (h, tt))

    tested_scope : (m around : Junction) (t : Term) (x : Piece) → IsInScope p ls (data_piece t) → IsInScope p ls x → IsInScope p ls (tested_piece m around t x)
    tested_scope Conjunction Conjunction t x d h = (d, (tt, h))
    tested_scope Disjunction Disjunction t x d h = (d, (tt, h))
    tested_scope Conjunction Disjunction t x d h = (d, h)
    tested_scope Disjunction Conjunction t x d h = (d, h)

    -- the code of a test, where there is one
    abbrev TestScope : Option Term → Type 0
    TestScope None = Unit {0}
    TestScope (Some t) = IsInScope p ls (data_piece t)

    join_scope : (m around : Junction) (s t : Option Term) (fa ga fo go : Piece) → TestScope s → TestScope t
        → IsInScope p ls fa → IsInScope p ls ga → IsInScope p ls fo → IsInScope p ls go
        → IsInScope p ls (join_piece m around s t fa ga fo go)
    join_scope m around (Some s) t fa ga fo go ds dt a b c d = tested_scope m around s ga ds b
    join_scope m around None (Some t) fa ga fo go ds dt a b c d = tested_scope m around t fa dt a
    join_scope m around None None fa ga fo go ds dt a b c d = under_scope m around (Then fo go) (c, d)

    test_scope : (f : Formula) → TypedFormula p ls ps f → TestScope (test_of f)
    test_scope (Test t) ty = data_scope t _ ty
    test_scope (Join m f g) ty = tt
    test_scope (Each q s shape f) ty = tt
    test_scope (Call equation xs) ty = tt

    guarded_scope : (o : Option (ℤ × ℤ)) (later : Bool) (x : Piece) → IsInScope p ls x → IsInScope p ls (guarded o later x)
    guarded_scope (Some r) later x h = h
    guarded_scope None true x h = (h, tt)
    guarded_scope None false x h = h

    arguments_scope : (cs : List Carrier) (xs : List Argument) (last : Piece) → TypedArguments p.sorts ls ps cs xs → IsInScope p ls last → IsInScope p ls (arguments_piece cs xs last)
    arguments_scope (c ∷ cs) (x ∷ xs) last ty h =
        (data_scope x.term _ ty.0, guarded_scope (tested_range c x.shape) (any_tested cs xs) (arguments_piece cs xs last) (arguments_scope cs xs last ty.3 h))
    arguments_scope [] (x ∷ xs) last ty h = absurd ty
    arguments_scope [] [] last ty h = h
    arguments_scope (c ∷ cs) [] last ty h = absurd ty

    call_scope : (equation : ℕ) (xs : List Argument) (o : Option (List Carrier)) → slice_get p.callees equation ≡ o
        → TypedCall p.sorts ls ps o xs → IsInScope p ls (call_piece equation (parameters o) xs)
    call_scope equation xs None e ty = absurd ty
    call_scope equation xs (Some cs) e ty = by (any_tested cs xs)
      where
        there : equation < length p.callees
        there = slice_get_within p.callees equation cs e

        by : (b : Bool)
            → IsInScope p ls
            (cond b (Block
            (Then (arguments_piece cs xs (Then (Plain (op.Call equation)) Leave)) (Plain (op.Emit leaf.Cut))))
            (arguments_piece cs xs (Plain (op.Call equation))))
        by true = (arguments_scope cs xs (Then (Plain (op.Call equation)) Leave) ty (there, tt), tt)
        by false = arguments_scope cs xs (Plain (op.Call equation)) ty there

  some_carrier : (o : Option Carrier) (c : Carrier) → o ≡ Some c → IsSome o
  some_carrier o c e = subst (λ (x : Option Carrier). IsSome x) (sym e) refl

  pub formula_scope : (f : Formula) (ls : Loops) (around : Junction) → TypedFormula p ls ps f → length ls + formula_loops f ≤ 8 → IsInScope p ls (formula_piece p.callees around f)
  formula_scope (Test t) ls around ty low = (data_scope ls t _ ty, tt)
  formula_scope (Join m f g) ls around ty low =
      join_scope ls m around (test_of f) (test_of g) _ _ _ _ (test_scope ls f ty.0) (test_scope ls g ty.1)
      (formula_scope f ls around ty.0 (omega arith)) (formula_scope g ls around ty.1 (omega arith)) (formula_scope f ls m ty.0 (omega arith)) (formula_scope g ls m ty.1 (omega arith))
  formula_scope (Each q s shape f) ls around ty low =
      under_scope ls (junction_of q) around _ (
        abstraction_of ty.0,
        some_carrier (carrier_of p s) ty.0 ty.1,
        ty.2,
        omega arith,
        formula_stays p.callees f
            (junction_of q),
        formula_scope f ((s, abstraction_of ty.0) ∷ ls) (junction_of q) ty.4 (omega arith),
      )
  formula_scope (Call equation xs) ls around ty low = call_scope ls equation xs (slice_get p.callees equation) refl ty
