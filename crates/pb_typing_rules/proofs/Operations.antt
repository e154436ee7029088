-- The shape of an operation has the operation's value.
use Rattle.std.proofs.Common.{◌≡◌, ℕ, Bool, true, false, cond, ◌&&◌, ◌||◌, not, refl, sym, subst, arith, ℤ, pos, ◌≤ℤ◌, int_le, true≢false, inl, inr}
use Rattle.std.specs.Prelude.{◌==◌, max}
use Rattle.std.proofs.lemmas.Int.{ints}
use Rattle.std.proofs.lemmas.Bool.{and_parts}
use Rattle.pb_base_values.specs.Interval.{is_included, within, literals}
use Rattle.pb_base_values.specs.Operation.{UnaryOperation, BinaryOperation, Sum, Difference, Product, Quotient, Remainder, unary_value, binary_value, unary_interval, binary_interval, divides}
use Rattle.pb_base_values.specs.Laws.{IsDefined}
use Rattle.pb_base_values.proofs.Ends.{le_true}
use Rattle.pb_base_values.proofs.Sound.{unary_sound, binary_sound, hull_sound}
use Rattle.pb_text_meaning.specs.Syntax.{Operator}
use Rattle.pb_text_meaning.specs.Value.{binary}
use Rattle.pb_text_meaning.specs.Fits.{DivisorFits}
use Rattle.pb_typing_declarations.specs.Shapes.{Shape, Unknown, Truths, Places, Wholes}
use Rattle.pb_typing_rules.specs.Shapes.{may_be_whole, may_be_alike, IsValueOf, between, of_interval, shape_hull, unary_shape, unary_is_limited, may_divide, binary_shape, binary_is_limited, kind_of, outcome}
use Rattle.pb_typing_rules.specs.Term.{IsOperation}
use Rattle.pb_typing_rules.proofs.Values.{Contained, whole_value, truth_value}

pub not_or : (a b : Bool) → a ≡ true → (not a || b) ≡ true → b ≡ true
not_or true b p e = e
not_or false b p e = absurd (true≢false (sym p))

pub unary_contained : (o : UnaryOperation) (s : Shape) (v : ℤ) → may_be_whole s ≡ true → unary_is_limited o s ≡ true → IsValueOf s v → Contained (unary_shape o s) (unary_value o v)
unary_contained o Unknown v w e h = absurd h
unary_contained o Truths v w e h = absurd (true≢false (sym w))
unary_contained o (Places s n) v w e h = absurd (true≢false (sym w))
unary_contained o (Wholes l k) v w e h = whole_value (unary_interval o (between l k)) (unary_value o v) e (unary_sound o (between l k) v h)

defined : (o : BinaryOperation) (m k : ℤ) → may_divide o (Wholes m k) ≡ true → IsDefined o (between m k)
defined o m k e = λ d. le_true (pos 1) m (not_or (divides o) (int_le (pos 1) m) d e)

wholes_contained : (o : BinaryOperation) (l h m k u v : ℤ) → may_divide o (Wholes m k) ≡ true
    → binary_is_limited o (Wholes l h) (Wholes m k) ≡ true → IsValueOf (Wholes l h) u → IsValueOf (Wholes m k) v
    → Contained (binary_shape o (Wholes l h) (Wholes m k)) (binary_value o u v)
wholes_contained o l h m k u v d e p q =
    let i = binary_interval o (between l h) (between m k) in
    let limited = not_or (may_divide o (Wholes m k)) (is_included i literals) d e in
    subst (λ (b : Bool). Contained (cond b (of_interval (within literals i)) Unknown) (binary_value o u v)) (sym d)
    (whole_value i (binary_value o u v) limited (binary_sound o (between l h) (between m k) u v (defined o m k d) p q))

pub binary_contained : (o : BinaryOperation) (s t : Shape) (u v : ℤ) → (may_be_whole s && may_be_whole t) ≡ true
    → may_divide o t ≡ true → binary_is_limited o s t ≡ true → IsValueOf s u → IsValueOf t v
    → Contained (binary_shape o s t) (binary_value o u v)
binary_contained o Unknown t u v w d e p q = absurd p
binary_contained o Truths t u v w d e p q = absurd (true≢false (sym w))
binary_contained o (Places s n) t u v w d e p q = absurd (true≢false (sym w))
binary_contained o (Wholes l h) Unknown u v w d e p q = absurd q
binary_contained o (Wholes l h) Truths u v w d e p q = absurd (true≢false (sym w))
binary_contained o (Wholes l h) (Places s n) u v w d e p q = absurd (true≢false (sym w))
binary_contained o (Wholes l h) (Wholes m k) u v w d e p q = wholes_contained o l h m k u v d e p q

-- a divisor is at least 1
divisor_fits : (o : BinaryOperation) (t : Shape) (v : ℤ) → divides o ≡ true → may_be_whole t ≡ true → may_divide o t ≡ true → IsValueOf t v → pos 1 ≤ℤ v
divisor_fits o Unknown v is w d q = absurd q
divisor_fits o Truths v is w d q = absurd (true≢false (sym w))
divisor_fits o (Places s n) v is w d q = absurd (true≢false (sym w))
divisor_fits o (Wholes m k) v is w d q = let least = defined o m k d is in let above = q.0 in omega (arith, ints)

-- ---- operators

pub operation_contained : (o : Operator) (s t : Shape) (u v : ℤ) → IsOperation (kind_of o) s t → IsValueOf s u → IsValueOf t v → Contained (outcome (kind_of o) s t) (binary o u v)
operation_contained Operator.And s t u v h p q = truth_value _
operation_contained Operator.Or s t u v h p q = truth_value _
operation_contained Operator.Implies s t u v h p q = truth_value _
operation_contained Operator.Equal s t u v h p q = truth_value _
operation_contained Operator.NotEqual s t u v h p q = truth_value _
operation_contained Operator.Less s t u v h p q = truth_value _
operation_contained Operator.LessEqual s t u v h p q = truth_value _
operation_contained Operator.Greater s t u v h p q = truth_value _
operation_contained Operator.GreaterEqual s t u v h p q = truth_value _
operation_contained Operator.Plus s t u v h p q = binary_contained Sum s t u v h.0 h.1 h.2 p q
operation_contained Operator.Minus s t u v h p q = binary_contained Difference s t u v h.0 h.1 h.2 p q
operation_contained Operator.Times s t u v h p q = binary_contained Product s t u v h.0 h.1 h.2 p q
operation_contained Operator.Div s t u v h p q = binary_contained Quotient s t u v h.0 h.1 h.2 p q
operation_contained Operator.Mod s t u v h p q = binary_contained Remainder s t u v h.0 h.1 h.2 p q

pub divisor_contained : (o : Operator) (s t : Shape) (v : ℤ) → IsOperation (kind_of o) s t → IsValueOf t v → DivisorFits o v
divisor_contained Operator.And s t v h q = tt
divisor_contained Operator.Or s t v h q = tt
divisor_contained Operator.Implies s t v h q = tt
divisor_contained Operator.Equal s t v h q = tt
divisor_contained Operator.NotEqual s t v h q = tt
divisor_contained Operator.Less s t v h q = tt
divisor_contained Operator.LessEqual s t v h q = tt
divisor_contained Operator.Greater s t v h q = tt
divisor_contained Operator.GreaterEqual s t v h q = tt
divisor_contained Operator.Plus s t v h q = tt
divisor_contained Operator.Minus s t v h q = tt
divisor_contained Operator.Times s t v h q = tt
divisor_contained Operator.Div s t v h q = divisor_fits Quotient t v refl (and_parts (may_be_whole s) (may_be_whole t) h.0).1 h.1 q
divisor_contained Operator.Mod s t v h q = divisor_fits Remainder t v refl (and_parts (may_be_whole s) (may_be_whole t) h.0).1 h.1 q

-- ---- a choice between two

places_left : (s t n m : ℕ) (v : ℤ) (b : Bool) → b ≡ true → Contained (Places s n) v → Contained (cond b (Places s (max n m)) Unknown) v
places_left s t n m v true e h = let x = h.value.0 in let y = h.value.1 in record { value = (x, omega (arith, ints)); bounded = h.bounded }
places_left s t n m v false e h = absurd (true≢false (sym e))

places_right : (s t n m : ℕ) (v : ℤ) (b : Bool) → b ≡ true → Contained (Places t m) v → Contained (cond b (Places s (max n m)) Unknown) v
places_right s t n m v true e h = let x = h.value.0 in let y = h.value.1 in record { value = (x, omega (arith, ints)); bounded = h.bounded }
places_right s t n m v false e h = absurd (true≢false (sym e))

pub hull_left : (s t : Shape) (v w : ℤ) → may_be_alike s t ≡ true → IsValueOf t w → Contained s v → Contained (shape_hull s t) v
hull_left Unknown t v w e k h = absurd h.value
hull_left Truths Unknown v w e k h = absurd k
hull_left Truths Truths v w e k h = h
hull_left Truths (Places s n) v w e k h = absurd (true≢false (sym e))
hull_left Truths (Wholes m n) v w e k h = absurd (true≢false (sym e))
hull_left (Places s n) Unknown v w e k h = absurd k
hull_left (Places s n) Truths v w e k h = absurd (true≢false (sym e))
hull_left (Places s n) (Places t m) v w e k h = places_left s t n m v (s == t) e h
hull_left (Places s n) (Wholes m o) v w e k h = absurd (true≢false (sym e))
hull_left (Wholes l o) Unknown v w e k h = absurd k
hull_left (Wholes l o) Truths v w e k h = absurd (true≢false (sym e))
hull_left (Wholes l o) (Places s n) v w e k h = absurd (true≢false (sym e))
hull_left (Wholes l o) (Wholes m n) v w e k h = record { value = hull_sound (between l o) (between m n) v (inl h.value); bounded = h.bounded }

pub hull_right : (s t : Shape) (v w : ℤ) → may_be_alike s t ≡ true → IsValueOf s w → Contained t v → Contained (shape_hull s t) v
hull_right Unknown t v w e k h = absurd k
hull_right Truths Unknown v w e k h = absurd h.value
hull_right Truths Truths v w e k h = h
hull_right Truths (Places s n) v w e k h = absurd (true≢false (sym e))
hull_right Truths (Wholes m n) v w e k h = absurd (true≢false (sym e))
hull_right (Places s n) Unknown v w e k h = absurd h.value
hull_right (Places s n) Truths v w e k h = absurd (true≢false (sym e))
hull_right (Places s n) (Places t m) v w e k h = places_right s t n m v (s == t) e h
hull_right (Places s n) (Wholes m o) v w e k h = absurd (true≢false (sym e))
hull_right (Wholes l o) Unknown v w e k h = absurd h.value
hull_right (Wholes l o) Truths v w e k h = absurd (true≢false (sym e))
hull_right (Wholes l o) (Places s n) v w e k h = absurd (true≢false (sym e))
hull_right (Wholes l o) (Wholes m n) v w e k h = record { value = hull_sound (between l o) (between m n) v (inr h.value); bounded = h.bounded }
