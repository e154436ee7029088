-- Equations between formulas are facts, so that a struct can carry them: two proofs of one are the
-- same. For a formula has a code, of marks and pairs, from which it is read back.
use Rattle.std.proofs.Common.{◌≡◌, ℕ, ◌==◌, Bool, true, false, ◌&&◌, if◌then◌else◌, List, [], ◌∷◌, ℤ, pos, unsigned_abs, int_eq, refl, sym, ◌∙◌, ap, true≢false}
use Rattle.std.specs.Cmp.{unsigned_Decides, signed_Decides}
use Rattle.std.proofs.Props.{props}
use mathlib.Core.HLevel.{hedberg, collapsible→set}
use Rattle.pb_text_meaning.specs.Syntax.{Operator}
use Rattle.pb_typing_declarations.specs.Shapes.{Shape, Unknown, Truths, Places, Wholes}
use Rattle.pb_text_tree.specs.declared.operator.Connective.{Connective}
use Rattle.pb_text_tree.specs.declared.operator.Connective.TheVariants as connective
use Rattle.pb_text_tree.specs.declared.operator.Quantifier.{Quantifier}
use Rattle.pb_text_tree.specs.declared.operator.Quantifier.TheVariants.{Forall, Exists}
use Rattle.pb_typing_tree.specs.Tree.{Term, Number, Slot, Negative, Absolute, Successor, Predecessor, Binary, Maximum, Minimum, Choice, Recognised, Argument, Formula, Test, Negation, Connected, Quantified, Call}

and_true : (a b : Bool) → a && b ≡ true → (a ≡ true) × (b ≡ true)
and_true true b e = (refl, e)
and_true false b e = absurd (true≢false (sym e))

-- ---- codes

pub data Code : Type 0 where
  Mark : ℕ → ℤ → ℤ → Code
  Pair : Code → Code → Code

abbrev same : Code → Code → Bool
same (Mark k a b) (Mark l c d) = k == l && (int_eq a c && int_eq b d)
same (Pair x y) (Pair u v) = same x u && same y v
same (Mark k a b) (Pair u v) = false
same (Pair x y) (Mark l c d) = false

same-path : (x y : Code) → same x y ≡ true → x ≡ y
same-path (Mark k a b) (Mark l c d) e =
    let p = and_true (k == l) (int_eq a c && int_eq b d) e in
    let q = and_true (int_eq a c) (int_eq b d) p.1 in
    ap (λ (n : ℕ). Mark n a b) ((unsigned_Decides k l).0 p.0)
    ∙ (ap (λ (n : ℤ). Mark l n b) ((signed_Decides a c).0 q.0)
    ∙ ap (λ (n : ℤ). Mark l c n) ((signed_Decides b d).0 q.1))
same-path (Pair x y) (Pair u v) e =
    let p = and_true (same x u) (same y v) e in ap (λ (z : Code). Pair z y) (same-path x u p.0)
    ∙ ap (λ (z : Code). Pair u z) (same-path y v p.1)
same-path (Mark k a b) (Pair u v) e = absurd (true≢false (sym e))
same-path (Pair x y) (Mark l c d) e = absurd (true≢false (sym e))

both : (b c : Bool) → b ≡ true → c ≡ true → b && c ≡ true
both b c h k = ap (λ d. d && c) h ∙ k

same-self : (x : Code) → same x x ≡ true
same-self (Mark k a b) =
    both (k == k) (int_eq a a && int_eq b b) ((unsigned_Decides k k).1 refl)
    (both (int_eq a a) (int_eq b b) ((signed_Decides a a).1 refl) ((signed_Decides b b).1 refl))
same-self (Pair x y) = both (same x x) (same y y) (same-self x) (same-self y)

same-decides : (x y : Code) → Dec (x ≡ y)
same-decides x y = by (same x y) refl
  where
    by : (b : Bool) → same x y ≡ b → Dec (x ≡ y)
    by true e = yes (same-path x y e)
    by false e = no (λ p. true≢false (sym (same-self x) ∙ (ap (same x) p ∙ e)))

Code-set : IsSet Code
Code-set = hedberg same-decides

-- what is read back from its code
pub from-codes : {A : Type 0} (to : A → Code) (from : Code → A) → ((x : A) → from (to x) ≡ x)
    → IsSet A
from-codes to from back =
    collapsible→set (λ x y p. sym (back x) ∙ (ap from (ap to p) ∙ back y))
    (λ x y p q.
    ap (λ z. sym (back x) ∙ (ap from z ∙ back y)) (Code-set (to x) (to y) (ap to p) (ap to q)))

abbrev pub none : Code
none = Mark 0 (pos 0) (pos 0)

abbrev pub node : ℕ → ℤ → ℤ → Code → Code → Code
node k a b l r = Pair (Mark k a b) (Pair l r)

abbrev pub truth_number : Bool → ℤ
truth_number true = pos 1
truth_number false = pos 0

abbrev pub number_truth : ℤ → Bool
number_truth z = int_eq z (pos 1)

-- ---- operators and shapes

abbrev operator_number : Operator → ℕ
operator_number Operator.And = 0
operator_number Operator.Or = 1
operator_number Operator.Implies = 2
operator_number Operator.Equal = 3
operator_number Operator.NotEqual = 4
operator_number Operator.Less = 5
operator_number Operator.LessEqual = 6
operator_number Operator.Greater = 7
operator_number Operator.GreaterEqual = 8
operator_number Operator.Plus = 9
operator_number Operator.Minus = 10
operator_number Operator.Times = 11
operator_number Operator.Div = 12
operator_number Operator.Mod = 13

abbrev operator_at : ℕ → Operator
operator_at n =
    if n == 0 then Operator.And else if n == 1 then Operator.Or else if n == 2 then Operator.Implies
    else
    if n == 3 then Operator.Equal else if n == 4 then Operator.NotEqual else if n == 5
    then Operator.Less else
    if n == 6 then Operator.LessEqual else if n == 7 then Operator.Greater else if n == 8
    then Operator.GreaterEqual else
    if n == 9 then Operator.Plus else if n == 10 then Operator.Minus else if n == 11
    then Operator.Times else
    if n == 12 then Operator.Div else Operator.Mod

operator-back : (o : Operator) → operator_at (operator_number o) ≡ o
operator-back Operator.And = refl
operator-back Operator.Or = refl
operator-back Operator.Implies = refl
operator-back Operator.Equal = refl
operator-back Operator.NotEqual = refl
operator-back Operator.Less = refl
operator-back Operator.LessEqual = refl
operator-back Operator.Greater = refl
operator-back Operator.GreaterEqual = refl
operator-back Operator.Plus = refl
operator-back Operator.Minus = refl
operator-back Operator.Times = refl
operator-back Operator.Div = refl
operator-back Operator.Mod = refl

abbrev pub shape_code : Shape → Code
shape_code Unknown = Mark 0 (pos 0) (pos 0)
shape_code Truths = Mark 1 (pos 0) (pos 0)
shape_code (Places s n) = Mark 2 (pos s) (pos n)
shape_code (Wholes l h) = Mark 3 l h

abbrev pub shape_at : Code → Shape
shape_at (Mark k a b) =
    if k == 0 then Unknown else if k == 1 then Truths else if k == 2
    then Places (unsigned_abs a) (unsigned_abs b) else Wholes a b
shape_at (Pair x y) = Unknown

pub shape-back : (s : Shape) → shape_at (shape_code s) ≡ s
shape-back Unknown = refl
shape-back Truths = refl
shape-back (Places s n) = refl
shape-back (Wholes l h) = refl

Shape-set : IsSet Shape
Shape-set = from-codes shape_code shape_at shape-back

-- ---- terms

abbrev pub term_code : Term → Code
term_code (Term.Truth b) = node 0 (truth_number b) (pos 0) none none
term_code (Number n) = node 1 (pos n) (pos 0) none none
term_code (Term.Enumerator s i) = node 2 (pos s) (pos i) none none
term_code (Slot s) = node 3 (pos s) (pos 0) none none
term_code (Term.Not x) = node 4 (pos 0) (pos 0) (term_code x) none
term_code (Negative x) = node 5 (pos 0) (pos 0) (term_code x) none
term_code (Absolute x) = node 6 (pos 0) (pos 0) (term_code x) none
term_code (Successor x) = node 7 (pos 0) (pos 0) (term_code x) none
term_code (Predecessor x) = node 8 (pos 0) (pos 0) (term_code x) none
term_code (Binary o x y) = node 9 (pos (operator_number o)) (pos 0) (term_code x) (term_code y)
term_code (Maximum x y) = node 10 (pos 0) (pos 0) (term_code x) (term_code y)
term_code (Minimum x y) = node 11 (pos 0) (pos 0) (term_code x) (term_code y)
term_code (Choice c x y) =
    node 12 (pos 0) (pos 0) (term_code c) (node 10 (pos 0) (pos 0) (term_code x) (term_code y))
term_code (Recognised s i x) = node 13 (pos s) (pos i) (term_code x) none

-- a choice between the operands of a maximum
abbrev choice : Term → Term → Term
choice c (Maximum x y) = Choice c x y
choice c x = x

abbrev term_with : ℕ → ℤ → ℤ → Term → Term → Term
term_with k a b x y =
    if k == 0 then Term.Truth (number_truth a) else if k == 1 then Number (unsigned_abs a) else
    if k == 2 then Term.Enumerator (unsigned_abs a) (unsigned_abs b) else if k == 3
    then Slot (unsigned_abs a) else
    if k == 4 then Term.Not x else if k == 5 then Negative x else if k == 6 then Absolute x else
    if k == 7 then Successor x else if k == 8 then Predecessor x else
    if k == 9 then Binary (operator_at (unsigned_abs a)) x y else if k == 10 then Maximum x y
    else if k == 11 then Minimum x y else
    if k == 12 then choice x y else Recognised (unsigned_abs a) (unsigned_abs b) x

abbrev pub term_at : Code → Term
term_at (Mark k a b) = Number 0
term_at (Pair (Mark k a b) (Mark l c d)) = Number 0
term_at (Pair (Mark k a b) (Pair l r)) = term_with k a b (term_at l) (term_at r)
term_at (Pair (Pair x y) z) = Number 0

pub truth-back : (b : Bool) → number_truth (truth_number b) ≡ b
truth-back true = refl
truth-back false = refl

pub term-back : (x : Term) → term_at (term_code x) ≡ x
term-back (Term.Truth b) = ap Term.Truth (truth-back b)
term-back (Number n) = refl
term-back (Term.Enumerator s i) = refl
term-back (Slot s) = refl
term-back (Term.Not x) = ap Term.Not (term-back x)
term-back (Negative x) = ap Negative (term-back x)
term-back (Absolute x) = ap Absolute (term-back x)
term-back (Successor x) = ap Successor (term-back x)
term-back (Predecessor x) = ap Predecessor (term-back x)
term-back (Binary o x y) =
    ap (λ (p : Operator). Binary p (term_at (term_code x)) (term_at (term_code y)))
    (operator-back o)
    ∙ (ap (λ (z : Term). Binary o z (term_at (term_code y))) (term-back x)
    ∙ ap (Binary o x) (term-back y))
term-back (Maximum x y) =
    ap (λ (z : Term). Maximum z (term_at (term_code y))) (term-back x)
    ∙ ap (Maximum x) (term-back y)
term-back (Minimum x y) =
    ap (λ (z : Term). Minimum z (term_at (term_code y))) (term-back x)
    ∙ ap (Minimum x) (term-back y)
term-back (Choice c x y) =
    ap (λ (z : Term). Choice z (term_at (term_code x)) (term_at (term_code y))) (term-back c)
    ∙ (ap (λ (z : Term). Choice c z (term_at (term_code y))) (term-back x)
    ∙ ap (Choice c x) (term-back y))
term-back (Recognised s i x) = ap (Recognised s i) (term-back x)

-- ---- formulas

abbrev pub arguments_code : List Argument → Code
arguments_code [] = none
arguments_code (e ∷ es) = Pair (Pair (term_code e.term) (shape_code e.shape)) (arguments_code es)

abbrev pub arguments_at : Code → List Argument
arguments_at (Mark k a b) = []
arguments_at (Pair (Mark k a b) z) = []
arguments_at (Pair (Pair x y) z) = record { term = term_at x; shape = shape_at y } ∷ arguments_at z

pub arguments-back : (es : List Argument) → arguments_at (arguments_code es) ≡ es
arguments-back [] = refl
arguments-back (e ∷ es) =
    ap (λ (x : Term). record { term = x; shape = shape_at (shape_code e.shape) }
    ∷ arguments_at (arguments_code es)) (term-back e.term)
    ∙ (ap (λ (s : Shape). record { term = e.term; shape = s } ∷ arguments_at (arguments_code es))
    (shape-back e.shape) ∙ ap (λ (xs : List Argument). e ∷ xs) (arguments-back es))

abbrev connective_number : Connective → ℕ
connective_number connective.And = 0
connective_number connective.Or = 1
connective_number connective.Implies = 2

abbrev connective_at : ℕ → Connective
connective_at n =
    if n == 0 then connective.And else if n == 1 then connective.Or else connective.Implies

connective-back : (o : Connective) → connective_at (connective_number o) ≡ o
connective-back connective.And = refl
connective-back connective.Or = refl
connective-back connective.Implies = refl

abbrev quantifier_truth : Quantifier → Bool
quantifier_truth Forall = true
quantifier_truth Exists = false

abbrev truth_quantifier : Bool → Quantifier
truth_quantifier true = Forall
truth_quantifier false = Exists

quantifier-back : (q : Quantifier)
    → truth_quantifier (number_truth (truth_number (quantifier_truth q))) ≡ q
quantifier-back Forall = refl
quantifier-back Exists = refl

abbrev formula_code : Formula → Code
formula_code (Test x) = node 0 (pos 0) (pos 0) (term_code x) none
formula_code (Negation f) = node 1 (pos 0) (pos 0) (formula_code f) none
formula_code (Connected o f g) =
    node 2 (pos (connective_number o)) (pos 0) (formula_code f) (formula_code g)
formula_code (Quantified q s shape f) =
    node 3 (truth_number (quantifier_truth q)) (pos s) (shape_code shape) (formula_code f)
formula_code (Call X es) = node 4 (pos X) (pos 0) (arguments_code es) none

abbrev formula_with : ℕ → ℤ → ℤ → Term → Shape → List Argument → Formula → Formula → Formula
formula_with k a b x s es f g =
    if k == 0 then Test x else if k == 1 then Negation f else
    if k == 2 then Connected (connective_at (unsigned_abs a)) f g else
    if k == 3 then Quantified (truth_quantifier (number_truth a)) (unsigned_abs b) s g
    else Call (unsigned_abs a) es

abbrev formula_at : Code → Formula
formula_at (Mark k a b) = Test (Number 0)
formula_at (Pair (Mark k a b) (Mark l c d)) = Test (Number 0)
formula_at (Pair (Mark k a b) (Pair l r)) =
    formula_with k a b (term_at l) (shape_at l) (arguments_at l) (formula_at l) (formula_at r)
formula_at (Pair (Pair x y) z) = Test (Number 0)

formula-back : (f : Formula) → formula_at (formula_code f) ≡ f
formula-back (Test x) = ap Test (term-back x)
formula-back (Negation f) = ap Negation (formula-back f)
formula-back (Connected o f g) =
    ap (λ (p : Connective). Connected p (formula_at (formula_code f)) (formula_at (formula_code g)))
    (connective-back o)
    ∙ (ap (λ (h : Formula). Connected o h (formula_at (formula_code g))) (formula-back f)
    ∙ ap (Connected o f) (formula-back g))
formula-back (Quantified q s shape f) =
    ap (λ (p : Quantifier).
    Quantified p s (shape_at (shape_code shape)) (formula_at (formula_code f))) (quantifier-back q)
    ∙ (ap (λ (t : Shape). Quantified q s t (formula_at (formula_code f))) (shape-back shape)
    ∙ ap (Quantified q s shape) (formula-back f))
formula-back (Call X es) = ap (Call X) (arguments-back es)

Formula-set : IsSet Formula
Formula-set = from-codes formula_code formula_at formula-back

-- ---- equations between lists of them are facts

pub formulas-prop : (fs gs : List Formula) → IsProp (fs ≡ gs)
formulas-prop fs gs = hlevel (Formula-set, props)

pub shapes-prop : (ss ts : List (List Shape)) → IsProp (ss ≡ ts)
shapes-prop ss ts = hlevel (Shape-set, props)
