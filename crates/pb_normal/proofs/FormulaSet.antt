-- Equations between normal forms are facts, so that a struct can carry them: two proofs of one are
-- the same. For a normal form has a code, as its data terms have, from which it is read back.
use Rattle.std.proofs.Common.{◌≡◌, ℕ, ◌==◌, if◌then◌else◌, List, ℤ, pos, unsigned_abs, refl, ◌∙◌, ap}
use Rattle.std.proofs.Props.{props}
use Rattle.std.proofs.Math.Logic.{∥∥₁_elim}
use Rattle.pb_text_tree.specs.declared.operator.Quantifier.{Quantifier}
use Rattle.pb_text_tree.specs.declared.operator.Quantifier.TheVariants.{Forall, Exists}
use Rattle.pb_typing_declarations.specs.Shapes.{Shape}
use Rattle.pb_typing_tree.proofs.FormulaSet.{Code, Mark, Pair, none, node, shape_code, shape_at, term_code, term_at, arguments_code, arguments_at, from-codes, shape-back, term-back, arguments-back}
use Rattle.pb_fixpoint_trees.specs.declared.junction.Junction.{Junction}
use Rattle.pb_fixpoint_trees.specs.declared.junction.Junction.TheVariants.{Conjunction, Disjunction}
use Rattle.pb_normal.specs.declared.normal.Normal.{Normal}
use Rattle.pb_normal.specs.Answer.{normal_equations}
use Rattle.pb_normal.specs.Text.{said}
use Rattle.pb_normal.specs.View.{right_views}
use Rattle.pb_normal.specs.Normal.{Term, Number, Argument, Formula, Test, Join, Each, Call}

abbrev junction_number : Junction → ℕ
junction_number Conjunction = 0
junction_number Disjunction = 1

abbrev junction_at : ℕ → Junction
junction_at n = if n == 0 then Conjunction else Disjunction

junction-back : (m : Junction) → junction_at (junction_number m) ≡ m
junction-back Conjunction = refl
junction-back Disjunction = refl

abbrev quantifier_number : Quantifier → ℕ
quantifier_number Forall = 0
quantifier_number Exists = 1

abbrev quantifier_at : ℕ → Quantifier
quantifier_at n = if n == 0 then Forall else Exists

quantifier-back : (q : Quantifier) → quantifier_at (quantifier_number q) ≡ q
quantifier-back Forall = refl
quantifier-back Exists = refl

abbrev formula_code : Formula → Code
formula_code (Test x) = node 0 (pos 0) (pos 0) (term_code x) none
formula_code (Join m f g) =
    node 1 (pos (junction_number m)) (pos 0) (formula_code f) (formula_code g)
formula_code (Each q s shape f) =
    node 2 (pos (quantifier_number q)) (pos s) (shape_code shape) (formula_code f)
formula_code (Call X es) = node 3 (pos X) (pos 0) (arguments_code es) none

abbrev formula_with : ℕ → ℤ → ℤ → Term → Shape → List Argument → Formula → Formula → Formula
formula_with k a b x s es f g =
    if k == 0 then Test x else if k == 1 then Join (junction_at (unsigned_abs a)) f g else
    if k == 2 then Each (quantifier_at (unsigned_abs a)) (unsigned_abs b) s g
    else Call (unsigned_abs a) es

abbrev formula_at : Code → Formula
formula_at (Mark k a b) = Test (Number 0)
formula_at (Pair (Mark k a b) (Mark l c d)) = Test (Number 0)
formula_at (Pair (Mark k a b) (Pair l r)) =
    formula_with k a b (term_at l) (shape_at l) (arguments_at l) (formula_at l) (formula_at r)
formula_at (Pair (Pair x y) z) = Test (Number 0)

formula-back : (f : Formula) → formula_at (formula_code f) ≡ f
formula-back (Test x) = ap Test (term-back x)
formula-back (Join m f g) =
    ap (λ (n : Junction). Join n (formula_at (formula_code f)) (formula_at (formula_code g)))
    (junction-back m)
    ∙ (ap (λ (h : Formula). Join m h (formula_at (formula_code g))) (formula-back f)
    ∙ ap (Join m f) (formula-back g))
formula-back (Each q s shape f) =
    ap (λ (p : Quantifier). Each p s (shape_at (shape_code shape)) (formula_at (formula_code f)))
    (quantifier-back q)
    ∙ (ap (λ (t : Shape). Each q s t (formula_at (formula_code f))) (shape-back shape)
    ∙ ap (Each q s shape) (formula-back f))
formula-back (Call X es) = ap (Call X) (arguments-back es)

Formula-set : IsSet Formula
Formula-set = from-codes formula_code formula_at formula-back

-- equations between lists of them are facts
pub formulas-prop : (fs gs : List Formula) → IsProp (fs ≡ gs)
formulas-prop fs gs = hlevel (Formula-set, props)

-- the right sides that a text with its normal form carries are those of the text
pub rights-are : (n : Normal) → right_views n.equations.items ≡ normal_equations (said n.typed.now)
rights-are n = ∥∥₁_elim n.rights (formulas-prop _ _) (λ e. e)
