-- A connective of two operands that keeps both, and operands that are joined from the last on.
use Rattle.std.proofs.Common.{◌≡◌, ◌++◌, Bool, true, false, if◌then◌else◌, List, [], ◌∷◌, map, refl, sym, ap, ◌∙◌}
use Rattle.pb_text_tree.specs.declared.operator.Connective.{Connective}
use Rattle.pb_text_tree.specs.declared.operator.Connective.TheVariants as connective
use Rattle.pb_text_tree.specs.declared.operator.Quantifier.{Quantifier}
use Rattle.pb_text_tree.specs.declared.operator.Quantifier.TheVariants.{Forall, Exists}
use Rattle.pb_text_meaning.specs.Syntax.{Term}
use Rattle.pb_text_meaning.specs.Erase.{of_connective}
use Rattle.pb_model_meaning.specs.Syntax.{Formula}
use Rattle.pb_text_tree.specs.declared.term.Term as declared_term
use Rattle.pb_model_tree.specs.declared.formula.Formula as declared_formula
use Rattle.pb_protocol_folding.specs.View.{term_of, formula_of}
use Rattle.pb_protocol_folding.specs.declared.kept.Kept.{Kept}
use Rattle.pb_protocol_folding.specs.declared.kept.Kept.TheVariants as kept
use Rattle.pb_protocol_folding.specs.Folding.{is_test, truth_value, settled, folded_joined}
use Rattle.pb_protocol_folding.specs.FoldedModels.{folded_joined_formula}
use Rattle.pb_protocol_folding.specs.Kept.{decided_term, folded_connective, folded_connective_formula, kept_term, has_truth, joining, neutral, truth_counts}

-- ---- what is kept of two

settled-whole : (d whole : Term) → is_test d ≡ false → whole ≡ settled false d whole
settled-whole d whole e = sym (ap (λ b. if b then d else whole) e)

kept-test : (c : Connective) (k : Kept) (x y : Term) → has_truth k x y ≡ is_test (kept_term c k x y)
kept-test c kept.Left x y = refl
kept-test c kept.Right x y = refl
kept-test c kept.NotLeft x y = refl
kept-test c (kept.Truth b) x y = refl
kept-test connective.And kept.Both x y = refl
kept-test connective.Or kept.Both x y = refl
kept-test connective.Implies kept.Both x y = refl

not-settled : (c : Connective) (x y : Term) → is_test (decided_term c (truth_value x) (truth_value y) x y) ≡ false → Term.Binary (of_connective c) x y ≡ folded_connective c false x y
not-settled connective.And x y e = settled-whole _ _ e
not-settled connective.Or x y e = settled-whole _ _ e
not-settled connective.Implies x y e = settled-whole _ _ e

pub both-kept : (c : Connective) (truth : Bool) (k : Kept) (x y : Term) → kept_term c k x y ≡ decided_term c (truth_value x) (truth_value y) x y → truth ≡ false → has_truth k x y ≡ false →
    Term.Binary (of_connective c) x y ≡ folded_connective c truth x y
both-kept c truth k x y same value none =
    not-settled c x y (sym (ap is_test same) ∙ (sym (kept-test c k x y) ∙ none)) ∙ sym (ap (λ b. folded_connective c b x y) value)

-- ---- operands joined from the last on

-- a term behind these operands
abbrev pub behind : Connective → Bool → List Term → Term → Term
behind c truth [] t = t
behind c truth (x ∷ xs) t = folded_connective c truth x (behind c true xs t)

counts-true : {A : Type 0} (xs : List A) → truth_counts true xs ≡ true
counts-true [] = refl
counts-true (x ∷ xs) = refl

pub behind-last : (c : Connective) (truth : Bool) (xs : List Term) (x t : Term) → behind c truth (xs ++ (x ∷ [])) t ≡ behind c truth xs (folded_connective c (truth_counts truth xs) x t)
behind-last c truth [] x t = refl
behind-last c truth (y ∷ xs) x t =
    ap (folded_connective c truth y) (behind-last c true xs x t ∙ ap (λ b. behind c true xs (folded_connective c b x t)) (counts-true xs))

pub all-behind : (q : Quantifier) (truth : Bool) (xs : List Term) → behind (joining q) truth xs (Term.Truth (neutral q)) ≡ folded_joined q truth xs
all-behind Forall truth [] = refl
all-behind Exists truth [] = refl
all-behind Forall truth (x ∷ xs) = ap (folded_connective connective.And truth x) (all-behind Forall true xs)
all-behind Exists truth (x ∷ xs) = ap (folded_connective connective.Or truth x) (all-behind Exists true xs)

-- ---- formulas

abbrev pub behind_formula : Connective → List Formula → Formula → Formula
behind_formula c [] f = f
behind_formula c (g ∷ gs) f = folded_connective_formula c g (behind_formula c gs f)

pub behind-last-formula : (c : Connective) (gs : List Formula) (g f : Formula) → behind_formula c (gs ++ (g ∷ [])) f ≡ behind_formula c gs (folded_connective_formula c g f)
behind-last-formula c [] g f = refl
behind-last-formula c (h ∷ gs) g f = ap (folded_connective_formula c h) (behind-last-formula c gs g f)

pub all-behind-formula : (q : Quantifier) (gs : List Formula) → behind_formula (joining q) gs (Formula.Data (Term.Truth (neutral q))) ≡ folded_joined_formula q gs
all-behind-formula Forall [] = refl
all-behind-formula Exists [] = refl
all-behind-formula Forall (g ∷ gs) = ap (folded_connective_formula connective.And g) (all-behind-formula Forall gs)
all-behind-formula Exists (g ∷ gs) = ap (folded_connective_formula connective.Or g) (all-behind-formula Exists gs)

pub mapped-push : {A B : Type 0} (f : A → B) (xs : List A) (x : A) → map f (xs ++ (x ∷ [])) ≡ map f xs ++ (f x ∷ [])
mapped-push f [] x = refl
mapped-push f (y ∷ xs) x = ap (λ ys. f y ∷ ys) (mapped-push f xs x)

pub counts-mapped : {A B : Type 0} (f : A → B) (truth : Bool) (xs : List A) → truth_counts truth xs ≡ truth_counts truth (map f xs)
counts-mapped f truth [] = refl
counts-mapped f truth (x ∷ xs) = refl

-- ---- as the code meets them

pub step-joined : (q : Quantifier) (truth : Bool) (xs ys : List declared_term.Term) (x t u : declared_term.Term)
    (c : Connective) (counts : Bool) → xs ≡ ys ++ (x ∷ []) → c ≡ joining q → counts ≡ truth_counts truth ys →
    term_of u ≡ folded_connective c counts (term_of x) (term_of t) → (whole : Term)
    → behind (joining q) truth (map term_of xs) (term_of t) ≡ whole → behind (joining q) truth (map term_of ys) (term_of u) ≡ whole
step-joined q truth xs ys x t u c counts split same true-counts said whole before =
    ap (behind (joining q) truth (map term_of ys)) said
    ∙ (ap (λ d. behind (joining q) truth (map term_of ys) (folded_connective d counts (term_of x) (term_of t))) same
    ∙ (ap (λ b. behind (joining q) truth (map term_of ys) (folded_connective (joining q) b (term_of x) (term_of t))) (true-counts ∙ counts-mapped term_of truth ys)
    ∙ (sym (behind-last (joining q) truth (map term_of ys) (term_of x) (term_of t))
    ∙ (ap (λ l. behind (joining q) truth l (term_of t)) (sym (ap (map term_of) split ∙ mapped-push term_of ys x)) ∙ before))))

pub step-joined-formula : (q : Quantifier) (xs ys : List declared_formula.Formula) (x t u : declared_formula.Formula) (c : Connective) → xs ≡ ys ++ (x ∷ []) → c ≡ joining q →
    formula_of u ≡ folded_connective_formula c (formula_of x) (formula_of t) → (whole : Formula) → behind_formula (joining q) (map formula_of xs) (formula_of t) ≡ whole →
    behind_formula (joining q) (map formula_of ys) (formula_of u) ≡ whole
step-joined-formula q xs ys x t u c split same said whole before =
    ap (behind_formula (joining q) (map formula_of ys)) said
    ∙ (ap (λ d. behind_formula (joining q) (map formula_of ys) (folded_connective_formula d (formula_of x) (formula_of t))) same
    ∙ (sym (behind-last-formula (joining q) (map formula_of ys) (formula_of x) (formula_of t))
    ∙ (ap (λ l. behind_formula (joining q) l (formula_of t)) (sym (ap (map formula_of) split ∙ mapped-push formula_of ys x)) ∙ before)))
