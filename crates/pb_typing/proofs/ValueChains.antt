-- The value of a chain of the text is its operands' values joined.
use Rattle.std.proofs.Common.{◌≡◌, ℕ, ◌+◌, Bool, true, false, cond, ◌||◌, List, [], ◌∷◌, refl, sym, ◌∙◌, ap}
use Rattle.pb_text_tree.specs.declared.operator.Connective.{Connective}
use Rattle.pb_text_tree.specs.declared.operator.Connective.TheVariants.{And, Or, Implies}
use Rattle.pb_text_meaning.specs.Syntax as syntax
use Rattle.pb_text_meaning.specs.Syntax.{Spec}
use Rattle.pb_text_meaning.specs.Erase.{of_connective, joined as formula_joined}
use Rattle.pb_typing_rules.specs.Scope.{Scope}
use Rattle.pb_typing_tree.specs.Tree.{Term, Binary, Formula, Test, Connected}
use Rattle.pb_typing_tree.specs.Elaboration.{Slotting, slotted, elaborated, width}
use Rattle.pb_typing_tree.specs.Expansion.{has_quantifier, expanded_term}
use Rattle.pb_typing_tree.specs.View.{chained_formula}
use Rattle.pb_typing.specs.Value.{Whole, as_formula, joined, chosen, term_value, term_values}

abbrev pub chain : Connective → syntax.Term → List syntax.Term → syntax.Term
chain o x xs = chained_formula (syntax.Term.Binary (of_connective o)) x xs

pub split : (o : Connective) (x y : syntax.Term) → (has_quantifier x || has_quantifier y) ≡ true
    → expanded_term (syntax.Term.Binary (of_connective o) x y) ≡ formula_joined o (expanded_term x) (expanded_term y)
split And x y h = ap (λ (b : Bool). cond b (syntax.Formula.And (expanded_term x) (expanded_term y)) (syntax.Formula.Val (syntax.Term.Binary (of_connective And) x y))) h
split Or x y h = ap (λ (b : Bool). cond b (syntax.Formula.Or (expanded_term x) (expanded_term y)) (syntax.Formula.Val (syntax.Term.Binary (of_connective Or) x y))) h
split Implies x y h = ap (λ (b : Bool). cond b (syntax.Formula.Implies (expanded_term x) (expanded_term y)) (syntax.Formula.Val (syntax.Term.Binary (of_connective Implies) x y))) h

-- data without quantifiers stays a term
pub plain-expanded : (x : syntax.Term) → has_quantifier x ≡ false → expanded_term x ≡ syntax.Formula.Val x
plain-expanded (syntax.Term.Truth b) h = refl
plain-expanded (syntax.Term.Number n) h = refl
plain-expanded (syntax.Term.Named y) h = refl
plain-expanded (syntax.Term.Not x) h = ap (λ (b : Bool). cond b (syntax.Formula.Not (expanded_term x)) (syntax.Formula.Val (syntax.Term.Not x))) h
plain-expanded (syntax.Term.Negative x) h = refl
plain-expanded (syntax.Term.Binary o x y) h =
    ap (λ (b : Bool). cond b
    (Rattle.pb_typing_tree.specs.Expansion.connected o (expanded_term x) (expanded_term y)
    (syntax.Formula.Val (syntax.Term.Binary o x y))) (syntax.Formula.Val (syntax.Term.Binary o x y))) h
plain-expanded (syntax.Term.Apply f xs) h = refl
plain-expanded (syntax.Term.Quantified q xs x) h = absurd (Rattle.std.proofs.Common.true≢false h)

elaborated-joined : (S : Spec) (o : Connective) (c : Slotting) (scope : Scope) (n : ℕ) (f g : syntax.Formula)
    → elaborated S c scope n (formula_joined o f g) ≡ Connected o (elaborated S c scope n f) (elaborated S c scope (n + width f) g)
elaborated-joined S And c scope n f g = refl
elaborated-joined S Or c scope n f g = refl
elaborated-joined S Implies c scope n f g = refl

elaborated-plain : (S : Spec) (c : Slotting) (scope : Scope) (n : ℕ) (x : syntax.Term) → has_quantifier x ≡ false → elaborated S c scope n (expanded_term x) ≡ Test (slotted S c x)
elaborated-plain S c scope n x h = ap (elaborated S c scope n) (plain-expanded x h)

join-chosen : (o : Connective) (a b : Bool) (f g : Formula) (x y : Term) → (a ≡ false → f ≡ Test x) → (b ≡ false → g ≡ Test y)
    → chosen (a || b) (Connected o f g) (Binary (of_connective o) x y) ≡ joined o (chosen a f x) (chosen b g y)
join-chosen o true true f g x y hf hg = refl
join-chosen o true false f g x y hf hg = ap (λ v. Whole (Connected o f v)) (hg refl)
join-chosen o false true f g x y hf hg = ap (λ v. Whole (Connected o v g)) (hf refl)
join-chosen o false false f g x y hf hg = refl

same-chosen : (b : Bool) (f g : Formula) (x : Term) → (b ≡ true → f ≡ g) → chosen b f x ≡ chosen b g x
same-chosen true f g x h = ap Whole (h refl)
same-chosen false f g x h = refl

two : (S : Spec) (c : Slotting) (scope : Scope) (o : Connective) (x y : syntax.Term) (n : ℕ)
    → term_value S c scope n (syntax.Term.Binary (of_connective o) x y) ≡ joined o (term_value S c scope n x) (term_value S c scope (n + width (expanded_term x)) y)
two S c scope o x y n =
    let m = n + width (expanded_term x) in
    same-chosen (has_quantifier x || has_quantifier y) _ (Connected o (elaborated S c scope n (expanded_term x)) (elaborated S c scope m (expanded_term y))) _
    (λ h. ap (elaborated S c scope n) (split o x y h) ∙ elaborated-joined S o c scope n (expanded_term x) (expanded_term y))
    ∙ join-chosen o (has_quantifier x) (has_quantifier y) _ _ (slotted S c x) (slotted S c y) (elaborated-plain S c scope n x) (elaborated-plain S c scope m y)

pub chain-value : (S : Spec) (c : Slotting) (scope : Scope) (o : Connective) (x : syntax.Term) (xs : List syntax.Term) (n : ℕ)
    → term_value S c scope n (chain o x xs) ≡ chained_formula (joined o) (term_value S c scope n x) (term_values S c scope (n + width (expanded_term x)) xs)
chain-value S c scope o x [] n = refl
chain-value S c scope o x (y ∷ ys) n =
    two S c scope o x (chain o y ys) n ∙ ap (joined o (term_value S c scope n x)) (chain-value S c scope o y ys (n + width (expanded_term x)))

chosen-formula : (b : Bool) (f : Formula) (x : Term) → (b ≡ false → f ≡ Test x) → as_formula (chosen b f x) ≡ f
chosen-formula true f x h = refl
chosen-formula false f x h = sym (h refl)

pub value-formula : (S : Spec) (c : Slotting) (scope : Scope) (x : syntax.Term) (n : ℕ) → as_formula (term_value S c scope n x) ≡ elaborated S c scope n (expanded_term x)
value-formula S c scope x n = chosen-formula (has_quantifier x) _ _ (elaborated-plain S c scope n x)
