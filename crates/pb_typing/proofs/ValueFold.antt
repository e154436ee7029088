-- The fold over operands: data in front of a formula may stand as tests, and data alone is one chain.
use Rattle.std.proofs.Common.{◌≡◌, List, [], ◌∷◌, ◌++◌, map, refl, sym, ◌∙◌, ap}
use Rattle.pb_text_tree.specs.declared.operator.Connective.{Connective}
use Rattle.pb_text_meaning.specs.Erase.{of_connective}
use Rattle.pb_typing_tree.specs.Tree.{Term, Binary, Formula, Test, Connected}
use Rattle.pb_typing_tree.specs.View.{chained_formula}
use Rattle.pb_typing.specs.Value.{TermValue, Data, Whole, as_formula, joined, folded, tail}

-- operands in front of a value
abbrev pub onto : Connective → List TermValue → TermValue → TermValue
onto o [] v = v
onto o (x ∷ xs) v = joined o x (onto o xs v)

-- formulas in front of a formula
abbrev ahead : Connective → List Formula → Formula → Formula
ahead o [] h = h
ahead o (f ∷ fs) h = Connected o f (ahead o fs h)

pub folded-onto : (o : Connective) (xs : List TermValue) (y : TermValue) (ys : List TermValue) → folded o (xs ++ (y ∷ ys)) ≡ onto o xs (folded o (y ∷ ys))
folded-onto o [] y ys = refl
folded-onto o (x ∷ []) y ys = refl
folded-onto o (x ∷ (z ∷ zs)) y ys = ap (joined o x) (folded-onto o (z ∷ zs) y ys)

onto-append : (o : Connective) (xs ys : List TermValue) (v : TermValue) → onto o (xs ++ ys) v ≡ onto o xs (onto o ys v)
onto-append o [] ys v = refl
onto-append o (x ∷ xs) ys v = ap (joined o x) (onto-append o xs ys v)

whole : (o : Connective) (f : Formula) (ys : List TermValue) → folded o (Whole f ∷ ys) ≡ Whole (as_formula (folded o (Whole f ∷ ys)))
whole o f [] = refl
whole o f (y ∷ ys) = refl

data-ahead : (o : Connective) (xs : List Term) (h : Formula) → onto o (map Data xs) (Whole h) ≡ Whole (ahead o (map Test xs) h)
data-ahead o [] h = refl
data-ahead o (x ∷ xs) h = ap (joined o (Data x)) (data-ahead o xs h)

tests-ahead : (o : Connective) (xs : List Term) (h : Formula) → onto o (map Whole (map Test xs)) (Whole h) ≡ Whole (ahead o (map Test xs) h)
tests-ahead o [] h = refl
tests-ahead o (x ∷ xs) h = ap (joined o (Whole (Test x))) (tests-ahead o xs h)

-- data in front of a formula may stand as tests
pub as-tests : (o : Connective) (vs : List TermValue) (xs : List Term) (f : Formula) (ys : List TermValue)
    → folded o ((vs ++ map Whole (map Test xs)) ++ (Whole f ∷ ys)) ≡ folded o ((vs ++ map Data xs) ++ (Whole f ∷ ys))
as-tests o vs xs f ys =
    let h = as_formula (folded o (Whole f ∷ ys)) in
    folded-onto o (vs ++ map Whole (map Test xs)) (Whole f) ys
    ∙ onto-append o vs (map Whole (map Test xs)) (folded o (Whole f ∷ ys))
    ∙ ap (λ v. onto o vs (onto o (map Whole (map Test xs)) v)) (whole o f ys)
    ∙ ap (onto o vs) (tests-ahead o xs h)
    ∙ sym (ap (onto o vs) (data-ahead o xs h))
    ∙ sym (ap (λ v. onto o vs (onto o (map Data xs) v)) (whole o f ys))
    ∙ sym (onto-append o vs (map Data xs) (folded o (Whole f ∷ ys)))
    ∙ sym (folded-onto o (vs ++ map Data xs) (Whole f) ys)

pub data-chain : (o : Connective) (x : Term) (xs : List Term) → folded o (Data x ∷ map Data xs) ≡ Data (chained_formula (Binary (of_connective o)) x xs)
data-chain o x [] = refl
data-chain o x (y ∷ ys) = ap (joined o (Data x)) (data-chain o y ys)

pub formula-chain : (o : Connective) (f : Formula) (fs : List Formula) (xs : List Term) → folded o (Whole f ∷ (map Whole fs ++ map Data xs)) ≡ Whole (chained_formula (Connected o) f (fs ++ tail o xs))
formula-chain o f [] [] = refl
formula-chain o f [] (x ∷ xs) = ap (joined o (Whole f)) (data-chain o x xs)
formula-chain o f (g ∷ fs) xs = ap (joined o (Whole f)) (formula-chain o g fs xs)

pub lists : (fs ts : List Formula) (f : Formula) (xs : List TermValue) → (map Whole (fs ++ (ts ++ (f ∷ []))) ++ []) ++ xs ≡ (map Whole fs ++ map Whole ts) ++ (Whole f ∷ xs)
lists [] [] f xs = refl
lists [] (t ∷ ts) f xs = ap (λ vs. Whole t ∷ vs) (lists [] ts f xs)
lists (g ∷ fs) ts f xs = ap (λ vs. Whole g ∷ vs) (lists fs ts f xs)
