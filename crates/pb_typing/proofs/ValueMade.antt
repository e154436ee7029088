-- What the code builds.
use Rattle.std.proofs.Common.{◌≡◌, ℕ, List, [], ◌∷◌, ◌++◌, map, length, sym, ◌∙◌, ap, subst, Result, Ok, Vec, Box, Global}
use Rattle.std.specs.Prelude.{box_value, slice_index_or, IfOk}
use Rattle.std.specs.declared.alloc.AllocError.{AllocError}
use Rattle.std.proofs.lemmas.List.{append-nil, append_assoc, map-append}
use Rattle.pb_text_tree.specs.declared.operator.Connective.{Connective}
use Rattle.pb_text_meaning.specs.Erase.{of_connective}
use Rattle.pb_typing_tree.specs.Tree as tree
use Rattle.pb_typing_tree.specs.Tree.{Binary, Test, Connected}
use Rattle.pb_typing_tree.specs.View.{chained_formula, term_view, term_views, formula_view, formula_views}
use Rattle.pb_typing_tree.specs.declared.term.Term as term
use Rattle.pb_typing_tree.specs.declared.formula.Formula as formula
use Rattle.pb_typing_tree.proofs.Views.{term-chain, formula-chain as formula-chain-view}
use Rattle.pb_typing.specs.declared.joined.Joined.{Joined}
use Rattle.pb_typing.specs.declared.joined.Joined.TheVariants as state
use Rattle.pb_typing.specs.Value.{TermValue, Data, Whole, folded, tail}
use Rattle.pb_typing.specs.ValueView.{pieces, value_view}
use Rattle.pb_typing.specs.declared.joined.Value as declared_value
use Rattle.std.proofs.Common.{false, true≢false, arith}
use Rattle.std.specs.Prelude.{◌==◌}
use Rattle.std.specs.List.{remove}
use Rattle.pb_typing.proofs.ValueFold.{data-chain, formula-chain, as-tests, lists}

pub chain-made : (o : Connective) (x : term.Term) (b : Box term.Term Global) (v : Vec term.Term Global) → box_value b ≡ x
    → term_view (term.Chain o b v) ≡ chained_formula (Binary (of_connective o)) (term_view x) (term_views v.items)
chain-made o x b v is = term-chain o b v ∙ ap (λ (y : term.Term). chained_formula (Binary (of_connective o)) (term_view y) (term_views v.items)) is

pub terms-made : (o : Connective) (s : Joined) (x : term.Term) (b : Box term.Term Global) (v : Vec term.Term Global) → s ≡ state.Terms x v → box_value b ≡ x
    → Data (term_view (term.Chain o b v)) ≡ folded o (pieces s)
terms-made o s x b v is boxed =
    ap Data (chain-made o x b v boxed) ∙ (sym (data-chain o (term_view x) (term_views v.items)) ∙ sym (ap (λ (t : Joined). folded o (pieces t)) is))

pub formulas-made : (o : Connective) (s : Joined) (f : formula.Formula) (fs all : Vec formula.Formula Global) (v : Vec term.Term Global) (b : Box formula.Formula Global)
    → s ≡ state.Formulas f fs v → box_value b ≡ f → formula_views all.items ≡ formula_views fs.items ++ tail o (term_views v.items)
    → Whole (formula_view (formula.Chain o b all)) ≡ folded o (pieces s)
formulas-made o s f fs all v b is boxed made =
    ap Whole (formula-chain-view o b all
    ∙ (ap (λ (g : formula.Formula). chained_formula (Connected o) (formula_view g) (formula_views all.items)) boxed
    ∙ ap (chained_formula (Connected o) (formula_view f)) made))
    ∙ (sym (formula-chain o (formula_view f) (formula_views fs.items) (term_views v.items)) ∙ sym (ap (λ (t : Joined). folded o (pieces t)) is))

pub tail-made : (o : Connective) (fs all : List formula.Formula) (xs : List term.Term) (x : term.Term) (b : Box term.Term Global) (v : Vec term.Term Global)
    → box_value b ≡ x → xs ≡ x ∷ v.items → all ≡ fs ++ (formula.Test (term.Chain o b v) ∷ []) → formula_views all ≡ formula_views fs ++ tail o (term_views xs)
tail-made o fs all xs x b v boxed are made =
    ap formula_views made ∙ (map-append formula_view fs (formula.Test (term.Chain o b v) ∷ [])
    ∙ (ap (λ t. formula_views fs ++ (Test t ∷ [])) (chain-made o x b v boxed) ∙ sym (ap (λ (ys : List term.Term). formula_views fs ++ tail o (term_views ys)) are)))

pub head-removed : {A : Type 0} (n : ℕ) (xs ys : List A) (x : A) → ((n == 0) ≡ false) → length xs ≡ n → x ≡ slice_index_or xs 0 x → ys ≡ remove xs 0 → xs ≡ x ∷ ys
head-removed n [] ys x h len e r = absurd (true≢false (ap (λ m. m == 0) len ∙ h))
head-removed n (z ∷ zs) ys x h len e r = ap (λ y. y ∷ zs) (sym e) ∙ ap (λ y. x ∷ y) (sym r)

abbrev built : List formula.Formula → List term.Term → List TermValue
built all none = map Whole (formula_views all) ++ map Data (term_views none)

-- formulas to which tests and a formula were added
pub tests_made : (old : List tree.Formula) (terms : List term.Term) (f : formula.Formula) {r : Result (Vec formula.Formula Global) AllocError} {all : Vec formula.Formula Global} → r ≡ Ok all
    → IfOk r (λ (gs : Vec formula.Formula Global). formula_views gs.items ≡ old ++ (map Test (term_views terms) ++ formula_views (f ∷ [])))
    → formula_views all.items ≡ old ++ (map Test (term_views terms) ++ (formula_view f ∷ []))
tests_made old terms f is h =
    subst (λ (s : Result (Vec formula.Formula Global) AllocError).
    IfOk s (λ (gs : Vec formula.Formula Global). formula_views gs.items ≡ old ++ (map Test (term_views terms) ++ formula_views (f ∷ [])))) is h

pub added-terms : (s : Joined) (v : declared_value.Value) (x : term.Term) (l : Vec term.Term Global) (f : formula.Formula) (old all : List formula.Formula) (none : List term.Term)
    → s ≡ state.Terms x l → v ≡ declared_value.TheVariants.Formula f → old ≡ [] → formula_views all ≡ formula_views old ++ (map Test (term_views l.items) ++ (formula_view f ∷ [])) → none ≡ []
    → (o : Connective) (xs : List TermValue) → folded o (Whole (Test (term_view x)) ∷ (built all none ++ xs)) ≡ folded o (pieces s ++ (value_view v ∷ xs))
added-terms s v x l f old all none is-s is-v is-old made is-none o xs =
    ap (λ ts. folded o (Whole (Test (term_view x)) ∷ ((map Whole (formula_views all) ++ map Data (term_views ts)) ++ xs))) is-none
    ∙ (ap (λ fs. folded o (Whole (Test (term_view x)) ∷ ((map Whole fs ++ []) ++ xs)))
    (made ∙ ap (λ (fs : List formula.Formula). formula_views fs ++ (map Test (term_views l.items) ++ (formula_view f ∷ []))) is-old)
    ∙ (ap (λ vs. folded o (Whole (Test (term_view x)) ∷ vs)) (lists [] (map Test (term_views l.items)) (formula_view f) xs)
    ∙ (as-tests o [] (term_view x ∷ term_views l.items) (formula_view f) xs
    ∙ (sym (ap (λ (t : Joined). folded o (pieces t ++ (Whole (formula_view f) ∷ xs))) is-s)
    ∙ sym (ap (λ (w : declared_value.Value). folded o (pieces s ++ (value_view w ∷ xs))) is-v)))))

pub added-formulas : (s : Joined) (v : declared_value.Value) (x : formula.Formula) (fs : Vec formula.Formula Global)
    (l : Vec term.Term Global) (f : formula.Formula) (all : List formula.Formula) (none : List term.Term)
    → s ≡ state.Formulas x fs l → v ≡ declared_value.TheVariants.Formula f → formula_views all ≡ formula_views fs.items ++ (map Test (term_views l.items) ++ (formula_view f ∷ [])) → none ≡ []
    → (o : Connective) (xs : List TermValue) → folded o (Whole (formula_view x) ∷ (built all none ++ xs)) ≡ folded o (pieces s ++ (value_view v ∷ xs))
added-formulas s v x fs l f all none is-s is-v made is-none o xs =
    ap (λ ts. folded o (Whole (formula_view x) ∷ ((map Whole (formula_views all) ++ map Data (term_views ts)) ++ xs))) is-none
    ∙ (ap (λ gs. folded o (Whole (formula_view x) ∷ ((map Whole gs ++ []) ++ xs))) made
    ∙ (ap (λ vs. folded o (Whole (formula_view x) ∷ vs)) (lists (formula_views fs.items) (map Test (term_views l.items)) (formula_view f) xs)
    ∙ (as-tests o (Whole (formula_view x) ∷ map Whole (formula_views fs.items)) (term_views l.items) (formula_view f) xs
    ∙ (sym (ap (λ (t : Joined). folded o (pieces t ++ (Whole (formula_view f) ∷ xs))) is-s)
    ∙ sym (ap (λ (w : declared_value.Value). folded o (pieces s ++ (value_view w ∷ xs))) is-v)))))

pub tests-ended : (fs before : List tree.Formula) (rest terms : List term.Term) → length rest ≡ 0
    → fs ++ map Test (term_views rest) ≡ before ++ map Test (term_views terms) → fs ≡ before ++ map Test (term_views terms)
tests-ended fs before [] terms none h = sym (append-nil fs) ∙ h
tests-ended fs before (x ∷ rest) terms none h = absurd (omega arith)

pub with-last : (before ts : List tree.Formula) (fs all : List formula.Formula) (f g : formula.Formula) → f ≡ g → formula_views fs ≡ before ++ ts → all ≡ fs ++ (f ∷ [])
    → formula_views all ≡ before ++ (ts ++ (formula_view g ∷ []))
with-last before ts fs all f g same tests made =
    ap formula_views made ∙ (map-append formula_view fs (f ∷ [])
    ∙ (ap (λ gs. gs ++ (formula_view f ∷ [])) tests
    ∙ (append_assoc before ts (formula_view f ∷ [])
    ∙ ap (λ (x : formula.Formula). before ++ (ts ++ (formula_view x ∷ []))) same)))
