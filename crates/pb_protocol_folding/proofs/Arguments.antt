-- A function of three arguments, and one of others than one, two or three.
use Rattle.std.proofs.Common.{◌≡◌, ◌≢◌, Bool, true, false, List, [], ◌∷◌, length, get_or, refl, sym, ap, ◌∙◌, arith, Vec, Global, string_bytes}
use Rattle.std.specs.Prelude.{Option, Some, None, HoldsAt}
use Rattle.pb_text_tree.specs.declared.name.Name as declared_name
use Rattle.pb_text_tree.specs.declared.term.Term as term
use Rattle.pb_text_tree.specs.declared.term.Argument.{Argument}
use Rattle.pb_text_tree.proofs.FormLemmas.{term-application}
use Rattle.pb_text_meaning.specs.Syntax.{Name, Term, Spec}
use Rattle.pb_text_meaning.specs.Erase.{erased_term}
use Rattle.pb_text_meaning.specs.Functions.{named_function}
use Rattle.pb_protocol_folding.specs.Applied.{chosen_term}
use Rattle.pb_protocol_folding.specs.Folding.{truth_value, function_of_three, folded_application}
use Rattle.pb_protocol_folding.specs.View.{term_of, terms_of}

-- an application says its function and its arguments
pub application-of : (f : declared_name.Name) (v : Vec Argument Global) → term_of (term.Application f v) ≡ Term.Apply (string_bytes f.text) (terms_of v.items)
application-of f v = ap erased_term (term-application f v)

abbrev Chooses : Name → Argument → Option Bool → Type 0
Chooses f first o = (y z whole : Term) → chosen_term o y z whole ≡ function_of_three (named_function f) (truth_value (term_of first.term)) y z whole

pub second-chosen : (spec : Spec) (f : Name) (xs : List Argument) (first : Argument) (o : Option Bool) → length xs ≡ 3 → first ≡ get_or xs 0 first → Chooses f first o → o ≡ Some true →
    (t : term.Term) → HoldsAt (λ (a : Argument). term_of t ≡ term_of a.term) xs 1 → term_of t ≡ folded_application spec f (terms_of xs)
second-chosen spec f (x ∷ y ∷ z ∷ []) first o long at chooses is t h =
    h first ∙ (ap (λ p. chosen_term p (term_of y.term) (term_of z.term) (Term.Apply f (terms_of (x ∷ y ∷ z ∷ [])))) (sym is)
    ∙ (chooses (term_of y.term) (term_of z.term) (Term.Apply f (terms_of (x ∷ y ∷ z ∷ [])))
    ∙ ap (λ (a : Argument). function_of_three (named_function f) (truth_value (term_of a.term)) (term_of y.term) (term_of z.term) (Term.Apply f (terms_of (x ∷ y ∷ z ∷ [])))) at))
second-chosen spec f xs first o long at chooses is t h = absurd (omega arith)

pub third-chosen : (spec : Spec) (f : Name) (xs : List Argument) (first : Argument) (o : Option Bool) → length xs ≡ 3 → first ≡ get_or xs 0 first → Chooses f first o → o ≡ Some false →
    (t : term.Term) → HoldsAt (λ (a : Argument). term_of t ≡ term_of a.term) xs 2 → term_of t ≡ folded_application spec f (terms_of xs)
third-chosen spec f (x ∷ y ∷ z ∷ []) first o long at chooses is t h =
    h first ∙ (ap (λ p. chosen_term p (term_of y.term) (term_of z.term) (Term.Apply f (terms_of (x ∷ y ∷ z ∷ [])))) (sym is)
    ∙ (chooses (term_of y.term) (term_of z.term) (Term.Apply f (terms_of (x ∷ y ∷ z ∷ [])))
    ∙ ap (λ (a : Argument). function_of_three (named_function f) (truth_value (term_of a.term)) (term_of y.term) (term_of z.term) (Term.Apply f (terms_of (x ∷ y ∷ z ∷ [])))) at))
third-chosen spec f xs first o long at chooses is t h = absurd (omega arith)

pub none-chosen : (spec : Spec) (f : Name) (xs : List Argument) (first : Argument) (o : Option Bool) → length xs ≡ 3 → first ≡ get_or xs 0 first → Chooses f first o → o ≡ None →
    Term.Apply f (terms_of xs) ≡ folded_application spec f (terms_of xs)
none-chosen spec f (x ∷ y ∷ z ∷ []) first o long at chooses is =
    ap (λ p. chosen_term p (term_of y.term) (term_of z.term) (Term.Apply f (terms_of (x ∷ y ∷ z ∷ [])))) (sym is)
    ∙ (chooses (term_of y.term) (term_of z.term) (Term.Apply f (terms_of (x ∷ y ∷ z ∷ [])))
    ∙ ap (λ (a : Argument). function_of_three (named_function f) (truth_value (term_of a.term)) (term_of y.term) (term_of z.term) (Term.Apply f (terms_of (x ∷ y ∷ z ∷ [])))) at)
none-chosen spec f xs first o long at chooses is = absurd (omega arith)

pub others-whole : (spec : Spec) (f : Name) (xs : List Argument) → length xs ≢ 1 → length xs ≢ 2 → length xs ≢ 3 → Term.Apply f (terms_of xs) ≡ folded_application spec f (terms_of xs)
others-whole spec f [] n m k = refl
others-whole spec f (x ∷ []) n m k = absurd (n refl)
others-whole spec f (x ∷ y ∷ []) n m k = absurd (m refl)
others-whole spec f (x ∷ y ∷ z ∷ []) n m k = absurd (k refl)
others-whole spec f (x ∷ y ∷ z ∷ w ∷ xs) n m k = refl
