-- Copies are made of the tuples of values, and a quantifier that is folded joins its folded copies.
use Rattle.std.proofs.Common.{◌≡◌, ◌∙◌, refl, sym, ap, Bool, List, [], ◌∷◌, ◌++◌, map, flat_map}
use Rattle.pb_text_tree.specs.declared.operator.Quantifier.{Quantifier}
use Rattle.pb_text_tree.specs.declared.operator.Quantifier.TheVariants.{Forall, Exists}
use Rattle.pb_text_meaning.specs.Syntax.{Name, Variable, Term, Spec}
use Rattle.pb_model_meaning.specs.Syntax.{Formula}
use Rattle.pb_protocol_folding.specs.FoldedModels.{folded_formula, folded_joined_formula, folded_and_formula, folded_or_formula}
use Rattle.pb_protocol_unfolding.specs.Written.{written_tuples, written_values}
use Rattle.pb_protocol_unfolding.specs.PutIn.{TermScope, standing, copies}
use Rattle.pb_protocol_unfolding.specs.Unfolding.{terms_of, conjunction, disjunction, joined_formulas}

-- ---- copies

map-both : {A B : Type 0} (f : A → B) (xs ys : List A) → map f (xs ++ ys) ≡ map f xs ++ map f ys
map-both f [] ys = refl
map-both f (x ∷ xs) ys = ap (λ v. f x ∷ v) (map-both f xs ys)

map-twice : {A B C : Type 0} (f : B → C) (g : A → B) (xs : List A) → map f (map g xs) ≡ map (λ x. f (g x)) xs
map-twice f g [] = refl
map-twice f g (x ∷ xs) = ap (λ v. f (g x) ∷ v) (map-twice f g xs)

-- with each value in front of tuples
each-in-front : {A : Type 0} (g : List Term → A) (tuples : List (List Term)) (rest : Term → List A) (same : (k : Term) → rest k ≡ map (λ ks. g (k ∷ ks)) tuples) (vs : List Term)
    → flat_map rest vs ≡ map g (flat_map (λ k. map (λ ks. k ∷ ks) tuples) vs)
each-in-front g tuples rest same [] = refl
each-in-front g tuples rest same (k ∷ vs) =
    ap (λ v. v ++ flat_map rest vs) (same k ∙ sym (map-twice g (λ ks. k ∷ ks) tuples))
    ∙ ap (λ v. map g (map (λ ks. k ∷ ks) tuples) ++ v) (each-in-front g tuples rest same vs)
    ∙ sym (map-both g (map (λ ks. k ∷ ks) tuples) (flat_map (λ l. map (λ ks. l ∷ ks) tuples) vs))

pub copies-of-tuples : {A : Type 0} (spec : Spec) (xs : List Variable) (f : TermScope → A) (ρ : TermScope) → copies spec xs f ρ ≡ map (λ ks. f (standing xs (terms_of ks) ρ)) (written_tuples spec xs)
copies-of-tuples spec [] f ρ = refl
copies-of-tuples spec (x ∷ xs) f ρ =
    each-in-front (λ ks. f (standing (x ∷ xs) (terms_of ks) ρ)) (written_tuples spec xs) (λ k. copies spec xs f ((x.name, k) ∷ ρ))
    (λ k. copies-of-tuples spec xs f ((x.name, k) ∷ ρ)) (written_values spec x.sort)

-- ---- quantifiers that are folded

folded-conjunction : (spec : Spec) (left : Name → Bool) (fs : List Formula) → folded_formula spec left (conjunction fs) ≡ folded_joined_formula Forall (map (folded_formula spec left) fs)
folded-conjunction spec left [] = refl
folded-conjunction spec left (f ∷ fs) = ap (folded_and_formula (folded_formula spec left f)) (folded-conjunction spec left fs)

folded-disjunction : (spec : Spec) (left : Name → Bool) (fs : List Formula) → folded_formula spec left (disjunction fs) ≡ folded_joined_formula Exists (map (folded_formula spec left) fs)
folded-disjunction spec left [] = refl
folded-disjunction spec left (f ∷ fs) = ap (folded_or_formula (folded_formula spec left f)) (folded-disjunction spec left fs)

pub folded-joined : (spec : Spec) (left : Name → Bool) (q : Quantifier) (fs : List Formula)
    → folded_formula spec left (joined_formulas q fs) ≡ folded_joined_formula q (map (folded_formula spec left) fs)
folded-joined spec left Forall fs = folded-conjunction spec left fs
folded-joined spec left Exists fs = folded-disjunction spec left fs
