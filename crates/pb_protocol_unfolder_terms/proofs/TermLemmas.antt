-- What arithmetic and quantifiers say, and quantifiers by the tuples of values.
use Rattle.std.proofs.Common.{◌≡◌, ℕ, zero, suc, ◌+◌, ◌<◌, ◌≤◌, ◌++◌, List, [], ◌∷◌, map, flat_map, Vec, Global, Box, refl, sym, ◌∙◌, ap, take, length, get_or, arith, add-one}
use Rattle.std.specs.Prelude.{box_value}
use Rattle.pb_text_tree.specs.declared.operator.Quantifier.{Quantifier}
use Rattle.pb_text_tree.specs.declared.place.Place.{Place}
use Rattle.pb_text_tree.specs.declared.term.Term as declared_term
use Rattle.pb_text_tree.specs.declared.term.ArithmeticLink.{ArithmeticLink}
use Rattle.pb_text_tree.specs.declared.variable.Variables.{Variables}
use Rattle.pb_text_tree.specs.Form.{TermForm, calculated, arithmetic_links, term_form, variable_forms}
use Rattle.pb_text_tree.proofs.FormLemmas.{term-arithmetic}
use Rattle.pb_text_meaning.specs.Syntax.{Operator, Term, Variable, Spec}
use Rattle.pb_text_meaning.specs.Erase.{erased_term, erased_variables, of_arithmetic}
use Rattle.pb_protocol_folding.specs.View as tree
use Rattle.pb_protocol_unfolding.specs.Written.{written_tuples, written_values}
use Rattle.pb_protocol_folding.specs.Folding.{folded_operation}
use Rattle.pb_protocol_unfolding.specs.PutIn.{Forms, TermScope, standing, copies, put_in}
use Rattle.pb_protocol_unfolding.specs.Unfolding.{terms_of}
use Rattle.pb_protocol_unfolder_terms.specs.Puts.{calculated_term}
use Rattle.pb_protocol_unfolder_terms.specs.Unfolding.{operator_count}
use Rattle.pb_protocol_unfolder_terms.proofs.ArgumentLemmas.{taken-all, taken-more}

erased-calculated : (x : TermForm) (ls : List ArithmeticLink) → erased_term (calculated x (arithmetic_links ls)) ≡ calculated_term (erased_term x) ls
erased-calculated x [] = refl
erased-calculated x (l ∷ ls) = erased-calculated (TermForm.computed l.operator l.place x (term_form l.operand)) ls

-- what arithmetic says
pub arithmetic-said : (first : Box declared_term.Term Global) (v : Vec ArithmeticLink Global)
    → tree.term_of (declared_term.Arithmetic first v) ≡ calculated_term (tree.term_of (box_value first)) v.items
arithmetic-said first v = ap erased_term (term-arithmetic first v) ∙ erased-calculated (term_form (box_value first)) v.items

-- arithmetic by the parts that the code has of it: its form, and what it says
pub arithmetic-is : {t f : declared_term.Term} {first : Box declared_term.Term Global} (links : Vec ArithmeticLink Global) {ls : List ArithmeticLink}
    → t ≡ declared_term.Arithmetic first links → f ≡ box_value first → ls ≡ links.items → term_form t ≡ calculated (term_form f) (arithmetic_links ls)
arithmetic-is {f = f} {first = first} links is same rows =
    ap term_form is ∙ term-arithmetic first links ∙ ap (λ y. calculated (term_form y) (arithmetic_links links.items)) (sym same)
    ∙ ap (λ ms. calculated (term_form f) (arithmetic_links ms)) (sym rows)

pub arithmetic-means : {t f : declared_term.Term} {first : Box declared_term.Term Global} (links : Vec ArithmeticLink Global) {ls : List ArithmeticLink}
    → t ≡ declared_term.Arithmetic first links → f ≡ box_value first → ls ≡ links.items → calculated_term (tree.term_of f) ls ≡ tree.term_of t
arithmetic-means {f = f} links {ls = ls} is same rows = sym (ap erased_term (arithmetic-is links is same rows) ∙ erased-calculated (term_form f) ls)

-- one more operand
pub calculated-last : (x : Term) (ls : List ArithmeticLink) (l : ArithmeticLink)
    → calculated_term x (ls ++ (l ∷ [])) ≡ Term.Binary (of_arithmetic l.operator) (calculated_term x ls) (tree.term_of l.operand)
calculated-last x [] l = refl
calculated-last x (k ∷ ls) l = calculated-last (Term.Binary (of_arithmetic k.operator) x (tree.term_of k.operand)) ls l

-- the next operand, and the end
pub calculated-next : (x : Term) (ls : List ArithmeticLink) (k : ℕ) (l : ArithmeticLink) → k < length ls → l ≡ get_or ls k l
    → Term.Binary (of_arithmetic l.operator) (calculated_term x (take k ls)) (tree.term_of l.operand) ≡ calculated_term x (take (k + 1) ls)
calculated-next x ls k l within is =
    sym (calculated-last x (take k ls) l) ∙ ap (calculated_term x) (sym (taken-more ls k l within is)) ∙ ap (λ (m : ℕ). calculated_term x (take m ls)) (sym (add-one k))

pub calculated-end : (x : Term) (ls : List ArithmeticLink) (k : ℕ) → (k < length ls → ⊥) → calculated_term x (take k ls) ≡ calculated_term x ls
calculated-end x ls k end = ap (calculated_term x) (taken-all ls k end)

-- of a chain each part has fewer operators
module _ (S : Spec) (forms : Forms) (ρ : TermScope) where
  pub calculated-within : (x : Term) (ls : List ArithmeticLink) → operator_count (put_in S forms ρ x) ≤ operator_count (put_in S forms ρ (calculated_term x ls))
  calculated-within x [] = omega arith
  calculated-within x (l ∷ ls) =
      let rest = calculated-within (Term.Binary (of_arithmetic l.operator) x (tree.term_of l.operand)) ls in omega (arith, rest)

  pub taken-within : (x : Term) (ls : List ArithmeticLink) (k : ℕ) → operator_count (put_in S forms ρ (calculated_term x (take k ls))) ≤ operator_count (put_in S forms ρ (calculated_term x ls))
  taken-within x [] zero = omega arith
  taken-within x [] (suc k) = omega arith
  taken-within x (l ∷ ls) zero = calculated-within x (l ∷ ls)
  taken-within x (l ∷ ls) (suc k) = taken-within (Term.Binary (of_arithmetic l.operator) x (tree.term_of l.operand)) ls k

  -- with the next operand
  pub next-within : (x : Term) (ls : List ArithmeticLink) (k : ℕ) (l : ArithmeticLink) → k < length ls → l ≡ get_or ls k l
      → suc (operator_count (put_in S forms ρ (calculated_term x (take k ls))) + operator_count (put_in S forms ρ (tree.term_of l.operand))) ≤ operator_count (put_in S forms ρ (calculated_term x ls))
  next-within x ls k l within is =
      let next = ap (λ y. operator_count (put_in S forms ρ y)) (calculated-next x ls k l within is) in
      omega (arith, next, taken-within x ls (k + 1))

-- a chain isn't written as a value
chain-operated : (S : Spec) (o q : Operator) (a b : Term) (ls : List ArithmeticLink) (y : Term)
    → folded_operation S o (calculated_term (Term.Binary q a b) ls) y ≡ Term.Binary o (calculated_term (Term.Binary q a b) ls) y
chain-operated S o q a b [] y = refl
chain-operated S o q a b (l ∷ ls) y = chain-operated S o (of_arithmetic l.operator) (Term.Binary q a b) (tree.term_of l.operand) ls y

pub operated-chain : (S : Spec) (o : Operator) (x : Term) (ls : List ArithmeticLink) (y : Term) → (length ls ≡ 0 → ⊥)
    → folded_operation S o (calculated_term x ls) y ≡ Term.Binary o (calculated_term x ls) y
operated-chain S o x [] y some = absurd (some refl)
operated-chain S o x (l ∷ ls) y some = chain-operated S o (of_arithmetic l.operator) x (tree.term_of l.operand) ls y

-- what a quantifier says
pub quantified-means : {t body : declared_term.Term} {place : Place} {q : Quantifier} {variables : Vec Variables Global} {inner : Box declared_term.Term Global} {vs : List Variables}
    → t ≡ declared_term.Quantified place q variables inner → vs ≡ variables.items → body ≡ box_value inner
    → Term.Quantified q (erased_variables (variable_forms vs)) (tree.term_of body) ≡ tree.term_of t
quantified-means {body = body} {q = q} {variables = variables} is rows same =
    ap (λ zs. Term.Quantified q (erased_variables (variable_forms zs)) (tree.term_of body)) rows
    ∙ ap (λ y. Term.Quantified q (erased_variables (variable_forms variables.items)) (tree.term_of y)) same ∙ ap tree.term_of (sym is)

-- ---- copies

map-both : {A B : Type 0} (f : A → B) (xs ys : List A) → map f (xs ++ ys) ≡ map f xs ++ map f ys
map-both f [] ys = refl
map-both f (x ∷ xs) ys = ap (λ v. f x ∷ v) (map-both f xs ys)

map-twice : {A B C : Type 0} (f : B → C) (g : A → B) (xs : List A) → map f (map g xs) ≡ map (λ x. f (g x)) xs
map-twice f g [] = refl
map-twice f g (x ∷ xs) = ap (λ v. f (g x) ∷ v) (map-twice f g xs)

-- with each value in front of tuples
each-in-front : {A : Type 0} (g : List Term → A) (tuples : List (List Term)) (rest : Term → List A) (same : (k : Term) → rest k ≡ map (λ ks. g (k ∷ ks)) tuples) (vs : List Term)
    → flat_map rest vs ≡ map g (flat_map (λ k. map (λ ks. k ∷ ks) tuples) vs)
each-in-front g tuples rest same [] = refl
each-in-front g tuples rest same (k ∷ vs) =
    ap (λ v. v ++ flat_map rest vs) (same k ∙ sym (map-twice g (λ ks. k ∷ ks) tuples))
    ∙ ap (λ v. map g (map (λ ks. k ∷ ks) tuples) ++ v) (each-in-front g tuples rest same vs)
    ∙ sym (map-both g (map (λ ks. k ∷ ks) tuples) (flat_map (λ l. map (λ ks. l ∷ ks) tuples) vs))

-- copies are made of the tuples of values
pub copies-of-tuples : {A : Type 0} (spec : Spec) (xs : List Variable) (f : TermScope → A) (ρ : TermScope) → copies spec xs f ρ ≡ map (λ ks. f (standing xs (terms_of ks) ρ)) (written_tuples spec xs)
copies-of-tuples spec [] f ρ = refl
copies-of-tuples spec (x ∷ xs) f ρ =
    each-in-front (λ ks. f (standing (x ∷ xs) (terms_of ks) ρ)) (written_tuples spec xs) (λ k. copies spec xs f ((x.name, k) ∷ ρ))
    (λ k. copies-of-tuples spec xs f ((x.name, k) ∷ ρ)) (written_values spec x.sort)
