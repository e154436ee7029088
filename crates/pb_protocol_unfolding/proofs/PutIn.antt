-- What is put in has the value of what it is put in for.
use Rattle.std.proofs.Common.{arith, ◌≡◌, ◌+◌, Bool, true, false, not, ◌&&◌, ◌||◌, if◌then◌else◌, List, [], ◌∷◌, ◌++◌, map, flat_map, refl, sym, ap, ◌∙◌}
use Rattle.std.specs.Prelude.{ℕ, suc, pos, ◌+ℤ◌, Option, Some, None, unwrap_or, neg_ℤ}
use Rattle.std.proofs.Math.IntN.{+ℤ_assoc, +ℤ_idl, +ℤ_idr}
use Rattle.std.proofs.lemmas.List.{map-append}
use Rattle.pb_text_meaning.specs.Functions.{named_function}
use Rattle.pb_text_counting.specs.Counting.{is_counting}
use Rattle.std.specs.List.{list_any, list_all}
use Rattle.pb_base_values.specs.Carrier.{Value, Carrier, of_bool}
use Rattle.pb_text_tree.specs.declared.operator.Quantifier.{Quantifier}
use Rattle.pb_text_tree.specs.declared.operator.Quantifier.TheVariants.{Forall, Exists}
use Rattle.pb_text_meaning.specs.Syntax.{Name, same_name, Variable, Operator, Term, Terms, Spec}
use Rattle.pb_text_meaning.specs.Sorts.{carrier_of, place_in}
use Rattle.pb_text_meaning.specs.Value.{Assignment, looked_up, of_values, quantified, is_true, binary, named_value, value, values}
use Rattle.pb_text_meaning.proofs.Truths.{is_true-of_bool}
use Rattle.pb_model_translation.proofs.Lists.{of_list, of_list-flat_map, of_list-map, of_list-same}
use Rattle.pb_protocol_unfolding.specs.Written.{written_values}
use Rattle.pb_protocol_unfolding.specs.PutIn.{TermScope, term_of, Forms, joined, copies, choice, one_if, added, counted, count_put_in, count_of_put_in, enumerator_term, named_term, given_arguments, applied_term, put_in, all_put_in}
use Rattle.pb_protocol_meaning.specs.Meaning.{Functions, named_meaning, applied_meaning, meaning, meanings, count, count_of, for_each, true_count}
use Rattle.pb_protocol_meaning.specs.Meaning as function
use Rattle.pb_protocol_unfolding.specs.Unfolding.{valued}
use Rattle.pb_protocol_folding.specs.Names.{HidesNoEnumerator}
use Rattle.pb_protocol_unfolding.specs.TermLaws.{KeepsWrittenValues, HasValue, FormsMean, Means, TermsPutInHaveTheValue}

-- a written-out quantifier
pub joined-value : (spec : Spec) (a : Assignment) (q : Quantifier) (ts : List Term) →
    value spec a (joined q ts) ≡ of_bool (of_list q (λ t. is_true (value spec a t)) ts)
joined-value spec a Forall [] = refl
joined-value spec a Exists [] = refl
joined-value spec a Forall (t ∷ ts) =
    ap (λ v. of_bool (is_true (value spec a t) && is_true v)) (joined-value spec a Forall ts) ∙
    ap (λ b. of_bool (is_true (value spec a t) && b)) (is_true-of_bool (list_all (λ t. is_true (value spec a t)) ts))
joined-value spec a Exists (t ∷ ts) =
    ap (λ v. of_bool (is_true (value spec a t) || is_true v)) (joined-value spec a Exists ts) ∙
    ap (λ b. of_bool (is_true (value spec a t) || b)) (is_true-of_bool (list_any (λ t. is_true (value spec a t)) ts))

pub of_values-list : (q : Quantifier) (p : Value → Bool) (c : Carrier) → of_list q p c ≡ of_values q p c
of_values-list Forall p c = refl
of_values-list Exists p c = refl

-- what holds of all or some copies holds of all or some values of the variables
pub copies-quantified : {A : Type 0} (spec : Spec) (a : Assignment) → KeepsWrittenValues spec a →
    (q : Quantifier) (xs : List Variable) (f : TermScope → A) (p : A → Bool) (P : Assignment → Bool) →
    ((σ : TermScope) → p (f σ) ≡ P (valued spec a σ)) → (ρ : TermScope) →
    of_list q p (copies spec xs f ρ) ≡ quantified spec q xs P (valued spec a ρ)
copies-quantified spec a keeps q [] f p P h ρ = one q ∙ h ρ
  where
    one : (q : Quantifier) → of_list q p (f ρ ∷ []) ≡ p (f ρ)
    one Forall = by (p (f ρ))
      where
        by : (b : Bool) → (b && true) ≡ b
        by true = refl
        by false = refl
    one Exists = by (p (f ρ))
      where
        by : (b : Bool) → (b || false) ≡ b
        by true = refl
        by false = refl
copies-quantified spec a keeps q (x ∷ xs) f p P h ρ =
    let inner : Value → Bool = λ v. quantified spec q xs P ((x.name, v) ∷ valued spec a ρ) in
    let ks = written_values spec x.sort in
    of_list-flat_map q p (λ k. copies spec xs f ((x.name, k) ∷ ρ)) ks ∙
    (of_list-same q (λ k. of_list q p (copies spec xs f ((x.name, k) ∷ ρ))) (λ k. inner (value spec a k)) ks
    (λ k. copies-quantified spec a keeps q xs f p P h ((x.name, k) ∷ ρ)) ∙
    (sym (of_list-map q inner (value spec a) ks) ∙
    (ap (of_list q inner) (keeps x.sort) ∙ of_values-list q inner (carrier_of spec x.sort))))

-- ---- all values of variables

flat_map-of : {A B C : Type 0} (g : B → C) (f : A → List B) (xs : List A) → map g (flat_map f xs) ≡ flat_map (λ x. map g (f x)) xs
flat_map-of g f [] = refl
flat_map-of g f (x ∷ xs) = map-append g (f x) (flat_map f xs) ∙ ap (λ l. map g (f x) ++ l) (flat_map-of g f xs)

flat_map-same : {A B : Type 0} (f g : A → List B) (xs : List A) → ((x : A) → f x ≡ g x) → flat_map f xs ≡ flat_map g xs
flat_map-same f g [] h = refl
flat_map-same f g (x ∷ xs) h = ap (λ l. l ++ flat_map f xs) (h x) ∙ ap (λ l. g x ++ l) (flat_map-same f g xs h)

flat_map-map : {A B C : Type 0} (f : B → List C) (g : A → B) (xs : List A) → flat_map (λ x. f (g x)) xs ≡ flat_map f (map g xs)
flat_map-map f g [] = refl
flat_map-map f g (x ∷ xs) = ap (λ l. f (g x) ++ l) (flat_map-map f g xs)

-- what g makes of each copy is what h makes of all values of the variables
pub copies-for_each : {A B : Type 0} (spec : Spec) (a : Assignment) → KeepsWrittenValues spec a →
    (xs : List Variable) (f : TermScope → A) (g : A → B) (h : Assignment → B) → ((σ : TermScope) → g (f σ) ≡ h (valued spec a σ)) → (ρ : TermScope) →
    map g (copies spec xs f ρ) ≡ for_each spec xs h (valued spec a ρ)
copies-for_each spec a keeps [] f g h same ρ = ap (λ v. v ∷ []) (same ρ)
copies-for_each {B = B} spec a keeps (x ∷ xs) f g h same ρ =
    let inner : Value → List B = λ v. for_each spec xs h ((x.name, v) ∷ valued spec a ρ) in
    let ks = written_values spec x.sort in
    flat_map-of g (λ k. copies spec xs f ((x.name, k) ∷ ρ)) ks ∙
    (flat_map-same (λ k. map g (copies spec xs f ((x.name, k) ∷ ρ))) (λ k. inner (value spec a k)) ks
    (λ k. copies-for_each spec a keeps xs f g h same ((x.name, k) ∷ ρ)) ∙
    (flat_map-map inner (value spec a) ks ∙ ap (flat_map inner) (keeps x.sort)))

-- ---- counting

pub choice-value : (spec : Spec) (a : Assignment) (b x y : Term) →
    value spec a (choice b x y) ≡ (if is_true (value spec a b) then value spec a x else value spec a y)
unfolding named_function
choice-value spec a b x y = refl

one-more : (n : ℕ) → pos 1 +ℤ pos n ≡ pos (suc n)
one-more n = ap pos (by n)
  where
    by : (n : ℕ) → 1 + n ≡ suc n
    by n = omega arith

module _ (spec : Spec) (a : Assignment) where
  abbrev holds : Term → Bool
  holds t = is_true (value spec a t)

  added-value : (x : Term) (ts : List Term) → value spec a (added x ts) ≡ value spec a x +ℤ pos (true_count (map holds ts))
  added-value x [] = sym (+ℤ_idr (value spec a x))
  added-value x (t ∷ ts) =
      added-value (Term.Binary Operator.Plus x (one_if t)) ts ∙
      (ap (λ v. (value spec a x +ℤ v) +ℤ pos (true_count (map holds ts))) (choice-value spec a t (Term.Number 1) (Term.Number 0)) ∙ by (holds t))
    where
      by : (b : Bool) → (value spec a x +ℤ (if b then pos 1 else pos 0)) +ℤ pos (true_count (map holds ts)) ≡ value spec a x +ℤ pos (true_count (b ∷ map holds ts))
      by true = +ℤ_assoc (value spec a x) (pos 1) (pos (true_count (map holds ts))) ∙ ap (λ v. value spec a x +ℤ v) (one-more (true_count (map holds ts)))
      by false = +ℤ_assoc (value spec a x) (pos 0) (pos (true_count (map holds ts))) ∙ ap (λ v. value spec a x +ℤ v) (+ℤ_idl (pos (true_count (map holds ts))))

  pub counted-value : (ts : List Term) → value spec a (counted ts) ≡ pos (true_count (map holds ts))
  counted-value [] = refl
  counted-value (t ∷ ts) =
      added-value (one_if t) ts ∙ (ap (λ v. v +ℤ pos (true_count (map holds ts))) (choice-value spec a t (Term.Number 1) (Term.Number 0)) ∙ by (holds t))
    where
      by : (b : Bool) → (if b then pos 1 else pos 0) +ℤ pos (true_count (map holds ts)) ≡ pos (true_count (b ∷ map holds ts))
      by true = one-more (true_count (map holds ts))
      by false = +ℤ_idl (pos (true_count (map holds ts)))

-- a name
enumerator-value : (spec : Spec) (a : Assignment) → HidesNoEnumerator spec a → (x : Name) (o : Option ℕ) → place_in (λ e. same_name e.name x) spec.sorts ≡ o →
    value spec a (enumerator_term o x) ≡ named_value spec None x
enumerator-value spec a hides x (Some n) e = ap (λ v. named_value spec v x) (hides x n e)
enumerator-value spec a hides x None e = ap (λ p. pos (unwrap_or p 0)) (sym e)

name-value : (spec : Spec) (a : Assignment) (forms : Forms) (functions : Functions) → HidesNoEnumerator spec a → FormsMean spec a forms functions → (x : Name) (ρ : TermScope) →
    value spec a (named_term spec (term_of ρ x) (forms x Terms.NoTerms) x) ≡ named_meaning spec (looked_up (valued spec a ρ) x) (functions x []) x
name-value spec a forms functions hides means x [] = by (forms x Terms.NoTerms) (functions x []) (means x Terms.NoTerms)
  where
    by : (t : Option Term) (v : Option Value) → HasValue spec a t v →
        value spec a (named_term spec None t x) ≡ named_meaning spec None v x
    by None None m = enumerator-value spec a hides x (place_in (λ e. same_name e.name x) spec.sorts) refl
    by (Some t) (Some v) m = m
    by None (Some v) m = absurd m
    by (Some t) None m = absurd m
name-value spec a forms functions hides means x ((y, t) ∷ ρ) = by (same_name y x) (name-value spec a forms functions hides means x ρ)
  where
    by : (b : Bool) → value spec a (named_term spec (term_of ρ x) (forms x Terms.NoTerms) x) ≡ named_meaning spec (looked_up (valued spec a ρ) x) (functions x []) x →
        value spec a (named_term spec (if b then Some t else term_of ρ x) (forms x Terms.NoTerms) x)
        ≡ named_meaning spec (if b then Some (value spec a t) else looked_up (valued spec a ρ) x) (functions x []) x
    by true others = refl
    by false others = others

applied-value : (spec : Spec) (a : Assignment) (f : Name) (ts : Terms) (t : Option Term) (v : Option Value) → HasValue spec a t v →
    value spec a (applied_term t f ts) ≡ applied_meaning spec v f (values spec a ts)
applied-value spec a f ts None None m = refl
applied-value spec a f ts (Some t) (Some v) m = m
applied-value spec a f ts None (Some v) m = absurd m
applied-value spec a f ts (Some t) None m = absurd m

module _ (spec : Spec) (a : Assignment) (forms : Forms) (functions : Functions)
    (means : Means spec a forms functions) where
  given : (f : Name) (ts : Terms) → HasValue spec a (given_arguments forms f ts) (function.given_arguments functions f (values spec a ts))
  given f Terms.NoTerms = tt
  given f (Terms.Then t ts) = means.named f (Terms.Then t ts)

  -- counting, else a state variable, definition or function of data
  application-value : (b : Bool) (f : Name) (xs : Terms) (ρ : TermScope) →
      value spec a (count_put_in spec forms ρ xs) ≡ pos (count spec functions (valued spec a ρ) xs) →
      values spec a (all_put_in spec forms ρ xs) ≡ meanings spec functions (valued spec a ρ) xs →
      value spec a (if b then count_put_in spec forms ρ xs else applied_term (given_arguments forms f (all_put_in spec forms ρ xs)) f (all_put_in spec forms ρ xs))
      ≡ (if b then pos (count spec functions (valued spec a ρ) xs) else
      applied_meaning spec (function.given_arguments functions f (meanings spec functions (valued spec a ρ) xs)) f (meanings spec functions (valued spec a ρ) xs))
  application-value true f xs ρ counted-same all-same = counted-same
  application-value false f xs ρ counted-same all-same =
      let ts = all_put_in spec forms ρ xs in
      applied-value spec a f ts (given_arguments forms f ts) (function.given_arguments functions f (values spec a ts)) (given f ts) ∙
      ap (λ vs. applied_meaning spec (function.given_arguments functions f vs) f vs) all-same

  mutual
    pub put_in-value : (x : Term) (ρ : TermScope) →
        value spec a (put_in spec forms ρ x) ≡ meaning spec functions (valued spec a ρ) x
    put_in-value (Term.Truth b) ρ = refl
    put_in-value (Term.Number n) ρ = refl
    put_in-value (Term.Named x) ρ = name-value spec a forms functions means.enumerators means.named x ρ
    put_in-value (Term.Not x) ρ = ap (λ v. of_bool (not (is_true v))) (put_in-value x ρ)
    put_in-value (Term.Negative x) ρ = ap neg_ℤ (put_in-value x ρ)
    put_in-value (Term.Binary o x y) ρ =
        ap (λ v. binary o v (value spec a (put_in spec forms ρ y))) (put_in-value x ρ) ∙
        ap (λ v. binary o (meaning spec functions (valued spec a ρ) x) v) (put_in-value y ρ)
    put_in-value (Term.Apply f xs) ρ = application-value (is_counting f) f xs ρ (count-value xs ρ) (all_put_in-values xs ρ)
    put_in-value (Term.Quantified q xs x) ρ =
        joined-value spec a q (copies spec xs (λ σ. put_in spec forms σ x) ρ) ∙
        ap of_bool (copies-quantified spec a means.written q xs (λ σ. put_in spec forms σ x) (λ t. is_true (value spec a t)) (λ b. is_true (meaning spec functions b x))
        (λ σ. ap is_true (put_in-value x σ)) ρ)

    count-value : (xs : Terms) (ρ : TermScope) → value spec a (count_put_in spec forms ρ xs) ≡ pos (count spec functions (valued spec a ρ) xs)
    count-value Terms.NoTerms ρ = refl
    count-value (Terms.Then x xs) ρ = count_of-value x ρ

    count_of-value : (x : Term) (ρ : TermScope) → value spec a (count_of_put_in spec forms ρ x) ≡ pos (count_of spec functions (valued spec a ρ) x)
    count_of-value (Term.Truth b) ρ = refl
    count_of-value (Term.Number n) ρ = refl
    count_of-value (Term.Named x) ρ = refl
    count_of-value (Term.Not x) ρ = refl
    count_of-value (Term.Negative x) ρ = refl
    count_of-value (Term.Binary o x y) ρ = refl
    count_of-value (Term.Apply f xs) ρ = refl
    count_of-value (Term.Quantified q xs x) ρ =
        counted-value spec a (copies spec xs (λ σ. put_in spec forms σ x) ρ) ∙
        ap (λ bs. pos (true_count bs)) (copies-for_each spec a means.written xs (λ σ. put_in spec forms σ x) (λ t. is_true (value spec a t)) (λ b. is_true (meaning spec functions b x))
        (λ σ. ap is_true (put_in-value x σ)) ρ)

    pub all_put_in-values : (xs : Terms) (ρ : TermScope) →
        values spec a (all_put_in spec forms ρ xs) ≡ meanings spec functions (valued spec a ρ) xs
    all_put_in-values Terms.NoTerms ρ = refl
    all_put_in-values (Terms.Then x xs) ρ =
        ap (λ v. v ∷ values spec a (all_put_in spec forms ρ xs)) (put_in-value x ρ) ∙
        ap (λ vs. meaning spec functions (valued spec a ρ) x ∷ vs) (all_put_in-values xs ρ)

pub terms_put_in : TermsPutInHaveTheValue
terms_put_in spec a forms functions means ρ x = put_in-value spec a forms functions means x ρ
