-- Elements that are read, and definitions.
use Rattle.std.proofs.Common.{◌≡◌, ℕ, zero, suc, ◌+◌, Bool, true, false, true≢false, ◌&&◌, ◌||◌, if◌then◌else◌, List, [], ◌∷◌, ◌++◌, map, flat_map, length, drop, length-append, refl, sym, ap, ◌∙◌, subst}
use Rattle.std.specs.Prelude.{Some, pos}
use Rattle.std.specs.Ordering.{int_eq}
use Rattle.std.proofs.lemmas.List.{length-map}
use Rattle.pb_base_values.specs.Carrier.{Value, Carrier, Tuple, tuples}
use Rattle.pb_text_meaning.specs.Syntax.{Name, same_name, Variable, Operator, Term, Terms, Spec}
use Rattle.pb_text_meaning.specs.Sorts.{carrier_of}
use Rattle.pb_text_meaning.specs.Formula.{carriers_of}
use Rattle.pb_text_meaning.specs.Value.{Assignment, is_true, value, values}
use Rattle.pb_text_meaning.specs.Meaning.{assigned}
use Rattle.pb_model_meaning.specs.Steps.{State}
use Rattle.pb_protocol_meaning.specs.Syntax.{Definition}
use Rattle.pb_protocol_meaning.specs.Meaning.{Functions, meaning, same_values, inside, all_inside, value_beside}
use Rattle.pb_protocol_meaning.specs.Meaning as function
use Rattle.pb_protocol_unfolding.specs.Written.{written_values, same_written, is_written, element}
use Rattle.pb_protocol_unfolding.specs.PutIn.{TermScope, standing, Forms, put_in, choice, choices, last_choice, chosen, read}
use Rattle.pb_protocol_unfolding.specs.PutIn as form
use Rattle.pb_protocol_unfolding.specs.Unfolding.{valued}
use Rattle.pb_protocol_unfolding.specs.TermLaws.{KeepsWrittenValues, HasValue, FormsMean, Means, DefinitionsArePutIn}
use Rattle.pb_text_meaning.proofs.Truths.{is_true-of_bool}
use Rattle.pb_protocol_unfolding.proofs.PutIn.{choice-value, put_in-value}
use Rattle.pb_protocol_unfolding.proofs.WrittenLaws.{value-self, value-not, Differs, Differ, values-differ, same-terms}

last-value : (spec : Spec) (a : Assignment) (t k x : Term) → value spec a (last_choice t k x) ≡ value spec a x
last-value spec a t k x =
    let known = Term.Binary Operator.Equal t k in
    choice-value spec a (Term.Binary Operator.Or known (Term.Truth true)) x (Term.Number 0) ∙
    ap (λ b. if b then value spec a x else pos 0)
    (is_true-of_bool (is_true (value spec a known) || true) ∙ any-or (is_true (value spec a known)))
  where
    any-or : (b : Bool) → (b || true) ≡ true
    any-or true = refl
    any-or false = refl

-- ---- values side by side with indices

-- the first value of a state, where there is one, and those behind
abbrev pub first : State → Value
first [] = pos 0
first (v ∷ s) = v

abbrev pub rest : State → State
rest [] = []
rest (v ∷ s) = s

-- indices that begin with each of these values
abbrev begun : List Tuple → Carrier → List Tuple
begun T c = flat_map (λ v. map (λ (vs : Tuple). v ∷ vs) T) c

none-beside : (c : Carrier) (T : List Tuple) (s : State) → value_beside (begun T c) s [] ≡ pos 0
none-beside [] T s = refl
none-beside (v ∷ c) T s = over (λ t. none-beside c T t) T s
  where
    over : ((t : State) → value_beside (begun T c) t [] ≡ pos 0) → (U : List Tuple) (s : State) → value_beside (map (λ (vs : Tuple). v ∷ vs) U ++ begun T c) s [] ≡ pos 0
    over others [] s = others s
    over others (i ∷ U) [] = refl
    over others (i ∷ U) (w ∷ s) = over others U s

-- indices that begin with another value are passed over
passed-over : (w u : Value) → int_eq w u ≡ false → (index : Tuple) (T more : List Tuple) (s : State) →
    value_beside (map (λ (vs : Tuple). w ∷ vs) T ++ more) s (u ∷ index) ≡ value_beside more (drop (length T) s) (u ∷ index)
passed-over w u new index [] more s = refl
passed-over w u new index (i ∷ T) more [] = nothing more
  where
    nothing : (more : List Tuple) → pos 0 ≡ value_beside more [] (u ∷ index)
    nothing [] = refl
    nothing (i ∷ more) = refl
passed-over w u new index (i ∷ T) more (v ∷ s) =
    ap (λ b. if b && same_values i index then v else value_beside (map (λ (vs : Tuple). w ∷ vs) T ++ more) s (u ∷ index)) new ∙
    passed-over w u new index T more s

-- and so are all that begin with others
none-begun : (u : Value) (c : Carrier) → Differs u c → (index : Tuple) (T : List Tuple) (s : State) → value_beside (begun T c) s (u ∷ index) ≡ pos 0
none-begun u [] new index T s = refl
none-begun u (w ∷ c) new index T s =
    passed-over w u (value-not u w new.0) index T (begun T c) s ∙ none-begun u c new.1 index T (drop (length T) s)

-- those that begin with this value are told apart by what is behind
begun-here : (u : Value) (index : Tuple) (more : List Tuple) → ((s : State) → value_beside more s (u ∷ index) ≡ pos 0) → (T : List Tuple) (s : State) →
    value_beside (map (λ (vs : Tuple). u ∷ vs) T ++ more) s (u ∷ index) ≡ value_beside T s index
begun-here u index more none [] s = none s ∙ nothing s
  where
    nothing : (s : State) → pos 0 ≡ value_beside [] s index
    nothing s = refl
begun-here u index more none (i ∷ T) [] = refl
begun-here u index more none (i ∷ T) (v ∷ s) =
    ap (λ b. if b && same_values i index then v else value_beside (map (λ (vs : Tuple). u ∷ vs) T ++ more) s (u ∷ index)) (value-self u) ∙
    ap (λ w. if same_values i index then v else w) (begun-here u index more none T s)

-- ---- values inside a carrier

inside-differs : (u v w : Value) (c : Carrier) → Differs u (w ∷ c) → int_eq u (inside (w ∷ c) v) ≡ false
inside-differs u v w [] new = new.0
inside-differs u v w (x ∷ c) new = by (int_eq v w) (inside-differs u v x c new.1)
  where
    by : (b : Bool) → int_eq u (inside (x ∷ c) v) ≡ false → int_eq u (if b then w else inside (x ∷ c) v) ≡ false
    by true h = new.0
    by false h = h

-- ---- names of elements

-- the names of the elements of an array, in the order of their indices
abbrev pub element_names : Spec → Name → List Variable → List Name
element_names spec x [] = x ∷ []
element_names spec x (i ∷ is) = flat_map (λ k. element_names spec (element x k) is) (written_values spec i.sort)

-- these names have the values of a state, and 0 where it has no more
abbrev pub Finds : Spec → Assignment → List Name → State → Type 0
Finds spec a [] s = Unit {0}
Finds spec a (x ∷ xs) s = (value spec a (Term.Named x) ≡ first s) × Finds spec a xs (rest s)

pub finds-left : (spec : Spec) (a : Assignment) (xs ys : List Name) (s : State) → Finds spec a (xs ++ ys) s → Finds spec a xs s
finds-left spec a [] ys s h = tt
finds-left spec a (x ∷ xs) ys s h = (h.0, finds-left spec a xs ys (rest s) h.1)

abbrev no_values : State
no_values = []

drop-nothing : (n : ℕ) → drop n no_values ≡ no_values
drop-nothing zero = refl
drop-nothing (suc n) = refl

finds-none : (spec : Spec) (a : Assignment) (xs ys : List Name) → Finds spec a (xs ++ ys) [] → Finds spec a ys []
finds-none spec a [] ys h = h
finds-none spec a (x ∷ xs) ys h = finds-none spec a xs ys h.1

pub finds-right : (spec : Spec) (a : Assignment) (xs ys : List Name) (s : State) → Finds spec a (xs ++ ys) s → Finds spec a ys (drop (length xs) s)
finds-right spec a [] ys s h = h
finds-right spec a (x ∷ xs) ys [] h =
    subst (Finds spec a ys) (sym (drop-nothing (length (x ∷ xs)))) (finds-none spec a (x ∷ xs) ys h)
finds-right spec a (x ∷ xs) ys (v ∷ s) h = finds-right spec a xs ys s h.1

-- ---- reads

-- of elements there are as many as of tuples of indices
pub names-counted : (spec : Spec) (a : Assignment) → KeepsWrittenValues spec a → (x : Name) (is : List Variable) →
    length (element_names spec x is) ≡ length (tuples (carriers_of spec is))
names-counted spec a keeps x [] = refl
names-counted spec a keeps x (i ∷ is) =
    over (λ y. names-counted spec a keeps y is) (written_values spec i.sort) ∙
    ap (λ c. length (begun (tuples (carriers_of spec is)) c)) (keeps i.sort)
  where
    over : ((y : Name) → length (element_names spec y is) ≡ length (tuples (carriers_of spec is))) → (ks : List Term) →
        length (flat_map (λ k. element_names spec (element x k) is) ks) ≡ length (begun (tuples (carriers_of spec is)) (map (value spec a) ks))
    over each [] = refl
    over each (k ∷ ks) =
        let T = tuples (carriers_of spec is) in
        let here = map (λ (vs : Tuple). value spec a k ∷ vs) T in
        let others = flat_map (λ k. element_names spec (element x k) is) ks in
        length-append (element_names spec (element x k) is) others ∙
        (ap (λ n. n + length others) (each (element x k) ∙ sym (length-map T (λ (vs : Tuple). value spec a k ∷ vs))) ∙
        (ap (λ n. length here + n) (over each ks) ∙
        sym (length-append here (begun T (map (value spec a) ks)))))

module _ (spec : Spec) (a : Assignment) (keeps : KeepsWrittenValues spec a) where
  -- what is said of the element that an index names
  abbrev Reads : Name → List Variable → Type 0
  Reads x is = (ts : Terms) (s : State) → Finds spec a (element_names spec x is) s →
      value spec a (read spec x is ts) ≡ value_beside (tuples (carriers_of spec is)) s (all_inside (carriers_of spec is) (values spec a ts))

  -- ---- one index

  module _ (x : Name) (is : List Variable) (each : (y : Name) → Reads y is) (t : Term) (ts : Terms) where
    abbrev T : List Tuple
    T = tuples (carriers_of spec is)

    abbrev index : Tuple
    index = all_inside (carriers_of spec is) (values spec a ts)

    abbrev v : Value
    v = value spec a t

    abbrev f : Term → Term
    f k = read spec (element x k) is ts

    abbrev names : List Term → List Name
    names ks = flat_map (λ k. element_names spec (element x k) is) ks

    -- the element at the first value
    at-first : (k : Term) (ks : List Term) → Differs (value spec a k) (map (value spec a) ks) → (s : State) → Finds spec a (names (k ∷ ks)) s →
        value spec a (f k) ≡ value_beside (begun T (map (value spec a) (k ∷ ks))) s (value spec a k ∷ index)
    at-first k ks new s found =
        each (element x k) ts s (finds-left spec a (element_names spec (element x k) is) (names ks) s found) ∙
        sym (begun-here (value spec a k) index (begun T (map (value spec a) ks)) (none-begun (value spec a k) (map (value spec a) ks) new index T) T s)

    choices-value : (ks : List Term) → Differ (map (value spec a) ks) → (s : State) → Finds spec a (names ks) s →
        value spec a (choices f t ks) ≡ value_beside (begun T (map (value spec a) ks)) s (inside (map (value spec a) ks) v ∷ index)
    choices-value [] apart s found = refl
    choices-value (k ∷ []) apart s found = last-value spec a t k (f k) ∙ at-first k [] tt s found
    choices-value (k ∷ l ∷ ks) apart s found =
        choice-value spec a (Term.Binary Operator.Equal t k) (f k) (choices f t (l ∷ ks)) ∙
        (ap (λ b. if b then value spec a (f k) else value spec a (choices f t (l ∷ ks))) (is_true-of_bool (int_eq v (value spec a k))) ∙
        by (int_eq v (value spec a k)) (choices-value (l ∷ ks) apart.1 (drop (length T) s) behind))
      where
        behind : Finds spec a (names (l ∷ ks)) (drop (length T) s)
        behind =
            subst (λ n. Finds spec a (names (l ∷ ks)) (drop n s)) (names-counted spec a keeps (element x k) is)
            (finds-right spec a (element_names spec (element x k) is) (names (l ∷ ks)) s found)

        by : (b : Bool) → value spec a (choices f t (l ∷ ks)) ≡ value_beside (begun T (map (value spec a) (l ∷ ks))) (drop (length T) s) (inside (map (value spec a) (l ∷ ks)) v ∷ index) →
            (if b then value spec a (f k) else value spec a (choices f t (l ∷ ks)))
            ≡ value_beside (begun T (map (value spec a) (k ∷ l ∷ ks))) s ((if b then value spec a k else inside (map (value spec a) (l ∷ ks)) v) ∷ index)
        by true others = at-first k (l ∷ ks) apart.0 s found
        by false others =
            others ∙
            sym (passed-over (value spec a k) (inside (map (value spec a) (l ∷ ks)) v) (inside-differs (value spec a k) v (value spec a l) (map (value spec a) ks) apart.0) index T
            (begun T (map (value spec a) (l ∷ ks))) s)

    -- a term that is written as one of the values chooses that one
    written-differs : (u : Value) (ks : List Term) → Differs u (map (value spec a) ks) → is_written t ks ≡ true → int_eq v u ≡ false
    written-differs u [] new e = absurd (true≢false (sym e))
    written-differs u (k ∷ ks) new e = by (same_written t k) refl e (λ h. written-differs u ks new.1 h)
      where
        by : (b : Bool) → same_written t k ≡ b → (b || is_written t ks) ≡ true → (is_written t ks ≡ true → int_eq v u ≡ false) → int_eq v u ≡ false
        by true h e others = ap (λ y. int_eq (value spec a y) u) (same-terms t k h) ∙ value-not u (value spec a k) new.0
        by false h e others = others e

    written-value : (ks : List Term) → Differ (map (value spec a) ks) → is_written t ks ≡ true → value spec a (choices f t ks) ≡ value spec a (f t)
    written-value [] apart e = absurd (true≢false (sym e))
    written-value (k ∷ []) apart e = by (same_written t k) refl e
      where
        by : (b : Bool) → same_written t k ≡ b → (b || false) ≡ true → value spec a (last_choice t k (f k)) ≡ value spec a (f t)
        by true h e = last-value spec a t k (f k) ∙ ap (λ y. value spec a (f y)) (sym (same-terms t k h))
        by false h e = absurd (true≢false (sym e))
    written-value (k ∷ l ∷ ks) apart e =
        choice-value spec a (Term.Binary Operator.Equal t k) (f k) (choices f t (l ∷ ks)) ∙
        (ap (λ b. if b then value spec a (f k) else value spec a (choices f t (l ∷ ks))) (is_true-of_bool (int_eq v (value spec a k))) ∙
        by (same_written t k) refl e (λ h. written-value (l ∷ ks) apart.1 h))
      where
        by : (b : Bool) → same_written t k ≡ b → (b || is_written t (l ∷ ks)) ≡ true →
            (is_written t (l ∷ ks) ≡ true → value spec a (choices f t (l ∷ ks)) ≡ value spec a (f t)) →
            (if int_eq v (value spec a k) then value spec a (f k) else value spec a (choices f t (l ∷ ks))) ≡ value spec a (f t)
        by true h e others =
            ap (λ y. if int_eq v (value spec a y) then value spec a (f y) else value spec a (choices f t (l ∷ ks))) (sym (same-terms t k h)) ∙
            ap (λ b. if b then value spec a (f t) else value spec a (choices f t (l ∷ ks))) (value-self v)
        by false h e others =
            ap (λ b. if b then value spec a (f k) else value spec a (choices f t (l ∷ ks))) (written-differs (value spec a k) (l ∷ ks) apart.0 e) ∙
            others e

    chosen-value : (ks : List Term) → Differ (map (value spec a) ks) → value spec a (chosen f t ks) ≡ value spec a (choices f t ks)
    chosen-value ks apart = by (is_written t ks) refl
      where
        by : (b : Bool) → is_written t ks ≡ b → value spec a (if b then f t else choices f t ks) ≡ value spec a (choices f t ks)
        by true e = sym (written-value ks apart e)
        by false e = refl

  pub read-value : (is : List Variable) (x : Name) → Reads x is
  read-value [] x ts [] found = found.0
  read-value [] x ts (v ∷ s) found = found.0
  read-value (i ∷ is) x Terms.NoTerms s found = sym (none-beside (carrier_of spec i.sort) (tuples (carriers_of spec is)) s)
  read-value (i ∷ is) x (Terms.Then t ts) s found =
      let ks = written_values spec i.sort in
      let apart : Differ (map (value spec a) ks) = subst Differ (sym (keeps i.sort)) (values-differ spec i.sort) in
      chosen-value x is (read-value is) t ts ks apart ∙
      (choices-value x is (read-value is) t ts ks apart s found ∙
      ap (λ c. value_beside (begun (tuples (carriers_of spec is)) c) s (inside c (value spec a t) ∷ all_inside (carriers_of spec is) (values spec a ts))) (keeps i.sort))

-- ---- definitions

-- parameters stand for the arguments' values
pub standing-assigned : (spec : Spec) (a : Assignment) (xs : List Variable) (ts : Terms) (ρ : TermScope) →
    valued spec a (standing xs ts ρ) ≡ assigned xs (values spec a ts) (valued spec a ρ)
standing-assigned spec a [] ts ρ = refl
standing-assigned spec a (x ∷ xs) Terms.NoTerms ρ = refl
standing-assigned spec a (x ∷ xs) (Terms.Then t ts) ρ = standing-assigned spec a xs ts ((x.name, t) ∷ ρ)

-- as many terms have as many values
pub as-many : (spec : Spec) (a : Assignment) (xs : List Variable) (ts : Terms) → form.are_as_many xs ts ≡ function.are_as_many xs (values spec a ts)
as-many spec a [] Terms.NoTerms = refl
as-many spec a [] (Terms.Then t ts) = refl
as-many spec a (x ∷ xs) Terms.NoTerms = refl
as-many spec a (x ∷ xs) (Terms.Then t ts) = as-many spec a xs ts

definition-means : (spec : Spec) (a : Assignment) (forms : Forms) (functions : Functions) → Means spec a forms functions →
    (d : Definition) → FormsMean spec a (form.with_definition spec forms d) (function.with_definition spec functions d)
definition-means spec a forms functions means d x ts =
    subst (λ b. HasValue spec a (form.with_definition spec forms d x ts)
    (if same_name d.name x && b then Some
    (meaning spec functions (assigned d.parameters (values spec a ts) []) d.term) else functions x (values spec a ts)))
    (as-many spec a d.parameters ts) (by (same_name d.name x && form.are_as_many d.parameters ts))
  where
    by : (b : Bool) →
        HasValue spec a (if b then Some (put_in spec forms (standing d.parameters ts []) d.term) else forms x ts)
        (if b then Some (meaning spec functions (assigned d.parameters (values spec a ts) []) d.term) else functions x (values spec a ts))
    by true =
        put_in-value spec a forms functions means d.term (standing d.parameters ts []) ∙
        ap (λ c. meaning spec functions c d.term) (standing-assigned spec a d.parameters ts [])
    by false = means.named x ts

pub definitions_are_put_in : DefinitionsArePutIn
definitions_are_put_in spec a forms functions means [] = means
definitions_are_put_in spec a forms functions means (d ∷ ds) =
    definitions_are_put_in spec a (form.with_definition spec forms d) (function.with_definition spec functions d)
    (record { written = means.written; enumerators = means.enumerators; named = definition-means spec a forms functions means d }) ds
