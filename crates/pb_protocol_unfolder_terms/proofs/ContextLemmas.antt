-- Definitions and state variables, as the code looks for them.
use Rattle.std.proofs.Common.{◌≡◌, ℕ, zero, suc, ◌+◌, ◌<◌, ◌==◌, Bool, true, false, if◌then◌else◌, List, [], ◌∷◌, map, take, drop, length, get_or, Option, Some, None, refl, sym, ◌∙◌, ap, arith, add-one}
use Rattle.std.specs.Prelude.{◌&&◌, is_some, string_bytes}
use Rattle.std.specs.List.{slice_get}
use Rattle.std.proofs.Math.Dec.{eqb-zero-suc, eqb-suc-zero, eqb-suc-suc}
use Rattle.pb_text_meaning.specs.Syntax.{Name, same_name, Terms, Spec, Enumerator}
use Rattle.pb_text_meaning.specs.Sorts.{place_from}
use Rattle.pb_protocol_meaning.specs.Syntax.{Definition}
use Rattle.pb_text_tree.specs.declared.term.Argument.{Argument}
use Rattle.pb_protocol_folding.specs.View as tree
use Rattle.pb_protocol_unfolding.specs.PutIn.{TermScope, all_put_in, given_arguments, Forms, standing, put_in, read, reads, are_as_many, with_definition, with_definitions}
use Rattle.pb_text_tree.specs.declared.sort.Enumerator as declared_enumerator
use Rattle.pb_protocol_unfolder_terms.specs.declared.sorts.Variable.{Variable}
use Rattle.pb_protocol_unfolder_terms.specs.declared.context.StateVariable.{StateVariable}
use Rattle.pb_protocol_unfolder_terms.specs.declared.context.Definition as declared_definition
use Rattle.pb_text_tree.specs.declared.sort.SortDeclaration.{SortDeclaration}
use Rattle.pb_text_tree.specs.Form.{sort_declaration_form}
use Rattle.pb_text_meaning.specs.Erase.{erased_declaration}
use Rattle.pb_protocol_unfolder_terms.specs.View.{variable_of, declarations}
use Rattle.pb_protocol_unfolder_terms.specs.Values.{enumerators_said, is_named}
use Rattle.pb_protocol_unfolder_terms.specs.Contexts.{state_variable_of, definition_of, terms_count, defined_term}

-- a term for each variable, by their numbers
pub as-many : (vs : List Variable) (ts : Terms) (n : ℕ) → terms_count ts ≡ n → are_as_many (map variable_of vs) ts ≡ (length vs == n)
as-many vs ts n e = by vs ts ∙ ap (λ (m : ℕ). length vs == m) e
  where
    by : (vs : List Variable) (ts : Terms) → are_as_many (map variable_of vs) ts ≡ (length vs == terms_count ts)
    by [] Terms.NoTerms = refl
    by [] (Terms.Then t ts) = sym (eqb-zero-suc (terms_count ts))
    by (v ∷ vs) Terms.NoTerms = sym (eqb-suc-zero (length vs))
    by (v ∷ vs) (Terms.Then t ts) = by vs ts ∙ sym (eqb-suc-suc (length vs) (terms_count ts))

-- ---- definitions

pub definition-there : (ds : List declared_definition.Definition) (k : ℕ) (d : declared_definition.Definition)
    → k < length ds → d ≡ get_or ds k d → slice_get (map definition_of ds) k ≡ Some (definition_of d)
definition-there [] k d within is = absurd (omega (arith, within))
definition-there (e ∷ ds) zero d within is = ap (λ y. Some (definition_of y)) (sym is)
definition-there (e ∷ ds) (suc k) d within is = definition-there ds k d (omega (arith, within)) is

one-more : (sorts : Spec) (base : Forms) (ds : List Definition) (k : ℕ) (d : Definition) → slice_get ds k ≡ Some d
    → with_definitions sorts base (take (suc k) ds) ≡ with_definition sorts (with_definitions sorts base (take k ds)) d
one-more sorts base [] k d is = absurd (nothing is)
  where
    nothing : None ≡ Some d → ⊥
    nothing e = cc
one-more sorts base (e ∷ ds) zero d is = ap (with_definition sorts base) (same is)
  where
    same : Some e ≡ Some d → e ≡ d
    same h = cc
one-more sorts base (e ∷ ds) (suc k) d is = one-more sorts (with_definition sorts base e) ds k d is

-- the definition at a place, if it is meant, else those before it
pub definition-next : (sorts : Spec) (base : Forms) (ds : List Definition) (p k : ℕ) (d : Definition) (x : Name) (ts : Terms) → p ≡ suc k → slice_get ds k ≡ Some d
    → {truth : Bool} → (same_name d.name x && are_as_many d.parameters ts) ≡ truth → with_definitions sorts base (take p ds) x ts
    ≡ (if truth then defined_term sorts (with_definitions sorts base (take k ds)) (slice_get ds k) ts else with_definitions sorts base (take k ds) x ts)
definition-next sorts base ds p k d x ts next is {truth = truth} meant =
    let f = with_definitions sorts base (take k ds) in
    ap (λ (q : ℕ). with_definitions sorts base (take q ds) x ts) next
    ∙ ap (λ (g : Forms). g x ts) (one-more sorts base ds k d is)
    ∙ ap (λ (b : Bool). if b then Some (put_in sorts f (standing d.parameters ts []) d.term) else f x ts) meant
    ∙ ap (λ o. if truth then defined_term sorts f o ts else f x ts) (sym is)

-- ---- state variables

-- the state variable at a place, if it is meant, else those behind it
pub variable-next : (sorts : Spec) (ys : List StateVariable) (k : ℕ) (y : StateVariable) (x : Name) (ts : Terms) → k < length ys → y ≡ get_or ys k y
    → {truth : Bool} → (same_name (state_variable_of y).name x && are_as_many (state_variable_of y).indices ts) ≡ truth
    → reads sorts (map state_variable_of (drop k ys)) x ts
    ≡ (if truth then Some (read sorts (state_variable_of y).name (state_variable_of y).indices ts) else reads sorts (map state_variable_of (drop (k + 1) ys)) x ts)
variable-next sorts ys k y x ts within is {truth = truth} meant =
    by ys k within is
    ∙ ap (λ (b : Bool). if b then Some (read sorts (state_variable_of y).name (state_variable_of y).indices ts) else reads sorts (map state_variable_of (drop (suc k) ys)) x ts) meant
    ∙ ap (λ (q : ℕ). if truth then Some (read sorts (state_variable_of y).name (state_variable_of y).indices ts) else reads sorts (map state_variable_of (drop q ys)) x ts) (sym (add-one k))
  where
    by : (ys : List StateVariable) (k : ℕ) → k < length ys → y ≡ get_or ys k y
        → reads sorts (map state_variable_of (drop k ys)) x ts
        ≡ (if same_name (state_variable_of y).name x && are_as_many (state_variable_of y).indices ts
        then Some (read sorts (state_variable_of y).name (state_variable_of y).indices ts) else reads sorts (map state_variable_of (drop (suc k) ys)) x ts)
    by [] k within is = absurd (omega (arith, within))
    by (z ∷ ys) zero within is =
        ap (λ w. reads sorts (map state_variable_of (w ∷ ys)) x ts) (sym is)
    by (z ∷ ys) (suc k) within is = by ys k (omega (arith, within)) is

-- ---- enumerators

shifted : (n m : ℕ) (x : Name) (es : List Enumerator) → is_some (place_from n (is_named x) es) ≡ is_some (place_from m (is_named x) es)
shifted n m x [] = refl
shifted n m x (e ∷ es) = by (is_named x e) (shifted (suc n) (suc m) x es)
  where
    by : (b : Bool) → is_some (place_from (suc n) (is_named x) es) ≡ is_some (place_from (suc m) (is_named x) es)
        → is_some (if b then Some n else place_from (suc n) (is_named x) es)
        ≡ is_some (if b then Some m else place_from (suc m) (is_named x) es)
    by true rest = refl
    by false rest = rest

-- an enumerator of another name
pub enumerator-passed : (n : ℕ) (x : Name) (es : List declared_enumerator.Enumerator) (k : ℕ)
    (e : declared_enumerator.Enumerator) → k < length es → e ≡ get_or es k e → same_name (string_bytes e.name.text) x ≡ false
    → is_some (place_from n (is_named x) (enumerators_said (drop k es))) ≡ is_some (place_from n (is_named x) (enumerators_said (drop (k + 1) es)))
enumerator-passed n x es k e within is other = skip es k within is ∙ ap (λ (q : ℕ). is_some (place_from n (is_named x) (enumerators_said (drop q es)))) (sym (add-one k))
  where
    no : (b : Bool) (m : ℕ) (o : Option ℕ) → b ≡ false → is_some (if b then Some m else o) ≡ is_some o
    no false m o h = refl
    no true m o h = absurd (never h)
      where
        never : true ≡ false → ⊥
        never h = cc

    skip : (es : List declared_enumerator.Enumerator) (k : ℕ) → k < length es → e ≡ get_or es k e
        → is_some (place_from n (is_named x) (enumerators_said (drop k es)))
        ≡ is_some (place_from n (is_named x) (enumerators_said (drop (suc k) es)))
    skip [] k within is = absurd (omega (arith, within))
    skip (d ∷ es) zero within is =
        ap (λ w. is_some (place_from n (is_named x) (enumerators_said (w ∷ es)))) (sym is)
        ∙ no (same_name (string_bytes e.name.text) x) n (place_from (suc n) (is_named x) (enumerators_said es)) other
        ∙ shifted (suc n) n x (enumerators_said es)
    skip (d ∷ es) (suc k) within is = skip es k (omega (arith, within)) is

-- ---- sorts

pub declared-sorts : (ds : List SortDeclaration) → declarations ds ≡ map erased_declaration (map sort_declaration_form ds)
declared-sorts [] = refl
declared-sorts (d ∷ ds) = ap (λ es. erased_declaration (sort_declaration_form d) ∷ es) (declared-sorts ds)

-- ---- arguments

pub arguments-counted : (sorts : Spec) (forms : Forms) (ρ : TermScope) (given : List Argument) → terms_count (all_put_in sorts forms ρ (tree.terms_of given)) ≡ length given
arguments-counted sorts forms ρ [] = refl
arguments-counted sorts forms ρ (a ∷ given) = ap suc (arguments-counted sorts forms ρ given)

-- a name with arguments is looked for
pub given-there : (sorts : Spec) (forms : Forms) (ρ : TermScope) (f : Name) (given : List Argument) → 0 < length given
    → forms f (all_put_in sorts forms ρ (tree.terms_of given)) ≡ given_arguments forms f (all_put_in sorts forms ρ (tree.terms_of given))
given-there sorts forms ρ f [] some = absurd (omega (arith, some))
given-there sorts forms ρ f (a ∷ given) some = refl
