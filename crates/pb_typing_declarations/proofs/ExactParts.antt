-- The same of variables, of equations, of sorts and of ranges.
use Rattle.std.proofs.Common.{◌≡◌, ℕ, suc, ◌+◌, ◌≤◌, Bool, true, false, not, ◌||◌, true≢false, List, [], ◌∷◌, ◌++◌, length, map, refl, sym, ◌∙◌, ap, subst, arith, rules, tests}
use Rattle.std.specs.Prelude.{All, flat_map, nat_lt, int_le, Option, Some, None}
use Rattle.std.proofs.lemmas.Grind.{flat_map-append}
use Rattle.std.proofs.lemmas.List.{map-append, length-map}
use Rattle.std.proofs.lemmas.Bool.{not-true, not_from_false, leb-true as at_most, le-leb as at_most_true, ltb-true as below, lt-ltb as below_true}
use Rattle.std.proofs.lemmas.List.Elements.{All-cons, All-head, All-tail, All-nil}
use Rattle.std.proofs.lemmas.Simd.{map-map}
use Rattle.pb_text_tree.specs.declared.place.Place.{Place}
use Rattle.pb_text_tree.specs.Form.{Named, VariableForm, EnumeratorForm, SortForm, struct, alias, SortDeclarationForm, RangeForm, EquationForm}
use Rattle.pb_base.specs.declared.limits.TheConstants.{MAX_STRUCTS, MAX_ENUMERATORS, MAX_PARAMETERS, MAX_NAME_BYTES}
use Rattle.pb_text_meaning.specs.Syntax.{Variable, Enumerator, SortDeclaration, Equation, Spec}
use Rattle.pb_text_meaning.specs.Erase.{erased_variable, erased_variables, erased_enumerator, erased_recogniser, erased_sort, erased_declaration, erased_range, erased_equation}
use Rattle.pb_typing_declarations.specs.declared.fault.TypingRule.TheVariants.{NameTwice, Limit, UnknownSort}
use Rattle.pb_typing_declarations.specs.Faults.{unless, repeated, length_faults}
use Rattle.pb_typing_declarations.specs.Shapes.{End, Shaped, Unranged, Undeclared, Endless, end_of, base_of, is_sort, is_built_in, number_behind}
use Rattle.pb_typing_declarations.specs.Instances.{instance_count, all_instances}
use Rattle.pb_typing_declarations.specs.Declarations.{stays_within, is_integer, is_named_function, is_faulty, end_faults, variable_names, variable_faults, variables_faults, limit_faults, own_names, equation_faults, equations_faults_behind, recogniser_faults, recogniser_name, names_of_enumerator, enumerator_faults, enumerators_of_sort, all_enumerator_forms, struct_faults, structs_faults, definition_faults, sort_faults, range_faults, empty_faults}
use Rattle.pb_typing_declarations.specs.WellDeclared.{AreApart, has_shape, AreVariables, HaveEnds, IsWellDefined, structs_behind, IsRanged, enumerators, name_if_any, enumerator_names, every_enumerator}
use Rattle.pb_typing_declarations.proofs.Parts.{no_parts, no_whole, holds_unless, unless_holds}
use Rattle.pb_typing_declarations.proofs.Passing.{stays, one_more_stays}
use Rattle.pb_typing_declarations.proofs.VariableLemmas.{few_names, limit_clear}
use Rattle.pb_typing_declarations.proofs.Exact.{each, each_clear, texts, apart, apart_clear}

-- ---- variables

has_values : (declared : Bool) (e : End) (place : Place) → is_faulty declared e ≡ false → end_faults declared e place ≡ [] → has_shape e ≡ true
has_values declared (Shaped h) place f e = refl
has_values declared (Unranged k) place f e = cc
has_values declared Undeclared place f e = absurd (true≢false (sym (holds_unless _ _ _ e) ∙ f))
has_values declared Endless place f e = absurd (true≢false (sym (holds_unless _ _ _ e) ∙ f))

use_clear : (declared : Bool) (e : End) (place : Place) → has_shape e ≡ true → end_faults declared e place ≡ []
use_clear declared (Shaped h) place e = refl
use_clear declared (Unranged k) place e = cc
use_clear declared Undeclared place e = cc
use_clear declared Endless place e = cc

variable_texts : (xs : List VariableForm) → texts (variable_names xs) ≡ map (λ (x : Variable). x.name) (erased_variables xs)
variable_texts xs = map-map (λ (x : Named). x.text) (λ (x : VariableForm). x.name) xs ∙ sym (map-map (λ (x : Variable). x.name) erased_variable xs)

abbrev HasShape : Spec → Variable → Type 0
HasShape S x = has_shape (end_of S x.sort) ≡ true

pub variables : (S : Spec) (xs : List VariableForm) → HaveEnds S → variables_faults S xs ≡ [] → AreVariables S (erased_variables xs)
variables S xs ends e =
    let p = no_parts (repeated (variable_names xs)) (flat_map (variable_faults S) xs) e in
    record {
      apart = subst AreApart (variable_texts xs) (apart (variable_names xs) p.0);
      shaped = each (variable_faults S) erased_variable (HasShape S) (λ x h. has_values (is_sort S x.sort.text) (end_of S x.sort.text) x.sort.place (ends.ends x.sort.text) h) xs p.1;
    }

pub variables_clear : (S : Spec) (xs : List VariableForm) → AreVariables S (erased_variables xs) → variables_faults S xs ≡ []
variables_clear S xs h =
    no_whole (repeated (variable_names xs)) _ (apart_clear (variable_names xs) (subst AreApart (sym (variable_texts xs)) h.apart))
    (each_clear (variable_faults S) erased_variable (HasShape S) (λ x f. use_clear (is_sort S x.sort.text) (end_of S x.sort.text) x.sort.place f) xs h.shaped)

-- ---- equations

abbrev pub ShortEquation : Equation → Type 0
ShortEquation X = length X.name ≤ MAX_NAME_BYTES

abbrev pub FewParameters : Equation → Type 0
FewParameters X = length X.parameters ≤ MAX_PARAMETERS

abbrev pub Parameters : Spec → Equation → Type 0
Parameters S X = AreVariables S X.parameters

parameters_length : (xs : List VariableForm) → length (variable_names xs) ≡ length (erased_variables xs)
parameters_length xs = length-map xs (λ (x : VariableForm). x.name) ∙ sym (length-map xs erased_variable)

equation : (S : Spec) (X : EquationForm) → HaveEnds S → equation_faults S X ≡ [] → ShortEquation (erased_equation X) × FewParameters (erased_equation X) × Parameters S (erased_equation X)
equation S X ends e =
    let p = no_parts (length_faults X.name) _ e in
    let q = no_parts (limit_faults MAX_PARAMETERS (variable_names X.parameters)) _ p.1 in
    let few = few_names MAX_PARAMETERS (variable_names X.parameters) q.0 in
    let same = parameters_length X.parameters in
    (at_most _ _ (holds_unless _ _ _ p.0), omega (arith, few, same), variables S X.parameters ends q.1)

equation_clear : (S : Spec) (X : EquationForm) → ShortEquation (erased_equation X) → FewParameters (erased_equation X) → Parameters S (erased_equation X) → equation_faults S X ≡ []
equation_clear S X short few parameters =
    let same = parameters_length X.parameters in
    no_whole (length_faults X.name) _ (unless_holds _ _ _ (at_most_true _ _ short))
    (no_whole (limit_faults MAX_PARAMETERS (variable_names X.parameters)) _
    (limit_clear MAX_PARAMETERS (variable_names X.parameters) (omega (arith, few, same))) (variables_clear S X.parameters parameters))

-- what no fault says of equations behind n instances
pub record EquationsHold (limit : ℕ) (S : Spec) (n : ℕ) (E : List EquationForm) : Type 0 where
  pub short : All ShortEquation (map erased_equation E)
  pub few : All FewParameters (map erased_equation E)
  pub parameters : All (Parameters S) (map erased_equation E)
  pub instances : n + all_instances S (map erased_equation E) ≤ limit

pub equations : {limit : ℕ} (S : Spec) (n : ℕ) (E : List EquationForm) → HaveEnds S → n ≤ limit → equations_faults_behind limit S n E ≡ [] → EquationsHold limit S n E
equations {limit} S n [] ends low e = record { short = All-nil ShortEquation; few = All-nil FewParameters; parameters = All-nil (Parameters S); instances = omega (arith, low) }
equations {limit} S n (X ∷ E) ends low e =
    let size = instance_count S (erased_equation X) in
    let p = no_parts (equation_faults S X) _ e in
    let q = no_parts (unless (stays_within limit n (n + size)) Limit X.name.place) _ p.1 in
    let first = equation S X ends p.0 in
    let fits = at_most (n + size) limit (sym (stays limit n (n + size) low) ∙ holds_unless _ _ _ q.0) in
    let rest = equations S (n + size) E ends fits q.1 in
    record {
      short = All-cons ShortEquation (erased_equation X) (map erased_equation E) first.0 rest.short;
      few = All-cons FewParameters (erased_equation X) (map erased_equation E) first.1 rest.few;
      parameters = All-cons (Parameters S) (erased_equation X) (map erased_equation E) first.2 rest.parameters;
      instances = omega (arith, rest.instances);
    }

pub equations_clear : {limit : ℕ} (S : Spec) (n : ℕ) (E : List EquationForm) → EquationsHold limit S n E → equations_faults_behind limit S n E ≡ []
equations_clear {limit} S n [] h = refl
equations_clear {limit} S n (X ∷ E) h =
    let size = instance_count S (erased_equation X) in
    no_whole (equation_faults S X) _
    (equation_clear S X (All-head ShortEquation (erased_equation X) (map erased_equation E) h.short)
    (All-head FewParameters (erased_equation X) (map erased_equation E) h.few)
    (All-head (Parameters S) (erased_equation X) (map erased_equation E) h.parameters))
    (no_whole (unless (stays_within limit n (n + size)) Limit X.name.place) _
    (unless_holds _ _ _ (stays limit n (n + size) (omega (arith, h.instances)) ∙ at_most_true _ _ (omega (arith, h.instances))))
    (equations_clear S (n + size) E (record {
      short = All-tail ShortEquation (erased_equation X) (map erased_equation E) h.short;
      few = All-tail FewParameters (erased_equation X) (map erased_equation E) h.few;
      parameters = All-tail (Parameters S) (erased_equation X) (map erased_equation E) h.parameters;
      instances = omega (arith, h.instances);
    })))

-- ---- sorts

abbrev pub NewSort : SortDeclaration → Type 0
NewSort d = is_built_in d.name ≡ false

abbrev pub Defined : Spec → SortDeclaration → Type 0
Defined S d = IsWellDefined S d.name d.sort

-- what no fault says of one sort, where n structs stand before it
record SortHolds (S : Spec) (n : ℕ) (s : Named) (sort : SortForm) : Type 0 where
  defined : IsWellDefined S s.text (erased_sort sort)
  few : number_behind n (erased_sort sort) ≤ MAX_STRUCTS
  enumerators : flat_map enumerator_faults (enumerators_of_sort sort) ≡ []

one_sort : (S : Spec) (n : ℕ) (s : Named) (sort : SortForm) → n ≤ MAX_STRUCTS → struct_faults n s.place sort ≡ [] → definition_faults S s sort ≡ [] → SortHolds S n s sort
one_sort S n s (struct es) low e f =
    let p = no_parts (unless (stays_within MAX_STRUCTS n (suc n)) Limit s.place) _ e in
    let q = no_parts (unless (nat_lt 0 (length es)) Limit s.place) _ p.1 in
    let r = no_parts (limit_faults MAX_ENUMERATORS (own_names es)) _ q.1 in
    let named = length-map es (λ (e : EnumeratorForm). e.name) in
    let same = length-map es erased_enumerator in
    let some = below 0 (length es) (holds_unless _ _ _ q.0) in
    let most = few_names MAX_ENUMERATORS (own_names es) r.0 in
    let fits = below n MAX_STRUCTS (sym (one_more_stays MAX_STRUCTS n low) ∙ holds_unless _ _ _ p.0) in
    record { defined = (omega (arith, same, some), omega (arith, same, named, most)); few = omega (arith, fits); enumerators = r.1 }
one_sort S n s (alias t) low e f =
    let p = no_parts (unless (is_sort S t.text) UnknownSort t.place) _ f in
    record { defined = (holds_unless _ _ _ p.0, not-true _ (holds_unless _ _ _ p.1)); few = low; enumerators = refl }

one_sort_clear : (S : Spec) (n : ℕ) (s : Named) (sort : SortForm) → SortHolds S n s sort → (struct_faults n s.place sort ≡ []) × (definition_faults S s sort ≡ [])
one_sort_clear S n s (struct es) h =
    let same = length-map es erased_enumerator in
    let named = length-map es (λ (e : EnumeratorForm). e.name) in (
      no_whole (unless (stays_within MAX_STRUCTS n (suc n)) Limit s.place) _
          (unless_holds _ _ _ (one_more_stays MAX_STRUCTS n (omega (arith, h.few)) ∙ below_true n MAX_STRUCTS (omega (arith, h.few))))
          (no_whole (unless (nat_lt 0 (length es)) Limit s.place) _ (unless_holds _ _ _ (below_true 0 (length es) (omega (arith, same, h.defined.0))))
          (no_whole (limit_faults MAX_ENUMERATORS (own_names es)) _ (limit_clear MAX_ENUMERATORS (own_names es) (omega (arith, same, named, h.defined.1))) h.enumerators)),
      refl,
    )
one_sort_clear S n s (alias t) h =
    (refl, no_whole (unless (is_sort S t.text) UnknownSort t.place) _ (unless_holds _ _ _ h.defined.0) (unless_holds _ _ _ (not_from_false _ h.defined.1)))

pub record SortsHold (S : Spec) (n : ℕ) (ds : List SortDeclarationForm) : Type 0 where
  pub new : All NewSort (map erased_declaration ds)
  pub defined : All (Defined S) (map erased_declaration ds)
  pub few : structs_behind n (map erased_declaration ds) ≤ MAX_STRUCTS
  pub enumerators : flat_map enumerator_faults (all_enumerator_forms ds) ≡ []

pub sorts : (S : Spec) (n : ℕ) (ds : List SortDeclarationForm) → n ≤ MAX_STRUCTS → structs_faults n ds ≡ [] → flat_map (sort_faults S) ds ≡ [] → SortsHold S n ds
sorts S n [] low e f = record { new = All-nil NewSort; defined = All-nil (Defined S); few = low; enumerators = refl }
sorts S n (d ∷ ds) low e f =
    let p = no_parts (struct_faults n d.name.place d.sort) _ e in
    let q = no_parts (sort_faults S d) _ f in
    let r = no_parts (unless (not (is_built_in d.name.text)) NameTwice d.name.place) _ q.0 in
    let first = one_sort S n d.name d.sort low p.0 r.1 in
    let rest = sorts S (number_behind n (erased_sort d.sort)) ds first.few p.1 q.1 in
    record {
      new = All-cons NewSort (erased_declaration d) (map erased_declaration ds) (not-true _ (holds_unless _ _ _ r.0)) rest.new;
      defined = All-cons (Defined S) (erased_declaration d) (map erased_declaration ds) first.defined rest.defined;
      few = rest.few;
      enumerators = flat_map-append enumerator_faults (enumerators_of_sort d.sort) (all_enumerator_forms ds) ∙ no_whole _ _ first.enumerators rest.enumerators;
    }

-- numbers rise
behind_one : (n : ℕ) (sort : SortForm) → n ≤ number_behind n (erased_sort sort)
behind_one n (struct es) = omega arith
behind_one n (alias t) = omega arith

behind_all : (n : ℕ) (ds : List SortDeclarationForm) → n ≤ structs_behind n (map erased_declaration ds)
behind_all n [] = omega arith
behind_all n (d ∷ ds) =
    let one = behind_one n d.sort in
    let rest = behind_all (number_behind n (erased_sort d.sort)) ds in
    omega (arith, one, rest)

pub sorts_clear : (S : Spec) (n : ℕ) (ds : List SortDeclarationForm) → SortsHold S n ds → (structs_faults n ds ≡ []) × (flat_map (sort_faults S) ds ≡ [])
sorts_clear S n [] h = (refl, refl)
sorts_clear S n (d ∷ ds) h =
    let behind = behind_all (number_behind n (erased_sort d.sort)) ds in
    let parts = no_parts (flat_map enumerator_faults (enumerators_of_sort d.sort)) _ (sym (flat_map-append enumerator_faults (enumerators_of_sort d.sort) (all_enumerator_forms ds)) ∙ h.enumerators) in
    let first =
    one_sort_clear S n d.name d.sort
    (record {
      defined = All-head (Defined S) (erased_declaration d) (map erased_declaration ds) h.defined;
      few =
          omega (arith, behind, h.few);
      enumerators = parts.0;
    }) in
    let rest = sorts_clear S (number_behind n (erased_sort d.sort)) ds (record {
      new = All-tail NewSort (erased_declaration d) (map erased_declaration ds) h.new;
      defined = All-tail (Defined S) (erased_declaration d) (map erased_declaration ds) h.defined;
      few = h.few;
      enumerators = parts.1;
    }) in (
      no_whole (struct_faults n d.name.place d.sort) _ first.0 rest.0,
      no_whole (sort_faults S d) _
          (no_whole (unless (not (is_built_in d.name.text)) NameTwice d.name.place) _
          (unless_holds _ _ _ (not_from_false _ (All-head NewSort (erased_declaration d) (map erased_declaration ds) h.new))) first.1)
          rest.1,
    )

-- ---- enumerators

pub enumerators-erased : (ds : List SortDeclarationForm) → every_enumerator (map erased_declaration ds) ≡ map erased_enumerator (all_enumerator_forms ds)
enumerators-erased [] = refl
enumerators-erased (d ∷ ds) =
    ap (λ es. enumerators (erased_sort d.sort) ++ es) (enumerators-erased ds)
    ∙ (ap (λ es. es ++ map erased_enumerator (all_enumerator_forms ds)) (one d.sort)
    ∙ sym (map-append erased_enumerator (enumerators_of_sort d.sort) (all_enumerator_forms ds)))
  where
    one : (s : SortForm) → enumerators (erased_sort s) ≡ map erased_enumerator (enumerators_of_sort s)
    one (struct es) = refl
    one (alias t) = refl

pub enumerator_texts : (es : List EnumeratorForm) → texts (flat_map names_of_enumerator es) ≡ flat_map enumerator_names (map erased_enumerator es)
enumerator_texts [] = refl
enumerator_texts (e ∷ es) =
    map-append (λ (x : Named). x.text) (names_of_enumerator e) (flat_map names_of_enumerator es)
    ∙ (ap (λ xs. xs ++ texts (flat_map names_of_enumerator es)) (one e.recogniser)
    ∙ ap (λ xs. enumerator_names (erased_enumerator e) ++ xs) (enumerator_texts es))
  where
    one : (r : Option Named) → texts (e.name ∷ recogniser_name r) ≡ e.name.text ∷ name_if_any (erased_recogniser r)
    one None = refl
    one (Some x) = refl

abbrev pub ShortName : Enumerator → Type 0
ShortName e = length e.name ≤ MAX_NAME_BYTES

abbrev pub NewFunction : Enumerator → Type 0
NewFunction e = All (λ x. is_named_function x ≡ false) (name_if_any e.recogniser)

recogniser : (r : Option Named) → recogniser_faults r ≡ [] → All (λ x. is_named_function x ≡ false) (name_if_any (erased_recogniser r))
recogniser None e = All-nil (λ x. is_named_function x ≡ false)
recogniser (Some x) e = All-cons (λ y. is_named_function y ≡ false) x.text [] (not-true _ (holds_unless _ _ _ e)) (All-nil (λ y. is_named_function y ≡ false))

recogniser_clear : (r : Option Named) → All (λ x. is_named_function x ≡ false) (name_if_any (erased_recogniser r)) → recogniser_faults r ≡ []
recogniser_clear None h = refl
recogniser_clear (Some x) h = unless_holds _ _ _ (not_from_false _ (All-head (λ y. is_named_function y ≡ false) x.text [] h))

pub short_names : (es : List EnumeratorForm) → flat_map enumerator_faults es ≡ [] → All ShortName (map erased_enumerator es)
short_names = each enumerator_faults erased_enumerator ShortName (λ e h. at_most _ _ (holds_unless _ _ _ (no_parts (length_faults e.name) (recogniser_faults e.recogniser) h).0))

pub new_functions : (es : List EnumeratorForm) → flat_map enumerator_faults es ≡ [] → All NewFunction (map erased_enumerator es)
new_functions = each enumerator_faults erased_enumerator NewFunction (λ e h. recogniser e.recogniser (no_parts (length_faults e.name) (recogniser_faults e.recogniser) h).1)

pub enumerators_clear : (es : List EnumeratorForm) → All ShortName (map erased_enumerator es) → All NewFunction (map erased_enumerator es) → flat_map enumerator_faults es ≡ []
enumerators_clear [] h k = refl
enumerators_clear (e ∷ es) h k =
    no_whole (enumerator_faults e) _
    (no_whole (length_faults e.name) _ (unless_holds _ _ _ (at_most_true _ _ (All-head ShortName (erased_enumerator e) (map erased_enumerator es) h)))
    (recogniser_clear e.recogniser (All-head NewFunction (erased_enumerator e) (map erased_enumerator es) k)))
    (enumerators_clear es (All-tail ShortName (erased_enumerator e) (map erased_enumerator es) h) (All-tail NewFunction (erased_enumerator e) (map erased_enumerator es) k))

-- ---- ranges

integer_there : (e : End) (f : Bool) → f ≡ false → (is_integer e || f) ≡ true → is_integer e ≡ true
integer_there (Unranged k) f clear h = refl
integer_there (Shaped s) f clear h = absurd (true≢false (sym h ∙ clear))
integer_there Undeclared f clear h = absurd (true≢false (sym h ∙ clear))
integer_there Endless f clear h = absurd (true≢false (sym h ∙ clear))

pub ranges : (S : Spec) (rs : List RangeForm) → HaveEnds S → flat_map empty_faults rs ≡ [] → flat_map (range_faults S) rs ≡ [] → All (IsRanged S) (map erased_range rs)
ranges S [] ends e f = All-nil (IsRanged S)
ranges S (r ∷ rs) ends e f =
    let p = no_parts (empty_faults r) _ e in
    let ordered : int_le r.low r.high ≡ true = holds_unless _ _ _ p.0 in
    let q = no_parts (range_faults S r) _ f in
    let s = no_parts (unless (is_integer (base_of S r.name) || is_faulty (is_sort S r.name) (base_of S r.name)) UnknownSort r.place) _ q.0 in
    All-cons (IsRanged S) (erased_range r) (map erased_range rs)
    (record { integer = integer_there (base_of S r.name) _ (ends.bases r.name) (holds_unless _ _ _ s.0); least = holds_unless _ _ _ s.1; order = search (rules, tests, ordered) })
    (ranges S rs ends p.1 q.1)

pub ranges_clear : (S : Spec) (rs : List RangeForm) → All (IsRanged S) (map erased_range rs) → (flat_map empty_faults rs ≡ []) × (flat_map (range_faults S) rs ≡ [])
ranges_clear S [] h = (refl, refl)
ranges_clear S (r ∷ rs) h =
    let first = All-head (IsRanged S) (erased_range r) (map erased_range rs) h in
    let rest = ranges_clear S rs (All-tail (IsRanged S) (erased_range r) (map erased_range rs) h) in
    let ordered : int_le r.low r.high ≡ true = search (rules, tests, first.order) in (
      no_whole (empty_faults r) _ (unless_holds _ _ _ ordered) rest.0,
      no_whole (range_faults S r) _
          (no_whole (unless (is_integer (base_of S r.name) || is_faulty (is_sort S r.name) (base_of S r.name))
          UnknownSort r.place) _
          (unless_holds _ _ _ (ap (λ b. b || is_faulty (is_sort S r.name) (base_of S r.name)) first.integer))
          (unless_holds _ _ _ first.least)) rest.1,
    )
