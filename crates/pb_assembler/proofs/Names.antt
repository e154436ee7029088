-- The names that a text declares are names of modules: they are spelled as names, and where the text is declared as it must be
-- they are short.
use Rattle.std.proofs.Common.{◌≡◌, ℕ, ◌≤◌, Bool, true, nat_le, ◌&&◌, List, [], ◌∷◌, ◌++◌, length, map, ◌∙◌, refl, string_bytes, subst}
use Rattle.std.specs.Prelude.{All}
use Rattle.std.specs.List.{list_all}
use Rattle.std.proofs.lemmas.Bool.{or_left, and_from, and_parts, le-leb}
use Rattle.std.proofs.lemmas.List.Concat.{flat_map-cons}
use Rattle.std.proofs.lemmas.List.Elements.{All-head, All-tail, All-cons, All-nil}
use Rattle.std.proofs.lemmas.List.Folds.{list_all-map}
use Rattle.pb_base.specs.Names.{is_letter, is_name_byte, is_spelled}
use Rattle.pb_base.specs.declared.limits.TheConstants.{MAX_NAME_BYTES}
use Rattle.pb_text_tree.specs.declared.sort.Enumerator as tree
use Rattle.pb_text_tree.specs.declared.sort.Sort as declared_sort
use Rattle.pb_text_tree.specs.declared.sort.Sort.TheVariants as sort
use Rattle.pb_text_tree.specs.declared.sort.SortDeclaration as declaration
use Rattle.pb_text_tree.specs.declared.spec.Equation as equation
use Rattle.pb_text_tree.specs.declared.spec.Spec as declared_spec
use Rattle.pb_text_tree.specs.Form.{EnumeratorForm, enumerator_form, equation_form, sort_form, sort_declaration_form, spec_form}
use Rattle.pb_text_meaning.specs.Erase.{erase, erased_declaration, erased_enumerator, erased_equation, erased_sort}
use Rattle.pb_text_meaning.specs.Syntax.{Enumerator, SortDeclaration, Equation, Spec}
use Rattle.pb_typing_declarations.specs.WellDeclared.{enumerators, every_enumerator, IsDeclared}
use Rattle.pb_bytecode.specs.Names.{is_module_name}

-- a module may have the names of a sort's enumerators
abbrev pub has_enumerator_names : SortDeclaration → Bool
has_enumerator_names d = list_all (λ (e : Enumerator). is_module_name e.name) (enumerators d.sort)

-- a module may have the names of enumerators and of predicate variables
abbrev pub has_names : Spec → Bool
has_names spec = list_all has_enumerator_names spec.sorts && list_all (λ (X : Equation). is_module_name X.name) spec.equations

pub enumerators_named : (es : List tree.Enumerator)
    → list_all (λ (e : Enumerator). is_module_name e.name) (map erased_enumerator (map enumerator_form es))
    ≡ list_all (λ (e : tree.Enumerator). is_module_name (string_bytes e.name.text)) es
enumerators_named es =
    list_all-map (λ (e : Enumerator). is_module_name e.name) erased_enumerator (map enumerator_form es)
    ∙ list_all-map (λ (e : EnumeratorForm). is_module_name e.name.text) enumerator_form es

-- what is spelled as a name, and short, is a module's name
module_name : (bs : List ℕ) → is_spelled bs ≡ true → length bs ≤ MAX_NAME_BYTES → is_module_name bs ≡ true
module_name [] h short = cc
module_name (b ∷ bs) h short =
    let first = (and_parts (is_letter b) _ h).0 in
    and_from (is_letter b) _ first (and_from (nat_le (length (b ∷ bs)) MAX_NAME_BYTES) _ (le-leb (length (b ∷ bs)) MAX_NAME_BYTES short)
    (and_from (is_name_byte b) (list_all is_name_byte bs) (or_left _ _ (or_left (is_letter b) _ first)) ((and_parts (is_letter b) _ h).1)))

parts : {X : Type 0} (P : X → Type 0) (xs ys : List X) → All P (xs ++ ys) → All P xs × All P ys
parts P [] ys h = (All-nil P, h)
parts P (x ∷ xs) ys h =
    let rest = parts P xs ys (All-tail P x (xs ++ ys) h) in
    (All-cons P x xs (All-head P x (xs ++ ys) h) rest.0, rest.1)

abbrev IsShort : Enumerator → Type 0
IsShort e = length e.name ≤ MAX_NAME_BYTES

abbrev IsShortEquation : Equation → Type 0
IsShortEquation X = length X.name ≤ MAX_NAME_BYTES

abbrev enumerators_in : List tree.Enumerator → List Enumerator
enumerators_in es = map erased_enumerator (map enumerator_form es)

abbrev declarations_in : List declaration.SortDeclaration → List SortDeclaration
declarations_in ds = map erased_declaration (map sort_declaration_form ds)

abbrev equations_in : List equation.Equation → List Equation
equations_in es = map erased_equation (map equation_form es)

short_enumerators : (es : List tree.Enumerator) → All IsShort (enumerators_in es) → list_all (λ (e : Enumerator). is_module_name e.name) (enumerators_in es) ≡ true
short_enumerators [] short = refl
short_enumerators (e ∷ es) short =
    and_from (is_module_name (string_bytes e.name.text)) _
    (module_name (string_bytes e.name.text) e.name.spelled (All-head IsShort (erased_enumerator (enumerator_form e)) (enumerators_in es) short))
    (short_enumerators es (All-tail IsShort (erased_enumerator (enumerator_form e)) (enumerators_in es) short))

short_sort : (s : declared_sort.Sort) → All IsShort (enumerators (erased_sort (sort_form s))) → list_all (λ (e : Enumerator). is_module_name e.name) (enumerators (erased_sort (sort_form s))) ≡ true
short_sort (sort.Struct es) short = short_enumerators es.items short
short_sort (sort.Alias t) short = refl

short_declarations : (ds : List declaration.SortDeclaration) → All IsShort (every_enumerator (declarations_in ds)) → list_all has_enumerator_names (declarations_in ds) ≡ true
short_declarations [] short = refl
short_declarations (d ∷ ds) short =
    let own = enumerators (erased_sort (sort_form d.sort)) in
    let others = every_enumerator (declarations_in ds) in
    let is : every_enumerator (declarations_in (d ∷ ds)) ≡ own ++ others =
    flat_map-cons (λ (x : SortDeclaration). enumerators x.sort) (erased_declaration (sort_declaration_form d)) (declarations_in ds) in
    let both = parts IsShort own others (subst (All IsShort) is short) in
    and_from (has_enumerator_names (erased_declaration (sort_declaration_form d))) _ (short_sort d.sort both.0) (short_declarations ds both.1)

short_equations : (es : List equation.Equation) → All IsShortEquation (equations_in es) → list_all (λ (X : Equation). is_module_name X.name) (equations_in es) ≡ true
short_equations [] short = refl
short_equations (X ∷ es) short =
    and_from (is_module_name (string_bytes X.name.text)) _
    (module_name (string_bytes X.name.text) X.name.spelled (All-head IsShortEquation (erased_equation (equation_form X)) (equations_in es) short))
    (short_equations es (All-tail IsShortEquation (erased_equation (equation_form X)) (equations_in es) short))

-- a text that is declared as it must be has names that a module may have
pub text_named : (s : declared_spec.Spec) → IsDeclared (erase (spec_form s)) → has_names (erase (spec_form s)) ≡ true
text_named s declared =
    and_from _ _ (short_declarations s.sorts.items declared.short_enumerators) (short_equations s.equations.items declared.short_predicate_variables)
