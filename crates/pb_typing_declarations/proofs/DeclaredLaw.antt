-- Both directions for a whole text.
use Rattle.std.proofs.Common.{◌≡◌, ◌≤◌, ℕ, List, [], length, map, sym, ◌∙◌, ap, subst, arith}
use Rattle.std.specs.Prelude.{All, flat_map}
use Rattle.std.proofs.lemmas.List.{length-map}
use Rattle.std.proofs.lemmas.Simd.{map-map}
use Rattle.pb_base.specs.declared.limits.TheConstants.{MAX_EQUATIONS}
use Rattle.pb_sorts.specs.Counting.{instance_limit}
use Rattle.pb_sorts.specs.declared.counting.TheConstants.{MAX_NUMBERS}
use Rattle.pb_sorts.specs.declared.counting.Counting.{Counting}
use Rattle.pb_sorts.specs.declared.counting.Counting.TheVariants.{Declared, Reached}
use Rattle.pb_text_tree.specs.Form.{Named, SortDeclarationForm, RangeForm, EquationForm, SpecForm}
use Rattle.pb_text_meaning.specs.Syntax.{Enumerator, SortDeclaration, Range, Equation}
use Rattle.pb_text_meaning.specs.Erase.{erase, erased_declaration, erased_range, erased_equation}
use Rattle.pb_typing_declarations.specs.Declarations.{declaration_faults, tables_faults, checks_faults, all_enumerator_forms, names_of_enumerator, sort_names, range_name, equation_names}
use Rattle.pb_typing_declarations.specs.WellDeclared.{AreApart, IsDeclaredWithin, every_enumerator, enumerator_names}
use Rattle.pb_typing_declarations.proofs.Parts.{no_parts, no_whole}
use Rattle.pb_typing_declarations.proofs.VariableLemmas.{few_names, limit_clear}
use Rattle.pb_typing_declarations.proofs.ReadParts as part
use Rattle.pb_typing_declarations.proofs.Exact.{apart, apart_clear, texts}
use Rattle.pb_typing_declarations.proofs.DeclaredEnds.{sorts_have_ends}
use Rattle.pb_typing_declarations.proofs.ExactParts.{equations, equations_clear, sorts, sorts_clear, ranges, ranges_clear, enumerators-erased, enumerator_texts, short_names, new_functions, enumerators_clear, ShortName, NewFunction}

-- names as they stand in the text and in what it says
sort_texts : (ds : List SortDeclarationForm) → texts (sort_names ds) ≡ map (λ (d : SortDeclaration). d.name) (map erased_declaration ds)
sort_texts ds = map-map (λ (x : Named). x.text) (λ (d : SortDeclarationForm). d.name) ds ∙ sym (map-map (λ (d : SortDeclaration). d.name) erased_declaration ds)

range_texts : (rs : List RangeForm) → texts (map range_name rs) ≡ map (λ (r : Range). r.name) (map erased_range rs)
range_texts rs = map-map (λ (x : Named). x.text) range_name rs ∙ sym (map-map (λ (r : Range). r.name) erased_range rs)

equation_texts : (E : List EquationForm) → texts (equation_names E) ≡ map (λ (X : Equation). X.name) (map erased_equation E)
equation_texts E = map-map (λ (x : Named). x.text) (λ (X : EquationForm). X.name) E ∙ sym (map-map (λ (X : Equation). X.name) erased_equation E)

data_texts : (ds : List SortDeclarationForm) → texts (flat_map names_of_enumerator (all_enumerator_forms ds)) ≡ flat_map enumerator_names (every_enumerator (map erased_declaration ds))
data_texts ds = enumerator_texts (all_enumerator_forms ds) ∙ ap (flat_map enumerator_names) (sym (enumerators-erased ds))

equation_length : (E : List EquationForm) → length (equation_names E) ≡ length (map erased_equation E)
equation_length E = length-map E (λ (X : EquationForm). X.name) ∙ sym (length-map E erased_equation)

pub within_numbers : (counting : Counting) → instance_limit counting ≤ MAX_NUMBERS
within_numbers Declared = omega arith
within_numbers Reached = omega arith

-- within a limit
pub declared_within : {limit : ℕ} (t : SpecForm) → limit ≤ MAX_NUMBERS → declaration_faults limit t ≡ [] → IsDeclaredWithin limit (erase t)
declared_within {limit} t small e =
    let all = no_parts (tables_faults t) (checks_faults limit t) e in
    let a = no_parts (part.structs t) _ all.0 in
    let b = no_parts (part.empty t) _ a.1 in
    let c = no_parts (part.data_twice t) _ b.1 in
    let d = no_parts (part.sorts_twice t) _ c.1 in
    let f = no_parts (part.ranges_twice t) _ d.1 in
    let g = no_parts (part.sorts t) _ all.1 in
    let h = no_parts (part.ranges t) _ g.1 in
    let i = no_parts (part.too_many t) _ h.1 in
    let s = sorts (erase t) 0 t.sorts (omega arith) a.0 g.0 in
    let ends = sorts_have_ends t g.0 in
    let x = equations (erase t) 0 t.equations ends (omega arith) i.1 in
    let few = few_names MAX_EQUATIONS (equation_names t.equations) i.0 in
    let same = equation_length t.equations in
    record {
      few = omega (arith, x.instances);
      declared = record {
        sorts = subst AreApart (sort_texts t.sorts) (apart (sort_names t.sorts) d.0);
        new_sorts = s.new;
        defined = s.defined;
        few_structs = s.few;
        ranges = subst AreApart (range_texts t.ranges) (apart (map range_name t.ranges) f.0);
        ranged = ranges (erase t) t.ranges ends b.0 h.0;
        enumerators = subst AreApart (data_texts t.sorts) (apart (flat_map names_of_enumerator (all_enumerator_forms t.sorts)) c.0);
        short_enumerators = subst (λ (es : List Enumerator). All ShortName es) (sym (enumerators-erased t.sorts)) (short_names (all_enumerator_forms t.sorts) s.enumerators);
        new_functions = subst (λ (es : List Enumerator). All NewFunction es) (sym (enumerators-erased t.sorts)) (new_functions (all_enumerator_forms t.sorts) s.enumerators);
        predicate_variables = subst AreApart (equation_texts t.equations) (apart (equation_names t.equations) f.1);
        short_predicate_variables = x.short;
        few_equations = omega (arith, few, same);
        few_parameters = x.few;
        parameters = x.parameters;
        few_instances = omega (arith, x.instances, small);
      };
    }

pub faultless : {limit : ℕ} (t : SpecForm) → IsDeclaredWithin limit (erase t) → declaration_faults limit t ≡ []
faultless {limit} t within =
    let h = within.declared in
    let enumerators = enumerators_clear (all_enumerator_forms t.sorts)
    (subst (λ (es : List Enumerator). All ShortName es) (enumerators-erased t.sorts) h.short_enumerators)
    (subst (λ (es : List Enumerator). All NewFunction es) (enumerators-erased t.sorts) h.new_functions) in
    let s = sorts_clear (erase t) 0 t.sorts (record { new = h.new_sorts; defined = h.defined; few = h.few_structs; enumerators = enumerators }) in
    let r = ranges_clear (erase t) t.ranges h.ranged in
    let same = equation_length t.equations in
    no_whole (tables_faults t) (checks_faults limit t)
    (part.tables_clear t s.0 r.0
    (apart_clear (flat_map names_of_enumerator (all_enumerator_forms t.sorts)) (subst AreApart (sym (data_texts t.sorts)) h.enumerators))
    (apart_clear (sort_names t.sorts) (subst AreApart (sym (sort_texts t.sorts)) h.sorts))
    (apart_clear (map range_name t.ranges) (subst AreApart (sym (range_texts t.ranges)) h.ranges))
    (apart_clear (equation_names t.equations) (subst AreApart (sym (equation_texts t.equations)) h.predicate_variables)))
    (part.checks_clear t limit s.1 r.1 (limit_clear MAX_EQUATIONS (equation_names t.equations) (omega (arith, h.few_equations, same)))
    (equations_clear (erase t) 0 t.equations (record { short = h.short_predicate_variables; few = h.few_parameters; parameters = h.parameters; instances = omega (arith, within.few) })))
