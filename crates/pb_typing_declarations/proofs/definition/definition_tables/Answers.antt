use Rattle.std.proofs.Common.{◌≡◌, ◌∙◌, ◌++◌, List, map, rules, sym, ap, subst}
use Rattle.std.specs.Prelude.{flat_map}
use Rattle.std.specs.Option.{option_map}
use Rattle.pb_text_tree.specs.Form.{Named, SortDeclarationForm, sort_declaration_form}
use Rattle.pb_text_meaning.specs.Syntax.{Name}
use Rattle.pb_text_meaning.specs.Erase.{erased_declaration}
use Rattle.pb_base.specs.declared.or_memory.OrMemory.{OrMemory}
use Rattle.pb_typing_declarations.specs.declared.fault.TypingFault.{TypingFault}
use Rattle.pb_typing_declarations.specs.Faults.{repeated, IsAmong}
use Rattle.pb_typing_declarations.specs.Shapes as shapes
use Rattle.pb_typing_declarations.specs.Shapes.{first}
use Rattle.pb_typing_declarations.specs.Tables.{entry_names, entry_values, entry_of}
use Rattle.pb_typing_declarations.specs.Entries.{shown, shown_entries}
use Rattle.pb_typing_declarations.specs.Declarations.{structs_faults, names_of_enumerator, all_enumerator_forms, sort_names}
use Rattle.pb_typing_declarations.proofs.Parts.{among_left, among_right}
use Rattle.pb_typing_declarations.proofs.DataNames.{enumerators_agree, recognisers_agree}
use Rattle.pb_typing_declarations.proofs.Lookups.{first-map}
use Rattle.pb_typing_declarations.proofs.definition.definition_tables.Goals as goal

module _ (ds : List SortDeclarationForm) where
  abbrev in_data : List Named
  in_data = flat_map names_of_enumerator (all_enumerator_forms ds)

  abbrev Told : OrMemory TypingFault → Type 0
  Told = IsAmong (structs_faults 0 ds ++ (repeated in_data ++ repeated (sort_names ds)))

  in_structs : (e : OrMemory TypingFault) → IsAmong (structs_faults 0 ds) e → Told e
  in_structs e h = among_left (structs_faults 0 ds) _ e h

  in_data_names : (e : OrMemory TypingFault) {xs : List Named} → xs ≡ in_data → IsAmong (repeated xs) e → Told e
  in_data_names e same h =
      among_right (structs_faults 0 ds) _ e (among_left (repeated in_data) _ e (subst (λ (ys : List Named). IsAmong (repeated ys) e) same h))

  in_sort_names : (e : OrMemory TypingFault) {xs : List Named} → xs ≡ sort_names ds → IsAmong (repeated xs) e → Told e
  in_sort_names e same h =
      among_right (structs_faults 0 ds) _ e (among_right (repeated in_data) _ e (subst (λ (ys : List Named). IsAmong (repeated ys) e) same h))

pub returns-in_err-definitions : goal.returns-in_err-definitions
returns-in_err-definitions c =
    let h = in_structs (map sort_declaration_form c.args.sorts.now) c.in_err-definitions.field-0.0 c.in_err-definitions.ensures in
    search rules

pub returns-in_err-names : goal.returns-in_err-names
returns-in_err-names c =
    let h =
    in_data_names (map sort_declaration_form c.args.sorts.now) c.in_err-names.field-0.0
    (ap entry_names c.deref.ensures.value ∙ c.in_ok-definitions.ensures.data_names) c.in_err-names.ensures in
    search rules

pub returns-in_err-sorts : goal.returns-in_err-sorts
returns-in_err-sorts c =
    let h =
    in_sort_names (map sort_declaration_form c.args.sorts.now) c.in_err-sorts.field-0.0
    (ap entry_names (c.deref-2).ensures.value ∙ c.in_ok-definitions.ensures.sort_names) c.in_err-sorts.ensures in
    search rules

pub returns : goal.returns
returns c =
    let ds = map sort_declaration_form c.args.sorts.now in
    let read = c.in_ok-definitions.ensures in
    let in_names = ap entry_values c.deref.ensures.value ∙ read.data_values in
    let names = c.in_ok-names.ensures in
    let sorts = c.in_ok-sorts.ensures in
    record {
      clear = read.clear;
      data_apart = ap repeated (sym (ap entry_names c.deref.ensures.value ∙ read.data_names)) ∙ names.0;
      sorts_apart = ap repeated (sym (ap entry_names (c.deref-2).ensures.value ∙ read.sort_names)) ∙ sorts.0;
      definitions = λ x.
          ap (option_map shown) (sorts.1 x)
          ∙ (sym (first-map shown (entry_values (c.deref-2).result.now) x)
          ∙ ap (λ (es : List (Name × shapes.Definition)). first es x) (ap (λ es. shown_entries (entry_values es)) (c.deref-2).ensures.value ∙ read.sorts));
      enumerators = enumerators_agree c.deref.result.now (map erased_declaration ds) (entry_of c.in_ok-names.names) names.0 names.1 in_names;
      recognisers = recognisers_agree c.deref.result.now (map erased_declaration ds) (entry_of c.in_ok-names.names) names.0 names.1 in_names;
    }
