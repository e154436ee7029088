use Rattle.std.proofs.Common.{◌≡◌, ◌++◌, ◌+◌, ℕ, List, [], ◌∷◌, drop, rules, map, sym, ap, subst, ◌∙◌, ◌≤◌, string_bytes}
use Rattle.std.specs.Prelude.{flat_map}
use Rattle.std.proofs.lemmas.Grind.{flat_map-append}
use Rattle.pb_base.specs.declared.limits.TheConstants.{MAX_STRUCTS}
use Rattle.pb_sorts.proofs.Places.{drop-at}
use Rattle.pb_text_tree.specs.declared.sort.SortDeclaration.{SortDeclaration}
use Rattle.pb_text_tree.specs.Form.{SortDeclarationForm, named, sort_form, sort_declaration_form}
use Rattle.pb_text_meaning.specs.Syntax.{Name}
use Rattle.pb_text_meaning.specs.Erase.{erased_sort, erased_declaration}
use Rattle.pb_typing_declarations.specs.Faults.{IsAmong}
use Rattle.pb_typing_declarations.specs.Shapes.{Definition, definition_of, number_behind, definitions_from}
use Rattle.pb_typing_declarations.specs.Tables.{entry_names, entry_values}
use Rattle.pb_typing_declarations.specs.Entries.{shown_entries, data_in, all_data}
use Rattle.pb_typing_declarations.specs.Declarations.{struct_faults, structs_faults, names_of_enumerator, enumerators_of_sort, all_enumerator_forms}
use Rattle.pb_typing_declarations.proofs.Parts.{among_first, first_clear}
use Rattle.pb_typing_declarations.proofs.Structs.{number_after, few_after, faults_next, names-pushed, grown, grown_by, shown-pushed, pair_path}
use Rattle.pb_typing_declarations.proofs.definition.read_definitions.Goals as goal

pub returns-in_err-definition : goal.returns-in_err-definition
returns-in_err-definition c =
    let l = c.loop-declaration in
    let x = c.declaration-item in
    let e = c.in_err-definition.field-0.0 in
    let h : IsAmong (structs_faults 0 (map sort_declaration_form c.args.sorts.now)) e =
    among_first _ (struct_faults l.number x.result.name.place (sort_form x.result.sort)) _ e
    (l.invariant.left ∙ faults_next c.args.sorts.now l.declaration-index l.number x.result c.loop-declaration-test.true x.is) c.in_err-definition.ensures in
    search rules

pub loop-declaration-preserved : goal.loop-declaration-preserved
loop-declaration-preserved c =
    let ds = c.args.sorts.now in
    let k = c.loop-declaration.declaration-index in
    let n = c.loop-declaration.number in
    let d = c.declaration-item.result in
    let rest : List SortDeclaration = drop (k + 1) ds in
    let is = c.in_ok-definition.ensures in
    let old = c.loop-declaration.definitions.items in
    let new = c.push.new.self.items in
    let names = c.loop-declaration.names.items in
    let m = number_behind n (erased_sort (sort_form d.sort)) in
    let number : n + c.struct_count-number.result ≡ m = ap (λ (v : ℕ). n + v) c.struct_count-number.ensures ∙ number_after n (sort_form d.sort) c.in_ok-definition.definition is.is in
    let following : drop k ds ≡ d ∷ rest = drop-at ds k d c.loop-declaration-test.true c.declaration-item.is in
    let inv = c.loop-declaration.invariant in
    let pushed = c.in_ok-push.ensures.items in
    record {
      few = subst (λ (v : ℕ). v ≤ MAX_STRUCTS) (sym number) (few_after n d.name.place (sort_form d.sort) inv.few is.clear);
      left =
          first_clear _ _ _ (inv.left ∙ faults_next ds k n d c.loop-declaration-test.true c.declaration-item.is) is.clear
          ∙ ap (λ (v : ℕ). structs_faults v (map sort_declaration_form rest)) (sym number);
      sort_names =
          grown _ (entry_names old) (entry_names new) _ (named d.name)
          (inv.sort_names ∙ ap (λ (xs : List SortDeclaration). entry_names old ++ map (λ (f : SortDeclarationForm). f.name) (map sort_declaration_form xs)) following)
          (names-pushed old new _ pushed ∙ ap (λ (t : Name). entry_names old ++ (record { place = d.name.place; text = t } ∷ [])) c.deref.ensures);
      sorts =
          grown _ (shown_entries (entry_values old)) (shown_entries (entry_values new)) _ (string_bytes d.name.text, definition_of n (erased_sort (sort_form d.sort)))
          (inv.sorts ∙ ap (λ (xs : List SortDeclaration). shown_entries (entry_values old) ++ definitions_from n (map erased_declaration (map sort_declaration_form xs))) following)
          (shown-pushed old new _ pushed ∙ ap (λ (v : Name × Definition). shown_entries (entry_values old) ++ (v ∷ [])) (pair_path c.deref.ensures is.is))
          ∙ ap (λ (v : ℕ). shown_entries (entry_values new) ++ definitions_from v (map erased_declaration (map sort_declaration_form rest))) (sym number);
      data_names =
          grown_by _ (entry_names names) (entry_names c.read_definition.new.names.items) (flat_map names_of_enumerator (enumerators_of_sort (sort_form d.sort))) _
          (inv.data_names ∙ (ap (λ (xs : List SortDeclaration). entry_names names ++ flat_map names_of_enumerator (all_enumerator_forms (map sort_declaration_form xs))) following
          ∙ ap (λ xs. entry_names names ++ xs) (flat_map-append names_of_enumerator (enumerators_of_sort (sort_form d.sort)) (all_enumerator_forms (map sort_declaration_form rest)))))
          is.adds.names;
      data_values =
          grown_by _ (entry_values names) (entry_values c.read_definition.new.names.items) (data_in n (erased_sort (sort_form d.sort))) _
          (inv.data_values ∙ ap (λ (xs : List SortDeclaration). entry_values names ++ all_data n (map erased_declaration (map sort_declaration_form xs))) following)
          is.adds.values
          ∙ ap (λ (v : ℕ). entry_values c.read_definition.new.names.items ++ all_data v (map erased_declaration (map sort_declaration_form rest))) (sym number);
    }
