-- What the tables say of a sort.
use Rattle.std.proofs.Common.{◌≡◌, ℕ, suc, length, map, sym, ◌∙◌, ap}
use Rattle.std.specs.Prelude.{Option, None}
use Rattle.std.specs.Option.{option_map}
use Rattle.std.proofs.Math.Path.{fun_ext}
use Rattle.std.specs.HashMap.{IsEmpty}
use Rattle.std.proofs.lemmas.List.{length-map}
use Rattle.pb_sorts.specs.declared.carrier.Range.{Range}
use Rattle.pb_text_tree.specs.declared.spec.Spec as ast
use Rattle.pb_text_tree.specs.Form.{spec_form, sort_declaration_form}
use Rattle.pb_text_meaning.specs.Syntax.{Name}
use Rattle.pb_text_meaning.specs.Erase.{erase, erased_declaration}
use Rattle.pb_typing_declarations.specs.declared.definition.Definition.{Definition}
use Rattle.pb_typing_declarations.specs.declared.definition.DataName.{DataName}
use Rattle.pb_typing_declarations.specs.Shapes.{End, end_within, end_of, base_of, first, range_bounds}
use Rattle.pb_typing_declarations.specs.Tables.{Table}
use Rattle.pb_typing_declarations.specs.Entries.{definition_in, range_in, range_shown}
use Rattle.pb_typing_declarations.specs.Agreement.{AreTables}
use Rattle.pb_typing_declarations.proofs.Filling.{none_in}

erased_length : (spec : ast.Spec) → length (erase (spec_form spec)).sorts ≡ length spec.sorts.items
erased_length spec = length-map (map sort_declaration_form spec.sorts.items) erased_declaration ∙ length-map spec.sorts.items sort_declaration_form

module _ (spec : ast.Spec) (sorts : Table Definition) (ranges : Table Range) (names : Table DataName)
    (equations : Table ℕ) (agree : AreTables (erase (spec_form spec)) sorts ranges names equations) where
  -- the end of a chain through as many aliases as there are sorts
  pub end_is : (n : ℕ) (s : Name) (e : End) → n ≡ length spec.sorts.items → e ≡ end_within (suc n) (range_in ranges) (definition_in sorts) s → e ≡ end_of (erase (spec_form spec)) s
  end_is n s e are is =
      is ∙ (ap (λ m. end_within (suc m) (range_in ranges) (definition_in sorts) s) (are ∙ sym (erased_length spec))
      ∙ (ap (λ bounds. end_within (suc (length (erase (spec_form spec)).sorts)) bounds (definition_in sorts) s) (fun_ext agree.bounds)
      ∙ ap (λ ds. end_within (suc (length (erase (spec_form spec)).sorts)) (first (range_bounds (erase (spec_form spec)).ranges)) ds s) (fun_ext agree.definitions)))

  -- the same without ranges
  pub base_is : (none : Table Range) (n : ℕ) (s : Name) (e : End) → IsEmpty none → n ≡ length spec.sorts.items
      → e ≡ end_within (suc n) (range_in none) (definition_in sorts) s → e ≡ base_of (erase (spec_form spec)) s
  base_is none n s e empty are is =
      is ∙ (ap (λ m. end_within (suc m) (range_in none) (definition_in sorts) s) (are ∙ sym (erased_length spec))
      ∙ (ap (λ (look : Name → Option Range). end_within (suc (length (erase (spec_form spec)).sorts)) (λ x. option_map range_shown (look x)) (definition_in sorts) s) (none_in none empty)
      ∙ ap (λ ds. end_within (suc (length (erase (spec_form spec)).sorts)) (λ r. None) ds s) (fun_ext agree.definitions)))
