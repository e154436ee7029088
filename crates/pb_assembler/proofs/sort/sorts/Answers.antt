use Rattle.std.proofs.Common.{◌≡◌, ◌+◌, ◌∙◌, List, Vec, Global, ap, drop, map, subst, sym, true, string_bytes}
use Rattle.std.specs.List.{list_all}
use Rattle.pb_text_tree.specs.declared.sort.Enumerator.{Enumerator}
use Rattle.pb_text_tree.specs.declared.sort.Sort.{Sort}
use Rattle.pb_text_tree.specs.Form.{sort_form}
use Rattle.pb_text_meaning.specs.Erase.{erased_sort}
use Rattle.pb_bytecode.specs.Names.{is_module_name}
use Rattle.pb_bytecode.specs.declared.sort.Sort as bytecode
use Rattle.pb_assembler.specs.Compiled.{IsSort}
use Rattle.pb_assembler.proofs.Sorts.{AreMade, fits_next, struct_fits, struct_next, alias_next}
use Rattle.pb_assembler.proofs.sort.sorts.Goals as goal
use Rattle.pb_assembler.proofs.sort.sorts.Goals.{in-Struct+in_ok-enumerators-in-Struct+in_ok-push-in-Struct, in-Alias}

pub enumerator_names-requires : goal.enumerator_names-requires
enumerator_names-requires c =
    let fits = subst (λ (s : Sort). IsSort (erased_sort (sort_form s))) c.in-Struct.is (fits_next c.loop-declaration-test.true c.declaration-item.is c.loop-declaration.invariant) in
    subst (λ (es : List Enumerator). list_all (λ (e : Enumerator). is_module_name (string_bytes e.name.text)) es ≡ true) (sym c.deref.ensures.value)
    (struct_fits c.in-Struct.enumerators.items fits).1

pub loop-declaration-preserved : goal.loop-declaration-preserved
loop-declaration-preserved c =
    let all = c.args.declarations.now in
    let Made : Vec bytecode.Sort Global → Type 0 = λ v. AreMade all (drop (c.loop-declaration.declaration-index + 1) all) v.items in
    elim c.match-declaration.branch [
      | in-Struct+in_ok-enumerators-in-Struct+in_ok-push-in-Struct w ↦
          subst Made (sym w.sorts-is)
          (struct_next c.loop-declaration-test.true c.declaration-item.is c.loop-declaration.invariant w.in-Struct.enumerators.items _
          (ap (λ (s : Sort). erased_sort (sort_form s)) w.in-Struct.is)
          (w.in_ok-enumerators-in-Struct.ensures ∙ ap (λ (es : List Enumerator). map (λ (e : Enumerator). string_bytes e.name.text) es) w.deref.ensures.value)
          w.in_ok-push-in-Struct.ensures.items)
      | in-Alias w ↦
          subst Made (sym w.sorts-is)
          (alias_next c.loop-declaration-test.true c.declaration-item.is c.loop-declaration.invariant (ap (λ (s : Sort). erased_sort (sort_form s)) w.in-Alias.is))
    ]
