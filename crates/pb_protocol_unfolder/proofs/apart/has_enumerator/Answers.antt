use Rattle.std.proofs.Common.{◌∙◌, sym, ap, List, map}
use Rattle.std.specs.List.{list_any}
use Rattle.pb_text_tree.specs.declared.sort.Sort.{Sort}
use Rattle.pb_text_tree.specs.Form.{sort_form}
use Rattle.pb_text_meaning.specs.Syntax.{Name, same_name}
use Rattle.pb_text_meaning.specs.Erase.{erased_sort}
use Rattle.pb_protocol_folding.specs.Names.{names_in}
use Rattle.pb_protocol_unfolder.specs.Apart.{enumerator_bytes}
use Rattle.pb_protocol_unfolder.proofs.ApartLemmas.{struct-names}
use Rattle.pb_protocol_unfolder.proofs.apart.has_enumerator.Goals as goal

pub returns-in-Struct : goal.returns-in-Struct
returns-in-Struct c =
    let x = c.args.name.now in
    c.is_enumerator.ensures
    ∙ ap (λ (xs : List Name). list_any (same_name x) xs) (ap (map enumerator_bytes) c.deref.ensures.value ∙ struct-names c.in-Struct.enumerators.items)
    ∙ ap (λ (s : Sort). list_any (same_name x) (names_in (erased_sort (sort_form s)))) (sym c.in-Struct.is)
