use Rattle.std.proofs.Common.{◌≡◌, ◌++◌, map, length}
use Rattle.std.specs.Prelude.{flat_map}
use Rattle.std.specs.Vec.Iter.{into_iter_items, into_iter_len}
use Rattle.pb_text_tree.specs.Form.{sort_declaration_form}
use Rattle.pb_protocol_tree.specs.Form.{bounds_form}
use Rattle.pb_model_text.specs.Links.{declared_sort_form}
use Rattle.pb_model_text.specs.Models.{declaration_in, bounds_in}
use Rattle.pb_model_text.proofs.model.apart.Given as goal

abbrev pub invariant-sorts : goal.invariant-sorts
invariant-sorts l = (l.yielded ++ into_iter_items l.sort-iterator ≡ into_iter_items l.initial.sort-iterator)
    × (map sort_declaration_form l.declarations.items ≡ map declaration_in (map declared_sort_form l.yielded))
    × (map bounds_form l.bounds.items ≡ flat_map bounds_in (map declared_sort_form l.yielded))
    × (into_iter_len l.sort-iterator ≡ length (into_iter_items l.sort-iterator))
