-- The sorts of a protocol's tree, and their values as the code has them.
use denote.Ref.{Bor}
use Rattle.std.specs.Prelude.{Bool, List, map, string_bytes}
use Rattle.pb_base_values.specs.Carrier.{Carrier, numbers_from}
use Rattle.pb_text_tree.specs.declared.sort.Enumerator as declared_enumerator
use Rattle.pb_text_tree.specs.declared.sort.Sort as declared_sort
use Rattle.pb_text_tree.specs.declared.sort.SortDeclaration as declared_declaration
use Rattle.pb_text_tree.specs.declared.sort.Range as declared_range
use Rattle.pb_text_tree.specs.Form.{enumerator_form, sort_form, sort_declaration_form, range_form}
use Rattle.pb_text_meaning.specs.Syntax.{Name, same_name, Enumerator, Sort, SortDeclaration, Range, Spec}
use Rattle.pb_text_meaning.specs.Erase.{erased_enumerator, erased_sort, erased_declaration}
use Rattle.pb_text_meaning.specs.Erase.{erased_range}
use Rattle.pb_protocol_tree.specs.declared.protocol.Protocol as declared_protocol
use Rattle.pb_protocol_meaning.specs.Erase.{protocol_of}
use Rattle.pb_protocol_meaning.specs.Steps.{data_of}
use Rattle.pb_protocol_scalar_sets.specs.declared.carrier.Carrier as declared_carrier
use Rattle.pb_protocol_scalar_sets.specs.declared.carrier.Link as declared_link
use Rattle.pb_protocol_scalar_sets.specs.declared.carrier.Link.TheVariants as link

-- the sorts and ranges of a protocol
abbrev pub spec_of : declared_protocol.Protocol → Spec
spec_of m = data_of (protocol_of m)

abbrev pub declarations_in : List declared_declaration.SortDeclaration → List SortDeclaration
declarations_in ds = map erased_declaration (map sort_declaration_form ds)

abbrev pub ranges_in : List declared_range.Range → List Range
ranges_in rs = map erased_range (map range_form rs)

abbrev pub enumerators_in : List declared_enumerator.Enumerator → List Enumerator
enumerators_in es = map erased_enumerator (map enumerator_form es)

abbrev pub enumerator_by : Bor declared_enumerator.Enumerator → Enumerator
enumerator_by e = erased_enumerator (enumerator_form e.now)

abbrev pub range_by : Bor declared_range.Range → Range
range_by r = erased_range (range_form r.now)

abbrev pub sort_by : Bor declared_sort.Sort → Sort
sort_by s = erased_sort (sort_form s.now)

-- the values of a sort
abbrev pub carrier_said : declared_carrier.Carrier → Carrier
carrier_said c = numbers_from c.low c.count

-- after one sort of a chain, by the values of the sorts after it
abbrev pub carrier_behind : declared_link.Link → (Name → Carrier) → Carrier
carrier_behind (link.Ends c) target = carrier_said c
carrier_behind (link.GoesOn n) target = target (string_bytes n.now.text)

-- whether an enumerator has the name
abbrev pub is_named : Name → Enumerator → Bool
is_named x e = same_name e.name x
