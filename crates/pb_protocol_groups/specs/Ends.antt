-- What stands at the end of a sort's chain of aliases, as the program holds it.
use denote.Ref.{Bor}
use Rattle.std.specs.Prelude.{pos, Bool, false, true, [], ◌∷◌, length}
use Rattle.pb_base_values.specs.Carrier.{Carrier, of_bool, interval, numbers_from}
use Rattle.pb_text_tree.specs.declared.sort.Range as tree_range
use Rattle.pb_text_tree.specs.declared.sort.Sort as tree_sort
use Rattle.pb_text_tree.specs.Form.{sort_form}
use Rattle.pb_text_meaning.specs.Erase.{erased_sort}
use Rattle.pb_text_meaning.specs.Syntax.{Name, Variable, Sort, Range}
use Rattle.pb_protocol_packer.specs.Declarations.{syntax_range}
use Rattle.pb_protocol_packer.specs.View.{name_bytes}
use Rattle.pb_protocol_packing.specs.Groups.{lowest}
use Rattle.pb_protocol_packing.specs.Packing.{Member}
use Rattle.pb_protocol_packing.specs.Numbers as numbers
use Rattle.pb_protocol_packing.specs.Numbers.{Kind}
use Rattle.pb_protocol_groups.specs.declared.end.End as declared_end
use Rattle.pb_protocol_groups.specs.declared.end.End.TheVariants as end
use Rattle.pb_protocol_groups.specs.declared.end.Link as declared_link
use Rattle.pb_protocol_groups.specs.declared.end.Link.TheVariants as link
use Rattle.pb_protocol_groups.specs.Names.{enumerators_said, names_of_enumerators}

-- how values are written there
abbrev pub kind_at : declared_end.End → Kind
kind_at (end.Range r) = numbers.Kind.Whole
kind_at end.Bool = numbers.Kind.Boolean
kind_at (end.Struct es) = numbers.Kind.Enumeration (names_of_enumerators es.now)
kind_at end.Nothing = numbers.Kind.Whole

-- and which there are
abbrev pub carrier_at : declared_end.End → Carrier
carrier_at (end.Range r) = interval r.now.low r.now.high
carrier_at end.Bool = of_bool false ∷ of_bool true ∷ []
carrier_at (end.Struct es) = numbers_from (pos 0) (length (enumerators_said es.now))
carrier_at end.Nothing = []

-- behind one sort of a chain
abbrev pub kind_behind : declared_link.Link → (Name → Kind) → Kind
kind_behind (link.Ends e) target = kind_at e
kind_behind (link.GoesOn s) target = target (name_bytes s.now)

abbrev pub carrier_behind : declared_link.Link → (Name → Carrier) → Carrier
carrier_behind (link.Ends e) target = carrier_at e
carrier_behind (link.GoesOn s) target = target (name_bytes s.now)

-- whether a chain has an end behind one sort of it
abbrev pub ends_behind : declared_link.Link → (Name → Bool) → Bool
ends_behind (link.Ends e) target = true
ends_behind (link.GoesOn s) target = target (name_bytes s.now)

-- a range and a sort behind references
abbrev pub range_by : Bor tree_range.Range → Range
range_by r = syntax_range r.now

abbrev pub sort_by : Bor tree_sort.Sort → Sort
sort_by s = erased_sort (sort_form s.now)

-- a variable whose sort's chain has this end
abbrev pub member_at : declared_end.End → Variable → Member
member_at e x = record {
  variable = x;
  kind = kind_at e;
  low = lowest (carrier_at e);
  size = length (carrier_at e);
}
