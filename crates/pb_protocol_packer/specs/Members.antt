-- The variables of a group, as the program holds them.
use Rattle.std.specs.Prelude.{nat_eq, nat_lt, Bool, true, ◌&&◌, List, [], ◌∷◌, map}
use Rattle.pb_text_meaning.specs.Syntax as syntax
use Rattle.pb_protocol_packing.specs.Numbers as numbers
use Rattle.pb_protocol_packing.specs.Packing as packing
use Rattle.pb_protocol_packing.specs.Packing.{capacity}
use Rattle.pb_protocol_packer.specs.View.{name_bytes, texts_of}
use Rattle.pb_protocol_packer.specs.declared.member.Kind as declared_kind
use Rattle.pb_protocol_packer.specs.declared.member.Kind.TheVariants as kind
use Rattle.pb_protocol_packer.specs.declared.member.Variable as declared_variable
use Rattle.pb_protocol_packer.specs.declared.member.Member as declared_member

abbrev pub kind_said : declared_kind.Kind → numbers.Kind
kind_said kind.Boolean = numbers.Kind.Boolean
kind_said (kind.Enumeration es) = numbers.Kind.Enumeration (texts_of es.items)
kind_said kind.Whole = numbers.Kind.Whole

abbrev pub syntax_variable : declared_variable.Variable → syntax.Variable
syntax_variable x = record { name = name_bytes x.name; sort = name_bytes x.sort }

abbrev pub member_of : declared_member.Member → packing.Member
member_of p = record {
  variable = syntax_variable p.variable;
  kind = kind_said p.kind;
  low = p.low;
  size = p.size;
}

abbrev pub members_said : List declared_member.Member → List packing.Member
members_said = map member_of

-- each variable counts as much as those behind it have values together, and they have some
abbrev pub are_weighted : List declared_member.Member → Bool
are_weighted [] = true
are_weighted (p ∷ ps) =
    nat_eq p.weight (capacity (members_said ps)) && (nat_lt 0 p.weight && are_weighted ps)
