-- What names stand for, as the program holds it.
use denote.Ref.{Bor}
use Rattle.std.specs.Prelude.{Bool, false, ◌||◌, List, map, Option}
use Rattle.std.specs.Option.{option_map}
use Rattle.std.specs.List.{list_any}
use Rattle.pb_text_meaning.specs.Syntax.{Name, same_name, Variable, Operator, Term}
use Rattle.pb_protocol_packing.specs.Said as packing
use Rattle.pb_protocol_packing.specs.Said.{Scope, hidden, said}
use Rattle.pb_protocol_packer.specs.View.{term_of, name_bytes, variables_in}
use Rattle.pb_protocol_packer.specs.Members.{kind_said}
use Rattle.pb_protocol_packer.specs.declared.scope.Digit as declared_digit
use Rattle.pb_protocol_packer.specs.declared.scope.Known as declared_known
use Rattle.pb_protocol_packer.specs.declared.scope.Packing as declared_packing
use Rattle.pb_protocol_packer.specs.declared.scope.Hiding as declared_hiding
use Rattle.pb_protocol_packer.specs.declared.scope.Hiding.TheVariants.{Outermost, Inner'}

abbrev pub digit_of : declared_digit.Digit → packing.Digit
digit_of d = record {
  kind = kind_said d.member.now.kind;
  low = d.member.now.low;
  term = term_of d.term;
}

-- a digit behind a reference
abbrev pub digit_by : Bor declared_digit.Digit → packing.Digit
digit_by d = digit_of d.now

abbrev pub known_of : declared_known.Known → Name × Option packing.Digit
known_of k = (name_bytes k.name.now, option_map digit_of k.digit)

abbrev pub table_of : List declared_known.Known → Scope
table_of = map known_of

-- within variables around
abbrev pub scope_of : declared_hiding.Hiding → Scope → Scope
scope_of Outermost σ = σ
scope_of (Inner' groups p outer) σ = hidden (variables_in groups.now) (scope_of outer σ)

abbrev pub scope_in : declared_packing.Packing → declared_hiding.Hiding → Scope
scope_in packing hiding = scope_of hiding (table_of packing.table.now)

-- the variable has the name
abbrev pub is_named : Name → Variable → Bool
is_named x y = same_name y.name x

-- a variable around has the name
abbrev pub is_hidden : declared_hiding.Hiding → Name → Bool
is_hidden Outermost x = false
is_hidden (Inner' groups p outer) x =
    list_any (is_named x) (variables_in groups.now) || is_hidden outer x

-- an operator of arithmetic, and what the operand behind it says
abbrev pub operation_said : Scope → Operator × Term → Operator × Term
operation_said σ o = (o.0, said σ o.1)
