-- What the code's values mean, in the words of the definitions.
use Rattle.std.specs.Prelude.{List, [], ◌++◌, map, reverse, string_bytes, Option, Some, None}
use denote.Ref.{Bor}
use Rattle.pb_text_tree.specs.declared.name.Name as declared_name
use Rattle.pb_text_tree.specs.Form.{variable_forms}
use Rattle.pb_text_meaning.specs.Syntax.{Name, Variable}
use Rattle.pb_text_meaning.specs.Erase.{erased_variables}
use Rattle.pb_protocol_symmetry.specs.Permutation.{Kind, Element, Plain}
use Rattle.pb_protocol_symmetry.specs.Kinds.{Signature, extended}
use Rattle.pb_protocol_scalar_sets.specs.declared.kind.Kind as declared_kind
use Rattle.pb_protocol_scalar_sets.specs.declared.kind.Kind.TheVariants as kind
use Rattle.pb_protocol_scalar_sets.specs.declared.variable.Variable as declared_variable
use Rattle.pb_protocol_scalar_sets.specs.declared.signature.Signature as declared_signature
use Rattle.pb_protocol_scalar_sets.specs.declared.signature.Known as declared_known
use Rattle.pb_protocol_scalar_sets.specs.declared.scope.Around as declared_around
use Rattle.pb_protocol_scalar_sets.specs.declared.scope.Around.TheVariants as around

abbrev pub kind_said : declared_kind.Kind → Kind
kind_said kind.Element = Element
kind_said kind.Plain = Plain

abbrev pub known_kind : Option declared_kind.Kind → Option Kind
known_kind None = None
known_kind (Some k) = Some (kind_said k)

-- the text of a name
abbrev pub text_of : Bor declared_name.Name → Name
text_of x = string_bytes x.now.text

-- the innermost variable first
abbrev pub scope_of : declared_around.Around → List Variable
scope_of around.Outermost = []
scope_of (around.Variables' groups p outer) =
    extended (erased_variables (variable_forms groups.now)) (scope_of outer)

-- ---- what is declared

abbrev pub variable_said : declared_variable.Variable → Variable
variable_said x = record { name = x.name.now; sort = x.sort.now }

abbrev pub signature_said : declared_signature.Signature → Signature
signature_said s = record {
  name = s.name.now;
  parameters = map variable_said s.parameters.items;
  kind = known_kind s.kind;
}

abbrev pub signature_behind : Option (Bor declared_signature.Signature) → Option Signature
signature_behind None = None
signature_behind (Some s) = Some (signature_said s.now)

-- the last definition first, and then the state variables
abbrev pub known_said : declared_known.Known → List Signature
known_said k =
    reverse (map signature_said k.definitions.now) ++ map signature_said k.state.now
