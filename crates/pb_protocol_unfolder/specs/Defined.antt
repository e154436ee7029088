-- What names stand for in sets of steps by the definitions of a protocol.
use Rattle.std.specs.Prelude.{◌≡◌, Bool, true, false, ◌&&◌, if◌then◌else◌, List, [], ◌∷◌, map}
use Rattle.std.specs.Prelude.{Option, Some, None, string_bytes}
use Rattle.std.specs.Borrow.{Bor}
use Rattle.pb_text_tree.specs.declared.name.Name as declared_name
use Rattle.pb_text_meaning.specs.Syntax.{Name, same_name, Variable, Term}
use Rattle.pb_protocol_folding.specs.View.{term_of}
use Rattle.pb_protocol_tree.specs.declared.protocol.Definition as declared_definition
use Rattle.pb_protocol_tree.specs.Form.{definition_form}
use Rattle.pb_protocol_meaning.specs.Syntax.{Definition}
use Rattle.pb_protocol_meaning.specs.Erase.{erased_definition}
use Rattle.pb_protocol_unfolder.specs.declared.defined.Resolved as declared_resolved
use Rattle.pb_protocol_unfolder.specs.declared.defined.Resolved.TheVariants as resolved

abbrev pub has_no_parameters : List Variable → Bool
has_no_parameters [] = true
has_no_parameters (x ∷ xs) = false

-- a term as it stands, and for a name what that stands for
abbrev pub said_by : (Name → Term) → Term → Term
said_by look (Term.Named x) = look x
said_by look t = t

-- one more definition
abbrev pub with_definition : (Name → Term) → Definition → Name → Term
with_definition look d x =
    if same_name d.name x && has_no_parameters d.parameters then said_by look d.term else look x

-- each may name those before it
abbrev pub standing_by : (Name → Term) → List Definition → Name → Term
standing_by look [] = look
standing_by look (d ∷ ds) = standing_by (with_definition look d) ds

-- a name that no definition has stands for itself
abbrev pub stands_for : List Definition → Name → Term
stands_for ds = standing_by (λ x. Term.Named x) ds

-- ---- as the code holds it

abbrev pub definitions_said : List declared_definition.Definition → List Definition
definitions_said ds = map erased_definition (map definition_form ds)

abbrev pub term_defined : declared_resolved.Resolved → Term
term_defined (resolved.Term x) = term_of x.now
term_defined (resolved.Name x) = Term.Named (string_bytes x.now.text)

-- the name that a term is, if it is one
abbrev pub is_named : Term → Bool
is_named (Term.Named x) = true
is_named t = false

abbrev pub IsNameIn : Option (Bor declared_name.Name) → Term → Type 0
IsNameIn None t = is_named t ≡ false
IsNameIn (Some x) t = t ≡ Term.Named (string_bytes x.now.text)
