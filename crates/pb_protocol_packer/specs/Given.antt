-- Terms that variables get, as the program holds them.
use denote.Ref.{Bor}
use Rattle.std.specs.Prelude.{Bool, List, map, Option, is_some}
use Rattle.pb_text_tree.specs.declared.term.Term as tree
use Rattle.pb_text_meaning.specs.Syntax.{Name, Term}
use Rattle.pb_model_meaning.specs.Syntax.{Assignment}
use Rattle.pb_model_meaning.specs.Steps.{assigned_term}
use Rattle.pb_protocol_packing.specs.Packing.{Member}
use Rattle.pb_protocol_packer.specs.View.{term_of, name_bytes}
use Rattle.pb_protocol_packer.specs.declared.given.Given as declared_given

-- terms
abbrev pub terms_in : List tree.Term → List Term
terms_in = map term_of

-- a term behind a reference
abbrev pub term_by : Bor tree.Term → Term
term_by t = term_of t.now

abbrev pub given_of : declared_given.Given → Assignment
given_of g = record { variable = name_bytes g.name.now; term = term_of g.term }

abbrev pub given_in : List declared_given.Given → List Assignment
given_in = map given_of

-- what a variable of a group gets
abbrev pub new_in : List declared_given.Given → Member → Option Term
new_in given p = assigned_term (given_in given) p.variable.name

-- whether a variable of a group gets a term
abbrev pub is_given : (Name → Option Term) → Member → Bool
is_given new p = is_some (new p.variable.name)
