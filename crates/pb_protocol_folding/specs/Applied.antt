-- What a function of folded arguments becomes.
use Rattle.std.specs.Prelude.{Bool, true, false, Option, Some, None}
use Rattle.pb_text_meaning.specs.Syntax.{Name, Term, Terms}
use Rattle.pb_protocol_folding.specs.Folding.{number}
use Rattle.pb_protocol_folding.specs.declared.application.Applied.{Applied}
use Rattle.pb_protocol_folding.specs.declared.application.Applied.TheVariants as applied

abbrev pub one : Term → Terms
one x = Terms.Then x Terms.NoTerms

abbrev pub two : Term → Term → Terms
two x y = Terms.Then x (one y)

abbrev pub applied_term : Applied → Name → Terms → Term
applied_term applied.Whole f xs = Term.Apply f xs
applied_term (applied.Number v) f xs = number v
applied_term (applied.Truth b) f xs = Term.Truth b

-- the second or the third of three arguments, or the whole
abbrev pub chosen_term : Option Bool → Term → Term → Term → Term
chosen_term (Some true) y z whole = y
chosen_term (Some false) y z whole = z
chosen_term None y z whole = whole
