-- Scopes in which names stand for values alone.
use Rattle.std.specs.Prelude.{Bool, true, false}
use Rattle.pb_protocol_unfolder_terms.specs.declared.scope.TermScope as declared_scope
use Rattle.pb_protocol_unfolder_terms.specs.declared.scope.TermScope.TheVariants.{Empty, Values', Arguments'}

-- names stand for values, and not for the arguments of a definition
abbrev pub has_values : declared_scope.TermScope → Bool
has_values Empty = true
has_values (Values' variables values p outer) = has_values outer
has_values (Arguments' parameters arguments definitions p user) = false
