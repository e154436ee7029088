use Rattle.std.proofs.Common.{◌≡◌, map, drop}
use Rattle.pb_text_meaning.specs.Syntax as syntax
use Rattle.pb_protocol_unfolding.specs.PutIn as spec
use Rattle.pb_protocol_unfolder_terms.specs.Contexts.{state_variable_of, terms_count}
use Rattle.pb_protocol_unfolder_terms.proofs.meant.variable_at.Given as goal

abbrev pub invariant-loop-variable : goal.invariant-loop-variable
invariant-loop-variable l =
    (sorts : syntax.Spec) (ts : syntax.Terms) → terms_count ts ≡ l.count
    → spec.reads sorts (map state_variable_of l.variables) l.name ts
    ≡ spec.reads sorts (map state_variable_of (drop l.variable-index l.variables)) l.name ts
