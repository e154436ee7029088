use Rattle.std.proofs.Common.{◌≡◌, ◌+◌, ◌∙◌, sym, ap, map, drop, List, ℕ, Some}
use Rattle.std.specs.Prelude.{◌&&◌, if◌then◌else◌, string_bytes}
use Rattle.pb_text_meaning.specs.Syntax.{Spec, Terms, same_name}
use Rattle.pb_protocol_unfolding.specs.PutIn.{are_as_many, read, reads}
use Rattle.pb_protocol_unfolder_terms.specs.View.{variable_of}
use Rattle.pb_protocol_unfolder_terms.specs.Contexts.{state_variable_of, terms_count}
use Rattle.pb_protocol_unfolder_terms.proofs.ContextLemmas.{variable-next}
use Rattle.pb_protocol_unfolder_terms.proofs.meant.variable_at.Goals as goal
use Rattle.pb_protocol_unfolder_terms.proofs.meant.variable_at.Goals.{After-is_meant}

-- by the variable at hand, if it is meant, else by those behind it
variable-here : (c : After-is_meant) (sorts : Spec) (ts : Terms) → terms_count ts ≡ c.args.count
    → reads sorts (map state_variable_of c.args.variables.now) c.args.name.now ts
    ≡ (if c.is_meant.result then Some (read sorts (state_variable_of c.variable-item.result).name (state_variable_of c.variable-item.result).indices ts)
    else reads sorts (map state_variable_of (drop (c.loop-variable.variable-index + 1) c.args.variables.now)) c.args.name.now ts)
variable-here c sorts ts e =
    c.loop-variable.invariant sorts ts e
    ∙ variable-next sorts c.args.variables.now c.loop-variable.variable-index c.variable-item.result c.args.name.now ts c.loop-variable-test.true c.variable-item.is
    (sym (ap (λ (n : List ℕ). same_name n c.args.name.now && are_as_many (map variable_of c.deref.result.now) ts) c.as_str.ensures.value
    ∙ ap (λ vs. same_name (string_bytes c.variable-item.result.name.now.text) c.args.name.now && are_as_many (map variable_of vs) ts) c.deref.ensures.value)
    ∙ sym (c.is_meant.ensures.meant ts e))

pub returns-then-is_meant-clause-meant : goal.returns-then-is_meant-clause-meant
returns-then-is_meant-clause-meant c = λ sorts ts e.
    rw c.if-is_meant.true at (variable-here (goal.at.returns-then-is_meant-clause-meant c).After-is_meant sorts ts e)

pub loop-variable-preserved : goal.loop-variable-preserved
loop-variable-preserved c = λ sorts ts e.
    rw c.if-is_meant.false at (variable-here (goal.at.loop-variable-preserved c).After-is_meant sorts ts e)
