use Rattle.std.proofs.Common.{◌≡◌, ◌∙◌, ◌-◌, sym, ap, map, take, arith}
use Rattle.std.specs.List.{slice_get}
use Rattle.std.specs.Prelude.{◌&&◌, if◌then◌else◌}
use Rattle.pb_text_meaning.specs.Syntax.{Spec, Terms, same_name}
use Rattle.pb_protocol_unfolding.specs.PutIn.{Forms, are_as_many, with_definitions}
use Rattle.pb_protocol_unfolder_terms.specs.View.{variable_of}
use Rattle.pb_protocol_unfolder_terms.specs.Contexts.{defined_term, definition_of, terms_count}
use Rattle.pb_protocol_unfolder_terms.proofs.ContextLemmas.{definition-there, definition-next}
use Rattle.pb_protocol_unfolder_terms.proofs.meant.definition_at.Goals as goal
use Rattle.pb_protocol_unfolder_terms.proofs.meant.definition_at.Goals.{After-is_meant}

-- by the definition at hand, if it is meant, else by those before it
definition-here : (c : After-is_meant) (sorts : Spec) (base : Forms) (ts : Terms) → terms_count ts ≡ c.args.count
    → with_definitions sorts base (take c.args.limit (map definition_of c.args.definitions.now)) c.args.name.now ts
    ≡ (if c.is_meant.result then defined_term sorts (with_definitions sorts base (take (c.loop-place.place - 1) (map definition_of c.args.definitions.now)))
    (slice_get (map definition_of c.args.definitions.now) (c.loop-place.place - 1)) ts
    else with_definitions sorts base (take (c.loop-place.place - 1) (map definition_of c.args.definitions.now)) c.args.name.now ts)
definition-here c sorts base ts e =
    let d = c.index-definitions-place.result in
    c.loop-place.invariant sorts base ts e
    ∙ definition-next sorts base (map definition_of c.args.definitions.now) c.loop-place.place (c.loop-place.place - 1) (definition_of d) c.args.name.now ts (omega (arith, c.loop-place-test.true))
    (definition-there c.args.definitions.now (c.loop-place.place - 1) d (omega (arith, c.requires, c.loop-place.auto.place, c.loop-place-test.true)) c.index-definitions-place.is)
    (sym (ap (λ vs. same_name d.name.now c.args.name.now && are_as_many (map variable_of vs) ts) c.deref.ensures.value) ∙ sym (c.is_meant.ensures.meant ts e))

pub returns-then-is_meant-clause-meant : goal.returns-then-is_meant-clause-meant
returns-then-is_meant-clause-meant c = λ sorts base ts e.
    rw c.if-is_meant.true at (definition-here (goal.at.returns-then-is_meant-clause-meant c).After-is_meant sorts base ts e)

pub loop-place-preserved : goal.loop-place-preserved
loop-place-preserved c = λ sorts base ts e.
    rw c.if-is_meant.false at (definition-here (goal.at.loop-place-preserved c).After-is_meant sorts base ts e)
