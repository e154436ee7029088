use Rattle.std.proofs.Common.{arith, ◌≡◌, ◌∷◌, [], ◌++◌, map, length, sym, ap, ◌∙◌, append_assoc, append-nil}
use Rattle.std.proofs.lemmas.List.{map-append}
use Rattle.std.specs.Vec.Iter.{into_iter_items}
use Rattle.pb_protocol_tree.specs.Form.{step_value_form}
use Rattle.pb_model_text.specs.Links.{step_value_of}
use Rattle.pb_model_text.proofs.InstanceLemmas.{values-are, nothing-left}
use Rattle.pb_model_text.proofs.instances.step_values.Goals as goal

pub arguments-preserved : goal.arguments-preserved
arguments-preserved c =
    let at = c.arguments in
    let x = c.in-Some.argument in
    let steps : into_iter_items at.argument-iterator ≡ x ∷ into_iter_items c.next.new.self = c.in-Some.ensures.steps.0 in
    let before : map step_value_form at.values.items ≡ map step_value_of at.yielded = at.invariant.1 in
    let mapped : map step_value_form c.push.new.self.items ≡ map step_value_of (at.yielded ++ x ∷ []) =
    ap (map step_value_form) c.in_ok-push.ensures.items ∙ map-append step_value_form at.values.items (c.step_value.result ∷ [])
    ∙ ap (λ v. map step_value_form at.values.items ++ v ∷ []) c.step_value.ensures ∙ ap (λ v. v ++ step_value_of x ∷ []) before ∙ sym (map-append step_value_of at.yielded (x ∷ [])) in (
      append_assoc at.yielded (x ∷ []) _ ∙ rw (← steps) at.invariant.0,
      mapped,
      let was = at.invariant.2 in
          let gone = c.in-Some.ensures.steps.1 in
          let short = ap length steps in
          omega arith,
    )

pub returns : goal.returns
returns c =
    let at = c.arguments in
    let none = c.in-None.ensures.steps in
    let empty : into_iter_items at.argument-iterator ≡ [] = nothing-left _ (sym at.invariant.2 ∙ none.0) in
    let all : at.yielded ≡ c.args.arguments.items = sym (append-nil at.yielded) ∙ rw empty at at.invariant.0 ∙ c.into_iter-argument-iterator.ensures.into_iter_gives.0 in
    at.invariant.1 ∙ ap (map step_value_of) all ∙ values-are c.args.arguments.items
