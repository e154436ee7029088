use Rattle.pb_protocol_tree.specs.Form.{protocol_form}
use Rattle.std.proofs.Common.{◌≡◌, ◌≤◌, ◌<◌, ◌∙◌, ◌++◌, ◌+◌, suc, ap, sym, arith, List, map, flat_map, drop, length, min}
use Rattle.std.proofs.lemmas.List.{append-nil, append_assoc}
use Rattle.std.proofs.lemmas.List.Folds.{flat_map-map}
use Rattle.pb_text_meaning.specs.Syntax.{Term, Variable}
use Rattle.pb_protocol_meaning.specs.Erase.{protocol_of}
use Rattle.pb_protocol_meaning.specs.Steps.{data_of}
use Rattle.pb_protocol_unfolding.specs.Written.{written_tuples}
use Rattle.pb_protocol_unfolder_steps.specs.Initial.{argument_term, indices_behind, indices_said, initial_terms_of, terms_at}
use Rattle.pb_protocol_unfolder_steps.proofs.RefusalLemmas.{part-of-all, refused}
use Rattle.pb_protocol_unfolder_steps.proofs.InitialLemmas.{one-more, nothing-left}
use Rattle.pb_protocol_unfolder_steps.specs.StepFaults.{IsFaultInValue, IsFaultInValues, IsTermOr, argument_form}
use Rattle.pb_protocol_unfolder_steps.proofs.StepFaultLemmas.{term-or}
use Rattle.std.proofs.Common.{Some}
use Rattle.std.specs.List.{slice_get}
use Rattle.std.specs.Prelude.{option_map}
use Rattle.std.proofs.lemmas.Option.{slice_get-map, slice_get-get_or}
use Rattle.pb_protocol_unfolder_steps.proofs.initial.Initial.values_of.Goals as goal
use Rattle.pb_protocol_unfolder_steps.proofs.initial.Initial.values_of.Goals.{After-push_values}

-- the variable and the value at hand
at-hand : (c : After-push_values)
    → (slice_get (map indices_behind c.args.variables.now) c.loop-at.at ≡ Some (indices_said c.index-variables-at.result.now))
    × (slice_get (map argument_form c.args.values.now) c.loop-at.at ≡ Some (argument_form c.index-values-at.result))
at-hand c =
    let xs = c.args.values.now in
    let k = c.loop-at.at in (
      slice_get-map indices_behind c.args.variables.now k
          ∙ ap (option_map indices_behind)
          (slice_get-get_or c.args.variables.now k c.index-variables-at.result (omega (arith, c.loop-at-test.true, c.min-at-end.ensures)) ∙ ap Some (sym c.index-variables-at.is)),
      slice_get-map argument_form xs k
          ∙ ap (option_map argument_form) (slice_get-get_or xs k c.index-values-at.result (omega (arith, c.loop-at-test.true, c.min-at-end.ensures)) ∙ ap Some (sym c.index-values-at.is)),
    )

pub loop-at-preserved : goal.loop-at-preserved
loop-at-preserved c =
    let m = protocol_of c.args.self.now in
    let x = c.index-values-at.result in
    let next : c.loop-at.at + 1 ≡ suc c.loop-at.at = omega arith in
    let rest = initial_terms_of m (map indices_behind (drop (c.loop-at.at + 1) c.args.variables.now)) (map argument_term (drop (c.loop-at.at + 1) c.args.values.now)) in
    ap (λ v. v ++ rest) c.in_ok-push_values.ensures.terms
    ∙ append_assoc (map argument_term c.loop-at.terms.items) (terms_at m (indices_said c.index-variables-at.result.now) (argument_term x)) rest
    ∙ ap (λ v. map argument_term c.loop-at.terms.items ++ v)
    (one-more m c.args.variables.now c.args.values.now c.loop-at.at (c.loop-at.at + 1) c.index-variables-at.result x next (omega (arith, c.loop-at-test.true, c.min-at-end.ensures))
    (omega (arith, c.min-at-end.ensures, c.loop-at-test.true)) c.index-variables-at.is c.index-values-at.is) ∙ c.loop-at.invariant

pub returns-clause-terms : goal.returns-clause-terms
returns-clause-terms c =
    let over : min (length c.args.variables.now) (length c.args.values.now) ≤ c.loop-at.at = omega (arith, c.loop-at-test.false, c.min-at-end.ensures) in
    sym (append-nil (map argument_term c.loop-at.terms.items))
    ∙ ap (λ v. map argument_term c.loop-at.terms.items ++ v)
    (sym (nothing-left (protocol_of c.args.self.now) c.args.variables.now c.args.values.now c.loop-at.at over)) ∙ c.loop-at.invariant

pub returns-in_err-push_values-clause-refused : goal.returns-in_err-push_values-clause-refused
returns-in_err-push_values-clause-refused c =
    let here = at-hand (goal.at.returns-in_err-push_values-clause-refused c).After-push_values in
    let F = protocol_form c.args.self.now in
    let ys = c.args.variables.now in
    let y = c.index-variables-at.result in
    let x = argument_form c.index-values-at.result in
    let f : List Variable → List (List Term) = written_tuples (data_of (protocol_of c.args.self.now)) in
    refused c.from_residual.result c.in_err-push_values.field-0.0 (IsTermOr (8192 < length (f (indices_said y.now))) (IsFaultInValue F (indices_said y.now) x))
    (IsTermOr (8192 < length (flat_map f (map indices_behind ys))) (IsFaultInValues F (map indices_behind ys) (map argument_form c.args.values.now))) c.from_residual.ensures.1
    (term-or _ _ _ _
    (λ more. omega (
      arith,
      more,
      part-of-all (λ z. f (indices_behind z)) ys c.loop-at.at y (omega (arith, c.loop-at-test.true, c.min-at-end.ensures)) c.index-variables-at.is,
      ap
          (λ (v : List (List Term)). length v) (flat_map-map f indices_behind ys),
    ))
    (λ r p o. (c.loop-at.at, indices_said y.now, x, here.0, here.1, o))) c.in_err-push_values.ensures.refused
