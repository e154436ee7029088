use Rattle.std.proofs.Common.{◌≡◌, ◌≤◌, ◌<◌, ◌∙◌, ◌+◌, ◌++◌, ◌∷◌, [], List, Some, ap, sym, subst, arith, map, drop, length, get_or, min}
use Rattle.std.specs.List.{slice_get}
use Rattle.std.proofs.lemmas.List.{append-nil, append_assoc, map_push}
use Rattle.std.proofs.lemmas.Option.{slice_get-get_or}
use Rattle.pb_protocol_tree.specs.declared.protocol.Definition.{Definition}
use Rattle.pb_protocol_tree.specs.Form.{DefinitionForm, definition_form, protocol_form}
use Rattle.pb_protocol_constants.specs.Faults.{IsConstantFault, IsConstantsFault}
use Rattle.pb_protocol_constants.specs.Settled.{settled_by, HaveNumbersBy}
use Rattle.pb_protocol_constants.proofs.Lists.{at-place, left, no-number-left, none-is-left, one-less, one-number-less}
use Rattle.pb_protocol_constants.proofs.Refusals.{handed-on}
use Rattle.pb_protocol_constants.proofs.settled.settled_constants.Goals as goal

pub loop-at-init : goal.loop-at-init
loop-at-init c =
    let m = protocol_form c.args.constants.now in
    let ps = c.args.places.now in
    let items = c.as_slice-all.ensures.value in
    record {
      definitions = λ none.
          ap (λ (ds : List Definition). settled_by m (map definition_form ds) ps) (sym items)
          ∙ sym (ap (λ (xs : List Definition). map definition_form xs ++ left m c.as_slice-all.result.now ps 0) c.new-settled.ensures.items);
      numbers = λ none h. subst (λ (ds : List Definition). HaveNumbersBy m (map definition_form ds) ps) items h;
    }

pub loop-at-preserved : goal.loop-at-preserved
loop-at-preserved c =
    let m = protocol_form c.args.constants.now in
    let ds = c.as_slice-all.result.now in
    let ps = c.args.places.now in
    let k = c.loop-at.at in
    let d = c.index-all-at.result in
    let p = c.place_at-place.result in
    let done = map definition_form c.loop-at.settled.items in
    let rest = left m ds ps (k + 1) in
    let new = c.in_ok-constant.constant in
    let in-ds : k < length ds = omega (arith, c.loop-at-test.true, c.min-at-end.ensures) in
    let in-ps : k < length ps = omega (arith, c.loop-at-test.true, c.min-at-end.ensures) in
    let p-is : p ≡ get_or ps k p = c.place_at-place.ensures (get_or ps k p) (slice_get-get_or ps k p in-ps) in
    record {
      definitions = λ none.
          c.loop-at.invariant.definitions none
          ∙ (ap (λ (xs : List DefinitionForm). done ++ xs) (one-less m ds ps k d p in-ds in-ps c.index-all-at.is p-is)
          ∙ (ap (λ (e : DefinitionForm). done ++ e ∷ rest) (sym (c.in_ok-constant.ensures.definition none))
          ∙ (sym (append_assoc done (definition_form new ∷ []) rest)
          ∙ ap (λ (xs : List DefinitionForm). xs ++ rest) (sym (ap (map definition_form) c.in_ok-push.ensures.items ∙ map_push definition_form c.loop-at.settled.items new)))));
      numbers = λ none others.
          c.loop-at.invariant.numbers none (one-number-less m ds ps k d p in-ds in-ps c.index-all-at.is p-is (c.in_ok-constant.ensures.number none) others);
    }

pub returns-clause-definitions : goal.returns-clause-definitions
returns-clause-definitions c = λ none.
    let ds = c.as_slice-all.result.now in
    let ps = c.args.places.now in
    let over : min (length ds) (length ps) ≤ c.loop-at.at = omega (arith, c.loop-at-test.false, c.min-at-end.ensures) in
    let done = map definition_form c.loop-at.settled.items in
    sym
    (c.loop-at.invariant.definitions none
    ∙ (ap (λ (xs : List DefinitionForm). done ++ xs) (none-is-left (protocol_form c.args.constants.now) ds ps c.loop-at.at over) ∙ append-nil done))

pub returns-clause-numbers : goal.returns-clause-numbers
returns-clause-numbers c = λ none.
    let m = protocol_form c.args.constants.now in
    let ds = c.as_slice-all.result.now in
    let ps = c.args.places.now in
    let k = c.loop-at.at in
    let over : min (length ds) (length ps) ≤ k = omega (arith, c.loop-at-test.false, c.min-at-end.ensures) in
    c.loop-at.invariant.numbers none (no-number-left m (map definition_form (drop k ds)) (drop k ps) (none-is-left m ds ps k over))

pub returns-in_err-constant-clause-refused : goal.returns-in_err-constant-clause-refused
returns-in_err-constant-clause-refused c =
    let m = protocol_form c.args.constants.now in
    let ds = c.as_slice-all.result.now in
    let ps = c.args.places.now in
    let k = c.loop-at.at in
    let d = c.index-all-at.result in
    let p = c.place_at-place.result in
    let in-ds : k < length ds = omega (arith, c.loop-at-test.true, c.min-at-end.ensures) in
    let in-ps : k < length ps = omega (arith, c.loop-at-test.true, c.min-at-end.ensures) in
    let p-is : p ≡ get_or ps k p = c.place_at-place.ensures (get_or ps k p) (slice_get-get_or ps k p in-ps) in
    let d-at : slice_get m.definitions k ≡ Some (definition_form d) =
    ap (λ (xs : List Definition). slice_get (map definition_form xs) k) (sym c.as_slice-all.ensures.value) ∙ at-place definition_form ds k d in-ds c.index-all-at.is in
    let p-at : slice_get ps k ≡ Some p = slice_get-get_or ps k p in-ps ∙ ap Some (sym p-is) in
    handed-on (IsConstantFault m p (definition_form d)) (IsConstantsFault m ps) (λ f h. (k, definition_form d, p, d-at, p-at, h))
    c.in_err-constant.field-0.0 c.from_residual.result c.in_err-constant.ensures.refused c.from_residual.ensures.1
