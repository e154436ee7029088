-- Whether the property at the next place is among them.
use Rattle.std.proofs.Common.{◌≡◌, ◌∙◌, ◌++◌, ◌+◌, ◌∷◌, [], ℕ, Bool, List, Option, false, drop, get_or, map, ap, sym}
use Rattle.std.specs.Prelude.{filter}
use Rattle.std.specs.Option.{option_map_or}
use Rattle.pb_model_tree.specs.declared.model.Property.{Property}
use Rattle.pb_model_tree.specs.Form.{PropertyForm, formula_form, property_form}
use Rattle.pb_model_invariants.specs.Invariants.{is_invariant}
use Rattle.pb_model_properties.specs.Joint.{is_invariant_at, says_invariant}
use Rattle.pb_model_properties.proofs.Places.{property_at}
use Rattle.pb_model_properties.proofs.JointTexts.{fails-next, one-more, passes-next}
use Rattle.pb_model_properties.proofs.joint.invariants_among.Goals.{then-branch+in_ok-push, else-branch}
use Rattle.pb_model_properties.proofs.joint.invariants_among.Goals as goal

pub loop-place-preserved : goal.loop-place-preserved
loop-place-preserved c =
    let ps = c.args.properties.now in
    let places = c.args.places.now in
    let i = c.loop-place.place-index in
    let place = get_or places i 0 in
    let x = c.index-properties-place.result in
    let before = c.loop-place.found.items in
    let test = is_invariant_at (map property_form ps) in
    let rest = filter test (drop (i + 1) places) in
    let whole = filter test places in
    let there = property_at ps place x (c.requires i 0 c.loop-place-test.true) c.index-properties-place.is in
    let tested : test place ≡ c.in_ok-is_invariant.field-0 = ap (λ (o : Option PropertyForm). option_map_or says_invariant o false) there
    ∙ (ap (λ (p : Property). is_invariant (formula_form p.formula)) c.index-properties-place.is ∙ sym c.in_ok-is_invariant.ensures) in
    elim c.if-branch.branch [
      | then-branch+in_ok-push w ↦ one-more before c.if-branch.found.items place rest whole (filter test (drop i places)) (ap (λ v. v.items) w.found-is ∙ w.in_ok-push.ensures.items)
          (passes-next test places i c.loop-place-test.true (tested ∙ w.if-branch.true)) c.loop-place.invariant
      | else-branch w ↦ ap (λ v. v.items ++ rest) w.found-is ∙
          (ap (λ (zs : List ℕ). before ++ zs) (sym (fails-next test places i c.loop-place-test.true (tested ∙ w.if-branch.false))) ∙ c.loop-place.invariant)
    ]
