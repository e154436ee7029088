-- The text says what those say together that are invariants, so that each of them is satisfied where it is true.
use Rattle.std.proofs.Common.{◌≡◌, ◌∙◌, ◌<◌, ℕ, List, Option, length, map, ap, sym, subst}
use Rattle.std.specs.Prelude.{filter, IfSome}
use Rattle.std.specs.List.{All}
use Rattle.std.proofs.lemmas.List.Elements.{All-filter}
use Rattle.pb_text_tree.specs.Form.{spec_form}
use Rattle.pb_typing.specs.declared.typed.Typed.{Typed}
use Rattle.pb_model_tree.specs.declared.model.Property.{Property}
use Rattle.pb_model_tree.specs.Form.{FormulaForm, model_form, property_form}
use Rattle.pb_model_invariants.specs.Links.{forms_in}
use Rattle.pb_model_properties.specs.Joint.{formulas_at, is_invariant_at, joint_property}
use Rattle.pb_model_properties.specs.Said.{IsTextOf}
use Rattle.pb_model_properties.proofs.JointTexts.{each-satisfied}
use Rattle.pb_model_properties.proofs.joint.joint_text.Goals as goal

pub formulas_at-requires : goal.formulas_at-requires
formulas_at-requires c =
    let items = c.args.solved.now.typed.model.properties.items in
    let test = is_invariant_at (map property_form c.deref.result.now) in
    let within : All (λ (k : ℕ). k < length items) c.deref-3.result.now =
    subst (All (λ (k : ℕ). k < length items)) (sym (c.deref-3.ensures.value ∙ c.in_ok-places.ensures)) (All-filter test (λ (k : ℕ). k < length items) c.args.places.now c.requires) in
    subst (λ (ps : List Property). All (λ (k : ℕ). k < length ps) c.deref-3.result.now) (sym c.deref-2.ensures.value) within

pub returns-in-Some : goal.returns-in-Some
returns-in-Some c =
    let m = c.args.solved.now.typed.model in
    let model = model_form m in
    let places = c.in_ok-places.places.items in
    let all = c.args.places.now in
    let among : places ≡ filter (is_invariant_at model.properties) all =
    c.in_ok-places.ensures ∙ ap (λ (ps : List Property). filter (is_invariant_at (map property_form ps)) all) c.deref.ensures.value in
    let formulas : forms_in c.deref-5.result.now ≡ formulas_at model.properties places =
    ap forms_in c.deref-5.ensures.value ∙ (c.in_ok-invariants.ensures
    ∙ (ap (λ (ps : List Property). formulas_at (map property_form ps) c.deref-3.result.now) c.deref-2.ensures.value ∙ ap (formulas_at model.properties) c.deref-3.ensures.value)) in
    let text : IsTextOf model (joint_property model (forms_in c.deref-5.result.now)) (spec_form c.in-Some.text.spec) =
    subst (λ (o : Option Typed). IfSome o (λ t. IsTextOf model (joint_property model (forms_in c.deref-5.result.now)) (spec_form t.spec))) c.in-Some.is c.in_ok-joint_typed.ensures in
    record {
      among = among;
      text = subst (λ (fs : List FormulaForm). IsTextOf model (joint_property model fs) (spec_form c.in-Some.text.spec)) formulas text;
      holds = each-satisfied c.joint_invariants_hold.ensures model places all among;
    }
