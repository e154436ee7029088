-- The parts of an unfolded and folded model.
use Rattle.std.proofs.Common.{◌≡◌, ◌∙◌, refl, sym, ap, subst, Bool, true, false, if◌then◌else◌, List, [], ◌∷◌, ◌++◌, map, filter}
use Rattle.pb_text_meaning.specs.Syntax as syntax
use Rattle.pb_text_meaning.specs.Erase.{erased_arguments, erased_declaration, erased_range, erased_variables}
use Rattle.pb_model_tree.specs.declared.model.Property as declared_flat
use Rattle.pb_model_tree.specs.declared.step.Step as declared_step
use Rattle.pb_model_tree.specs.Form as flat_form
use Rattle.pb_model_meaning.specs.Syntax as flat
use Rattle.pb_model_meaning.specs.Erase as flat_erase
use Rattle.pb_protocol_folding.specs.FoldedModels.{folded_model, folded_property, folded_steps}
use Rattle.pb_protocol_folding.specs.Names.{AreDistinct}
use Rattle.pb_protocol_tree.specs.declared.protocol.Property as declared_property
use Rattle.pb_protocol_tree.specs.declared.protocol.Protocol as declared_protocol
use Rattle.pb_protocol_tree.specs.Form.{property_form}
use Rattle.pb_protocol_meaning.specs.Syntax.{Protocol}
use Rattle.pb_protocol_meaning.specs.Erase.{erased_property, protocol_of}
use Rattle.pb_protocol_meaning.specs.Steps.{data_of}
use Rattle.pb_protocol_unfolder_steps.specs.declared.instance.Instance as declared_instance
use Rattle.pb_protocol_unfolder_steps.specs.Elements.{instance_said}
use Rattle.pb_protocol_unfolding.specs.Unfolding.{Instance, instance_name, instances, unfolded, unfolded_property, unfolded_step, variables_of}
use Rattle.pb_protocol_unfolder_steps.specs.Steps.{is_kept, step_said}
use Rattle.pb_protocol_unfolder_steps.specs.declared.unfolder.Unfolder.{Unfolder}
use Rattle.pb_protocol_unfolder_steps.specs.Unfolder.{protocol_in}
use Rattle.pb_protocol_unfolder.specs.Unfolded.{chosen_instances, chosen_one, left_property, property_said}

-- ---- steps that are kept

pub chosen-filter : (p : Instance → Bool) (is : List Instance) → chosen_instances is (map p is) ≡ filter p is
chosen-filter p [] = refl
chosen-filter p (i ∷ is) = by (p i) (chosen-filter p is)
  where
    by : (b : Bool) → chosen_instances is (map p is) ≡ filter p is → chosen_one i b ++ chosen_instances is (map p is) ≡ (if b then i ∷ filter p is else filter p is)
    by true e = ap (λ v. i ∷ v) e
    by false e = e

-- ---- models

map-twice : {A B C : Type 0} (f : B → C) (g : A → B) (xs : List A) → map f (map g xs) ≡ map (λ x. f (g x)) xs
map-twice f g [] = refl
map-twice f g (x ∷ xs) = ap (λ v. f (g x) ∷ v) (map-twice f g xs)

properties-said : (u : Unfolder) (ps : List declared_flat.Property) (qs : List declared_property.Property) → map property_said ps ≡ map (left_property u) qs
    → map flat_erase.erased_property (map flat_form.property_form ps)
    ≡ map (folded_property (unfolded (protocol_in u)))
    (map (unfolded_property (protocol_in u)) (map erased_property (map property_form qs)))
properties-said u ps qs same =
    map-twice flat_erase.erased_property flat_form.property_form ps ∙ same
    ∙ sym (map-twice (folded_property (unfolded (protocol_in u))) (λ (q : declared_property.Property). unfolded_property (protocol_in u) (erased_property (property_form q))) qs)
    ∙ ap (map (folded_property (unfolded (protocol_in u))))
    (sym (map-twice (unfolded_property (protocol_in u)) (λ (q : declared_property.Property). erased_property (property_form q)) qs)
    ∙ ap (map (unfolded_property (protocol_in u))) (sym (map-twice erased_property property_form qs)))

pub model-said : (u : Unfolder) (p : declared_protocol.Protocol) (text : flat_form.ModelForm) (steps : List declared_step.Step) (ps : List declared_flat.Property) → protocol_in u ≡ protocol_of p
    → text.steps ≡ map flat_form.step_form steps → text.properties ≡ map flat_form.property_form ps
    → map erased_declaration text.sorts ≡ (protocol_of p).sorts → map erased_range text.ranges ≡ (protocol_of p).ranges
    → erased_variables text.variables ≡ variables_of (protocol_in u)
    → map step_said steps ≡ folded_steps (data_of (protocol_in u)) (map (unfolded_step (protocol_in u)) (instances (protocol_in u)))
    → erased_arguments text.initial.values ≡ (folded_model (unfolded (protocol_of p))).initial
    → map property_said ps ≡ map (left_property u) p.properties.items
    → flat_erase.erase text ≡ folded_model (unfolded (protocol_in u))
model-said u p text steps ps same of-steps of-properties sorts ranges variables are initial properties =
    let n = folded_model (unfolded (protocol_in u)) in
    let with : List syntax.SortDeclaration → List syntax.Range → List syntax.Variable → List flat.Step → syntax.Terms
    → List flat.Property → flat.Model =
    λ ss rs xs us is qs. record { sorts = ss; ranges = rs; variables = xs; steps = us; initial = is; properties = qs } in
    let texts = flat_erase.erase text in
    ap (λ v. with v texts.ranges texts.variables texts.steps texts.initial texts.properties) (sorts ∙ ap (λ (m : Protocol). m.sorts) (sym same))
    ∙ ap (λ v. with n.sorts v texts.variables texts.steps texts.initial texts.properties) (ranges ∙ ap (λ (m : Protocol). m.ranges) (sym same))
    ∙ ap (λ v. with n.sorts n.ranges v texts.steps texts.initial texts.properties) variables
    ∙ ap (λ v. with n.sorts n.ranges n.variables v texts.initial texts.properties) (ap (map flat_erase.erased_step) of-steps ∙ map-twice flat_erase.erased_step flat_form.step_form steps ∙ are)
    ∙ ap (λ v. with n.sorts n.ranges n.variables n.steps v texts.properties) (initial ∙ ap (λ (m : Protocol). (folded_model (unfolded m)).initial) (sym same))
    ∙ ap (λ v. with n.sorts n.ranges n.variables n.steps n.initial v)
    (ap (map flat_erase.erased_property) of-properties ∙ properties-said u ps p.properties.items properties
    ∙ ap (λ (m : Protocol). map (folded_property (unfolded (protocol_in u))) (map (unfolded_property (protocol_in u)) m.properties)) (sym same))

-- ---- as the code comes to them

pub kept-instances : (u : Unfolder) (p : declared_protocol.Protocol) (is left : List declared_instance.Instance)
    (kept : List Bool) (xs : List declared_instance.Instance) (bs : List Bool) (ys : List declared_instance.Instance)
    → protocol_in u ≡ protocol_of p → xs ≡ is → bs ≡ kept → ys ≡ is → map instance_said is ≡ instances (protocol_of p) → kept ≡ map (is_kept (protocol_in u)) (map instance_said ys)
    → map instance_said left ≡ chosen_instances (map instance_said xs) bs → map instance_said left ≡ filter (is_kept (protocol_in u)) (instances (protocol_in u))
kept-instances u p is left kept xs bs ys same at at' at'' all are chosen-are =
    let m = protocol_in u in
    let every : map instance_said is ≡ instances m = all ∙ ap instances (sym same) in
    chosen-are ∙ ap (λ (v : List declared_instance.Instance). chosen_instances (map instance_said v) bs) at ∙ ap (chosen_instances (map instance_said is)) (at' ∙ are)
    ∙ ap (λ (v : List declared_instance.Instance). chosen_instances (map instance_said is) (map (is_kept m) (map instance_said v))) at''
    ∙ chosen-filter (is_kept m) (map instance_said is) ∙ ap (filter (is_kept m)) every

pub apart-instances : (u : Unfolder) (p : declared_protocol.Protocol) (is xs : List declared_instance.Instance)
    → protocol_in u ≡ protocol_of p → xs ≡ is → map instance_said is ≡ instances (protocol_of p)
    → AreDistinct (map instance_name (map instance_said xs)) → AreDistinct (map instance_name (instances (protocol_in u)))
apart-instances u p is xs same at all apart =
    let P : List Instance → Type 0 = λ v. AreDistinct (map instance_name v) in
    subst P (ap (λ (v : List declared_instance.Instance). map instance_said v) at ∙ all ∙ ap instances (sym same)) apart
