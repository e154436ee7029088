-- A packed model is solved where the model may be.
use Rattle.std.proofs.Common.{◌≡◌, ◌∙◌, true, List, [], ◌∷◌, ◌++◌, map, refl, sym, ap, subst}
use Rattle.std.specs.Prelude.{Contains}
use Rattle.std.proofs.lemmas.List.Elements.{Contains-append_left, Contains-append_right, Contains-push}
use Rattle.pb_model_meaning.specs.Syntax as model
use Rattle.pb_model_meaning.specs.Steps.{State}
use Rattle.pb_model_meaning.specs.Steps as model_steps
use Rattle.pb_model_meaning.specs.Satisfaction as model_satisfaction
use Rattle.pb_model_meaning.specs.Erase as model_text
use Rattle.pb_model_tree.specs.Form as model_form
use Rattle.pb_model_tree.specs.Form.{ModelForm}
use Rattle.pb_protocol_meaning.specs.Erase.{erase}
use Rattle.pb_protocol_packing.specs.Packing.{Group, packed_property, packed_formula}
use Rattle.pb_protocol_packing.specs.Groups.{groups_of, packed}
use Rattle.pb_protocol_packing.specs.Packable.{IsPackable}
use Rattle.pb_protocol_packing.specs.Laws.{PropertiesStay, StatesStandForStates}
use Rattle.pb_protocol_packing.specs.Unpacked.{unpacked}
use Rattle.pb_protocol_packing.specs.Unpacked as packed_states
use Rattle.pb_protocol_laws.specs.SolvedLaws.{PackedModelsAreSolved}
use Rattle.pb_protocol_laws.proofs.Properties.{SatisfySame, same_through}
use Rattle.pb_protocol_laws.proofs.States.{goes_through}

-- each of these is one of those
abbrev AreAmong : List model.Property → List model.Property → Type 0
AreAmong ps all = (p : model.Property) → Contains ps p → Contains all p

here : (x : model.Property) (xs : List model.Property) → Contains (x ∷ xs) x
here x xs = Contains-append_left (x ∷ []) xs x (Contains-push [] x)

others_among : (p : model.Property) (ps all : List model.Property) → AreAmong (p ∷ ps) all → AreAmong ps all
others_among p ps all among q is = among q (Contains-append_right (p ∷ []) ps q is)

-- where a packed formula is satisfied where the formula is
satisfy_same : (m n : ModelForm) (gs : List Group)
    → ((p : model.Property) → Contains (model_text.erase m).properties p
    → model_satisfaction.satisfies (model_text.erase n) (packed_formula gs p.formula) ≡ model_satisfaction.satisfies (model_text.erase m) p.formula)
    → (qs rs : List model_form.PropertyForm) → AreAmong (map model_text.erased_property qs) (model_text.erase m).properties
    → map model_text.erased_property rs ≡ map (packed_property gs) (map model_text.erased_property qs) → SatisfySame m n qs rs
satisfy_same m n gs law [] [] among made = tt
satisfy_same m n gs law [] (r ∷ rs) among made = absurd (cc made)
satisfy_same m n gs law (q ∷ qs) [] among made = absurd (cc made)
satisfy_same m n gs law (q ∷ qs) (r ∷ rs) among made =
    let first : model_text.erased_property r ≡ packed_property gs (model_text.erased_property q) = cc made in
    let rest : map model_text.erased_property rs ≡ map (packed_property gs) (map model_text.erased_property qs) = cc made in
    let formula : model_text.erased_formula r.formula ≡ packed_formula gs (model_text.erased_formula q.formula) = ap (λ (x : model.Property). x.formula) first in
    let is : Contains (model_text.erase m).properties (model_text.erased_property q) =
    among (model_text.erased_property q) (here (model_text.erased_property q) (map model_text.erased_property qs)) in (
      ap (model_satisfaction.satisfies (model_text.erase n)) formula ∙ law (model_text.erased_property q) is,
      satisfy_same m n gs law qs rs (others_among (model_text.erased_property q) (map model_text.erased_property qs) (model_text.erase m).properties among) rest,
    )

-- a state of the packed model says a state
abbrev pub StatesSayStates : Type 0
StatesSayStates =
    (m : model.Model) → IsPackable m → (t : State) → model_steps.is_state (packed m) t ≡ true → model_steps.is_state m (unpacked (groups_of m) t) ≡ true

pub packed_models_are_solved : PropertiesStay → StatesStandForStates → StatesSayStates → PackedModelsAreSolved
packed_models_are_solved stay stand say protocol m n solved able made named =
    let M = model_text.erase m in
    let says : State → State = unpacked (groups_of M) in
    let back : packed M ≡ model_text.erase n = sym made in
    record {
      properties = same_through protocol m n protocol.properties m.properties n.properties solved.properties named
          (satisfy_same m n (groups_of M)
          (λ p is. subst (λ (x : model.Model). model_satisfaction.satisfies x (packed_formula (groups_of M) p.formula) ≡ model_satisfaction.satisfies M p.formula) back (stay M p able is))
          m.properties n.properties (λ p is. is) (ap (λ (x : model.Model). x.properties) made));
      runs = goes_through (erase protocol) M (model_text.erase n) says solved.runs
          (subst (λ (x : model.Model). packed_states.StandsFor M x says (model_steps.initial_state M) (model_steps.initial_state x)) back (stand M able).0)
          (λ t is. say M able t (subst (λ (x : model.Model). model_steps.is_state x t ≡ true) made is))
          (λ t is. subst (λ (x : model.Model). packed_states.AllStandFor M x says (model_steps.successors M model.StepSet.All (says t)) (model_steps.successors x model.StepSet.All t)) back
          ((stand M able).1 model.StepSet.All t (subst (λ (x : model.Model). model_steps.is_state x t ≡ true) made is)));
    }
