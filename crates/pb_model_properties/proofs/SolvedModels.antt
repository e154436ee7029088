-- The model that is solved in the place of a protocol that a flat model is for, and what keeps one from
-- being solved.
use Rattle.std.proofs.Common.{◌≡◌, ◌∙◌, true, false, List, [], Option, Some, None, refl, sym, ap, ap₂, subst, inl, inr}
use Rattle.std.specs.Prelude.{All, Result, Ok, Err, IfOk}
use Rattle.std.proofs.lemmas.List.Elements.{All-contains}
use Rattle.pb_base.specs.OrMemory.{IfFault, IfRefused, raised}
use Rattle.pb_base.specs.declared.or_memory.OrMemory.{OrMemory}
use Rattle.pb_base.specs.declared.or_memory.OrMemory.TheVariants.{Refused, Memory}
use Rattle.pb_text_tree.specs.declared.place.Place.{Place}
use Rattle.pb_text_printer.specs.Sayable.{Each}
use Rattle.pb_typing_declarations.specs.declared.fault.TypingFault.{TypingFault}
use Rattle.pb_model_tree.specs.declared.model.Model.{Model}
use Rattle.pb_model_tree.specs.Form.{ModelForm, model_form}
use Rattle.pb_model_meaning.specs.Syntax as model
use Rattle.pb_model_meaning.specs.Erase as model_text
use Rattle.pb_model_runs.specs.Exact.{step_places}
use Rattle.pb_model_spelling.specs.Laws.{TranslationsCanBeSaid}
use Rattle.pb_model_spelling.specs.Writable.{ModelWritable}
use Rattle.pb_model_typing.specs.declared.typed.TypedModel.{TypedModel}
use Rattle.pb_model_typing.specs.Texts.{IsModelFault, IsTypedModel}
use Rattle.pb_model_words.specs.Vocabulary.{packed_vocabulary}
use Rattle.pb_protocol_packing.specs.Groups.{groups_of, packed}
use Rattle.pb_protocol_packing.specs.Packable.{IsPackable}
use Rattle.pb_protocol_packer.specs.Groups.{groups_in}
use Rattle.pb_typing_declarations.specs.Faults.{IsAmong}
use Rattle.pb_protocol_groups.specs.Checks.{packing_faults}
use Rattle.pb_protocol_groups.specs.Places.{named_properties, property_places}
use Rattle.pb_protocol_groups.specs.Sizes.{size_faults}
use Rattle.pb_protocol_laws.specs.FewValues.{HasFewValues}
use Rattle.pb_protocol_tree.specs.Form.{ProtocolForm}
use Rattle.pb_model_faults.specs.declared.ModelFault.{ModelFault}
use Rattle.pb_model_faults.specs.declared.ModelFault.TheVariants as model_fault
use Rattle.pb_model_properties.specs.declared.solved.SolvedModel.{SolvedModel}
use Rattle.pb_model_properties.specs.declared.solved.ToldNames.{ToldNames}
use Rattle.pb_model_properties.specs.declared.solved.UnpackedModel.{UnpackedModel}
use Rattle.pb_model_properties.specs.Flat.{IsFlatModelFor}
use Rattle.pb_model_properties.specs.Laws.{ModelsStandForProtocols}
use Rattle.pb_model_properties.specs.Made.{IsFlatOf, IsMadeOf, has_many_variables}
use Rattle.pb_model_properties.specs.Refusals.{IsRefusedFlat, IsRefusedProtocol, told_fault, told_places}
use Rattle.pb_model_properties.specs.Words.{AreNamesOf, IsSolvedFlat, IsToldModel}
use Rattle.pb_model_properties.proofs.FlatProperties.{HasWords, StandsApart, all_apart, all_of, all_packed, can_be_said, first_kept}

-- ---- the flat model as it is

pub flat_told : TranslationsCanBeSaid → (m : Model) (t : TypedModel) (names : Option ToldNames) → has_many_variables (model_form m) ≡ false → t.model ≡ m → IsTypedModel (model_form m)
    → IsSolvedFlat (model_form m) names (record { typed = t; names = names; unpacked = None })
flat_told said m t names few kept typed protocol is called =
    let flat : IsFlatModelFor protocol (model_form t.model) = subst (λ (x : Model). IsFlatModelFor protocol (model_form x)) (sym kept) is in
    record {
      is_for = record {
        made = record {
          flat = model_form t.model;
          from = flat.from;
          is_packed = false;
          where_many = sym (ap (λ (x : Model). has_many_variables (model_form x)) kept ∙ few);
          made = refl;
        };
        kept = flat.kept;
        hides_nothing = flat.hides_nothing;
        solved = flat.solved;
        typed = subst (λ (x : Model). IsTypedModel (model_form x)) (sym kept) typed;
        first = flat.first;
        apart = flat.apart;
        sayable = can_be_said said (model_form t.model) flat.writable flat.formulas;
      };
      words = (subst (λ (x : Model). AreNamesOf protocol (model_form x) names) (sym kept) called).words;
      impossible = called.impossible;
      places = called.places;
    }

-- ---- the flat model packed

-- what a model is packed to
pub record IsPackedTo (m n : ModelForm) : Type 0 where
  pub packable : IsPackable (model_text.erase m)
  pub meaning : model_text.erase n ≡ packed (model_text.erase m)
  pub steps : step_places n.steps ≡ step_places m.steps
  pub names : named_properties n ≡ named_properties m
  pub places : property_places n ≡ property_places m
  pub few : size_faults m ≡ []

pub is_packed_to : (m n : ModelForm) → IsPackable (model_text.erase m) → model_text.erase n ≡ packed (model_text.erase m) → step_places n.steps ≡ step_places m.steps
    → named_properties n ≡ named_properties m → property_places n ≡ property_places m → size_faults m ≡ [] → IsPackedTo m n
is_packed_to m n packable meaning steps names places few = record { packable = packable; meaning = meaning; steps = steps; names = names; places = places; few = few }

pub packed_told : ModelsStandForProtocols → (u : UnpackedModel) (n : Model) (t : TypedModel) (names : Option ToldNames) → has_many_variables (model_form u.model) ≡ true → t.model ≡ n
    → IsTypedModel (model_form n)
    → IsPackedTo (model_form u.model) (model_form n) → groups_in u.groups.items ≡ groups_of (model_text.erase (model_form u.model))
    → IsSolvedFlat (model_form u.model) names (record { typed = t; names = names; unpacked = Some u })
packed_told laws u n t names many kept typed is_packed groups protocol is called =
    let m = model_form u.model in
    let M = model_text.erase m in
    let to : IsPackedTo m (model_form t.model) = subst (λ (x : Model). IsPackedTo m (model_form x)) (sym kept) is_packed in
    let few : Each HasFewValues (groups_of M) = laws.few m to.few in
    let writable : ModelWritable (model_text.erase (model_form t.model)) = subst ModelWritable (sym to.meaning) (laws.packed_models M few is.writable) in
    let words : All HasWords (model_form t.model).properties =
    all_packed (groups_of M) (λ f has. laws.packed_formulas M f few is.writable has) m.properties (model_form t.model).properties
    (ap (λ (x : model.Model). x.properties) to.meaning) (all_of HasWords m.properties is.formulas) in
    let apart : All (StandsApart (model_form t.model)) (model_form t.model).properties =
    all_apart m (model_form t.model) to.steps m.properties (model_form t.model).properties to.places (all_of (StandsApart m) m.properties is.apart) in
    record {
      is_for = record {
        made = record { flat = m; from = is.from; is_packed = true; where_many = sym many; made = (to.packable, to.meaning) };
        kept = is.kept;
        hides_nothing = is.hides_nothing;
        solved = laws.packed protocol m (model_form t.model) is.solved to.packable to.meaning to.names;
        typed = subst (λ (x : Model). IsTypedModel (model_form x)) (sym kept) typed;
        first = first_kept m.properties (model_form t.model).properties to.names is.first;
        apart = λ p among. All-contains (StandsApart (model_form t.model)) (model_form t.model).properties p apart among;
        sayable = can_be_said laws.said (model_form t.model) writable (λ p among. All-contains HasWords (model_form t.model).properties p words among);
      };
      words = ap₂ packed_vocabulary groups called.words;
      impossible = called.impossible;
      places = called.places;
    }

-- ---- refusals

-- the model that is made of the flat one isn't well typed
pub ill_typed_told : (m n : ModelForm) → ((protocol : ProtocolForm) → IsFlatOf protocol m → IsMadeOf protocol n) → (names : Option ToldNames) (e : OrMemory TypingFault)
    (x : OrMemory ModelFault) → raised (λ f above. above ≡ model_fault.Typing (told_fault (told_places names) f)) e x → IfFault e (IsModelFault n)
    → IfFault e (λ _. ¬ IsTypedModel n) → IfFault x (IsRefusedFlat m names)
ill_typed_told m n of_flat names (Refused f) (Refused above) made fault ill = λ protocol is called. subst (IsRefusedProtocol protocol) (sym made) (inl (record {
  model = n;
  made = of_flat protocol is.from;
  ill_typed = ill;
  broken = f;
  fails = fault;
  told = ap (λ (ps : List Place). told_fault ps f) called.places;
}))
ill_typed_told m n of_flat names (Refused f) Memory made fault ill = tt
ill_typed_told m n of_flat names Memory (Refused above) made fault ill = absurd made
ill_typed_told m n of_flat names Memory Memory made fault ill = tt

pub as_it_is : (m : ModelForm) → has_many_variables m ≡ false → (protocol : ProtocolForm) → IsFlatOf protocol m → IsMadeOf protocol m
as_it_is m few protocol from = record { flat = m; from = from; is_packed = false; where_many = sym few; made = refl }

pub as_packed : (m n : ModelForm) → has_many_variables m ≡ true → IsPackedTo m n → (protocol : ProtocolForm) → IsFlatOf protocol m → IsMadeOf protocol n
as_packed m n many to protocol from = record { flat = m; from = from; is_packed = true; where_many = sym many; made = (to.packable, to.meaning) }

-- the flat model has many variables and isn't packed
pub not_packed_told : (m : ModelForm) (names : Option ToldNames) (e : OrMemory TypingFault) (x : OrMemory ModelFault) → has_many_variables m ≡ true
    → raised (λ f above. above ≡ model_fault.Typing (told_fault (told_places names) f)) e x → IsAmong (packing_faults m) e → IfFault x (IsRefusedFlat m names)
not_packed_told m names (Refused f) (Refused above) many made fault = λ protocol is called. subst (IsRefusedProtocol protocol) (sym made) (inr (inr (inr (inl (record {
  flat = m;
  from = is.from;
  many = many;
  broken = f;
  fails = fault;
  told = ap (λ (ps : List Place). told_fault ps f) called.places;
})))))
not_packed_told m names (Refused f) Memory many made fault = tt
not_packed_told m names Memory (Refused above) many made fault = absurd made
not_packed_told m names Memory Memory many made fault = tt

-- ---- of the protocol that the flat model is for

pub solved_for : (protocol : ProtocolForm) (m : ModelForm) (names : Option ToldNames) → IsFlatModelFor protocol m → AreNamesOf protocol m names
    → (r : Result SolvedModel (OrMemory ModelFault)) → IfOk r (IsSolvedFlat m names) → IfOk r (IsToldModel protocol)
solved_for protocol m names is called (Ok x) h = h protocol is called
solved_for protocol m names is called (Err e) h = tt

pub refused_for : (protocol : ProtocolForm) (m : ModelForm) (names : Option ToldNames) → IsFlatModelFor protocol m → AreNamesOf protocol m names
    → (r : Result SolvedModel (OrMemory ModelFault)) → IfRefused r (IsRefusedFlat m names)
    → IfRefused r (IsRefusedProtocol protocol)
refused_for protocol m names is called (Ok x) h = tt
refused_for protocol m names is called (Err (Refused f)) h = h protocol is called
refused_for protocol m names is called (Err Memory) h = tt
