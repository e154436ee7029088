-- The module of a symmetric protocol's property: the model that is solved is the flat one or the packed
-- one, and the elements of either's states are exchanged by their numbers alike.
use Rattle.std.proofs.Common.{◌≡◌, ℕ, ◌<◌, Bool, true, false, List, [], map, Some, refl, sym, ap, ap₂, ◌∙◌, subst}
use Rattle.std.specs.Prelude.{Contains}
use Rattle.std.specs.List.{slice_get}
use Rattle.std.specs.Option.{option_map}
use Rattle.std.proofs.lemmas.Bool.{cond-true}
use Rattle.std.proofs.lemmas.Option.{slice_get-map, same_Some, slice_get_within, get_or_from_slice_get}
use Rattle.pb_base_values.specs.Carrier.{Value, Carrier, contains, is_within}
use Rattle.pb_fixpoint_trees.specs.Tree.{Tree}
use Rattle.pb_fixpoint_trees.specs.Equations.{numbered}
use Rattle.pb_fixpoint_symmetry.specs.Symmetry.{IsSymmetry}
use Rattle.pb_text_meaning.specs.Syntax.{Name, Spec}
use Rattle.pb_typing_rules.specs.WellTyped.{IsWellTyped}
use Rattle.pb_model_meaning.specs.Syntax as flat
use Rattle.pb_model_meaning.specs.Steps as flat_steps
use Rattle.pb_model_meaning.specs.Erase as model_text
use Rattle.pb_model_tree.specs.Form as model_form
use Rattle.pb_model_tree.specs.Form.{ModelForm}
use Rattle.pb_model_translation.specs.Names.{names_of, translation}
use Rattle.pb_model_symmetry.specs.Symmetry.{IsModelSymmetry}
use Rattle.pb_protocol_tree.specs.Form.{PropertyForm, ProtocolForm}
use Rattle.pb_protocol_meaning.specs.Syntax.{Formula, Property, Protocol}
use Rattle.pb_protocol_meaning.specs.Steps.{data_of, is_state, state_carriers}
use Rattle.pb_protocol_meaning.specs.Erase.{erase, erased_formula, erased_property}
use Rattle.pb_protocol_folding.specs.FoldedModels.{folded_property}
use Rattle.pb_protocol_unfolding.specs.Hygiene.{HidesNothing}
use Rattle.pb_protocol_unfolding.specs.Unfolding.{unfolded, unfolded_property}
use Rattle.pb_protocol_unfolding.specs.ModelLaws.{PropertiesNameNoWhole, flat_model, flat_formula}
use Rattle.pb_protocol_unfolding.proofs.States.{carriers-same}
use Rattle.pb_protocol_packing.specs.Groups.{groups_of, packed, said_formula}
use Rattle.pb_protocol_packing.specs.Packing.{packed_property}
use Rattle.pb_protocol_packing.specs.Packable.{IsPackable}
use Rattle.pb_protocol_packing.proofs.Packable.{is-packing}
use Rattle.pb_protocol_symmetry.specs.Permutation.{IsPermutation}
use Rattle.pb_protocol_symmetry.specs.States.{permuted}
use Rattle.pb_protocol_symmetry.specs.ProtocolTest.{signatures_in, TestedFormulasHaveKinds, TestedProtocolsAreSymmetric}
use Rattle.pb_protocol_symmetry_unfolded.specs.Laws.{permuted_states}
use Rattle.pb_protocol_symmetry_packed.specs.Laws.{PackedPropertiesAreSymmetric}
use Rattle.pb_protocol_symmetry_solved.specs.Laws.{FlatModelsAreSymmetric, FlatEquationsAreSymmetric, permuted_packed, PackedEquationsAreSymmetric}
use Rattle.pb_protocol_scalar_sets.specs.Numbers.{exchanged, exchanged_number}
use Rattle.pb_model_properties.specs.Made.{IsFlatWhere, IsPackedWhere}
use Rattle.pb_bytecode.specs.Contents.{Contents}
use Rattle.pb_bytecode.specs.Meaning.{signature_of}
use Rattle.pb_assembler_modules.specs.Module.{IsCompiledModule}
use Rattle.pb_exploration_orbits.specs.Laws.{is_declared}
use Rattle.pb_property_symmetry.specs.Numbers.{moved_instance}
use Rattle.pb_property_symmetry.specs.Laws.{ModulesMoveWithStates, PackedNumbersMoveAlike}
use Rattle.pb_property_symmetry.specs.Properties.{IsModuleOfProperty, IsSameWhere, ModulesOfPropertiesAreSymmetric}
use Rattle.pb_property_symmetry.proofs.Exchanged.{permutes}
use Rattle.pb_property_symmetry.proofs.Moved.{counts-same, moved-alike}

-- ---- properties by their places

-- what stands at a place of the images is the image of what stands there
image-at : {A B : Type 0} (f : A → B) (xs : List A) (k : ℕ) (x : A) (ys : List B) → ys ≡ map f xs → slice_get xs k ≡ Some x → slice_get ys k ≡ Some (f x)
image-at f xs k x ys same at = ap (λ (zs : List _). slice_get zs k) same ∙ (slice_get-map f xs k ∙ ap (option_map f) at)

abbrev flat_property : Protocol → Property → flat.Property
flat_property m q = record { name = q.name; formula = flat_formula m q.formula }

module _ (protocol : ProtocolForm) (p : PropertyForm) (k : ℕ) (at : slice_get protocol.properties k ≡ Some p) where
  abbrev P : Protocol
  P = erase protocol

  in-protocol : slice_get P.properties k ≡ Some (erased_property p)
  in-protocol = image-at erased_property protocol.properties k p P.properties refl at

  among : Contains P.properties (erased_property p)
  among = (k, slice_get_within P.properties k (erased_property p) in-protocol, get_or_from_slice_get P.properties k (erased_property p) (erased_property p) in-protocol)

  in-flat : slice_get (flat_model P).properties k ≡ Some (flat_property P (erased_property p))
  in-flat =
      image-at (folded_property (unfolded P)) (map (unfolded_property P) P.properties) k (unfolded_property P (erased_property p)) (flat_model P).properties refl
      (image-at (unfolded_property P) P.properties k (erased_property p) (map (unfolded_property P) P.properties) refl in-protocol)

  among-flat : Contains (flat_model P).properties (flat_property P (erased_property p))
  among-flat =
      let q = flat_property P (erased_property p) in
      (k, slice_get_within (flat_model P).properties k q in-flat, get_or_from_slice_get (flat_model P).properties k q q in-flat)

  in-packed : slice_get (packed (flat_model P)).properties k ≡ Some (packed_property (groups_of (flat_model P)) (flat_property P (erased_property p)))
  in-packed =
      image-at (packed_property (groups_of (flat_model P))) (flat_model P).properties k (flat_property P (erased_property p)) (packed (flat_model P)).properties refl in-flat

  -- the formula of the property at the same place of a model
  formula-at : (model : ModelForm) (q : model_form.PropertyForm) → slice_get model.properties k ≡ Some q → (N : flat.Model) → model_text.erase model ≡ N → (r : flat.Property)
      → slice_get N.properties k ≡ Some r → model_text.erased_formula q.formula ≡ r.formula
  formula-at model q there N same r here =
      let erased : slice_get (model_text.erase model).properties k ≡ Some (model_text.erased_property q) =
      image-at model_text.erased_property model.properties k q (model_text.erase model).properties refl there in
      let one : model_text.erased_property q ≡ r =
      same_Some (model_text.erased_property q) r (sym erased ∙ (ap (λ (M : flat.Model). slice_get M.properties k) same ∙ here)) in
      ap (λ (x : flat.Property). x.formula) one

-- ---- numbers

module _ (m : Protocol) (hides : HidesNothing m) (sort : Name) (p back : Value → Value) (n : ℕ) (some : 0 < flat_steps.state_count (flat_model m)) where
  -- the flat model's states have the numbers of the protocol's
  flat-numbers :
      moved_instance (flat_steps.state_carriers (flat_model m)) (permuted_states m sort p back) n
      ≡ moved_instance (state_carriers m) (permuted (data_of m) sort p back m.variables) n
  flat-numbers =
      moved-alike (flat_steps.state_carriers (flat_model m)) (permuted_states m sort p back) (permuted (data_of m) sort p back m.variables)
      (λ s within. cond-true (is_state m s) (permuted (data_of m) sort p back m.variables s) s (sym (ap (λ (cs : List Carrier). is_within cs s) (carriers-same m hides)) ∙ within))
      n some
      ∙ ap (λ (cs : List Carrier). moved_instance cs (permuted (data_of m) sort p back m.variables) n) (carriers-same m hides)

-- ---- the module

-- the laws of the crates below
record AreLaws : Type 0 where
  pub moves : ModulesMoveWithStates
  pub packed_moves : PackedNumbersMoveAlike
  pub packed_properties : PackedPropertiesAreSymmetric
  pub name_none : PropertiesNameNoWhole
  pub models : FlatModelsAreSymmetric
  pub equations : FlatEquationsAreSymmetric
  pub packed_equations : PackedEquationsAreSymmetric
  pub protocols : TestedProtocolsAreSymmetric
  pub formulas : TestedFormulasHaveKinds

module _ (laws : AreLaws) (protocol : ProtocolForm) (p : PropertyForm) (c : Contents) (trees : ℕ → Tree) (is : IsModuleOfProperty protocol p c trees)
    (sort : Name) (M : Carrier) (same : IsSameWhere protocol p sort M) (a b : Value) (in-a : contains M a ≡ true) (in-b : contains M b ≡ true) where
  abbrev m : Protocol
  m = erase protocol

  abbrev f : Formula
  f = erased_formula p.formula

  abbrev change : Value → Value
  change = exchanged a b

  hides : HidesNothing m
  hides = is.is_for.hides_nothing is.unfolds

  flat-is : model_text.erase is.is_for.made.flat ≡ flat_model m
  flat-is = subst (λ (b : Bool). IsFlatWhere b protocol is.is_for.made.flat) is.unfolds is.is_for.made.from

  change-permutes : IsPermutation M change change
  change-permutes = permutes a b M in-a in-b

  flat-symmetric : IsModelSymmetry (flat_model m) (flat_formula m f) (permuted_states m sort change change)
  flat-symmetric =
      laws.models m hides sort M (signatures_in m sort M) (laws.protocols m sort M same.symmetric) change change change-permutes f
      (laws.name_none m (erased_property p) (among protocol p is.place is.named)) (laws.formulas m sort M (signatures_in m sort M) [] f same.kinds) same.alone

  -- the text is a translation of the model and the formula that are these
  of-translation : (N : flat.Model) (g : flat.Formula) → model_text.erase is.model ≡ N → model_text.erased_formula is.property.formula ≡ g
      → IsWellTyped (translation N g) × IsCompiledModule (translation N g) c
  of-translation N g model formula =
      let same = is.is_text.translated ∙ ap₂ translation model formula in
      (subst IsWellTyped same is.is_text.typed, subst (λ (s : Spec). IsCompiledModule s c) same is.compiled)

  abbrev Wanted : Type 0
  Wanted = IsSymmetry (is_declared c) (numbered 0 (map signature_of c.equations) trees) (exchanged_number m sort a b)

  of-flat : model_text.erase is.model ≡ flat_model m → Wanted
  of-flat model =
      let M' = flat_model m in
      let g = flat_formula m f in
      let text = of-translation M' g model (formula-at protocol p is.place is.named is.model is.property is.solved M' model _ (in-flat protocol p is.place is.named)) in
      laws.moves M' (names_of g) g text.0 c text.1 trees is.ends (permuted_states m sort change change) flat-symmetric.states
      (laws.equations m hides sort M (signatures_in m sort M) (laws.protocols m sort M same.symmetric) change change change-permutes f
      (laws.name_none m (erased_property p) (among protocol p is.place is.named)) (laws.formulas m sort M (signatures_in m sort M) [] f same.kinds) same.alone (names_of g))
      (exchanged_number m sort a b) (λ n some. flat-numbers m hides sort change change n some)

  of-packed : IsPackable (flat_model m) → model_text.erase is.model ≡ packed (flat_model m) → Wanted
  of-packed able model =
      let M' = flat_model m in
      let gs = groups_of M' in
      let g = said_formula M' (flat_formula m f) in
      let packing = is-packing M' able in
      let text = of-translation (packed M') g model (formula-at protocol p is.place is.named is.model is.property is.solved (packed M') model _ (in-packed protocol p is.place is.named)) in
      laws.moves (packed M') (names_of g) g text.0 c text.1 trees is.ends (permuted_packed m sort change change)
      (laws.packed_properties M' (flat_property m (erased_property p)) able (among-flat protocol p is.place is.named) (permuted_states m sort change change) flat-symmetric).states
      (laws.packed_equations m hides able sort M (signatures_in m sort M) (laws.protocols m sort M same.symmetric) change change change-permutes (erased_property p)
      (among protocol p is.place is.named) (laws.formulas m sort M (signatures_in m sort M) [] f same.kinds) same.alone (names_of g))
      (exchanged_number m sort a b)
      (λ n some.
      let some-flat = subst (λ k. 0 < k) (counts-same M' gs packing) some in
      laws.packed_moves M' gs packing (permuted_states m sort change change) flat-symmetric.states n some-flat ∙ flat-numbers m hides sort change change n some-flat)

  symmetric : Wanted
  symmetric = by is.is_for.made.is_packed is.is_for.made.made
    where
      by : (b : Bool) → IsPackedWhere b is.is_for.made.flat is.model → Wanted
      by false made = of-flat (ap model_text.erase made ∙ flat-is)
      by true made = of-packed (subst IsPackable flat-is made.0) (made.1 ∙ ap packed flat-is)

pub modules-symmetric : ModulesMoveWithStates → PackedNumbersMoveAlike → PackedPropertiesAreSymmetric → PropertiesNameNoWhole → FlatModelsAreSymmetric → FlatEquationsAreSymmetric
    → PackedEquationsAreSymmetric → TestedProtocolsAreSymmetric → TestedFormulasHaveKinds → ModulesOfPropertiesAreSymmetric
modules-symmetric moves packed_moves packed_properties name_none models equations packed_equations protocols formulas =
    symmetric (record {
      moves = moves;
      packed_moves = packed_moves;
      packed_properties = packed_properties;
      name_none = name_none;
      models = models;
      equations = equations;
      packed_equations = packed_equations;
      protocols = protocols;
      formulas = formulas;
    })
