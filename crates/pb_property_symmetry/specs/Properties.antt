-- The module of a symmetric protocol's property has its symmetries: where two elements of a scalar
-- set are exchanged in the state of each instance (Ip and Dill 1996; Emerson and Sistla 1996), its
-- equations stay.
use Rattle.std.specs.Prelude.{◌≡◌, ℕ, true, false, [], map, Some}
use Rattle.std.specs.List.{slice_get}
use Rattle.pb_base_values.specs.Carrier.{Value, Carrier, contains}
use Rattle.pb_fixpoint_trees.specs.Tree.{Tree}
use Rattle.pb_fixpoint_trees.specs.Equations.{numbered}
use Rattle.pb_fixpoint_symmetry.specs.Symmetry.{AreClosed, IsSymmetry}
use Rattle.pb_text_tree.specs.Form.{SpecForm}
use Rattle.pb_text_meaning.specs.Syntax.{Name}
use Rattle.pb_text_meaning.specs.Erase as texts
use Rattle.pb_model_tree.specs.Form.{ModelForm}
use Rattle.pb_model_tree.specs.Form as model_form
use Rattle.pb_protocol_tree.specs.Form.{PropertyForm, ProtocolForm}
use Rattle.pb_protocol_meaning.specs.Erase.{erase, erased_formula}
use Rattle.pb_protocol_unfolder.specs.Plain.{is_plain_protocol}
use Rattle.pb_protocol_symmetry.specs.ProtocolTest.{formula_has_kinds, signatures_in, is_symmetric}
use Rattle.pb_protocol_symmetry_unfolded.specs.Laws.{IsQuantifiedAlone}
use Rattle.pb_protocol_scalar_sets.specs.Numbers.{exchanged_number}
use Rattle.pb_model_properties.specs.Said.{IsModelFor, IsTextOf}
use Rattle.pb_bytecode.specs.Contents.{Contents}
use Rattle.pb_bytecode.specs.Meaning.{signature_of, AreTrees}
use Rattle.pb_assembler_modules.specs.Module.{IsCompiledModule}
use Rattle.pb_exploration_orbits.specs.Laws.{is_declared}

-- A protocol that is unfolded has a property, and the module is what is compiled of the text of the
-- same property of the model that is solved in its place. The module's instances have these trees.
pub record IsModuleOfProperty (protocol : ProtocolForm) (p : PropertyForm) (m : Contents)
    (trees : ℕ → Tree) : Type 0 where
  pub unfolds : is_plain_protocol protocol ≡ false
  pub model : ModelForm
  pub is_for : IsModelFor protocol model
  pub place : ℕ
  pub named : slice_get protocol.properties place ≡ Some p
  pub property : model_form.PropertyForm
  pub solved : slice_get model.properties place ≡ Some property
  pub text : SpecForm
  pub is_text : IsTextOf model property text
  pub compiled : IsCompiledModule (texts.erase text) m
  pub ends : AreTrees m trees

-- The protocol is the same where these elements of the sort are permuted, and so is the property's
-- formula. What is quantified in it has no equation of its own.
pub record IsSameWhere (protocol : ProtocolForm) (p : PropertyForm) (sort : Name) (M : Carrier)
    : Type 0 where
  pub symmetric : is_symmetric (erase protocol) sort M ≡ true
  pub kinds :
      formula_has_kinds (erase protocol) sort M (signatures_in (erase protocol) sort M) []
      (erased_formula p.formula) ≡ true
  pub alone : IsQuantifiedAlone (erase protocol) (erased_formula p.formula)

-- right sides read instances of the module alone
abbrev pub ModulesOfPropertiesAreClosed : Type 0
ModulesOfPropertiesAreClosed =
    (protocol : ProtocolForm) (p : PropertyForm) (m : Contents) (trees : ℕ → Tree) →
    IsModuleOfProperty protocol p m trees →
    AreClosed (is_declared m) (numbered 0 (map signature_of m.equations) trees)

-- to exchange two elements is a symmetry
abbrev pub ModulesOfPropertiesAreSymmetric : Type 0
ModulesOfPropertiesAreSymmetric =
    (protocol : ProtocolForm) (p : PropertyForm) (m : Contents) (trees : ℕ → Tree) →
    IsModuleOfProperty protocol p m trees →
    (sort : Name) (M : Carrier) → IsSameWhere protocol p sort M →
    (a b : Value) → contains M a ≡ true → contains M b ≡ true →
    IsSymmetry (is_declared m) (numbered 0 (map signature_of m.equations) trees)
    (exchanged_number (erase protocol) sort a b)
