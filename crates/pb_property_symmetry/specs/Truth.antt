-- The truth of a module's initial instance, by representatives of instances that differ by
-- exchanges of like elements (Ip and Dill 1996).
use Rattle.std.specs.Prelude.{◌≡◌, ℕ, Bool, List, map}
use Rattle.pb_base_values.specs.Carrier.{Value}
use Rattle.pb_fixpoint_trees.specs.Tree.{Tree}
use Rattle.pb_fixpoint_trees.specs.Equations.{numbered}
use Rattle.pb_fixpoint_symmetry.specs.Symmetry.{AreClosed, IsSymmetry}
use Rattle.pb_text_meaning.specs.Syntax.{Name}
use Rattle.pb_protocol_tree.specs.Form.{PropertyForm, ProtocolForm}
use Rattle.pb_protocol_meaning.specs.Syntax.{Protocol}
use Rattle.pb_protocol_meaning.specs.Erase.{erase}
use Rattle.pb_protocol_representatives.specs.Exchanges.{neighbours_exchanged}
use Rattle.pb_bytecode.specs.Contents.{Contents}
use Rattle.pb_bytecode.specs.Meaning.{AreTrees, answer, signature_of}
use Rattle.pb_exploration_orbits.specs.Laws.{is_declared}
use Rattle.pb_property_symmetry.specs.Permutable.{IsPermutable}
use Rattle.pb_property_symmetry.specs.Properties.{IsModuleOfProperty}

-- where to exchange neighbouring elements is a symmetry of the module, this is its answer
abbrev pub IsTruthByExchanges : Protocol → Name → List Value → Contents → Bool → Type 0
IsTruthByExchanges p sort elements m truth =
    (trees : ℕ → Tree) → AreTrees m trees →
    AreClosed (is_declared m) (numbered 0 (map signature_of m.equations) trees) →
    ((k : ℕ) → IsSymmetry (is_declared m) (numbered 0 (map signature_of m.equations) trees)
    (neighbours_exchanged p sort elements k)) → truth ≡ answer m trees

-- and so it is where the elements are permutable for the property that the module is of
abbrev pub TruthsByExchangesAreAnswers : Type 0
TruthsByExchangesAreAnswers =
    (protocol : ProtocolForm) (p : PropertyForm) (m : Contents) (trees : ℕ → Tree) →
    IsModuleOfProperty protocol p m trees → (sort : Name) (elements : List Value) →
    IsPermutable protocol p sort elements → (truth : Bool) →
    IsTruthByExchanges (erase protocol) sort elements m truth → truth ≡ answer m trees
