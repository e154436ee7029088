-- The symmetries of a protocol are those of the equations that are solved in its place.
use Rattle.std.proofs.Common.{zero, suc, List, [], ◌∷◌, map, ap, arith}
use Rattle.std.specs.Prelude.{Contains}
use Rattle.pb_model_meaning.specs.Syntax as flat
use Rattle.pb_model_symmetry.specs.Laws.{TranslationsAreSymmetric}
use Rattle.pb_protocol_meaning.specs.Syntax.{Property, Protocol}
use Rattle.pb_protocol_folding.specs.FoldedModels.{folded_property}
use Rattle.pb_protocol_unfolding.specs.Unfolding.{unfolded_formula, unfolded_property, unfolded}
use Rattle.pb_protocol_unfolding.specs.ModelLaws.{PropertiesNameNoWhole, flat_model, flat_formula, FlatNamesAreApart}
use Rattle.pb_protocol_unfolding.proofs.FlatModels.{flat-hides}
use Rattle.pb_protocol_packing.specs.Groups.{packed, said_formula}
use Rattle.pb_protocol_packing.specs.Laws.{PackedNamesAreApart}
use Rattle.pb_protocol_symmetry.specs.ProtocolTest.{signatures_in, TestedFormulasHaveKinds, TestedProtocolsAreSymmetric}
use Rattle.pb_protocol_symmetry_unfolded.specs.Laws.{permuted_states, UnfoldedModelsAreSymmetric}
use Rattle.pb_protocol_symmetry_folded.specs.Laws.{FoldedModelsAreSymmetric}
use Rattle.pb_protocol_symmetry_packed.specs.Laws.{PackedPropertiesAreSymmetric}
use Rattle.pb_protocol_symmetry_solved.specs.Laws.{FlatModelsAreSymmetric, FlatEquationsAreSymmetric, permuted_packed, PackedEquationsAreSymmetric, TestedEquationsAreSymmetric}

-- ---- properties

mapped : {A B : Type 0} (f : A → B) (xs : List A) (x : A) → Contains xs x → Contains (map f xs) (f x)
mapped f [] x (k, below, at) = absurd (omega (arith, below))
mapped f (y ∷ xs) x (zero, below, at) = (0, omega arith, ap f at)
mapped f (y ∷ xs) x (suc k, below, at) = let r = mapped f xs x (k, omega (arith, below), at) in (suc r.0, omega (arith, r.1), r.2)

abbrev flat_property : Protocol → Property → flat.Property
flat_property m q = record { name = q.name; formula = flat_formula m q.formula }

flat-contains : (m : Protocol) (q : Property) → Contains m.properties q → Contains (flat_model m).properties (flat_property m q)
flat-contains m q h =
    mapped (folded_property (unfolded m)) (map (unfolded_property m) m.properties) (unfolded_property m q) (mapped (unfolded_property m) m.properties q h)

-- ---- laws

pub flat-symmetric : UnfoldedModelsAreSymmetric → FoldedModelsAreSymmetric → FlatModelsAreSymmetric
flat-symmetric unfolded-symmetric folded-symmetric m hides sort M signatures known p back permutes f none-whole h alone =
    folded-symmetric (unfolded m) (flat-hides m hides) (unfolded_formula m [] f) (permuted_states m sort p back)
    (unfolded-symmetric m hides sort M signatures known p back permutes f none-whole h alone)

pub flat-equations : FlatModelsAreSymmetric → FlatNamesAreApart → TranslationsAreSymmetric → FlatEquationsAreSymmetric
flat-equations models apart translations m hides sort M signatures known p back permutes f none-whole h alone names =
    translations (flat_model m) names (flat_formula m f) (permuted_states m sort p back) (apart m hides)
    (models m hides sort M signatures known p back permutes f none-whole h alone)

pub packed-equations : PropertiesNameNoWhole → FlatModelsAreSymmetric → PackedPropertiesAreSymmetric → PackedNamesAreApart → TranslationsAreSymmetric → PackedEquationsAreSymmetric
packed-equations name-none models properties apart translations m hides able sort M signatures known p back permutes q among h alone names =
    translations (packed (flat_model m)) names (said_formula (flat_model m) (flat_formula m q.formula)) (permuted_packed m sort p back) (apart (flat_model m) able)
    (properties (flat_model m) (flat_property m q) able (flat-contains m q among) (permuted_states m sort p back)
    (models m hides sort M signatures known p back permutes q.formula (name-none m q among) h alone))

pub tested-equations : FlatEquationsAreSymmetric → TestedProtocolsAreSymmetric → TestedFormulasHaveKinds → TestedEquationsAreSymmetric
tested-equations equations protocols formulas m hides sort M passes p back permutes f none-whole kinds alone names =
    equations m hides sort M (signatures_in m sort M) (protocols m sort M passes) p back permutes f none-whole (formulas m sort M (signatures_in m sort M) [] f kinds) alone names
