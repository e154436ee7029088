-- The texts of a protocol's property: of the model that is solved in the protocol's place.
use Rattle.std.specs.Prelude.{◌≡◌, ◌⊎◌, Contains}
use Rattle.pb_text_meaning.specs.Syntax.{Name, Spec}
use Rattle.pb_model_meaning.specs.Syntax as flat
use Rattle.pb_model_translation.specs.Names.{translation}
use Rattle.pb_model_translation.specs.Apart.{HasNamesApart}
use Rattle.pb_protocol_meaning.specs.Syntax.{Formula, Protocol}
use Rattle.pb_protocol_unfolding.specs.Hygiene.{HidesNothing}
use Rattle.pb_protocol_unfolding.specs.Whole.{valued_in}
use Rattle.pb_protocol_unfolding.specs.ModelLaws.{NamesNoWhole, flat_formula, flat_model}
use Rattle.pb_protocol_unfolding.specs.Plain.{plain, plain_formula, FormulaCountsNothing, IsPlain}
use Rattle.pb_protocol_packing.specs.Groups.{packed, said_formula}
use Rattle.pb_protocol_packing.specs.Packable.{IsPackable}

-- a plain protocol is its own model; nothing counts there
pub record IsOwn (m : Protocol) (f : Formula) (n : flat.Model) (g : flat.Formula) : Type 0 where
  pub is_plain : IsPlain n
  pub apart : HasNamesApart n
  pub model : m ≡ plain n
  pub formula : f ≡ plain_formula g
  pub counts_nothing : FormulaCountsNothing g

-- else it is unfolded, and names no step by values that stays whole, as no property does
pub record IsUnfolded (m : Protocol) (f : Formula) (n : flat.Model) (g : flat.Formula)
    : Type 0 where
  pub hides_nothing : HidesNothing m
  pub names : NamesNoWhole m (valued_in f)
  pub model : n ≡ flat_model m
  pub formula : g ≡ flat_formula m f

-- n is the protocol's flat model, and g what f is there
abbrev pub IsFlat : Protocol → Formula → flat.Model → flat.Formula → Type 0
IsFlat m f n g = IsOwn m f n g ⊎ IsUnfolded m f n g

-- the text of a property of a model whose variables are packed
pub record IsPackedText (n : flat.Model) (g : flat.Formula) (text : Spec) : Type 0 where
  pub packable : IsPackable n
  pub name : Name
  pub property : Contains n.properties (record { name = name; formula = g })
  pub is_text : text ≡ translation (packed n) (said_formula n g)

-- the text of a property of the flat model, as it is or with its variables packed
abbrev pub IsTextIn : flat.Model → flat.Formula → Spec → Type 0
IsTextIn n g text = (text ≡ translation n g) ⊎ IsPackedText n g text

-- a text whose answer tells whether the protocol satisfies f
abbrev pub IsTextFor : Protocol → Formula → Spec → Type 0
IsTextFor m f text = (n : flat.Model) × (g : flat.Formula) × IsFlat m f n g × IsTextIn n g text
