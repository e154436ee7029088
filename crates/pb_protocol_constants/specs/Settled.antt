-- The protocol of a model's text: constants are definitions that stand for written numbers, and
-- sorts that are declared by bounds have ranges.
use Rattle.std.specs.Prelude.{◌≡◌, suc, ℤ, pos, negsuc, int_le, true, false, ⊤, List, [], ◌∷◌}
use Rattle.std.specs.Prelude.{◌++◌, map}
use Rattle.std.specs.Prelude.{Contains, Option, Some, None}
use Rattle.pb_text_tree.specs.declared.place.Place.{Place}
use Rattle.pb_text_tree.specs.Form.{TermForm, RangeForm, no_arguments}
use Rattle.pb_text_meaning.specs.Syntax.{Term, Spec}
use Rattle.pb_text_meaning.specs.Erase.{erased_term}
use Rattle.pb_protocol_folding.specs.Folding.{folded, written_value}
use Rattle.pb_protocol_tree.specs.Form.{ConstantForm, BoundsForm, ModelTextForm, DefinitionForm}
use Rattle.pb_protocol_tree.specs.Form.{ProtocolForm}
use Rattle.pb_protocol_meaning.specs.Erase.{erase}
use Rattle.pb_protocol_meaning.specs.Meaning.{meaning}
use Rattle.pb_protocol_meaning.specs.Steps.{data_of, functions_at_start}
use Rattle.pb_protocol_unfolding.specs.PutIn.{put_in}
use Rattle.pb_protocol_unfolding.specs.Unfolding.{forms_at_start}

-- ---- constants as a protocol

-- a definition without parameters
abbrev pub definition_of_constant : ConstantForm → DefinitionForm
definition_of_constant c = record { name = c.name; parameters = []; term = c.value }

abbrev pub place_of_constant : ConstantForm → Place
place_of_constant c = c.place

-- definitions, and nothing else
abbrev pub definitions_alone : List DefinitionForm → ProtocolForm
definitions_alone ds = record {
  sorts = [];
  ranges = [];
  variables = [];
  definitions = ds;
  steps = [];
  initial = record { place = record { line = 1; column = 1 }; values = no_arguments };
  properties = [];
}

abbrev pub constants_alone : List ConstantForm → ProtocolForm
constants_alone cs = definitions_alone (map definition_of_constant cs)

-- ---- values

-- what a term over constants means, where nothing else is declared
abbrev pub value_of : ProtocolForm → TermForm → ℤ
value_of m x = meaning (data_of (erase m)) (functions_at_start (erase m)) [] (erased_term x)

-- no sort and no range
abbrev pub nothing_declared : Spec
nothing_declared = data_of (erase (definitions_alone []))

-- the number of 32 bits that a term is written as, if it is one: no truth value
abbrev pub number_in : Term → Option ℤ
number_in (Term.Truth b) = None
number_in x = written_value nothing_declared x

-- what a term over constants is unfolded to, folded
abbrev pub unfolded_value : ProtocolForm → TermForm → Term
unfolded_value m x =
    folded (data_of (erase m)) false
    (put_in (data_of (erase m)) (forms_at_start (erase m)) [] (erased_term x))

-- this is written as a number of 32 bits, the term's value
abbrev pub HasNumber : ProtocolForm → TermForm → Type 0
HasNumber m x = number_in (unfolded_value m x) ≡ Some (value_of m x)

-- so that no enumerator has a constant's name
abbrev pub HasNoSorts : ProtocolForm → Type 0
HasNoSorts m = m.sorts ≡ []

-- a number as a term that stands at the place
abbrev pub number_at : Place → ℤ → TermForm
number_at p (pos n) = TermForm.number p n
number_at p (negsuc n) = TermForm.negative p (TermForm.number p (suc n))

-- ---- the protocol

-- a constant by its value, which stands at the place
abbrev pub settled_constant : ProtocolForm → Place → DefinitionForm → DefinitionForm
settled_constant m p d =
    record { name = d.name; parameters = []; term = number_at p (value_of m d.term) }

-- those of definitions and of places side by side
abbrev pub settled_by : ProtocolForm → List DefinitionForm → List Place → List DefinitionForm
settled_by m [] ps = []
settled_by m (d ∷ ds) [] = []
settled_by m (d ∷ ds) (p ∷ ps) = settled_constant m p d ∷ settled_by m ds ps

abbrev pub settled_constants : ProtocolForm → List Place → List DefinitionForm
settled_constants m ps = settled_by m m.definitions ps

abbrev pub settled_definitions : List ConstantForm → List DefinitionForm
settled_definitions cs = settled_constants (constants_alone cs) (map place_of_constant cs)

-- and each of those beside a place has a number
abbrev pub HaveNumbersBy : ProtocolForm → List DefinitionForm → List Place → Type 0
HaveNumbersBy m [] ps = ⊤
HaveNumbersBy m (d ∷ ds) [] = ⊤
HaveNumbersBy m (d ∷ ds) (p ∷ ps) = HasNumber m d.term × HaveNumbersBy m ds ps

abbrev pub HaveNumbers : ProtocolForm → List Place → Type 0
HaveNumbers m ps = HaveNumbersBy m m.definitions ps

-- the range of a sort, which stands where its first bound does
abbrev pub range_of : ProtocolForm → BoundsForm → RangeForm
range_of m b = record {
  place = b.low_place;
  name = b.sort.text;
  low = value_of m b.low;
  high = value_of m b.high;
}

abbrev pub settled_ranges : List ConstantForm → List BoundsForm → List RangeForm
settled_ranges cs bounds = map (range_of (constants_alone cs)) bounds

-- with these definitions and ranges in front of its own
abbrev pub with_parts : List DefinitionForm → List RangeForm → ProtocolForm → ProtocolForm
with_parts ds rs m = record m {
  ranges = rs ++ m.ranges;
  definitions = ds ++ m.definitions;
}

-- each constant stands for its value, in front of all definitions
abbrev pub settled : ModelTextForm → ProtocolForm
settled t =
    with_parts (settled_definitions t.constants) (settled_ranges t.constants t.bounds) t.protocol

-- ---- its numbers

abbrev pub HasFewBits : ℤ → Type 0
HasFewBits v =
    (int_le (negsuc 2147483647) v ≡ true) × (int_le v (pos 2147483647) ≡ true)

-- each constant is a number of 32 bits, and so is each bound, the first of two below the other or
-- equal
pub record HasSmallNumbers (t : ModelTextForm) : Type 0 where
  pub constants :
      (c : ConstantForm) → Contains t.constants c
      → HasFewBits (value_of (constants_alone t.constants) c.value)
  pub low :
      (b : BoundsForm) → Contains t.bounds b
      → HasFewBits (value_of (constants_alone t.constants) b.low)
  pub high :
      (b : BoundsForm) → Contains t.bounds b
      → HasFewBits (value_of (constants_alone t.constants) b.high)
  pub order :
      (b : BoundsForm) → Contains t.bounds b
      → int_le (value_of (constants_alone t.constants) b.low)
      (value_of (constants_alone t.constants) b.high) ≡ true
