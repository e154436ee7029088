-- A packed model satisfies what the model does.
use Rattle.std.specs.Prelude.{◌≡◌, ◌<◌, ◌≤◌, ◌^◌, true, false, List, length, Contains}
use Rattle.std.specs.List.{list_all}
use Rattle.pb_text_meaning.specs.Syntax.{Name}
use Rattle.pb_text_meaning.specs.Meaning.{answer}
use Rattle.pb_model_meaning.specs.Syntax.{StepSet, Formula, Property, Model}
use Rattle.pb_model_meaning.specs.Steps.{State, is_state, state_count, initial_state, successors}
use Rattle.pb_model_meaning.specs.Satisfaction.{satisfies}
use Rattle.pb_model_translation.specs.Names.{translation}
use Rattle.pb_model_translation.specs.Names as names
use Rattle.pb_model_translation.specs.Apart.{HasNamesApart}
use Rattle.pb_protocol_packing.specs.Packing.{Group, packed_by, packed_formula}
use Rattle.pb_protocol_packing.specs.Apart.{Each, is_among, new_names, IsPacking, is_apart_formula}
use Rattle.pb_protocol_packing.specs.Sizes.{has_few}
use Rattle.pb_protocol_packing.specs.Groups.{groups_of, packed, said_formula}
use Rattle.pb_protocol_packing.specs.Unpacked.{unpacked, StandsFor, AllStandFor}
use Rattle.pb_protocol_packing.specs.Packable.{IsPackable}

-- the packed model satisfies the packed formula exactly where the model satisfies the formula
abbrev pub PackedModelsSatisfyTheSame : Type 0
PackedModelsSatisfyTheSame =
    (m : Model) (gs : List Group) (f : Formula) →
    IsPacking m gs → is_apart_formula gs f ≡ true →
    satisfies (packed_by gs m) (packed_formula gs f) ≡ satisfies m f

-- so does the model over at most eight variables, of a property of the model
abbrev pub PropertiesStay : Type 0
PropertiesStay =
    (m : Model) (p : Property) → IsPackable m → Contains m.properties p →
    satisfies (packed m) (said_formula m p.formula) ≡ satisfies m p.formula

-- and the text of its translation has the answer
abbrev pub PackedTranslationsHaveTheAnswer : Type 0
PackedTranslationsHaveTheAnswer =
    (m : Model) (p : Property) → IsPackable m → Contains m.properties p →
    answer (translation (packed m) (said_formula m p.formula)) ≡ satisfies m p.formula

-- the names of its variables are apart, as those of the model
abbrev pub PackedNamesAreApart : Type 0
PackedNamesAreApart = (m : Model) → IsPackable m → HasNamesApart (packed m)

-- no fixpoint of a property has the name of a variable that several became
abbrev pub FixpointsKeepTheirNames : Type 0
FixpointsKeepTheirNames =
    (m : Model) (p : Property) → IsPackable m → Contains m.properties p →
    Each (λ (X : Name). is_among (new_names (groups_of m)) X ≡ false) (names.variables_of p.formula)

-- and they are at most eight
abbrev pub HaveFewVariables : Type 0
HaveFewVariables = (m : Model) → length (packed m).variables ≤ 8

-- its initial state stands for the model's, and where it goes from any of its states stands for
-- where the model goes from what the state says
abbrev pub StatesStandForStates : Type 0
StatesStandForStates =
    (m : Model) → IsPackable m →
    StandsFor m (packed m) (unpacked (groups_of m)) (initial_state m) (initial_state (packed m)) ×
    ((A : StepSet) (t : State) → is_state (packed m) t ≡ true →
    AllStandFor m (packed m) (unpacked (groups_of m))
    (successors m A (unpacked (groups_of m) t)) (successors (packed m) A t))

-- no group of a model with at most 2^62 states has too many values
abbrev pub FewStatesMakeSmallGroups : Type 0
FewStatesMakeSmallGroups =
    (m : Model) → 0 < state_count m → state_count m ≤ 2 ^ 62 →
    list_all has_few (groups_of m) ≡ true
