-- Where a term is refused that is too large as it is unfolded: at a token of a term that is met, or
-- where too many values are written out.
use Rattle.std.specs.Prelude.{◌≡◌, ◌<◌, ◌⊎◌, List, length, Contains}
use Rattle.pb_base.specs.declared.limits.TheConstants.{MAX_OPERATORS}
use Rattle.pb_text_tree.specs.declared.place.Place.{Place}
use Rattle.pb_text_tree.specs.Form.{TermForm}
use Rattle.pb_text_meaning.specs.Syntax.{Variable, Spec}
use Rattle.pb_text_meaning.specs.Erase.{erased_term, erased_variables}
use Rattle.pb_protocol_meaning.specs.Syntax.{StateVariable}
use Rattle.pb_protocol_unfolding.specs.PutIn.{put_in}
use Rattle.pb_protocol_unfolding.specs.Written.{written_tuples, written_values}
use Rattle.pb_protocol_unfolder_terms.specs.Met.{IsMet, Occurrence, Surroundings, forms}
use Rattle.pb_protocol_unfolder_terms.specs.Unfolding.{operator_count}

-- ---- tokens

-- the term's own token stands at p, its operator, name, quantifier or constant
abbrev pub IsTokenOf : TermForm → Place → Type 0
IsTokenOf (TermForm.constant q b) p = p ≡ q
IsTokenOf (TermForm.number q n) p = p ≡ q
IsTokenOf (TermForm.name x) p = p ≡ x.place
IsTokenOf (TermForm.not q x) p = p ≡ q
IsTokenOf (TermForm.negative q x) p = p ≡ q
IsTokenOf (TermForm.compared c q x y) p = p ≡ q
IsTokenOf (TermForm.application f xs) p = p ≡ f.place
IsTokenOf (TermForm.quantified q r xs x) p = p ≡ r
IsTokenOf x p = ⊥

-- a connective of a row of them stands at p, or an operator of arithmetic
abbrev pub IsConnectiveAt : TermForm → Place → Type 0
IsConnectiveAt (TermForm.connected c q x y) p = (p ≡ q) ⊎ IsConnectiveAt y p
IsConnectiveAt x p = ⊥

abbrev pub IsOperatorAt : TermForm → Place → Type 0
IsOperatorAt (TermForm.computed o q x y) p = (p ≡ q) ⊎ IsOperatorAt x p
IsOperatorAt x p = ⊥

-- of a term that is met
abbrev pub IsTokenMet : Surroundings → Occurrence → Place → Type 0
IsTokenMet m whole p =
    (o : Occurrence) × IsMet m whole o
    × (IsTokenOf o.term p ⊎ (IsConnectiveAt o.term p ⊎ IsOperatorAt o.term p))

-- ---- operators

-- the term, unfolded, has more than 8,192 operators
abbrev pub HasManyOperators : Surroundings → Occurrence → Type 0
HasManyOperators m o =
    MAX_OPERATORS
    < operator_count (put_in m.spec (forms m o.definitions) o.scope (erased_term o.term))

-- ---- values

-- one of these has more than 8,192 values
abbrev pub HasManyValues : Spec → List Variable → Type 0
HasManyValues spec xs =
    (x : Variable) × Contains xs x × (MAX_OPERATORS < length (written_values spec x.sort))

-- they have more than 8,192 tuples of values
abbrev pub HaveManyTuples : Spec → List Variable → Type 0
HaveManyTuples spec xs = MAX_OPERATORS < length (written_tuples spec xs)

-- the quantifier at p has more than 8,192 tuples of values, or an index of the array that is used
-- at p has more than 8,192 values
abbrev pub WritesMany : Surroundings → TermForm → Place → Type 0
WritesMany m (TermForm.quantified q r xs x) p =
    (p ≡ r) × HaveManyTuples m.spec (erased_variables xs)
WritesMany m (TermForm.application f xs) p =
    (p ≡ f.place)
    × (y : StateVariable) × Contains m.variables y × (y.name ≡ f.text)
    × HasManyValues m.spec y.indices
WritesMany m x p = ⊥

-- in a term that is met
abbrev pub IsValuesFault : Surroundings → Occurrence → Place → Type 0
IsValuesFault m whole p = (o : Occurrence) × IsMet m whole o × WritesMany m o.term p
