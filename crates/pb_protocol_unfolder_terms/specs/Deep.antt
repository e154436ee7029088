-- Where a term is refused that nests too deep as it is unfolded.
use Rattle.std.specs.Prelude.{◌≡◌, ◌≤◌, ◌⊎◌, Contains}
use Rattle.pb_text_tree.specs.declared.place.Place.{Place}
use Rattle.pb_text_tree.specs.Form.{TermForm}
use Rattle.pb_protocol_meaning.specs.Syntax.{StateVariable}
use Rattle.pb_protocol_unfolder_terms.specs.Large.{HasManyOperators, IsTokenMet}
use Rattle.pb_protocol_unfolder_terms.specs.Met.{IsMet, Occurrence, Surroundings, all_index_levels}

-- where a term is told: at its own token, but a chain or arithmetic where its first operand is
abbrev pub told_at : TermForm → Place
told_at (TermForm.constant q b) = q
told_at (TermForm.number q n) = q
told_at (TermForm.name x) = x.place
told_at (TermForm.not q x) = q
told_at (TermForm.negative q x) = q
told_at (TermForm.connected c q x y) = told_at x
told_at (TermForm.compared c q x y) = q
told_at (TermForm.computed o q x y) = told_at x
told_at (TermForm.application f xs) = f.place
told_at (TermForm.quantified q r xs x) = r

-- an array is read whose indices take all levels that are left
abbrev pub HasDeepIndices : Surroundings → Occurrence → TermForm → Type 0
HasDeepIndices m o (TermForm.application f xs) =
    (v : StateVariable) × Contains m.variables v × (v.name ≡ f.text)
    × (o.levels ≤ all_index_levels m o.definitions o.scope xs v.indices)
HasDeepIndices m o x = ⊥

-- no level is left for a term, or for what its indices say
abbrev pub IsDeep : Surroundings → Occurrence → Type 0
IsDeep m o = (o.levels ≡ 0) ⊎ HasDeepIndices m o o.term

-- a term that is met, unfolded, has more than 8,192 operators
abbrev pub HasLargePart : Surroundings → Occurrence → Type 0
HasLargePart m whole = (o : Occurrence) × IsMet m whole o × HasManyOperators m o

-- such a term is told at p; or p is that of a token, and an index is too large to be unfolded
abbrev pub IsDepthFault : Surroundings → Occurrence → Place → Type 0
IsDepthFault m whole p =
    ((o : Occurrence) × IsMet m whole o × IsDeep m o × (p ≡ told_at o.term))
    ⊎ (IsTokenMet m whole p × HasLargePart m whole)
