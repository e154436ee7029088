-- The parts of the test of a protocol and of a formula, by what is declared as terms name it.
use Rattle.std.specs.Prelude.{Bool, true, not, ◌&&◌, List, [], ◌∷◌}
use Rattle.std.specs.List.{list_all}
use Rattle.pb_base_values.specs.Carrier.{contains}
use Rattle.pb_text_meaning.specs.Syntax.{Name, same_name, Variable, Spec}
use Rattle.pb_text_meaning.specs.Sorts.{carrier_of}
use Rattle.pb_protocol_meaning.specs.Syntax.{StateVariable, Formula}
use Rattle.pb_protocol_meaning.specs.Erase.{protocol_of}
use Rattle.pb_protocol_symmetry.specs.Kinds.{Signature}
use Rattle.pb_protocol_symmetry.specs.ProtocolTest.{has_value, step_has_kinds, formula_has_kinds}
use Rattle.pb_protocol_scalar_sets.specs.declared.scalar_set.ScalarSet.{ScalarSet}
use Rattle.pb_protocol_scalar_sets.specs.Sorts.{spec_of}

-- none of these has the name
abbrev pub is_new : Name → List Signature → Bool
is_new x signatures = list_all (λ (s : Signature). not (same_name x s.name)) signatures

abbrev pub are_apart : List Signature → Bool
are_apart [] = true
are_apart (s ∷ signatures) = is_new s.name signatures && are_apart signatures

-- the sorts of indices have values
abbrev pub has_values : Spec → List Variable → Bool
has_values spec xs = list_all (λ (x : Variable). has_value (carrier_of spec x.sort)) xs

abbrev pub have_values : Spec → Signature → Bool
have_values spec s = has_values spec s.parameters

-- elements and state variables
abbrev pub are_declared : ScalarSet → List Signature → Bool
are_declared s state =
    list_all (contains (carrier_of (spec_of s.protocol.now) s.sort.now)) s.moved.now
    && are_apart state && list_all (have_values (spec_of s.protocol.now)) state

-- steps, where these are the state variables
abbrev pub are_fit : ScalarSet → List StateVariable → List Signature → Bool
are_fit s ys known =
    list_all (step_has_kinds (spec_of s.protocol.now) s.sort.now s.moved.now known ys)
    (protocol_of s.protocol.now).steps

-- a formula, by what may be named at states and where there is no state
abbrev pub is_same : ScalarSet → List Signature → List Signature → Formula → Bool
is_same s states start f =
    formula_has_kinds (protocol_of s.protocol.now) s.sort.now s.moved.now
    (record { at_states = states; at_start = start }) [] f
