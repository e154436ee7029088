-- Where in a text one of its instances calls another, both being given by their numbers.
use Rattle.std.specs.Prelude.{ℕ, Bool, true, false, List, Option, None, IsSome, option_and_then}
use Rattle.std.specs.List.{slice_get}
use Rattle.pb_text_tree.specs.declared.place.Place.{Place}
use Rattle.pb_text_tree.specs.Form.{SpecForm}
use Rattle.pb_sorts.specs.declared.carrier.Carrier.{Carrier}
use Rattle.pb_sorts.specs.Instance.{Instance, instances}
use Rattle.pb_sorts.specs.Layout.{carriers_of}
use Rattle.pb_evidence.specs.ProofGraphs.{Graph, RestsOn}
use Rattle.pb_typing_calls.specs.Calls.{call_place}

-- the instance with this number
abbrev pub instance_numbered : List (List Carrier) → ℕ → Option Instance
instance_numbered layout n = slice_get (instances (carriers_of layout)) n

-- the place of the first call by which the instance n names the other one
abbrev pub place_of_call : SpecForm → List (List Carrier) → ℕ → ℕ → Option Place
place_of_call text layout n called =
    option_and_then
    (λ i. option_and_then (λ j. call_place text i j) (instance_numbered layout called))
    (instance_numbered layout n)

-- each instance that another one rests on is called by it, at some place of the text
abbrev pub AreCalled : SpecForm → List (List Carrier) → Graph → Type 0
AreCalled text layout graph =
    (n m : ℕ) → RestsOn graph n m → IsSome (place_of_call text layout n m)

-- the place of a call where places are told, else none
abbrev pub told_place : Bool → SpecForm → List (List Carrier) → ℕ → ℕ → Option Place
told_place true text layout = place_of_call text layout
told_place false text layout = λ n called. None
