-- Places of calls, one for each name in the lines of evidence, in the order in which they stand
-- there. A name that has none in the list stands without one; so an empty list is that of no
-- places.
use Rattle.std.specs.Prelude.{◌≡◌, ℕ, ◌+◌, ◌<◌, List, [], ◌∷◌, ◌++◌, length, drop}
use Rattle.std.specs.Prelude.{slice_index, slice_index_or, Option, None}
use Rattle.pb_text_tree.specs.declared.place.Place.{Place}
use Rattle.pb_game.specs.Adjacency.{row}
use Rattle.pb_evidence.specs.declared.Evidence.{Evidence}
use Rattle.pb_report.specs.EvidenceText.{dependency_text}

-- the list has, of each name behind an instance, the place at which this calls that
abbrev pub AreCallPlaces : (ℕ → ℕ → Option Place) → Evidence → List (Option Place) → Type 0
AreCallPlaces place e call_places =
    (k : ℕ) → k < length e.instances.items
    → (j : ℕ) → j < length (row e.places.items e.dependencies.items k)
    → slice_index_or call_places (slice_index e.places.items k + j) None
    ≡ place (slice_index e.instances.items k)
    (slice_index (row e.places.items e.dependencies.items k) j)

-- no call's place is told
abbrev pub no_place : ℕ → ℕ → Option Place
no_place n called = None

-- names with the places of this list
abbrev pub placed_names : (ℕ → List ℕ) → List ℕ → List (Option Place) → List ℕ
placed_names name [] call_places = []
placed_names name (n ∷ ns) call_places =
    dependency_text name n (slice_index_or call_places 0 None)
    ++ placed_names name ns (drop 1 call_places)
