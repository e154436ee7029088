-- The places of the calls of evidence, line by line.
use Rattle.std.proofs.Common.{◌≡◌, ◌∙◌, ℕ, Bool, true, zero, suc, ◌+◌, ◌-◌, ◌<◌, ◌≤◌, List, [], ◌++◌, Option, None, Some, length, get_or, map, sym, ap, inl, inr, arith, below_more}
use Rattle.std.specs.Prelude.{option_and_then}
use Rattle.std.proofs.lemmas.Bool.{cases_lt}
use Rattle.std.proofs.lemmas.List.{get_or-append-add, get_or-map, get_or_append_left, length-append, length-map}
use Rattle.pb_text_tree.specs.declared.place.Place.{Place}
use Rattle.pb_text_tree.specs.Form.{SpecForm}
use Rattle.pb_sorts.specs.declared.carrier.Carrier.{Carrier}
use Rattle.pb_sorts.specs.Instance.{Instance}
use Rattle.pb_game.specs.Adjacency.{row}
use Rattle.pb_game.proofs.Rows.{row_length}
use Rattle.pb_typing_calls.specs.Calls.{call_place}
use Rattle.pb_evidence.specs.Divided.{IsDividedIntoRows}
use Rattle.pb_evidence_places.specs.CallPlaces.{instance_numbered, place_of_call, told_place}

-- the place of a call between two instances that are known
pub place_known : (text : SpecForm) (layout : List (List Carrier)) (n called : ℕ) (i j : Instance) → instance_numbered layout n ≡ Some i → instance_numbered layout called ≡ Some j
    → call_place text i j ≡ place_of_call text layout n called
place_known text layout n called i j is_caller is_called =
    sym (ap (λ (o : Option Instance). option_and_then (λ (x : Instance). option_and_then (λ (y : Instance). call_place text x y) (instance_numbered layout called)) o) is_caller
    ∙ ap (λ (o : Option Instance). option_and_then (λ (y : Instance). call_place text i y) o) is_called)

module _ (ns ps ds : List ℕ) (divided : IsDividedIntoRows ns ps ds) (place : ℕ → ℕ → Option Place) where
  abbrev start : ℕ → ℕ
  start k = get_or ps k 0

  abbrev IsPlacedAt : List (Option Place) → ℕ → Type 0
  IsPlacedAt xs k = (j : ℕ) → j < length (row ps ds k) → get_or xs (start k + j) None ≡ place (get_or ns k 0) (get_or (row ps ds k) j 0)

  rises : (k i : ℕ) → i ≤ k → k ≤ length ns → start i ≤ start k
  rises zero i le within = let same : i ≡ 0 = omega arith in let e = ap start same in omega arith
  rises (suc k) i le within = elim (cases_lt i (suc k)) [
    | inl less ↦
        let before : start i ≤ start k = rises k i (omega arith) (omega arith) in
        let step : start k ≤ start (k + 1) = divided.ordered k (omega arith) in
        let next : k + 1 ≡ suc k = omega arith in
        let e = ap start next in
        omega arith
    | inr more ↦ let same : i ≡ suc k = omega arith in let e = ap start same in omega arith
  ]

  -- the names of the first k lines have their places
  pub record ArePlacedTo (k : ℕ) (xs : List (Option Place)) : Type 0 where
    pub long : length xs ≡ start k
    pub placed : (i : ℕ) → i < k → IsPlacedAt xs i

  -- so have those of one line more, where the places of its names came
  pub line_placed : (k : ℕ) → k < length ns → (old new : List (Option Place)) → ArePlacedTo k old
      → new ≡ old ++ map (place (get_or ns k 0)) (row ps ds k) → ArePlacedTo (k + 1) new
  line_placed k within old new is same = record {
    long =
        ap (λ (xs : List (Option Place)). length xs) same
        ∙ (length-append old list ∙ omega (arith, is.long, length-map (row ps ds k) f, row_length ps ds k (divided.within k within), divided.ordered k within));
    placed = below_more _ _ before here;
  }
    where
      f : ℕ → Option Place
      f = place (get_or ns k 0)

      list : List (Option Place)
      list = map f (row ps ds k)

      before : (i : ℕ) → i < k → IsPlacedAt new i
      before i less j h =
          let long : length (row ps ds i) ≡ start (i + 1) - start i = row_length ps ds i (divided.within i (omega arith)) in
          let ordered : start (i + 1) ≤ start k = rises k (i + 1) (omega arith) (omega arith) in
          let inside : start i + j < length old = omega (arith, is.long) in
          ap (λ (xs : List (Option Place)). get_or xs (start i + j) None) same
          ∙ (get_or_append_left old list None (start i + j) inside ∙ is.placed i less j h)

      here : IsPlacedAt new k
      here j h =
          let at : start k + j ≡ length old + j = omega (arith, is.long) in
          ap (λ (xs : List (Option Place)). get_or xs (start k + j) None) same
          ∙ (ap (λ (i : ℕ). get_or (old ++ list) i None) at
          ∙ (get_or-append-add old list j None ∙ get_or-map f (row ps ds k) j 0 None h))

  -- no line is placed yet
  pub none_placed : (xs : List (Option Place)) → xs ≡ [] → ArePlacedTo 0 xs
  none_placed xs is = record {
    long = ap (λ (ys : List (Option Place)). length ys) is ∙ sym divided.first;
    placed = λ i less j h. absurd (below_zero less);
  }
    where
      below_zero : {i : ℕ} → i < 0 → ⊥
      below_zero less = omega arith

  -- one line more, its caller and its names being given
  pub next_placed : (k : ℕ) → k < length ns → (caller : ℕ) → caller ≡ get_or ns k 0 → (called : List ℕ) → called ≡ row ps ds k
      → (old new : List (Option Place)) → ArePlacedTo k old → new ≡ old ++ map (place caller) called → ArePlacedTo (k + 1) new
  next_placed k within caller at called list old new is same =
      line_placed k within old new is
      (same ∙ (ap (λ (n : ℕ). old ++ map (place n) called) at ∙ ap (λ (xs : List ℕ). old ++ map (place (get_or ns k 0)) xs) list))

-- the places of calls are those that are told
pub are_told_places : (said text : SpecForm) → said ≡ text → (layout parameters : List (List Carrier)) → layout ≡ parameters
    → (told : Bool) → told ≡ true → place_of_call said layout ≡ told_place told text parameters
are_told_places said text is_text layout parameters is_layout told is_told =
    ap (λ (x : SpecForm). place_of_call x layout) is_text
    ∙ (ap (λ (l : List (List Carrier)). place_of_call text l) is_layout
    ∙ ap (λ (b : Bool). told_place b text parameters) (sym is_told))
