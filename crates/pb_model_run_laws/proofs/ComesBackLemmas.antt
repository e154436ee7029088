-- A run that is as long as there are states comes to one of them twice: else its states would be too many (the pigeonhole principle).
use Rattle.std.proofs.Common.{◌≡◌, ◌⊎◌, suc, arith, Bool, true, false, true≢false, List, [], ◌∷◌, ◌++◌, length, refl, sym, ap, ◌∙◌, inl, inr}
use Rattle.std.specs.Bool.{Decides}
use Rattle.std.specs.List.{AllByRecursion, IsDistinct}
use Rattle.std.specs.Set.{is_member}
use Rattle.std.specs.Cmp.Lexicographic.{pointwise}
use Rattle.std.specs.Ordering.{int_eq}
use Rattle.std.proofs.lemmas.Bool.{or_parts}
use Rattle.std.proofs.lemmas.Bool.Decides.{Decides-int_eq}
use Rattle.std.proofs.lemmas.Cmp.{int_eq_equiv, lists_equiv}
use Rattle.std.proofs.lemmas.Map.Keys.{IsDistinct-cons, IsDistinct-from_apart}
use Rattle.std.proofs.lemmas.Map.Made.{is_member-Decides, length-le_from_is_member}
use Rattle.std.proofs.lemmas.Slice.Eq.{slice_eq-Decides}
use Rattle.pb_base_values.specs.Carrier.{tuples}
use Rattle.pb_base_values.proofs.Tuples.{length-tuples, within_is_among}
use Rattle.pb_model_meaning.specs.Syntax.{Model}
use Rattle.pb_model_meaning.specs.Steps.{State, is_state, state_carriers}
use Rattle.pb_model_runs.specs.Runs.{Move, last_state}
use Rattle.pb_model_runs.specs.Possibly.{StaysWithin}
use Rattle.pb_model_runs.proofs.Elements.{either_true}
use Rattle.pb_model_run_laws.specs.Counterexamples.{ComesBack, LongRunsComeBack}

abbrev same : State → State → Bool
same = pointwise int_eq

same-decides : (s t : State) → Decides (same s t) (s ≡ t)
same-decides s t = slice_eq-Decides Decides-int_eq s t (same s t) refl

-- the states to which a run comes, the first one among them
abbrev reached : State → List Move → List State
reached s [] = s ∷ []
reached s (x ∷ path) = s ∷ reached x.state path

length-reached : (s : State) (path : List Move) → length (reached s path) ≡ suc (length path)
length-reached s [] = refl
length-reached s (x ∷ path) = ap suc (length-reached x.state path)

-- the moves that lead to a state that is reached
record LeadsTo (s t : State) (path : List Move) : Type 0 where
  first : List Move
  rest : List Move
  parts : path ≡ first ++ rest
  there : last_state t first ≡ s

found : (s t : State) (path : List Move) → is_member same (reached t path) s ≡ true → LeadsTo s t path
found s t [] e = elim (either_true (same s t) false e) [
  | inl here ↦ record { first = []; rest = []; parts = refl; there = sym ((same-decides s t).0 here) }
  | inr none ↦ absurd (true≢false (sym none))
]
found s t (x ∷ path) e = elim (either_true (same s t) (is_member same (reached x.state path) s) e) [
  | inl here ↦ record { first = []; rest = x ∷ path; parts = refl; there = sym ((same-decides s t).0 here) }
  | inr there ↦
      let later = found s x.state path there in
      record { first = x ∷ later.first; rest = later.rest; parts = ap (λ (xs : List Move). x ∷ xs) later.parts; there = later.there }
]

none-equal : (s : State) (ts : List State) → is_member same ts s ≡ false → AllByRecursion (λ t. same s t ≡ false) ts
none-equal s [] e = tt
none-equal s (t ∷ ts) e = let parts = or_parts (same s t) (is_member same ts s) e in (parts.0, none-equal s ts parts.1)

comes-back-or-distinct : (s : State) (path : List Move) → ComesBack s path ⊎ IsDistinct same (reached s path)
comes-back-or-distinct s [] = inr (IsDistinct-cons same s [] tt (IsDistinct-from_apart same [] (λ i j d a b. absurd (omega (arith, b)))))
comes-back-or-distinct s (x ∷ path) = by (is_member same (reached x.state path) s) refl (comes-back-or-distinct x.state path)
  where
    by : (b : Bool) → is_member same (reached x.state path) s ≡ b → ComesBack x.state path ⊎ IsDistinct same (reached x.state path)
        → ComesBack s (x ∷ path) ⊎ IsDistinct same (s ∷ reached x.state path)
    by true e others =
        let again = found s x.state path e in
        inl (record {
          stem = [];
          loop = x ∷ again.first;
          rest = again.rest;
          parts = ap (λ (xs : List Move). x ∷ xs) again.parts;
          goes_on = omega arith;
          back = again.there;
        })
    by false e (inl later) =
        inl (record {
          stem = x ∷ later.stem;
          loop = later.loop;
          rest = later.rest;
          parts = ap (λ (xs : List Move). x ∷ xs) later.parts;
          goes_on = later.goes_on;
          back = later.back;
        })
    by false e (inr distinct) = inr (IsDistinct-cons same s (reached x.state path) (none-equal s (reached x.state path) e) distinct)

module _ (m : Model) where
  reached-within : (s : State) (path : List Move) → is_state m s ≡ true → StaysWithin m path → (t : State) → is_member same (reached s path) t ≡ true → is_state m t ≡ true
  reached-within s [] e within t h = elim (either_true (same t s) false h) [
    | inl here ↦ ap (is_state m) ((same-decides t s).0 here) ∙ e
    | inr none ↦ absurd (true≢false (sym none))
  ]
  reached-within s (x ∷ path) e within t h = elim (either_true (same t s) (is_member same (reached x.state path) t) h) [
    | inl here ↦ ap (is_state m) ((same-decides t s).0 here) ∙ e
    | inr later ↦ reached-within x.state path within.0 within.1 t later
  ]

  among : (t : State) → is_state m t ≡ true → is_member same (tuples (state_carriers m)) t ≡ true
  among t e = (is_member-Decides same-decides (tuples (state_carriers m)) t).1 (within_is_among (state_carriers m) t e)

pub long-runs-come-back : LongRunsComeBack
long-runs-come-back m s path e within long = elim (comes-back-or-distinct s path) [
  | inl back ↦ back
  | inr distinct ↦
      let few = length-le_from_is_member (lists_equiv int_eq_equiv) (reached s path) (tuples (state_carriers m)) distinct
      (λ t h. among m t (reached-within m s path e within t h)) in
      let many = length-reached s path in
      let all = length-tuples (state_carriers m) in
      absurd (omega (arith, few, many, all, long))
]
