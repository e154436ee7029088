-- Where a path leads from each state of a kind to one of that kind again, or to an end, as many of them as there are states come back to one of these, or lead to an end.
use Rattle.std.proofs.Common.{◌≡◌, ◌⊎◌, ℕ, zero, suc, ◌<◌, arith, true, List, [], ◌∷◌, ◌++◌, length, refl, sym, ap, ◌∙◌, subst, inl, inr}
use Rattle.std.proofs.lemmas.List.{length-append}
use Rattle.pb_model_meaning.specs.Syntax.{Model}
use Rattle.pb_model_meaning.specs.Steps.{State, is_state, state_count}
use Rattle.pb_model_runs.specs.Runs.{Move, last_state}
use Rattle.pb_model_runs.specs.Possibly.{StaysWithin}
use Rattle.pb_model_runs.proofs.RunsLemmas.{Along}
use Rattle.pb_model_run_laws.specs.Counterexamples.{ComesBack, LongRunsComeBack}
use Rattle.pb_model_fair_run_laws.proofs.Paths.{end-of, joined, parted}

module _ (m : Model) (G : State → Move → Type 0) (Does : State → List Move → Type 0) (does-more : (s : State) (xs ys : List Move) → Does s xs → Does s (xs ++ ys)) where
  -- a path from s to t
  record Stage (s t : State) : Type 0 where
    path : List Move
    along : Along G s path
    there : last_state s path ≡ t
    goes_on : 0 < length path
    does : Does s path

  -- moves that are paths each
  abbrev Stages : State → List Move → Type 0
  Stages s moves = Along (λ u x. Stage u x.state) s moves

  -- the paths one after another
  record Whole (s : State) (moves : List Move) : Type 0 where
    path : List Move
    along : Along G s path
    there : last_state s path ≡ last_state s moves

  whole : (s : State) (moves : List Move) → Stages s moves → Whole s moves
  whole s [] h = record { path = []; along = tt; there = refl }
  whole s (x ∷ moves) h =
      let rest = whole x.state moves h.1 in
      record {
        path = h.0.path ++ rest.path;
        along = joined G s x.state h.0.path rest.path h.0.along h.0.there rest.along;
        there = end-of s x.state h.0.path rest.path h.0.there ∙ rest.there;
      }

  -- a path that comes back to where its second part begins
  pub record Circle (s : State) : Type 0 where
    pub stem : List Move
    pub loop : List Move
    pub along : Along G s (stem ++ loop)
    pub back : last_state s (stem ++ loop) ≡ last_state s stem
    pub goes_on : 0 < length loop
    pub does : Does (last_state s stem) loop

  circle : (s : State) (stem loop : List Move) → Stages s stem → Stages (last_state s stem) loop → 0 < length loop → last_state (last_state s stem) loop ≡ last_state s stem → Circle s
  circle s stem [] first second long back = absurd (omega (arith, long))
  circle s stem (x ∷ loop) first second long back =
      let t = last_state s stem in
      let before = whole s stem first in
      let one = second.0 in
      let rest = whole x.state loop second.1 in
      let round = one.path ++ rest.path in
      let there = end-of t x.state one.path rest.path one.there ∙ rest.there in
      let sum = length-append one.path rest.path in
      let some = one.goes_on in
      record {
        stem = before.path;
        loop = round;
        along = joined G s t before.path round before.along before.there (joined G t x.state one.path rest.path one.along one.there rest.along);
        back = end-of s t before.path round before.there ∙ there ∙ back ∙ sym before.there;
        goes_on = omega (arith, sum, some);
        does = subst (λ (u : State). Does u round) (sym before.there) (does-more t one.path rest.path one.does);
      }

  module _ (Kind End : State → Type 0) (kind-state : (s : State) → Kind s → is_state m s ≡ true) (prefixed : (s : State) (path : List Move) → Along G s path → End (last_state s path) → End s) where
    -- a path to a state of the kind
    pub record Round (s : State) : Type 0 where
      pub path : List Move
      pub along : Along G s path
      pub goes_on : 0 < length path
      pub does : Does s path
      pub kind : Kind (last_state s path)

    module _ (next : (s : State) → Kind s → End s ⊎ Round s) where
      -- so many rounds
      record Chain (s : State) (n : ℕ) : Type 0 where
        moves : List Move
        long : length moves ≡ n
        within : StaysWithin m moves
        stages : Stages s moves

      chain : (n : ℕ) (s : State) → Kind s → End s ⊎ Chain s n
      chain zero s k = inr (record { moves = []; long = refl; within = tt; stages = tt })
      chain (suc n) s k = elim (next s k) [
        | inl end ↦ inl end
        | inr round ↦
            let t = last_state s round.path in
            elim (chain n t round.kind) [
              | inl end ↦ inl (prefixed s round.path round.along end)
              | inr more ↦
                  let stage : Stage s t = record { path = round.path; along = round.along; there = refl; goes_on = round.goes_on; does = round.does } in
                  let move : Move = record { name = []; own = []; state = t } in
                  inr (record {
                    moves = move ∷ more.moves;
                    long = ap suc more.long;
                    within = (kind-state t round.kind, more.within);
                    stages = (stage, more.stages);
                  })
            ]
      ]

      closed : (s : State) (moves : List Move) → Stages s moves → ComesBack s moves → Circle s
      closed s moves stages back =
          let parts = parted (λ u x. Stage u x.state) s (back.stem ++ back.loop) back.rest (subst (λ (xs : List Move). Stages s xs) back.parts stages) in
          let both = parted (λ u x. Stage u x.state) s back.stem back.loop parts.0 in
          circle s back.stem back.loop both.0 both.1 back.goes_on (sym (end-of s (last_state s back.stem) back.stem back.loop refl) ∙ back.back)

      pub end-or-circle : LongRunsComeBack → (s : State) → Kind s → End s ⊎ Circle s
      end-or-circle come-back s k = elim (chain (state_count m) s k) [
        | inl end ↦ inl end
        | inr more ↦ let long = more.long in inr (closed s more.moves more.stages (come-back m s more.moves (kind-state s k) more.within (omega (arith, long))))
      ]
