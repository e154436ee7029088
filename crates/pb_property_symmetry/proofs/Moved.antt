-- Numbers move alike through packed states.
use Rattle.std.proofs.Common.{◌≡◌, ℕ, ◌+◌, ◌*◌, ◌/◌, ◌%◌, ◌<◌, true, List, [], Option, Some, sym, ap, ◌∙◌, subst, arith}
use Rattle.std.specs.List.{slice_get}
use Rattle.std.proofs.Math.Nat.{mod-lt}
use Rattle.std.proofs.lemmas.Bool.{cond-true}
use Rattle.std.proofs.lemmas.Option.{slice_get-get_or}
use Rattle.pb_base_values.specs.Carrier.{Carrier, Tuple, is_within, tuple_count, tuples}
use Rattle.pb_base_values.proofs.Tuples.{length-tuples}
use Rattle.pb_sorts.specs.Instance.{mixed_radix}
use Rattle.pb_sorts.proofs.TuplePlaces.{AreDistinct, HasTuplePlace, is_within-slice_get, mixed_radix-slice_get, place-is_within}
use Rattle.pb_text_meaning.specs.Syntax.{Variable}
use Rattle.pb_text_meaning.specs.Formula.{carriers_of}
use Rattle.pb_model_meaning.specs.Syntax.{Model}
use Rattle.pb_model_meaning.specs.Steps.{State, data_of, is_state, state_carriers, state_count}
use Rattle.pb_protocol_packing.specs.Packing.{Group, packed_by}
use Rattle.pb_protocol_packing.specs.Apart.{IsPacking}
use Rattle.pb_protocol_packing.specs.Unpacked.{unpacked}
use Rattle.pb_protocol_packing.proofs.Sorts.{packed-sorts, sorts-same}
use Rattle.pb_protocol_packing.proofs.Unpacked.{count-same}
use Rattle.pb_protocol_scalar_sets.specs.Numbers.{tuple_or_none}
use Rattle.pb_protocol_symmetry_packed.specs.States.{packed_state}
use Rattle.pb_protocol_symmetry_packed.specs.Laws.{PackedModelsAreIsomorphic, through}
use Rattle.pb_property_symmetry.specs.Numbers.{moved_instance}
use Rattle.pb_property_symmetry.specs.Laws.{PackedStatesKeepTheirNumbers, PackedNumbersMoveAlike}
use Rattle.pb_property_symmetry.proofs.Carriers.{carriers-distinct}

-- there is a tuple for each rest
pub record HasTuple (cs : List Carrier) (n : ℕ) : Type 0 where
  pub tuple : Tuple
  pub at : slice_get (tuples cs) (n % tuple_count cs) ≡ Some tuple
  pub within : is_within cs tuple ≡ true

pub has-tuple : (cs : List Carrier) (n : ℕ) → 0 < tuple_count cs → HasTuple cs n
has-tuple cs n some =
    let k = n % tuple_count cs in
    let at = slice_get-get_or (tuples cs) k [] (omega (arith, length-tuples cs, mod-lt n some)) in
    record { tuple = _; at = at; within = is_within-slice_get cs k _ at }

pub moved-at : (cs : List Carrier) (f : State → State) (n : ℕ) (h : HasTuple cs n) → moved_instance cs f n ≡ n / tuple_count cs * tuple_count cs + mixed_radix cs (f h.tuple)
moved-at cs f n h = ap (λ (o : Option Tuple). n / tuple_count cs * tuple_count cs + mixed_radix cs (f (tuple_or_none o))) h.at

-- maps that are the same at states move the same numbers
pub moved-alike : (cs : List Carrier) (f g : State → State) → ((s : State) → is_within cs s ≡ true → f s ≡ g s) → (n : ℕ) → 0 < tuple_count cs → moved_instance cs f n ≡ moved_instance cs g n
moved-alike cs f g same n some =
    let h = has-tuple cs n some in
    moved-at cs f n h ∙ (ap (λ (s : State). n / tuple_count cs * tuple_count cs + mixed_radix cs s) (same h.tuple h.within) ∙ sym (moved-at cs g n h))

-- a tuple is the one at its number
at-radix : (cs : List Carrier) (s : State) (n : ℕ) → AreDistinct cs → is_within cs s ≡ true → mixed_radix cs s ≡ n → slice_get (tuples cs) n ≡ Some s
at-radix cs s n distinct within number =
    let p : HasTuplePlace cs s = place-is_within cs s within in
    let place : p.place ≡ n = mixed_radix-slice_get cs p.place s distinct p.at ∙ number in
    ap (slice_get (tuples cs)) (sym place) ∙ p.at

-- there are as many packed states
pub counts-same : (m : Model) (gs : List Group) → IsPacking m gs → state_count (packed_by gs m) ≡ state_count m
counts-same m gs packing =
    count-same m gs (sorts-same m gs packing) gs (packed-sorts m gs packing) packing.places
    ∙ ap (λ (xs : List Variable). tuple_count (carriers_of (data_of m) xs)) (sym packing.variables)

module _ (isomorphic : PackedModelsAreIsomorphic) (numbers : PackedStatesKeepTheirNumbers) (m : Model) (gs : List Group) (packing : IsPacking m gs) where
  pub moves-alike : (f : State → State) → ((s : State) → is_state m (f s) ≡ is_state m s) → (n : ℕ) → 0 < state_count m →
      moved_instance (state_carriers (packed_by gs m)) (through (packed_by gs m) (unpacked gs) (packed_state gs) f) n ≡ moved_instance (state_carriers m) f n
  moves-alike f states n some =
      let N = packed_by gs m in
      let iso = isomorphic m gs packing in
      let counts = counts-same m gs packing in
      let cs = state_carriers N in
      let T = tuple_count cs in
      let h = has-tuple cs n (subst (λ k. 0 < k) (sym counts) some) in
      let t = h.tuple in
      let s = unpacked gs t in
      let s-state : is_state m s ≡ true = iso.there t h.within in
      let go = through N (unpacked gs) (packed_state gs) f in
      let s-number : mixed_radix (state_carriers m) s ≡ n % T =
      sym (numbers m gs packing s s-state) ∙ (ap (mixed_radix cs) (iso.back t h.within)
      ∙ sym (mixed_radix-slice_get cs (n % T) t (carriers-distinct (data_of N) N.variables) h.at)) in
      let there : HasTuple (state_carriers m) n = record {
        tuple = s;
        at = at-radix (state_carriers m) s (n % state_count m) (carriers-distinct (data_of m) m.variables) s-state (s-number ∙ ap (λ k. n % k) counts);
        within = s-state;
      } in
      moved-at cs go n h
      ∙ (ap (λ (r : State). n / T * T + mixed_radix cs r) (cond-true (is_state N t) (packed_state gs (f s)) t h.within)
      ∙ (ap (λ k. n / T * T + k) (numbers m gs packing (f s) (states s ∙ s-state))
      ∙ (ap (λ k. n / k * k + mixed_radix (state_carriers m) (f s)) counts
      ∙ sym (moved-at (state_carriers m) f n there))))

pub packed-moves : PackedModelsAreIsomorphic → PackedStatesKeepTheirNumbers → PackedNumbersMoveAlike
packed-moves isomorphic numbers m gs packing f states n some = moves-alike isomorphic numbers m gs packing f states n some
