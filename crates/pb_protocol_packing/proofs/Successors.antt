-- The successors of a state of the packed model stand for those of the state that it stands for, one by one.
use Rattle.std.proofs.Common.{◌≡◌, Bool, true, false, not, ◌&&◌, cond, List, [], ◌∷◌, ◌++◌, map, flat_map, refl, sym, ap, ◌∙◌, subst}
use Rattle.std.specs.Prelude.{filter}
use Rattle.pb_base_values.specs.Carrier.{Carrier, tuples}
use Rattle.pb_base_values.proofs.Tuples.{in_contains, among_is_within}
use Rattle.pb_text_meaning.specs.Syntax.{Variable}
use Rattle.pb_text_meaning.specs.Sorts.{carrier_of}
use Rattle.pb_text_meaning.specs.Formula.{carriers_of}
use Rattle.std.specs.List.{list_all}
use Rattle.std.proofs.lemmas.Bool.{and_parts}
use Rattle.pb_model_meaning.specs.Syntax.{Step, StepSet, Model}
use Rattle.pb_model_meaning.specs.Steps.{State, data_of, is_state, is_enabled, next_state, successors_by, has_step}
use Rattle.pb_protocol_packing.specs.Packing.{Group, packed_step, packed_by}
use Rattle.pb_protocol_packing.specs.Apart.{Each, is_among, new_sorts, may_bind, is_apart, is_apart_step, IsPacking}
use Rattle.pb_protocol_packing.proofs.Sorts.{sorts-same}
use Rattle.pb_protocol_packing.proofs.Lists.{each-in, not-true}
use Rattle.pb_protocol_packing.proofs.Simulation.{StepsAreSame}
use Rattle.pb_protocol_packing.proofs.Steps.{enabled-same, next-same}
use Rattle.pb_protocol_packing.specs.Unpacked.{unpacked, StandsFor, AllStandFor}

module _ (m n : Model) (decode : State → State) where
  all-append : (ss us ts ws : List State) → AllStandFor m n decode ss ts → AllStandFor m n decode us ws → AllStandFor m n decode (ss ++ us) (ts ++ ws)
  all-append [] us [] ws h k = k
  all-append (s ∷ ss) us (t ∷ ts) ws h k = (h.0, all-append ss us ts ws h.1 k)
  all-append [] us (t ∷ ts) ws h k = absurd h
  all-append (s ∷ ss) us [] ws h k = absurd h

  -- states made of the same elements where the same tests pass
  mapped : {A : Type 0} (f g : A → State) (p q : A → Bool) (xs : List A) → Each (λ x. (q x ≡ p x) × StandsFor m n decode (f x) (g x)) xs →
      AllStandFor m n decode (map f (filter p xs)) (map g (filter q xs))
  mapped f g p q [] h = tt
  mapped f g p q (x ∷ xs) h =
      subst (λ (b : Bool). AllStandFor m n decode (map f (cond (p x) (x ∷ filter p xs) (filter p xs))) (map g (cond b (x ∷ filter q xs) (filter q xs)))) (sym h.0.0)
      (by (p x) (mapped f g p q xs h.1))
    where
      by : (b : Bool) → AllStandFor m n decode (map f (filter p xs)) (map g (filter q xs))
          → AllStandFor m n decode (map f (cond b (x ∷ filter p xs) (filter p xs))) (map g (cond b (x ∷ filter q xs) (filter q xs)))
      by true rest = (h.0.1, rest)
      by false rest = rest

module _ (m : Model) (all : List Group) (packing : IsPacking m all) where
  carriers-same : (xs : List Variable) → list_all (may_bind all) xs ≡ true → carriers_of (data_of (packed_by all m)) xs ≡ carriers_of (data_of m) xs
  carriers-same [] may = refl
  carriers-same (x ∷ xs) may =
      let parts = and_parts (may_bind all x) (list_all (may_bind all) xs) may in
      let sort = (and_parts _ (not (is_among (new_sorts all) x.sort)) parts.0).1 in
      ap (λ (c : Carrier). c ∷ carriers_of (data_of (packed_by all m)) xs) (sorts-same m all packing x.sort (not-true _ sort))
      ∙ ap (λ (cs : List Carrier). carrier_of (data_of m) x.sort ∷ cs) (carriers-same xs parts.1)

  module _ (t : State) (e : is_state (packed_by all m) t ≡ true) where
    by-step : (a : Step) → is_apart_step all a ≡ true →
        AllStandFor m (packed_by all m) (unpacked all) (successors_by m (unpacked all t) a) (successors_by (packed_by all m) t (packed_step all a))
    by-step a apart =
        let may = (and_parts (list_all (may_bind all) a.variables) (is_apart all a.guard) (and_parts (list_all (may_bind all) a.variables && is_apart all a.guard) _ apart).0).0 in
        let cs = carriers_of (data_of m) a.variables in
        subst (λ (ds : List Carrier). AllStandFor m (packed_by all m) (unpacked all) (successors_by m (unpacked all t) a)
        (map (next_state (packed_by all m) t (packed_step all a)) (filter (is_enabled (packed_by all m) t (packed_step all a)) (tuples ds)))) (sym (carriers-same a.variables may))
        (mapped m (packed_by all m) (unpacked all) (next_state m (unpacked all t) a) (next_state (packed_by all m) t (packed_step all a))
        (is_enabled m (unpacked all t) a) (is_enabled (packed_by all m) t (packed_step all a)) (tuples cs)
        (each-in _ (tuples cs) (λ own i.
        let within = among_is_within cs own (in_contains own (tuples cs) i) in
        (enabled-same m all packing t e a apart own within, next-same m all packing t e a apart own within))))

    by-steps : (A : StepSet) (steps : List Step) → Each (λ (a : Step). is_apart_step all a ≡ true) steps →
        AllStandFor m (packed_by all m) (unpacked all)
        (flat_map (successors_by m (unpacked all t)) (filter (λ (a : Step). has_step A a.name) steps))
        (flat_map (successors_by (packed_by all m) t) (filter (λ (a : Step). has_step A a.name) (map (packed_step all) steps)))
    by-steps A [] apart = tt
    by-steps A (a ∷ steps) apart = by (has_step A a.name) (by-step a apart.0) (by-steps A steps apart.1)
      where
        by : (b : Bool) → AllStandFor m (packed_by all m) (unpacked all) (successors_by m (unpacked all t) a) (successors_by (packed_by all m) t (packed_step all a)) →
            AllStandFor m (packed_by all m) (unpacked all)
            (flat_map (successors_by m (unpacked all t)) (filter (λ (a : Step). has_step A a.name) steps))
            (flat_map (successors_by (packed_by all m) t) (filter (λ (a : Step). has_step A a.name) (map (packed_step all) steps))) →
            AllStandFor m (packed_by all m) (unpacked all)
            (flat_map (successors_by m (unpacked all t)) (cond b (a ∷ filter (λ (a : Step). has_step A a.name) steps) (filter (λ (a : Step). has_step A a.name) steps)))
            (flat_map (successors_by (packed_by all m) t)
            (cond b (packed_step all a ∷ filter (λ (a : Step). has_step A a.name) (map (packed_step all) steps))
            (filter (λ (a : Step). has_step A a.name) (map (packed_step all) steps))))
        by true first rest = all-append m (packed_by all m) (unpacked all) (successors_by m (unpacked all t) a) _ (successors_by (packed_by all m) t (packed_step all a)) _ first rest
        by false first rest = rest

  pub steps-same : StepsAreSame m (packed_by all m) (unpacked all)
  steps-same A t e = by-steps t e A m.steps packing.steps
