use Rattle.std.proofs.Common.{◌≡◌, ◌∙◌, ◌++◌, ◌<◌, ℕ, zero, suc, List, [], ◌∷◌, map, drop, length, refl, sym, ap, Bool, arith}
use Rattle.pb_text_tree.specs.declared.place.Place.{Place}
use Rattle.pb_protocol_unfolding.specs.Unfolding.{Instance}
use Rattle.pb_protocol_unfolder_steps.specs.declared.instance.Instance as declared_instance
use Rattle.pb_protocol_unfolder_steps.specs.Elements.{instance_said}
use Rattle.pb_protocol_unfolder_steps.specs.Refusals.{instance_place}
use Rattle.pb_protocol_unfolder.specs.Unfolded.{chosen_instances, chosen_places}
use Rattle.pb_protocol_unfolder.proofs.left.left_instances.Goals as goal

chosen-none : (is : List Instance) → chosen_instances is [] ≡ []
chosen-none [] = refl
chosen-none (i ∷ is) = refl

-- past the end of one of them
chosen-end : (is : List declared_instance.Instance) (bs : List Bool) (p : ℕ) → ((q : ℕ) → q < length is → q < length bs → q < p) → chosen_instances (map instance_said (drop p is)) (drop p bs) ≡ []
chosen-end [] bs zero past = refl
chosen-end [] bs (suc p) past = refl
chosen-end (i ∷ is) [] zero past = refl
chosen-end (i ∷ is) [] (suc p) past = chosen-none (map instance_said (drop p is))
chosen-end (i ∷ is) (b ∷ bs) zero past = absurd (omega (arith, past 0 (omega arith) (omega arith)))
chosen-end (i ∷ is) (b ∷ bs) (suc p) past = chosen-end is bs p (λ q h l. omega (arith, past (suc q) (omega (arith, h)) (omega (arith, l))))

places-none : (ps : List Place) → chosen_places ps [] ≡ []
places-none [] = refl
places-none (p ∷ ps) = refl

places-end : (is : List declared_instance.Instance) (bs : List Bool) (p : ℕ) → ((q : ℕ) → q < length is → q < length bs → q < p) → chosen_places (map instance_place (drop p is)) (drop p bs) ≡ []
places-end [] bs zero past = refl
places-end [] bs (suc p) past = refl
places-end (i ∷ is) [] zero past = refl
places-end (i ∷ is) [] (suc p) past = places-none (map instance_place (drop p is))
places-end (i ∷ is) (b ∷ bs) zero past = absurd (omega (arith, past 0 (omega arith) (omega arith)))
places-end (i ∷ is) (b ∷ bs) (suc p) past = places-end is bs p (λ q h l. omega (arith, past (suc q) (omega (arith, h)) (omega (arith, l))))

nothing-behind : {A : Type 0} (xs ys : List A) → ys ≡ [] → xs ≡ xs ++ ys
nothing-behind [] ys e = sym e
nothing-behind (x ∷ xs) ys e = ap (λ v. x ∷ v) (nothing-behind xs ys e)

pub returns : goal.returns
returns c = record {
  said = nothing-behind (map instance_said c.loop-place.left.items) _
      (chosen-end c.args.instances.now c.args.kept.now c.loop-place.place
      (λ q h k. omega (arith, h, k, c.loop-place-test.false, c.min-place-end.ensures)))
      ∙ c.loop-place.invariant.said;
  places = nothing-behind (map instance_place c.loop-place.left.items) _
      (places-end c.args.instances.now c.args.kept.now c.loop-place.place
      (λ q h k. omega (arith, h, k, c.loop-place-test.false, c.min-place-end.ensures)))
      ∙ c.loop-place.invariant.places;
}
