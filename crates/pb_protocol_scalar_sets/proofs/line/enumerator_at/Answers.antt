-- The enumerator at the place that the element's number is.
use Rattle.std.proofs.Common.{◌≡◌, ◌∙◌, ◌<◌, ◌≤◌, ℕ, ℤ, pos, negsuc, w32, to_z, of_z, length, List, Option, Some, None, Bor, map, ap, sym, subst, refl}
use Rattle.std.specs.List.{slice_get, HoldsAt}
use Rattle.std.specs.Option.{option_map, MatchOption, IfSome}
use Rattle.std.specs.Prelude.{get_or}
use Rattle.std.specs.Int.{FitsUnsignedBits}
use Rattle.std.proofs.Math.Facts.{sfits_lit, to_z-of_z, yes_ltb}
use lib.IntN.{nat_abs}
use Rattle.pb_text_meaning.specs.Syntax.{Enumerator}
use Rattle.std.proofs.lemmas.Option.{slice_get-map, slice_get_past, slice_get-get_or}
use Rattle.pb_text_tree.specs.declared.sort.Enumerator as declared
use Rattle.pb_text_tree.specs.Form.{enumerator_form}
use Rattle.pb_text_meaning.specs.Erase.{erased_enumerator}
use Rattle.pb_protocol_scalar_sets.specs.Lines.{enumerator_at}
use Rattle.pb_protocol_scalar_sets.specs.Sorts.{enumerator_by, enumerators_in}
use Rattle.pb_protocol_scalar_sets.proofs.line.enumerator_at.Goals as goal

at_place : (es : List declared.Enumerator) (k : ℕ) → slice_get (enumerators_in es) k ≡ option_map erased_enumerator (option_map enumerator_form (slice_get es k))
at_place es k = slice_get-map erased_enumerator (map enumerator_form es) k ∙ ap (option_map erased_enumerator) (slice_get-map enumerator_form es k)

there : (es : List declared.Enumerator) (k : ℕ) (o : Option (Bor declared.Enumerator)) → IfSome o (λ x. x.now ≡ get_or es k x.now)
    → MatchOption o (length es ≤ k) (λ x. (k < length es) × HoldsAt (λ y. x.now ≡ y) es k) → option_map enumerator_by o ≡ slice_get (enumerators_in es) k
there es k None is past = sym (at_place es k ∙ ap (λ o. option_map erased_enumerator (option_map enumerator_form o)) (slice_get_past es k past))
there es k (Some x) is (within, holds) =
    sym (at_place es k ∙ ap (λ o. option_map erased_enumerator (option_map enumerator_form o)) (slice_get-get_or es k x.now within ∙ ap Some (sym is)))

by_number : (es : List Enumerator) (e : ℤ) (k : ℕ) → FitsUnsignedBits 64 e → k ≡ nat_abs e → slice_get es k ≡ enumerator_at es e
by_number es (pos n) k fits is = ap (slice_get es) is
by_number es (negsuc n) k fits is = absurd fits

pub returns-in-Ok : goal.returns-in-Ok
returns-in-Ok c =
    let element : to_z w32 (of_z w32 c.args.element) ≡ c.args.element = to_z-of_z {w = w32} (sfits_lit (yes_ltb c.ranges.element.sfits)) in
    there c.args.enumerators.now c.in-Ok.place c.get.result c.get.ensures.lookup.1 c.get.ensures.lookup.3
    ∙ by_number (enumerators_in c.args.enumerators.now) c.args.element c.in-Ok.place
    (subst (FitsUnsignedBits 64) element c.in-Ok.ensures.0) (c.in-Ok.ensures.1 ∙ ap nat_abs element)
