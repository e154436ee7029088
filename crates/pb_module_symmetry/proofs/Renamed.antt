-- The instances of a text are those of its numbers.
use Rattle.std.proofs.Common.{◌≡◌, ℕ, zero, suc, true, List, [], ◌∷◌, map, length, Option, Some, None, refl, sym, ap, ◌∙◌, subst, true≢false}
use Rattle.std.specs.List.{slice_get, position_or_len}
use Rattle.std.proofs.lemmas.Bool.{lt-ltb, ltb-true}
use Rattle.std.proofs.lemmas.Option.{slice_get-get_or, slice_get_within}
use Rattle.pb_base_values.specs.Carrier.{Carrier, is_within}
use Rattle.pb_sorts.specs.declared.carrier.Carrier as program
use Rattle.pb_sorts.specs.Instance as numbered
use Rattle.pb_sorts.specs.Instance.{instances, number_of, is_tuple_of}
use Rattle.pb_sorts.specs.Layout as layout
use Rattle.pb_sorts.proofs.Numbers.{is_instance-slice_get, number_of-slice_get}
use Rattle.pb_text_meaning.specs.Syntax.{same_name, Name, Equation, Spec}
use Rattle.pb_text_meaning.specs.Formula.{Instance, carriers_of, equation_named, fits, is_instance}
use Rattle.pb_typing_declarations.specs.WellDeclared.{AreApart}
use Rattle.pb_typing_values.specs.Environment.{all_carriers}
use Rattle.pb_assembler_scheme.specs.Correct.{number_in}
use Rattle.pb_assembler_scheme.proofs.Known.{place_in, known-instance, stands}
use Rattle.pb_assembler_scheme.proofs.Numbered.{first-named, found-named}
use Rattle.pb_fixpoint_symmetry.specs.Renaming.{AreRenamed}
use Rattle.pb_module_symmetry.specs.Numbers.{is_number, equation_name, named_instance, instance_at}

pub names-at : (E : List Equation) (k : ℕ) (X : Equation) → slice_get E k ≡ Some X → equation_name E k ≡ X.name
names-at [] k X at = cc
names-at (Y ∷ E) zero X at = let same : Y ≡ X = cc in ap (λ (Z : Equation). Z.name) same
names-at (Y ∷ E) (suc k) X at = names-at E k X at

pub equation-at : (spec : Spec) (E : List Equation) (k : ℕ) (cs : List Carrier) → slice_get (map (λ (X : Equation). carriers_of spec X.parameters) E) k ≡ Some cs
    → (X : Equation) × (slice_get E k ≡ Some X) × (carriers_of spec X.parameters ≡ cs)
equation-at spec [] k cs at = cc
equation-at spec (X ∷ E) zero cs at = (X, refl, cc)
equation-at spec (X ∷ E) (suc k) cs at = equation-at spec E k cs at

module _ (spec : Spec) (apart : AreApart (map (λ (X : Equation). X.name) spec.equations))
    (callees : List (List program.Carrier)) (same : layout.carriers_of callees ≡ all_carriers spec) where
  abbrev all : List numbered.Instance
  all = instances (all_carriers spec)

  -- ---- from an instance to its number and back

  placed : (j : Instance) → is_instance spec j ≡ true → slice_get all (number_in spec j) ≡ Some (record { equation = place_in spec j; values = j.values })
  placed j k = stands spec apart callees same j (known-instance spec j k)

  pub there : (j : Instance) → is_instance spec j ≡ true → is_number spec (number_in spec j) ≡ true
  there j k = lt-ltb (number_in spec j) (length all) (slice_get_within all (number_in spec j) _ (placed j k))

  pub again : (j : Instance) → is_instance spec j ≡ true → instance_at spec (number_in spec j) ≡ j
  again j k =
      let known = known-instance spec j k in
      ap (named_instance spec) (placed j k)
      ∙ ap (λ (x : Name). record { name = x; values = j.values }) (names-at spec.equations (place_in spec j) known.equation known.at ∙ known.named)

  -- ---- from a number to its instance and back

  module _ (n : ℕ) (i : numbered.Instance) (at : slice_get all n ≡ Some i) where
    tuple : is_tuple_of (slice_get (all_carriers spec) i.equation) i.values ≡ true
    tuple = is_instance-slice_get (all_carriers spec) n i at

    by_carriers : (o : Option (List Carrier)) → slice_get (all_carriers spec) i.equation ≡ o
        → (X : Equation) × (slice_get spec.equations i.equation ≡ Some X) × (is_within (carriers_of spec X.parameters) i.values ≡ true)
    by_carriers None e = absurd (true≢false (sym tuple ∙ ap (λ (o : Option (List Carrier)). is_tuple_of o i.values) e))
    by_carriers (Some cs) e =
        let q = equation-at spec spec.equations i.equation cs e in
        (q.0, q.1, ap (λ (ds : List Carrier). is_within ds i.values) q.2 ∙ ap (λ (o : Option (List Carrier)). is_tuple_of o i.values) (sym e) ∙ tuple)

    known-at : is_instance spec (named_instance spec (Some i)) ≡ true
    known-at =
        let q = by_carriers (slice_get (all_carriers spec) i.equation) refl in
        ap (λ (x : Name). fits spec (equation_named spec.equations x) i.values) (names-at spec.equations i.equation q.0 q.1)
        ∙ ap (λ (o : Option Equation). fits spec o i.values) (found-named spec.equations i.equation q.0 apart q.1)
        ∙ q.2

    number-at : number_in spec (named_instance spec (Some i)) ≡ n
    number-at =
        let q = by_carriers (slice_get (all_carriers spec) i.equation) refl in
        let place : place_in spec (named_instance spec (Some i)) ≡ i.equation =
        ap (λ (x : Name). position_or_len (λ (Y : Equation). same_name Y.name x) spec.equations) (names-at spec.equations i.equation q.0 q.1)
        ∙ first-named spec.equations i.equation q.0 apart q.1 in
        let with_callees : slice_get (instances (layout.carriers_of callees)) n ≡ Some i = subst (λ (css : List (List Carrier)). slice_get (instances css) n ≡ Some i) (sym same) at in
        ap (λ (k : ℕ). number_of (all_carriers spec) (record { equation = k; values = i.values })) place
        ∙ ap (λ (css : List (List Carrier)). number_of css i) (sym same)
        ∙ sym (number_of-slice_get callees n i with_callees)

  at-number : (n : ℕ) → is_number spec n ≡ true → (o : Option numbered.Instance) → slice_get all n ≡ o
      → (is_instance spec (named_instance spec o) ≡ true) × (number_in spec (named_instance spec o) ≡ n)
  at-number n k None e = let some = slice_get-get_or all n (record { equation = 0; values = [] }) (ltb-true n (length all) k) in cc
  at-number n k (Some i) e = (known-at n i e, number-at n i e)

  pub are-renamed : AreRenamed (is_instance spec) (number_in spec) (is_number spec) (instance_at spec)
  are-renamed = record {
    there = there;
    here = λ n k. (at-number n k (slice_get all n) refl).0;
    again = again;
    undone = λ n k. (at-number n k (slice_get all n) refl).1;
  }
