-- An instance of a specification: its equation, and its number.
use Rattle.std.proofs.Common.{◌≡◌, ℕ, suc, Bool, true, false, cond, ◌&&◌, List, [], ◌∷◌, map, length, Option, Some, None, refl, sym, ap, ◌∙◌, subst, arith, true≢false}
use Rattle.std.specs.Prelude.{◌==◌}
use Rattle.std.specs.List.{slice_get, position_or_len}
use Rattle.std.specs.Option.{option_map}
use Rattle.std.specs.Cmp.{both_ways}
use Rattle.std.proofs.lemmas.Bool.{and_parts, and_from, eqb-true, eq-eqb}
use Rattle.std.proofs.lemmas.List.Folds.{find_at}
use Rattle.std.proofs.lemmas.Option.{slice_get-map, slice_get_within}
use Rattle.std.proofs.lemmas.Slice.Eq.{bytes_eq-Decides}
use Rattle.pb_base_values.specs.Carrier.{Carrier, is_within}
use Rattle.pb_sorts.specs.declared.carrier.Carrier as program
use Rattle.pb_sorts.specs.Instance as numbered
use Rattle.pb_sorts.specs.Instance.{instances, number_of, owns_number, is_tuple_of}
use Rattle.pb_sorts.specs.Layout as layout
use Rattle.pb_sorts.proofs.Numbers.{number-is_instance, number_of-slice_get, owns_number-owns_instance}
use Rattle.pb_text_meaning.specs.Syntax.{Name, same_name, Equation, Spec}
use Rattle.pb_text_meaning.specs.Formula.{Instance, carriers_of, equation_named, fits, is_instance}
use Rattle.pb_text_meaning.specs.Meaning.{equation_of}
use Rattle.pb_typing_declarations.specs.WellDeclared.{AreApart}
use Rattle.pb_typing_values.specs.Environment.{all_carriers}
use Rattle.pb_assembler_scheme.specs.Correct.{number_in}
use Rattle.pb_assembler_scheme.proofs.Numbered.{first-named}

-- the place of an instance's equation
abbrev pub place_in : Spec → Instance → ℕ
place_in spec i = position_or_len (λ (X : Equation). same_name X.name i.name) spec.equations

pub record IsKnown (spec : Spec) (i : Instance) : Type 0 where
  pub equation : Equation
  pub at : slice_get spec.equations (place_in spec i) ≡ Some equation
  pub found : equation_named spec.equations i.name ≡ Some equation
  pub named : equation.name ≡ i.name
  pub within : is_within (carriers_of spec equation.parameters) i.values ≡ true

found-passes : (E : List Equation) (x : Name) (X : Equation) → equation_named E x ≡ Some X → X.name ≡ x
found-passes [] x X e = cc
found-passes (Y ∷ E) x X e = by (same_name Y.name x) refl e (λ k. found-passes E x X k)
  where
    by : (b : Bool) → same_name Y.name x ≡ b → cond b (Some Y) (equation_named E x) ≡ Some X → (equation_named E x ≡ Some X → X.name ≡ x) → X.name ≡ x
    by true p k later = let same : Y ≡ X = cc in ap (λ (Z : Equation). Z.name) (sym same) ∙ (bytes_eq-Decides Y.name x).0 p
    by false p k later = later k

pub known-instance : (spec : Spec) (i : Instance) → is_instance spec i ≡ true → IsKnown spec i
known-instance spec i e = by (equation_named spec.equations i.name) refl e
  where
    by : (o : Option Equation) → equation_named spec.equations i.name ≡ o → fits spec o i.values ≡ true → IsKnown spec i
    by None f k = absurd (true≢false (sym k))
    by (Some X) f k = record {
      equation = X;
      at = sym (find_at (λ (Y : Equation). same_name Y.name i.name) spec.equations) ∙ f;
      found = f;
      named = found-passes spec.equations i.name X f;
      within = k;
    }

-- ---- numbers

module _ (spec : Spec) (apart : AreApart (map (λ (X : Equation). X.name) spec.equations))
    (callees : List (List program.Carrier)) (same : layout.carriers_of callees ≡ all_carriers spec) (i : Instance)
    (known : IsKnown spec i) where
  -- the instance with its equation's place in place of a name
  abbrev pub placed : numbered.Instance
  placed = record { equation = place_in spec i; values = i.values }

  is-placed : numbered.is_instance (all_carriers spec) placed ≡ true
  is-placed =
      ap (λ (o : Option (List Carrier)). is_tuple_of o i.values)
      (slice_get-map (λ (X : Equation). carriers_of spec X.parameters) spec.equations (place_in spec i) ∙ ap (option_map (λ (X : Equation). carriers_of spec X.parameters)) known.at)
      ∙ known.within

  pub stands : slice_get (instances (all_carriers spec)) (number_in spec i) ≡ Some placed
  stands =
      let with_callees : numbered.is_instance (layout.carriers_of callees) placed ≡ true = ap (λ (css : List (List Carrier)). numbered.is_instance css placed) same ∙ is-placed in
      let h = number-is_instance (layout.carriers_of callees) placed with_callees in
      let n = number_of-slice_get callees h.number placed h.at in
      let at : slice_get (instances (layout.carriers_of callees)) (number_of (layout.carriers_of callees) placed)
      ≡ Some placed = ap (slice_get (instances (layout.carriers_of callees))) (sym n) ∙ h.at in
      subst (λ (css : List (List Carrier)). slice_get (instances css) (number_of css placed) ≡ Some placed) same at

  long : length (all_carriers spec) ≡ length spec.equations
  long = length-map' spec.equations
    where
      length-map' : (E : List Equation) → length (map (λ (X : Equation). carriers_of spec X.parameters) E) ≡ length E
      length-map' [] = refl
      length-map' (X ∷ E) = ap suc (length-map' E)

  -- the equation at a place owns the instance where it owns the number
  pub owns-number : (k : ℕ) (X : Equation) → slice_get spec.equations k ≡ Some X → (equation_of spec X).owns i ≡ owns_number (all_carriers spec) k (number_in spec i)
  owns-number k X at =
      let below = slice_get_within spec.equations k X at in
      both_ways ((equation_of spec X).owns i) ((place_in spec i == k) && numbered.is_instance (all_carriers spec) placed) there back
      ∙ sym (owns_number-owns_instance (all_carriers spec) k (number_in spec i) placed (omega (arith, long)) stands)
    where
      there : (equation_of spec X).owns i ≡ true → ((place_in spec i == k) && numbered.is_instance (all_carriers spec) placed) ≡ true
      there own =
          let two = and_parts (same_name X.name i.name) (is_within (carriers_of spec X.parameters) i.values) own in
          let name : X.name ≡ i.name = (bytes_eq-Decides X.name i.name).0 two.0 in
          let place : place_in spec i ≡ k = ap (λ (x : Name). position_or_len (λ (Y : Equation). same_name Y.name x) spec.equations) (sym name) ∙ first-named spec.equations k X apart at in
          and_from _ _ (eq-eqb (place_in spec i) k place) is-placed

      back : ((place_in spec i == k) && numbered.is_instance (all_carriers spec) placed) ≡ true → (equation_of spec X).owns i ≡ true
      back h =
          let place = eqb-true (place_in spec i) k (and_parts (place_in spec i == k) (numbered.is_instance (all_carriers spec) placed) h).0 in
          let both : Some known.equation ≡ Some X = sym known.at ∙ ap (slice_get spec.equations) place ∙ at in
          let one : known.equation ≡ X = cc in
          subst (λ (Y : Equation). (equation_of spec Y).owns i ≡ true) one (and_from _ _ ((bytes_eq-Decides known.equation.name i.name).1 known.named) known.within)
