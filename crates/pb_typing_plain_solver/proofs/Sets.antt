-- Lists of truths as environments: the set of one equation in them.
use Rattle.std.proofs.Common.{◌≡◌, ℕ, Bool, true, false, ◌&&◌, if◌then◌else◌, List, get_or, Option, Some, None, refl, sym, ◌∙◌, ap, true≢false}
use Rattle.std.specs.Prelude.{◌==◌}
use Rattle.std.specs.List.{slice_get}
use Rattle.std.proofs.Math.Path.{fun_ext}
use Rattle.std.proofs.lemmas.Bool.{eq-eqb, eqb-true, false_from_ne_true, and_parts}
use Rattle.std.proofs.lemmas.Option.{slice_get_within, get_or_from_slice_get}
use Rattle.std.proofs.lemmas.List.Quantifiers.{position-Some}
use Rattle.pb_fixpoint.specs.Solution.{assign}
use Rattle.pb_base_values.specs.Carrier as values
use Rattle.pb_base_values.specs.Carrier.{Tuple, is_within}
use Rattle.pb_sorts.specs.declared.carrier.Carrier.{Carrier}
use Rattle.pb_sorts.specs.Instance as numbered
use Rattle.pb_sorts.specs.Instance.{instances, is_instance, is_tuple_of, number_of, owns_number}
use Rattle.pb_sorts.specs.Layout.{carriers_of}
use Rattle.pb_sorts.proofs.Numbers.{HasNumber, number-is_instance, number_of-slice_get, owns_number-owns_instance}
use Rattle.pb_sorts.proofs.Places.{slice_get-mapped}
use Rattle.pb_text_meaning.specs.Syntax.{same_name, Equation, Spec}
use Rattle.pb_text_meaning.specs.Formula as formula
use Rattle.pb_text_meaning.specs.Formula.{Instance, truth}
use Rattle.pb_text_meaning.specs.Meaning.{equation_of}
use Rattle.pb_text_meaning.specs.Names.{AreNamedApart}
use Rattle.pb_typing_values.specs.Environment.{all_carriers, environment_of, place_named, truth_at, truth_of}
use Rattle.pb_typing_values.proofs.Called.{counted, place_here}
use Rattle.pb_typing_plain_solver.specs.Side.{side_of, later_truth}
use Rattle.pb_typing_plain_solver.specs.Step.{ChangesOnly, TakesSet, JoinsRight, right_truth, right_truth_at}

-- the truth that a number of X's set gets
abbrev pub joined : Spec → List (List Carrier) → Equation → List Bool → List Bool → ℕ → Bool
joined S layout X below old n = later_truth (side_of X.sign) (get_or old n false) (right_truth_at S (environment_of S below) X layout n)

-- ---- one equation

module _ (S : Spec) (layout : List (List Carrier)) (laid : carriers_of layout ≡ all_carriers S) (apart : AreNamedApart S.equations) (k : ℕ) (X : Equation) (at : slice_get S.equations k ≡ Some X) where
  carriers_at : slice_get (carriers_of layout) k ≡ Some (formula.carriers_of S X.parameters)
  carriers_at = ap (λ (cs : List (List values.Carrier)). slice_get cs k) laid ∙ slice_get-mapped (λ (Y : Equation). formula.carriers_of S Y.parameters) S.equations k X at

  -- an instance of X has a number, which is X's, and at which its truth stands
  pub record HasPlace (i : Instance) : Type 0 where
    pub number : ℕ
    pub there : slice_get (instances (carriers_of layout)) number ≡ Some (record { equation = k; values = i.values })
    pub own : owns_number (carriers_of layout) k number ≡ true
    pub reads : (truths : List Bool) → environment_of S truths i ≡ get_or truths number false

  pub has_place : (i : Instance) → (equation_of S X).owns i ≡ true → HasPlace i
  has_place i owned =
      let css = carriers_of layout in
      let p = and_parts (same_name X.name i.name) (is_within (formula.carriers_of S X.parameters) i.values) owned in
      let n : numbered.Instance = record { equation = k; values = i.values } in
      let is : is_instance css n ≡ true = ap (λ (o : Option (List values.Carrier)). is_tuple_of o i.values) carriers_at ∙ p.1 in
      let h : HasNumber css n = number-is_instance css n is in
      let own : owns_number css k h.number ≡ true =
      owns_number-owns_instance css k h.number n (slice_get_within css k _ carriers_at) h.at
      ∙ (ap (λ (b : Bool). b && is_instance css n) (eq-eqb k k refl) ∙ is) in
      record {
        number = h.number;
        there = h.at;
        own = own;
        reads = λ truths.
            ap (λ (o : Option ℕ). truth_of (all_carriers S) truths o i.values) (place_here S.equations k X i.name apart at p.0)
            ∙ counted layout (all_carriers S) truths h.number n laid h.at;
      }

  same_if : (b x y : Bool) → (b ≡ true → x ≡ y) → (b && x) ≡ (b && y)
  same_if true x y h = h refl
  same_if false x y h = refl

  -- what X doesn't own stays as it is
  pub stays : (old new : List Bool) → ChangesOnly layout k old new → (i : Instance) → (equation_of S X).owns i ≡ false → environment_of S new i ≡ environment_of S old i
  stays old new others i none = by_place (place_named S.equations i.name) refl
    where
      at_number : (j : ℕ) (n : numbered.Instance) → n.equation ≡ j → n.values ≡ i.values
          → place_named S.equations i.name ≡ Some j → is_instance (carriers_of layout) n ≡ true
          → get_or new (number_of (carriers_of layout) n) false ≡ get_or old (number_of (carriers_of layout) n) false
      at_number j n is same e known =
          let css = carriers_of layout in
          let h : HasNumber css n = number-is_instance css n known in
          let m = number_of-slice_get layout h.number n h.at in
          others (number_of css n)
          (ap (owns_number css k) (sym m)
          ∙ (owns_number-owns_instance css k h.number n (slice_get_within css k _ carriers_at) h.at
          ∙ ap (λ (b : Bool). b && is_instance css n)
          (false_from_ne_true (n.equation == k)
          (λ eq.
          let here : j ≡ k = sym is ∙ eqb-true n.equation k eq in
          let found = position-Some (λ (Y : Equation). same_name Y.name i.name) S.equations j X e in
          let named : same_name X.name i.name ≡ true =
          ap (λ (Y : Equation). same_name Y.name i.name) (sym (get_or_from_slice_get S.equations k X X at))
          ∙ (ap (λ (l : ℕ). same_name (get_or S.equations l X).name i.name) (sym here) ∙ found.1) in
          let within : is_within (formula.carriers_of S X.parameters) i.values ≡ true =
          ap (λ (o : Option (List values.Carrier)). is_tuple_of o i.values) (sym carriers_at)
          ∙ (ap (λ (l : ℕ). is_tuple_of (slice_get css l) i.values) (sym (is ∙ here)) ∙ (ap (λ (vs : Tuple). is_tuple_of (slice_get css n.equation) vs) (sym same) ∙ known)) in
          true≢false (sym (ap (λ (b : Bool). b && is_within (formula.carriers_of S X.parameters) i.values) named ∙ within) ∙ none)))))

      by_place : (o : Option ℕ) → place_named S.equations i.name ≡ o → environment_of S new i ≡ environment_of S old i
      by_place None e = ap (λ (o : Option ℕ). truth_of (all_carriers S) new o i.values) e ∙ sym (ap (λ (o : Option ℕ). truth_of (all_carriers S) old o i.values) e)
      by_place (Some j) e =
          let n : numbered.Instance = record { equation = j; values = i.values } in
          ap (λ (o : Option ℕ). truth_of (all_carriers S) new o i.values) e
          ∙ (ap (λ (css : List (List values.Carrier)). truth_at css new n) (sym laid)
          ∙ (same_if (is_instance (carriers_of layout) n) (get_or new (number_of (carriers_of layout) n) false) (get_or old (number_of (carriers_of layout) n) false) (at_number j n refl refl e)
          ∙ (ap (λ (css : List (List values.Carrier)). truth_at css old n) laid
          ∙ sym (ap (λ (o : Option ℕ). truth_of (all_carriers S) old o i.values) e))))

  if_case : (b x y : Bool) → (b ≡ false → x ≡ y) → x ≡ (if b then x else y)
  if_case true x y h = refl
  if_case false x y h = h refl

  -- a list in which the set of X alone is another is an assignment to X
  pub changes_only : (old new : List Bool) → ChangesOnly layout k old new → environment_of S new ≡ assign (environment_of S old) (equation_of S X) (environment_of S new)
  changes_only old new others =
      fun_ext (λ i. if_case ((equation_of S X).owns i) (environment_of S new i) (environment_of S old i) (stays old new others i))

  -- X's set is the one in another list
  pub takes_set : (from new : List Bool) → TakesSet layout k from new → (i : Instance) → (equation_of S X).owns i ≡ true → environment_of S new i ≡ environment_of S from i
  takes_set from new takes i owned =
      let p : HasPlace i = has_place i owned in
      p.reads new ∙ (takes p.number p.own ∙ sym (p.reads from))

  -- X's set is later_truth with its right side
  pub joins_right : (below old new : List Bool) → JoinsRight S layout k X below old new → (i : Instance) → (equation_of S X).owns i ≡ true
      → environment_of S new i ≡ later_truth (side_of X.sign) (environment_of S old i) ((equation_of S X).holds i (environment_of S below))
  joins_right below old new joins i owned =
      let p : HasPlace i = has_place i owned in
      p.reads new
      ∙ (joins p.number p.own
      ∙ (ap (λ (b : Bool). later_truth (side_of X.sign) b (right_truth_at S (environment_of S below) X layout p.number)) (sym (p.reads old))
      ∙ ap (λ (o : Option numbered.Instance). later_truth (side_of X.sign) (environment_of S old i) (right_truth S (environment_of S below) X o)) p.there))
