-- The truth of a call, by the number of its instance.
use Rattle.std.proofs.Common.{◌≡◌, ℕ, zero, suc, ◌+◌, ◌<◌, ◌≤◌, Bool, true, false, not, cond, ◌&&◌, List, [], ◌∷◌, ◌++◌, map, length, get_or, drop, Option, Some, None, refl, sym, ◌∙◌, ap, arith, find, subst, append_assoc, append-nil}
use Rattle.std.specs.Prelude.{position, slice_index_or, nat_lt}
use Rattle.std.specs.List.{slice_get, position_or_len}
use Rattle.std.specs.Cmp.Lexicographic.{same_text}
use Rattle.std.proofs.lemmas.Bool.{false_from_ne_true, lt-ltb}
use Rattle.std.proofs.lemmas.Option.{slice_get_within, get_or_from_slice_get}
use Rattle.std.proofs.lemmas.Slice.Eq.{bytes_eq-Decides}
use Rattle.std.proofs.lemmas.List.Quantifiers.{position-Some}
use Rattle.std.proofs.lemmas.List.{drop_all, length-map}
use Rattle.std.proofs.Math.Bool.{and_self_left}
use Rattle.pb_base_values.specs.Carrier as carriers
use Rattle.pb_base_values.specs.Carrier.{Tuple, Value}
use Rattle.pb_sorts.specs.declared.carrier.Carrier.{Carrier}
use Rattle.pb_sorts.specs.Layout.{carriers_of}
use Rattle.pb_sorts.specs.Instance as numbered
use Rattle.pb_sorts.specs.Instance.{instances, is_instance, is_tuple_of, number_of}
use Rattle.pb_sorts.proofs.Numbers.{number_of-slice_get, is_instance-slice_get}
use Rattle.pb_sorts.proofs.Equations.{slice_get-carriers_of, length-carriers_of}
use Rattle.pb_sorts.proofs.Reading.{is_within-other_length}
use Rattle.pb_sorts.proofs.Places.{drop-at}
use Rattle.pb_typing_tree.specs.Tree as tree
use Rattle.pb_typing_tree.specs.declared.formula.Argument.{Argument}
use Rattle.pb_typing_tree.specs.Meaning as typed
use Rattle.pb_typing_tree.specs.Meaning.{Slots, name_of}
use Rattle.pb_typing_tree.specs.Fits.{Fits, AllFit}
use Rattle.pb_typing_tree.specs.View.{argument_view, term_view}
use Rattle.pb_text_meaning.specs.Syntax.{Name, same_name, Equation, Spec}
use Rattle.pb_text_meaning.specs.Formula.{Instance, fits, call_truth}
use Rattle.pb_text_meaning.specs.Formula as formula
use Rattle.pb_text_meaning.specs.Names.{AreNamedApart}
use Rattle.pb_typing_values.specs.Environment.{all_carriers, environment_of, place_named, truth_at, truth_of, IsLaidOut}

first_found : (p : Equation → Bool) (E : List Equation) (k : ℕ) (d : Equation) → k < length E → p (get_or E k d) ≡ true → ((j : ℕ) → j < k → p (get_or E j d) ≡ false) → find p E ≡ slice_get E k
first_found p [] k d lt e before = absurd (omega arith)
first_found p (X ∷ E) zero d lt e before = ap (λ b. cond b (Some X) (find p E)) e
first_found p (X ∷ E) (suc k) d lt e before =
    ap (λ b. cond b (Some X) (find p E)) (before 0 (omega arith)) ∙ first_found p E k d (omega arith) e (λ j below. before (suc j) (omega arith))

fits_mapped : (S : Spec) (E : List Equation) (vs : Tuple) (k : ℕ) → fits S (slice_get E k) vs ≡ is_tuple_of (slice_get (map (λ (X : Equation). formula.carriers_of S X.parameters) E) k) vs
fits_mapped S [] vs k = refl
fits_mapped S (X ∷ E) vs zero = refl
fits_mapped S (X ∷ E) vs (suc k) = fits_mapped S E vs k

-- the parameters of the equation that a name finds are those at its place
fits_there : (S : Spec) (p : Equation → Bool) (E : List Equation) (vs : Tuple) (k : ℕ) → position p E ≡ Some k
    → fits S (find p E) vs ≡ is_tuple_of (slice_get (map (λ (X : Equation). formula.carriers_of S X.parameters) E) k) vs
fits_there S p [] vs k e = cc
fits_there S p (X ∷ E) vs k e =
    let at = position-Some p (X ∷ E) k X e in
    ap (λ (o : Option Equation). fits S o vs) (first_found p (X ∷ E) k X at.0 at.1 at.2) ∙ fits_mapped S (X ∷ E) vs k

abbrev at_place : ℕ → Tuple → numbered.Instance
at_place k vs = record { equation = k; values = vs }

pub called : (S : Spec) (truths : List Bool) (x : Name) (vs : Tuple) (k : ℕ) → place_named S.equations x ≡ Some k
    → call_truth S (environment_of S truths) (record { name = x; values = vs }) ≡ truth_at (all_carriers S) truths (at_place k vs)
called S truths x vs k e =
    let here = is_tuple_of (slice_get (all_carriers S) k) vs in
    ap (λ (b : Bool). b && truth_of (all_carriers S) truths (place_named S.equations x) vs) (fits_there S (λ X. same_name X.name x) S.equations vs k e)
    ∙ (ap (λ (o : Option ℕ). here && truth_of (all_carriers S) truths o vs) e ∙ and_self_left here (slice_index_or truths (number_of (all_carriers S) (at_place k vs)) false))

-- ---- numbers

wrong_length : (layout : List (List Carrier)) (all : List (List carriers.Carrier)) (truths : List Bool) (k : ℕ)
    (cs : List Carrier) (vs : Tuple) → carriers_of layout ≡ all → slice_get layout k ≡ Some cs → (length cs ≡ length vs → ⊥)
    → truth_at all truths (at_place k vs) ≡ false
wrong_length layout all truths k cs vs laid at differ =
    ap (λ (b : Bool). b && slice_index_or truths (number_of all (at_place k vs)) false)
    (ap (λ (css : List (List carriers.Carrier)). is_tuple_of (slice_get css k) vs) (sym laid)
    ∙ (ap (λ (o : Option (List carriers.Carrier)). is_tuple_of o vs) (slice_get-carriers_of layout k cs at) ∙ is_within-other_length cs vs differ))

pub counted : (layout : List (List Carrier)) (all : List (List carriers.Carrier)) (truths : List Bool) (n : ℕ)
    (i : numbered.Instance) → carriers_of layout ≡ all → slice_get (instances (carriers_of layout)) n ≡ Some i
    → truth_at all truths i ≡ get_or truths n false
counted layout all truths n i laid at =
    ap (λ (css : List (List carriers.Carrier)). truth_at css truths i) (sym laid)
    ∙ (ap (λ (b : Bool). b && slice_index_or truths (number_of (carriers_of layout) i) false) (is_instance-slice_get (carriers_of layout) n i at)
    ∙ ap (λ (m : ℕ). get_or truths m false) (sym (number_of-slice_get layout n i at)))

not_counted : (layout : List (List Carrier)) (all : List (List carriers.Carrier)) (truths : List Bool)
    (i : numbered.Instance) → carriers_of layout ≡ all → is_instance (carriers_of layout) i ≡ false → truth_at all truths i ≡ false
not_counted layout all truths i laid none =
    ap (λ (css : List (List carriers.Carrier)). truth_at css truths i) (sym laid) ∙ ap (λ (b : Bool). b && slice_index_or truths (number_of (carriers_of layout) i) false) none

-- ---- places and names

first_place : (p : Equation → Bool) (E : List Equation) (k : ℕ) (d : Equation) → k < length E → p (get_or E k d) ≡ true → ((j : ℕ) → j < k → p (get_or E j d) ≡ false) → position_or_len p E ≡ k
first_place p [] k d lt e before = absurd (omega arith)
first_place p (X ∷ E) zero d lt e before = ap (λ b. cond (not b) (1 + position_or_len p E) 0) e
first_place p (X ∷ E) (suc k) d lt e before =
    ap (λ b. cond (not b) (1 + position_or_len p E) 0) (before 0 (omega arith))
    ∙ (omega (arith, first_place p E k d (omega arith) e (λ j below. before (suc j) (omega arith))))

-- the name of the equation at a place is found there
pub place_here : (E : List Equation) (k : ℕ) (X : Equation) (x : Name) → AreNamedApart E → slice_get E k ≡ Some X → same_name X.name x ≡ true → place_named E x ≡ Some k
place_here E k X x apart at same =
    let p : Equation → Bool = λ (Y : Equation). same_name Y.name x in
    let lt = slice_get_within E k X at in
    let read : get_or E k X ≡ X = get_or_from_slice_get E k X X at in
    let is_x : X.name ≡ x = same_text X.name x (sym same) in
    let here : position_or_len p E ≡ k = first_place p E k X lt (ap p read ∙ same)
    (λ j below. false_from_ne_true (p (get_or E j X)) (λ e. apart j k X below lt (same_text (get_or E j X).name x (sym e) ∙ (sym is_x ∙ ap (λ (Y : Equation). Y.name) (sym read))))) in
    ap (λ (n : ℕ). cond (nat_lt n (length E)) (Some n) None) here ∙ ap (λ (b : Bool). cond b (Some k) None) (lt-ltb k (length E) lt)

pub record IsThere {X : Type 0} (xs : List X) (k : ℕ) : Type 0 where
  pub item : X
  pub at : slice_get xs k ≡ Some item

pub there : {X : Type 0} (xs : List X) (k : ℕ) → k < length xs → IsThere xs k
there [] k lt = absurd (omega (arith, lt))
there (x ∷ xs) zero lt = record { item = x; at = refl }
there (x ∷ xs) (suc k) lt = let rest = there xs k (omega (arith, lt)) in record { item = rest.item; at = rest.at }

-- so many equations as the layout has
pub length-laid_out : (S : Spec) (layout : List (List Carrier)) → IsLaidOut S layout → length layout ≡ length S.equations
length-laid_out S layout laid =
    sym (length-carriers_of layout) ∙ (ap length laid.carriers ∙ length-map S.equations (λ (X : Equation). formula.carriers_of S X.parameters))

pub place_known : (S : Spec) (layout : List (List Carrier)) (k : ℕ) → IsLaidOut S layout → k < length layout → place_named S.equations (name_of (slice_get S.equations k)) ≡ Some k
place_known S layout k laid lt =
    let here : IsThere S.equations k = there S.equations k (omega (arith, lt, length-laid_out S layout laid)) in
    ap (λ (o : Option Equation). place_named S.equations (name_of o)) here.at
    ∙ place_here S.equations k here.item here.item.name laid.apart here.at ((bytes_eq-Decides here.item.name here.item.name).1 refl)

-- ---- arguments

abbrev pub argument_values : Slots → List Argument → List Value
argument_values a xs = map (λ (e : tree.Argument). typed.value a e.term) (map argument_view xs)

length-values : (a : Slots) (xs : List Argument) → length (argument_values a xs) ≡ length xs
length-values a [] = refl
length-values a (x ∷ xs) = ap suc (length-values a xs)

pub argument_fits : (n : ℕ) (a : Slots) (xs : List Argument) (k : ℕ) (x : Argument) → AllFit n a (map argument_view xs) → k < length xs → x ≡ get_or xs k x → Fits n a (term_view x.term)
argument_fits n a [] k x f lt at = absurd (omega arith)
argument_fits n a (y ∷ xs) zero x f lt at = subst (λ (z : Argument). Fits n a (term_view z.term)) (sym at) f.0
argument_fits n a (y ∷ xs) (suc k) x f lt at = argument_fits n a xs k x f.1 (omega arith) at

-- one more argument's value
pub values_more : (a : Slots) (xs : List Argument) (k : ℕ) (x : Argument) (done more all : List Value) (v : Value)
    → k < length xs → x ≡ get_or xs k x → v ≡ typed.value a (term_view x.term) → more ≡ done ++ v ∷ []
    → done ++ argument_values a (drop k xs) ≡ all → more ++ argument_values a (drop (k + 1) xs) ≡ all
values_more a xs k x done more all v lt at is pushed h =
    let rest = argument_values a (drop (k + 1) xs) in
    ap (λ (ws : List Value). ws ++ rest) pushed
    ∙ (append_assoc done (v ∷ []) rest
    ∙ (ap (λ (w : Value). done ++ w ∷ rest) is
    ∙ (ap (λ (ys : List Argument). done ++ argument_values a ys) (sym (drop-at xs k x lt at)) ∙ h)))

pub values_all : (a : Slots) (xs : List Argument) (k : ℕ) (done all : List Value) → length xs ≤ k → done ++ argument_values a (drop k xs) ≡ all → done ≡ all
values_all a xs k done all le h =
    sym (append-nil done) ∙ (ap (λ (ys : List Argument). done ++ argument_values a ys) (sym (drop_all k xs le)) ∙ h)

-- ---- the truth of a call of an equation that there is

module _ {S : Spec} {layout : List (List Carrier)} (laid : IsLaidOut S layout) (truths : List Bool) (a : Slots) (xs : List Argument) (k : ℕ) (known : k < length layout) where
  abbrev truth_called : Bool
  truth_called = call_truth S (environment_of S truths) (record { name = name_of (slice_get S.equations k); values = argument_values a xs })

  at_its_place : truth_called ≡ truth_at (all_carriers S) truths (at_place k (argument_values a xs))
  at_its_place = called S truths (name_of (slice_get S.equations k)) (argument_values a xs) k (place_known S layout k laid known)

  pub other_length : (cs : List Carrier) → slice_get layout k ≡ Some cs → (length cs ≡ length xs → ⊥) → false ≡ truth_called
  other_length cs at differ = sym (at_its_place ∙ wrong_length layout (all_carriers S) truths k cs (argument_values a xs) laid.carriers at (λ e. differ (e ∙ length-values a xs)))

  pub numbered_truth : (vs : Tuple) (n : ℕ) → vs ≡ argument_values a xs → slice_get (instances (carriers_of layout)) n ≡ Some (at_place k vs) → get_or truths n false ≡ truth_called
  numbered_truth vs n all at =
      sym (counted layout (all_carriers S) truths n (at_place k vs) laid.carriers at)
      ∙ (ap (λ (ws : Tuple). truth_at (all_carriers S) truths (at_place k ws)) all ∙ sym at_its_place)

  pub unnumbered_truth : (vs : Tuple) → vs ≡ argument_values a xs → (is_instance (carriers_of layout) (at_place k vs) ≡ true → ⊥) → false ≡ truth_called
  unnumbered_truth vs all none =
      sym (not_counted layout (all_carriers S) truths (at_place k vs) laid.carriers (false_from_ne_true (is_instance (carriers_of layout) (at_place k vs)) none))
      ∙ (ap (λ (ws : Tuple). truth_at (all_carriers S) truths (at_place k ws)) all ∙ sym at_its_place)
