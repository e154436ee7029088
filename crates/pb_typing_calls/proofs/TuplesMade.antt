-- Whether a quantifier's body makes a call for some of the tuples, one after the other.
use Rattle.std.proofs.Common.{◌≡◌, ℕ, suc, ◌+◌, ◌-◌, ◌<◌, Bool, true, false, ◌||◌, List, []}
use Rattle.std.proofs.Common.{◌∷◌, map, flat_map, length, take, drop, refl, sym, ◌∙◌, ap}
use Rattle.std.proofs.Common.{subst, arith}
use Rattle.std.specs.List.{list_any}
use Rattle.std.proofs.lemmas.List.{drop_all}
use Rattle.std.proofs.lemmas.List.Folds.{list_any-append}
use Rattle.std.proofs.lemmas.Option.{slice_get_within}
use Rattle.pb_text_tree.specs.declared.place.Place.{Place}
use Rattle.pb_text_tree.specs.declared.operator.Quantifier.{Quantifier}
use Rattle.pb_text_tree.specs.declared.operator.Quantifier.TheVariants.{Exists}
use Rattle.pb_base_values.specs.Carrier as carriers
use Rattle.pb_base_values.specs.Carrier.{Tuple, Value, tuples}
use Rattle.pb_sorts.specs.Carrier.{values_of}
use Rattle.pb_sorts.specs.Instance.{Instance, instance_of, number_of}
use Rattle.pb_sorts.specs.Layout.{carriers_of}
use Rattle.pb_sorts.specs.declared.carrier.Carrier.{Carrier}
use Rattle.pb_sorts.proofs.Numbers.{number_of-slice_get}
use Rattle.pb_sorts.proofs.Places.{drop-slice_get, slice_get-append_left, slice_get-mapped}
use Rattle.pb_text_meaning.specs.Syntax.{Spec}
use Rattle.pb_text_meaning.specs.Value.{of_values}
use Rattle.pb_typing_declarations.specs.Entries.{shape_of}
use Rattle.pb_typing_declarations.specs.Shapes.{shape_carrier}
use Rattle.pb_typing_tree.specs.Calls.{call_places}
use Rattle.pb_typing_tree.specs.Meaning.{Slots, set}
use Rattle.pb_typing_tree.specs.Tree as tree
use Rattle.pb_typing_tree.specs.View.{formula_view, nested}
use Rattle.pb_typing_tree.specs.declared.formula.Formula.{Formula}
use Rattle.pb_typing_tree.proofs.Expanded.{same-of-values}
use Rattle.pb_typing_values.specs.Slots.{slots_of}
use Rattle.pb_typing_values.proofs.Slots.{placed}
use Rattle.pb_typing_values.proofs.Nested.{any-map, shape-values}
use Rattle.pb_typing_calls.specs.Loops.{Holds, tuples_of}
use Rattle.pb_typing_calls.specs.Made.{made}
use Rattle.pb_typing_calls.specs.Sought.{IsOf, is_made}
use Rattle.pb_typing_calls.specs.declared.loops.Loops.{Loops}
use Rattle.pb_typing_calls.specs.declared.sought.Sought.{Sought}
use Rattle.pb_typing_calls.proofs.Holding.{held, same-slots}
use Rattle.pb_typing_calls.proofs.Nodes.{IsQuantifierOf}
use Rattle.pb_typing_calls.proofs.Truths.{goes_on, makes}

-- ---- which quantifier it is makes no difference

any-quantifier-makes : (spec : Spec) (i : Instance) (place : Place) (q r : Quantifier) (s : ℕ)
    (cs : List Carrier) (f : tree.Formula) (ps : List Place) (a : Slots)
    → made spec i place a (nested q s cs f) ps ≡ made spec i place a (nested r s cs f) ps
any-quantifier-makes spec i place q r s [] f ps a = refl
any-quantifier-makes spec i place q r s (c ∷ cs) f ps a =
    same-of-values Exists (λ v. made spec i place (set a s v) (nested q (suc s) cs f) ps)
    (λ v. made spec i place (set a s v) (nested r (suc s) cs f) ps)
    (λ v. any-quantifier-makes spec i place q r (suc s) cs f ps (set a s v))
    (shape_carrier (shape_of c))

-- a quantifier makes the call where one with its body and slots does
pub exists-makes : (spec : Spec) (s : Sought) (a : Slots) {f : Formula} {q : Quantifier} {slot : ℕ} {cs : List Carrier} {body : Formula}
    → IsQuantifierOf f q slot cs body
    → made spec (instance_of s.called.now) s.place a (nested Exists slot cs (formula_view body)) (call_places body)
    ≡ is_made spec s a f
exists-makes spec s a {f} {q} {slot} {cs} {body} read =
    let i = instance_of s.called.now in
    any-quantifier-makes spec i s.place Exists q slot cs (formula_view body) (call_places body) a
    ∙ (ap (λ (t : tree.Formula). made spec i s.place a t (call_places body)) (sym read.view)
    ∙ ap (made spec i s.place a (formula_view f)) (sym read.places))

-- ---- by tuples

any-fronts : (p : Tuple → Bool) (c : carriers.Carrier) (ts : List Tuple)
    → list_any p (flat_map (λ v. map (λ vs. v ∷ vs) ts) c)
    ≡ of_values Exists (λ v. list_any (λ vs. p (v ∷ vs)) ts) c
any-fronts p [] ts = refl
any-fronts p (v ∷ c) ts =
    let rest = flat_map (λ (u : Value). map (λ (vs : Tuple). u ∷ vs) ts) c in
    list_any-append p (map (λ vs. v ∷ vs) ts) rest
    ∙ (ap (λ b. b || list_any p rest) (any-map p (λ vs. v ∷ vs) ts)
    ∙ ap (λ b. list_any (λ vs. p (v ∷ vs)) ts || b) (any-fronts p c ts))

or-false : (b : Bool) → b ≡ b || false
or-false true = refl
or-false false = refl

pub made-nested : (spec : Spec) (i : Instance) (place : Place) (f : tree.Formula) (ps : List Place)
    (cs : List Carrier) (s : ℕ) (a : Slots)
    → list_any (λ vs. made spec i place (placed a s vs) f ps) (tuples (map values_of cs))
    ≡ made spec i place a (nested Exists s cs f) ps
made-nested spec i place f ps [] s a = sym (or-false (made spec i place a f ps))
made-nested spec i place f ps (c ∷ cs) s a =
    let one : Value → Bool = λ v. made spec i place (set a s v) (nested Exists (suc s) cs f) ps in
    any-fronts (λ vs. made spec i place (placed a s vs) f ps) (values_of c)
    (tuples (map values_of cs))
    ∙ (same-of-values Exists _ one (λ v. made-nested spec i place f ps cs (suc s) (set a s v))
    (values_of c)
    ∙ ap (of_values Exists one) (sym (shape-values c)))

-- ---- one tuple after the other

module _ (s : Sought) (l : Loops) (body : Formula) (outer : Tuple) where
  abbrev whole : tree.Formula
  whole = nested Exists l.slot l.carriers.now (formula_view body)

  abbrev body_makes : Spec → Tuple → Bool
  body_makes spec vs = is_made spec s (placed (slots_of outer) l.slot vs) body

  abbrev all_make : Spec → Bool
  all_make spec =
      made spec (instance_of s.called.now) s.place (slots_of outer) whole (call_places body)

  -- the tuples that are left decide
  pub record IsUnderWay (slots : Tuple) : Type 0 where
    pub place : ℕ
    pub holds : Holds l outer place slots
    pub left : (spec : Spec) → IsOf s spec
        → list_any (body_makes spec) (drop place (tuples_of l)) ≡ all_make spec

  pub begun : (slots : Tuple) → Holds l outer 0 slots → IsUnderWay slots
  begun slots h = record {
    place = 0;
    holds = h;
    left = λ spec of.
        made-nested spec (instance_of s.called.now) s.place (formula_view body) (call_places body)
        l.carriers.now l.slot (slots_of outer);
  }

  -- the body was tried at the tuple that the slots hold: it makes the call here, or the tuples behind decide
  pub record IsTried (slots : Tuple) (here : Bool) : Type 0 where
    pub place : ℕ
    pub holds : Holds l outer place slots
    pub decides : (spec : Spec) → IsOf s spec
        → all_make spec ≡ here || list_any (body_makes spec) (drop (place + 1) (tuples_of l))

module _ {s : Sought} {l : Loops} {body : Formula} {outer slots : Tuple} {here : Bool} where
  pub tried : IsUnderWay s l body outer slots → (next : Tuple) → next ≡ slots
      → ((spec : Spec) → IsOf s spec → here ≡ is_made spec s (slots_of slots) body)
      → IsTried s l body outer next here
  tried w next same is = record {
    place = w.place;
    holds = subst (Holds l outer w.place) (sym same) w.holds;
    decides = λ spec of.
        let h = w.holds in
        let makes_at = body_makes s l body outer spec in
        let rest = list_any makes_at (drop (w.place + 1) (tuples_of l)) in
        sym (w.left spec of)
        ∙ (ap (list_any makes_at) (drop-slice_get (tuples_of l) w.place h.tuple h.at)
        ∙ ap (λ (b : Bool). b || rest)
        (sym (is spec of ∙ ap (λ (a : Slots). is_made spec s a body) (same-slots l outer slots w.place h))));
  }

  pub is-made : IsTried s l body outer slots here → here ≡ true → (spec : Spec) → IsOf s spec
      → true ≡ all_make s l body outer spec
  is-made w is spec of = makes here _ _ (w.decides spec of) is

  pub next-tuple : (w : IsTried s l body outer slots here) → here ≡ false → {next : Tuple}
      → Holds l outer (w.place + 1) next → IsUnderWay s l body outer next
  next-tuple w unmade h = record {
    place = w.place + 1;
    holds = h;
    left = λ spec of. goes_on here _ _ (w.decides spec of) unmade;
  }

  pub is-unmade : (w : IsTried s l body outer slots here) → here ≡ false
      → length (tuples_of l) ≡ w.place + 1 → (spec : Spec) → IsOf s spec
      → false ≡ all_make s l body outer spec
  is-unmade w unmade last spec of =
      let none = drop_all (w.place + 1) (tuples_of l) (omega (arith, last)) in
      sym (ap (list_any (body_makes s l body outer spec)) none) ∙ goes_on here _ _ (w.decides spec of) unmade

-- ---- how many tuples are left

-- a list of values, as an instance of the only equation
abbrev pub single : Tuple → Instance
single vs = record { equation = 0; values = vs }

abbrev pub remaining : Loops → Tuple → ℕ
remaining l slots =
    let vs = take (length l.carriers.now) (drop l.slot slots) in
    length (tuples_of l) - number_of (carriers_of (l.carriers.now ∷ [])) (single vs)

remaining-at : (l : Loops) (outer slots : Tuple) (k : ℕ) → Holds l outer k slots
    → remaining l slots ≡ length (tuples_of l) - k
remaining-at l outer slots k h =
    let n = length l.carriers.now in
    let part = take n (drop l.slot slots) in
    let css = carriers_of (l.carriers.now ∷ []) in
    let ts = tuples_of l in
    let all = map single ts in
    let at = held h n refl in
    let there =
    slice_get-append_left all [] k (single part) (slice_get-mapped single ts k part at) in
    ap (λ (m : ℕ). length ts - m)
    (sym (number_of-slice_get (l.carriers.now ∷ []) k (single part) there))

pub fewer-left : {l : Loops} {outer slots next : Tuple} {k : ℕ} → Holds l outer k slots
    → Holds l outer (k + 1) next → {before : Tuple} → slots ≡ before → remaining l next < remaining l before
fewer-left {l} {outer} {slots} {next} {k} h h' same =
    let within = slice_get_within (tuples_of l) (k + 1) h'.tuple h'.at in
    subst (λ (vs : Tuple). remaining l next < remaining l vs) same
    (omega (arith, remaining-at l outer slots k h, remaining-at l outer next (k + 1) h', within))
