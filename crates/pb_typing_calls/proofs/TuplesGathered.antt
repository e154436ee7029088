-- The calls that a quantifier's body makes for each of the tuples, one after the other.
use Rattle.std.proofs.Common.{◌≡◌, ℕ, suc, ◌+◌, ◌-◌, List, [], ◌∷◌, ◌++◌, map}
use Rattle.std.proofs.Common.{flat_map, length, drop, refl, sym, ◌∙◌, ap, subst, arith}
use Rattle.std.proofs.Common.{append_assoc, append-nil}
use Rattle.std.specs.List.{range_with_len}
use Rattle.std.proofs.lemmas.Grind.{flat_map-append}
use Rattle.std.proofs.lemmas.List.{drop_all}
use Rattle.std.proofs.lemmas.List.Folds.{flat_map-map}
use Rattle.pb_text_tree.specs.declared.place.Place.{Place}
use Rattle.pb_text_tree.specs.declared.operator.Quantifier.{Quantifier}
use Rattle.pb_text_tree.specs.declared.operator.Quantifier.TheVariants.{Exists}
use Rattle.pb_base_values.specs.Carrier as carriers
use Rattle.pb_base_values.specs.Carrier.{Tuple, Value, tuples}
use Rattle.pb_sorts.specs.Carrier.{values_of}
use Rattle.pb_sorts.specs.declared.carrier.Carrier.{Carrier}
use Rattle.pb_sorts.proofs.Places.{drop-slice_get}
use Rattle.pb_text_meaning.specs.Syntax.{Spec}
use Rattle.pb_typing_declarations.specs.Entries.{shape_of}
use Rattle.pb_typing_declarations.specs.Shapes.{shape_carrier}
use Rattle.pb_typing_tree.specs.Calls.{call_places}
use Rattle.pb_typing_tree.specs.Meaning.{Slots, set}
use Rattle.pb_typing_tree.specs.Tree as tree
use Rattle.pb_typing_tree.specs.View.{formula_view, nested}
use Rattle.pb_typing_tree.specs.declared.formula.Formula.{Formula}
use Rattle.pb_typing_values.specs.Environment.{IsLaidOut}
use Rattle.pb_typing_values.specs.Slots.{slots_of}
use Rattle.pb_typing_values.proofs.Nested.{shape-values}
use Rattle.pb_typing_values.proofs.Slots.{placed}
use Rattle.pb_typing_calls.specs.Gathered.{calls_of, gathered}
use Rattle.pb_typing_calls.specs.Loops.{Holds, tuples_of}
use Rattle.pb_typing_calls.specs.MadeCalls.{MadeCall}
use Rattle.pb_typing_calls.specs.declared.loops.Loops.{Loops}
use Rattle.pb_typing_calls.specs.declared.scope.Scope.{Scope}
use Rattle.pb_typing_calls.proofs.Holding.{same-slots}
use Rattle.pb_typing_calls.proofs.Nodes.{IsQuantifierOf}

-- ---- which quantifier it is makes no difference

same-values : (F G : Value → List MadeCall) → ((v : Value) → F v ≡ G v) → (vs : carriers.Carrier)
    → flat_map F vs ≡ flat_map G vs
same-values F G same [] = refl
same-values F G same (v ∷ vs) =
    ap (λ xs. xs ++ flat_map F vs) (same v) ∙ ap (λ xs. G v ++ xs) (same-values F G same vs)

any-quantifier-gathers : (spec : Spec) (q r : Quantifier) (cs : List Carrier) (f : tree.Formula)
    (ps : List Place) (own : List ℕ) (s : ℕ) (a : Slots)
    → gathered spec own a (nested q s cs f) ps ≡ gathered spec own a (nested r s cs f) ps
any-quantifier-gathers spec q r [] f ps own s a = refl
any-quantifier-gathers spec q r (c ∷ cs) f ps own s a =
    same-values _ _
    (λ v. any-quantifier-gathers spec q r cs f ps (own ++ s ∷ []) (suc s) (set a s v))
    (shape_carrier (shape_of c))

-- a quantifier makes the calls of one with its body and slots
pub exists-gathers : (spec : Spec) (s : Scope) (a : Slots) {f : Formula} {q : Quantifier} {slot : ℕ} {cs : List Carrier} {body : Formula}
    → IsQuantifierOf f q slot cs body
    → gathered spec s.own.now a (nested Exists slot cs (formula_view body)) (call_places body) ≡ calls_of spec s a f
exists-gathers spec s a {f} {q} {slot} {cs} {body} read =
    any-quantifier-gathers spec Exists q cs (formula_view body) (call_places body) s.own.now slot a
    ∙ (ap (λ (t : tree.Formula). gathered spec s.own.now a t (call_places body)) (sym read.view)
    ∙ ap (gathered spec s.own.now a (formula_view f)) (sym read.places))

-- ---- by tuples

fronts : (F : Tuple → List MadeCall) (c : carriers.Carrier) (ts : List Tuple)
    → flat_map F (flat_map (λ v. map (λ vs. v ∷ vs) ts) c)
    ≡ flat_map (λ v. flat_map (λ vs. F (v ∷ vs)) ts) c
fronts F [] ts = refl
fronts F (v ∷ c) ts =
    let rest = flat_map (λ (u : Value). map (λ (vs : Tuple). u ∷ vs) ts) c in
    flat_map-append F (map (λ vs. v ∷ vs) ts) rest
    ∙ (ap (λ xs. xs ++ flat_map F rest) (flat_map-map F (λ vs. v ∷ vs) ts)
    ∙ ap (λ xs. flat_map (λ vs. F (v ∷ vs)) ts ++ xs) (fronts F c ts))

-- the slots of a quantifier behind those around it
abbrev slots_inside : List ℕ → ℕ → List Carrier → List ℕ
slots_inside own s cs = own ++ range_with_len s (length cs)

one-more-slot : (own : List ℕ) (s : ℕ) (cs : List Carrier) (c : Carrier)
    → slots_inside own s (c ∷ cs) ≡ slots_inside (own ++ s ∷ []) (suc s) cs
one-more-slot own s cs c =
    ap (λ k. own ++ s ∷ range_with_len k (length cs)) (omega arith)
    ∙ sym (append_assoc own (s ∷ []) (range_with_len (suc s) (length cs)))

pub gathered-nested : (spec : Spec) (f : tree.Formula) (ps : List Place) (cs : List Carrier)
    (own : List ℕ) (s : ℕ) (a : Slots)
    → flat_map (λ vs. gathered spec (slots_inside own s cs) (placed a s vs) f ps)
    (tuples (map values_of cs))
    ≡ gathered spec own a (nested Exists s cs f) ps
gathered-nested spec f ps [] own s a =
    append-nil (gathered spec (own ++ []) a f ps)
    ∙ ap (λ ss. gathered spec ss a f ps) (append-nil own)
gathered-nested spec f ps (c ∷ cs) own s a =
    let G : List ℕ → Tuple → List MadeCall = λ ss vs. gathered spec ss (placed a s vs) f ps in
    let ts = tuples (map values_of cs) in
    let one : Value → List MadeCall =
    λ v. gathered spec (own ++ s ∷ []) (set a s v) (nested Exists (suc s) cs f) ps in
    fronts (G (slots_inside own s (c ∷ cs))) (values_of c) ts
    ∙ (ap (λ ss. flat_map (λ v. flat_map (λ vs. G ss (v ∷ vs)) ts) (values_of c))
    (one-more-slot own s cs c)
    ∙ (same-values _ one
    (λ v. gathered-nested spec f ps cs (own ++ s ∷ []) (suc s) (set a s v)) (values_of c)
    ∙ ap (flat_map one) (sym (shape-values c))))

-- ---- slots

inside-are : (own ss : List ℕ) (s : ℕ) (cs : List Carrier)
    → ss ≡ own ++ range_with_len s (s + length cs - s) → ss ≡ slots_inside own s cs
inside-are own ss s cs is =
    let count : s + length cs - s ≡ length cs = omega arith in
    is ∙ ap (λ n. own ++ range_with_len s n) count

-- ---- one tuple after the other

module _ (s : Scope) (l : Loops) (body : Formula) (outer : Tuple) (old : List MadeCall) where
  abbrev whole : tree.Formula
  whole = nested Exists l.slot l.carriers.now (formula_view body)

  abbrev calls_here : Spec → Slots → List MadeCall
  calls_here spec a =
      gathered spec (slots_inside s.own.now l.slot l.carriers.now) a (formula_view body)
      (call_places body)

  abbrev body_calls : Spec → Tuple → List MadeCall
  body_calls spec vs = calls_here spec (placed (slots_of outer) l.slot vs)

  abbrev all_calls : Spec → List MadeCall
  all_calls spec = old ++ gathered spec s.own.now (slots_of outer) whole (call_places body)

  -- what is gathered, and what the tuples that are left give, is all
  pub record IsTupleLeft (slots : Tuple) (done : List MadeCall) : Type 0 where
    pub place : ℕ
    pub holds : Holds l outer place slots
    pub left : (spec : Spec) → IsLaidOut spec s.environment.layout.now
        → done ++ flat_map (body_calls spec) (drop place (tuples_of l)) ≡ all_calls spec

  pub tuples-begun : (slots : Tuple) → Holds l outer 0 slots → IsTupleLeft slots old
  tuples-begun slots h = record {
    place = 0;
    holds = h;
    left = λ spec of.
        ap (λ (xs : List MadeCall). old ++ xs)
        (gathered-nested spec (formula_view body) (call_places body) l.carriers.now
        s.own.now l.slot (slots_of outer));
  }

  -- the calls at the tuple that the slots hold are gathered, too
  pub record IsTupleDone (slots : Tuple) (done : List MadeCall) : Type 0 where
    pub place : ℕ
    pub holds : Holds l outer place slots
    pub left : (spec : Spec) → IsLaidOut spec s.environment.layout.now
        → done ++ flat_map (body_calls spec) (drop (place + 1) (tuples_of l)) ≡ all_calls spec

module _ {s : Scope} {l : Loops} {body : Formula} {outer : Tuple} {old : List MadeCall} {slots : Tuple} {done : List MadeCall} where
  pub tuple-done : IsTupleLeft s l body outer old slots done → (ss : List ℕ)
      → ss ≡ s.own.now ++ range_with_len l.slot (l.slot + length l.carriers.now - l.slot)
      → (next : Tuple) → next ≡ slots → (more : List MadeCall)
      → ((spec : Spec) → IsLaidOut spec s.environment.layout.now
      → more ≡ done ++ gathered spec ss (slots_of slots) (formula_view body) (call_places body))
      → IsTupleDone s l body outer old next more
  tuple-done w ss is next same more made = record {
    place = w.place;
    holds = subst (Holds l outer w.place) (sym same) w.holds;
    left = λ spec of.
        let h = w.holds in
        let calls_at = body_calls s l body outer old spec in
        let rest = flat_map calls_at (drop (w.place + 1) (tuples_of l)) in
        ap (λ (xs : List MadeCall). xs ++ rest)
        (made spec of
        ∙ (ap (λ (rs : List ℕ). done ++ gathered spec rs (slots_of slots) (formula_view body) (call_places body))
        (inside-are s.own.now ss l.slot l.carriers.now is)
        ∙ ap (λ (a : Slots). done ++ calls_here s l body outer old spec a) (same-slots l outer slots w.place h)))
        ∙ (append_assoc done (calls_at h.tuple) rest
        ∙ (ap (λ (ts : List Tuple). done ++ flat_map calls_at ts)
        (sym (drop-slice_get (tuples_of l) w.place h.tuple h.at))
        ∙ w.left spec of));
  }

  pub tuple-next : (w : IsTupleDone s l body outer old slots done) → {next : Tuple}
      → Holds l outer (w.place + 1) next → IsTupleLeft s l body outer old next done
  tuple-next w h = record { place = w.place + 1; holds = h; left = w.left }

  pub tuple-last : (w : IsTupleDone s l body outer old slots done) → length (tuples_of l) ≡ w.place + 1
      → (spec : Spec) → IsLaidOut spec s.environment.layout.now → done ≡ all_calls s l body outer old spec
  tuple-last w last spec of =
      let none = drop_all (w.place + 1) (tuples_of l) (omega (arith, last)) in
      sym (append-nil done)
      ∙ (ap (λ (ts : List Tuple). done ++ flat_map (body_calls s l body outer old spec) ts) (sym none)
      ∙ w.left spec of)
