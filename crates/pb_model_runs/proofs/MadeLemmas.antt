-- The calls that are made behind quantifiers and guards.
use Rattle.std.proofs.Common.{◌≡◌, Bool, true, false, not, ◌&&◌, ◌||◌, if◌then◌else◌, List, [], ◌∷◌, ◌++◌, map, flat_map, refl, sym, ap, ◌∙◌}
use Rattle.std.proofs.Math.Path.{fun_ext}
use Rattle.std.proofs.lemmas.Grind.{flat_map-append}
use Rattle.std.proofs.lemmas.List.{append-nil, map-append, map-id}
use Rattle.std.proofs.lemmas.List.Folds.{flat_map-map}
use Rattle.std.proofs.lemmas.Simd.{map-map}
use Rattle.pb_base_values.specs.Carrier.{Value, Tuple, of_bool, tuples}
use Rattle.pb_text_tree.specs.declared.place.Place.{Place}
use Rattle.pb_text_tree.specs.declared.operator.Connective.TheVariants.{And, Or, Implies}
use Rattle.pb_text_tree.specs.Form.{TermForm}
use Rattle.pb_text_tree.specs.Form as form
use Rattle.pb_text_meaning.proofs.Truths.{is_true-of_bool}
use Rattle.pb_text_meaning.specs.Syntax.{Variable, Spec}
use Rattle.pb_text_meaning.specs.Erase.{erased_term}
use Rattle.pb_text_meaning.specs.Sorts.{carrier_of}
use Rattle.pb_text_meaning.specs.Value.{Assignment, is_true, value}
use Rattle.pb_text_meaning.specs.Formula.{carriers_of}
use Rattle.pb_text_meaning.specs.Meaning.{assigned}
use Rattle.pb_model_tree.specs.declared.formula.Modality.{Modality}
use Rattle.pb_model_tree.specs.declared.formula.Modality.TheVariants.{Box, Diamond}
use Rattle.pb_model_translation.specs.Placed.{guarding, behind_form}
use Rattle.pb_typing_calls.specs.Calls.{decides}
use Rattle.pb_typing_calls.specs.MadeCalls.{MadeCall, has_no_call, with_value, for_values, made_calls}
use Rattle.pb_typing_calls.specs.declared.side.Side.TheVariants.{Left}

-- ---- lists

pub map-flat_map : {A B C : Type 0} (f : B → C) (g : A → List B) (xs : List A) → map f (flat_map g xs) ≡ flat_map (λ x. map f (g x)) xs
map-flat_map f g [] = refl
map-flat_map f g (x ∷ xs) = map-append f (g x) (flat_map g xs) ∙ ap (λ ys. map f (g x) ++ ys) (map-flat_map f g xs)

pub flat_map-flat_map : {A B C : Type 0} (f : B → List C) (g : A → List B) (xs : List A) → flat_map f (flat_map g xs) ≡ flat_map (λ x. flat_map f (g x)) xs
flat_map-flat_map f g [] = refl
flat_map-flat_map f g (x ∷ xs) = flat_map-append f (g x) (flat_map g xs) ∙ ap (λ ys. flat_map f (g x) ++ ys) (flat_map-flat_map f g xs)

-- ---- quantifiers

abbrev pub with_values : Tuple → MadeCall → MadeCall
with_values vs c = record { place = c.place; own = vs ++ c.own; instance = c.instance }

-- the calls for each tuple of the variables' carriers
pub for-tuples : (spec : Spec) (xs : List Variable) (g : Assignment → List MadeCall) (a : Assignment) →
    for_values spec xs g a ≡ flat_map (λ (vs : Tuple). map (with_values vs) (g (assigned xs vs a))) (tuples (carriers_of spec xs))
for-tuples spec [] g a = sym (append-nil (map (with_values []) (g a)) ∙ map-id (g a))
for-tuples spec (x ∷ xs) g a =
    let others = tuples (carriers_of spec xs) in
    let all : Tuple → List MadeCall = λ vs. map (with_values vs) (g (assigned (x ∷ xs) vs a)) in
    ap (λ (h : Value → List MadeCall). flat_map h (carrier_of spec x.sort)) (fun_ext (λ v.
    ap (map (with_value v)) (for-tuples spec xs g ((x.name, v) ∷ a))
    ∙ map-flat_map (with_value v) (λ (vs : Tuple). map (with_values vs) (g (assigned xs vs ((x.name, v) ∷ a)))) others
    ∙ ap (λ (h : Tuple → List MadeCall). flat_map h others) (fun_ext (λ vs. map-map (with_value v) (with_values vs) (g (assigned xs vs ((x.name, v) ∷ a)))))
    ∙ sym (flat_map-map all (λ (vs : Tuple). v ∷ vs) others)))
    ∙ sym (flat_map-flat_map all (λ (v : Value). map (λ (vs : Tuple). v ∷ vs) others) (carrier_of spec x.sort))

-- ---- guards

-- whether a guard of this truth, or its negation, is true
abbrev pub passing_guard : Bool → Bool → Bool
passing_guard false b = b
passing_guard true b = not b

abbrev pub kept : {A : Type 0} → Bool → List A → List A
kept b calls = if b then calls else []

decided : (k : Modality) (b : Bool) → decides (guarding k) Left b ≡ not b
decided Box b = refl
decided Diamond b = refl

behind-not : (negated b : Bool) → passing_guard (not negated) b ≡ passing_guard negated (is_true (of_bool (not b)))
behind-not true true = refl
behind-not true false = refl
behind-not false true = refl
behind-not false false = refl

both-kept : {A : Type 0} (b d : Bool) (calls : List A) → kept b (kept d calls) ≡ kept (is_true (of_bool (b && d))) calls
both-kept true true calls = refl
both-kept true false calls = refl
both-kept false true calls = refl
both-kept false false calls = refl

neither-kept : {A : Type 0} (b d : Bool) (calls : List A) → kept (not b) (kept (not d) calls) ≡ kept (not (is_true (of_bool (b || d)))) calls
neither-kept true true calls = refl
neither-kept true false calls = refl
neither-kept false true calls = refl
neither-kept false false calls = refl

first-kept : {A : Type 0} (b d : Bool) (calls : List A) → kept b (kept (not d) calls) ≡ kept (not (is_true (of_bool (not b || d)))) calls
first-kept true true calls = refl
first-kept true false calls = refl
first-kept false true calls = refl
first-kept false false calls = refl

module _ (spec : Spec) (k : Modality) where
  leaf : (b : Bool) (calls : List MadeCall) → (if decides (guarding k) Left b then [] else calls) ≡ kept b calls
  leaf b calls = ap (λ t. if t then [] else calls) (decided k b) ∙ by b
    where
      by : (b : Bool) → (if not b then [] else calls) ≡ kept b calls
      by true = refl
      by false = refl

  abbrev holds : Assignment → TermForm → Bool
  holds a x = is_true (value spec a (erased_term x))

  -- behind a guard, or its negation, just the calls are made that would be made without it, or none
  pub behind-calls : (p : Place) (negated : Bool) (x : TermForm) (f : form.FormulaForm) (a : Assignment) →
      made_calls spec a (behind_form (guarding k) p negated x f) ≡ kept (passing_guard negated (holds a x)) (made_calls spec a f)
  behind-calls p false (TermForm.not q x) f a =
      behind-calls q true x f a ∙ ap (λ b. kept b (made_calls spec a f)) (behind-not false (holds a x))
  behind-calls p true (TermForm.not q x) f a =
      behind-calls q false x f a ∙ ap (λ b. kept b (made_calls spec a f)) (behind-not true (holds a x))
  behind-calls p false (TermForm.connected And q x y) f a =
      behind-calls q false x (behind_form (guarding k) q false y f) a
      ∙ ap (kept (holds a x)) (behind-calls q false y f a) ∙ both-kept (holds a x) (holds a y) (made_calls spec a f)
  behind-calls p true (TermForm.connected Or q x y) f a =
      behind-calls q true x (behind_form (guarding k) q true y f) a
      ∙ ap (kept (not (holds a x))) (behind-calls q true y f a) ∙ neither-kept (holds a x) (holds a y) (made_calls spec a f)
  behind-calls p true (TermForm.connected Implies q x y) f a =
      behind-calls q false x (behind_form (guarding k) q true y f) a
      ∙ ap (kept (holds a x)) (behind-calls q true y f a) ∙ first-kept (holds a x) (holds a y) (made_calls spec a f)
  behind-calls p false x f a = leaf (holds a x) (made_calls spec a f)
  behind-calls p true x f a =
      leaf (is_true (of_bool (not (holds a x)))) (made_calls spec a f) ∙ ap (λ b. kept b (made_calls spec a f)) (is_true-of_bool (not (holds a x)))

  -- and a guard hides none
  pub behind-has : (p : Place) (negated : Bool) (x : TermForm) (f : form.FormulaForm) →
      has_no_call (behind_form (guarding k) p negated x f) ≡ has_no_call f
  behind-has p false (TermForm.not q x) f = behind-has q true x f
  behind-has p true (TermForm.not q x) f = behind-has q false x f
  behind-has p false (TermForm.connected And q x y) f = behind-has q false x (behind_form (guarding k) q false y f) ∙ behind-has q false y f
  behind-has p true (TermForm.connected Or q x y) f = behind-has q true x (behind_form (guarding k) q true y f) ∙ behind-has q true y f
  behind-has p true (TermForm.connected Implies q x y) f = behind-has q false x (behind_form (guarding k) q true y f) ∙ behind-has q true y f
  behind-has p false x f = refl
  behind-has p true x f = refl
