-- Which of the calls that name an instance is told.
use Rattle.std.proofs.Common.{◌≡◌, ℕ, Bool, true, false, true≢false, not, ◌&&◌, ◌||◌, ◌==◌, List, [], ◌∷◌, Option, Some, None, refl, sym, ap, ◌∙◌}
use Rattle.std.specs.Prelude.{if◌then◌else◌, is_some}
use Rattle.std.specs.List.{find, list_all}
use Rattle.std.proofs.Math.Bool.{and-false}
use Rattle.std.proofs.lemmas.Bool.{and_parts}
use Rattle.std.proofs.lemmas.Bool.Decides.{Decides-eqb}
use Rattle.pb_text_tree.specs.declared.place.Place.{Place}
use Rattle.pb_sorts.specs.Instance.{Instance}
use Rattle.pb_typing_calls.specs.Calls.{same_place}
use Rattle.pb_typing_calls.specs.MadeCalls.{MadeCall}
use Rattle.pb_evidence_words.specs.WhyText.{call_or, chosen_call, is_call_at, is_call_of}

abbrev pub nowhere_else : Place → Instance → MadeCall → Bool
nowhere_else p j c = not (is_call_of j c) || same_place c.place p

-- the same line and column
alike : (p q r : Place) → same_place p q ≡ true → same_place p r ≡ same_place q r
alike p q r is =
    let parts = and_parts (p.line == q.line) (p.column == q.column) is in
    ap (λ (n : ℕ). (n == r.line) && (p.column == r.column)) ((Decides-eqb p.line q.line).0 parts.0)
    ∙ ap (λ (n : ℕ). (q.line == r.line) && (n == r.column)) ((Decides-eqb p.column q.column).0 parts.1)

abbrev first : {A : Type 0} → Bool → A → Option A → Option A
first b x o = if b then Some x else o

-- no call names the instance
module _ (p : Place) (j : Instance) where
  none-at : (calls : List MadeCall) → find (is_call_of j) calls ≡ None → find (is_call_at p j) calls ≡ None
  none-at [] none = refl
  none-at (c ∷ calls) none = by (is_call_of j c) none (none-at calls)
    where
      by : (b : Bool) → first b c (find (is_call_of j) calls) ≡ None
          → (find (is_call_of j) calls ≡ None → find (is_call_at p j) calls ≡ None)
          → first (same_place c.place p && b) c (find (is_call_at p j) calls) ≡ None
      by true some rest = absurd (true≢false (ap is_some some))
      by false others rest = ap (λ b. first b c (find (is_call_at p j) calls)) (and-false (same_place c.place p)) ∙ rest others

pub none-chosen : (o : Option Place) (calls : List MadeCall) (j : Instance) → find (is_call_of j) calls ≡ None → chosen_call o calls j ≡ None
none-chosen None calls j none = none
none-chosen (Some p) calls j none = ap (λ (x : Option MadeCall). call_or x (find (is_call_of j) calls)) (none-at p j calls none) ∙ none

-- all calls that name the instance stand at one place
module _ (q : Place) (j : Instance) where
  at-all : (p : Place) (calls : List MadeCall) → same_place q p ≡ true → list_all (nowhere_else q j) calls ≡ true
      → find (is_call_at p j) calls ≡ find (is_call_of j) calls
  at-all p [] same all = refl
  at-all p (c ∷ calls) same all =
      let parts = and_parts (nowhere_else q j c) (list_all (nowhere_else q j) calls) all in
      ap (λ b. first b c (find (is_call_at p j) calls)) (by (is_call_of j c) (same_place c.place q) refl parts.0)
      ∙ ap (first (is_call_of j c) c) (at-all p calls same parts.1)
    where
      by : (b s : Bool) → same_place c.place q ≡ s → (not b || s) ≡ true → (same_place c.place p && b) ≡ b
      by true true here some = ap (λ b. b && true) (alike c.place q p here ∙ same)
      by true false here some = absurd (true≢false (sym some))
      by false s here some = and-false (same_place c.place p)

  at-none : (p : Place) (calls : List MadeCall) → same_place q p ≡ false → list_all (nowhere_else q j) calls ≡ true
      → find (is_call_at p j) calls ≡ None
  at-none p [] other all = refl
  at-none p (c ∷ calls) other all =
      let parts = and_parts (nowhere_else q j c) (list_all (nowhere_else q j) calls) all in
      ap (λ b. first b c (find (is_call_at p j) calls)) (by (is_call_of j c) (same_place c.place q) refl parts.0)
      ∙ at-none p calls other parts.1
    where
      by : (b s : Bool) → same_place c.place q ≡ s → (not b || s) ≡ true → (same_place c.place p && b) ≡ false
      by true true here some = ap (λ b. b && true) (alike c.place q p here ∙ other)
      by true false here some = absurd (true≢false (sym some))
      by false s here some = and-false (same_place c.place p)

  pub one-chosen : (o : Option Place) (calls : List MadeCall) → list_all (nowhere_else q j) calls ≡ true
      → chosen_call o calls j ≡ find (is_call_of j) calls
  one-chosen None calls all = refl
  one-chosen (Some p) calls all = by (same_place q p) refl
    where
      again : (o : Option MadeCall) → call_or o o ≡ o
      again None = refl
      again (Some c) = refl

      by : (b : Bool) → same_place q p ≡ b → chosen_call (Some p) calls j ≡ find (is_call_of j) calls
      by true same = ap (λ (x : Option MadeCall). call_or x (find (is_call_of j) calls)) (at-all p calls same all) ∙ again (find (is_call_of j) calls)
      by false other = ap (λ (x : Option MadeCall). call_or x (find (is_call_of j) calls)) (at-none p calls other all)

-- what is said of a test that isn't denied
pub so-all : (b all : Bool) → b ≡ all → not b ≡ false → all ≡ true
so-all true all same is = sym same
so-all false all same is = absurd (true≢false is)
