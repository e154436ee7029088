-- A name that stands for nothing in data.
use Rattle.std.proofs.Common.{◌≡◌, ℕ, ◌+◌, ◌<◌, ◌≤◌, length, Bool, true, false, cond, not, ◌||◌, List, [], ◌∷◌, ◌++◌, refl, sym, ◌∙◌, ap, arith, Some, None, true≢false}
use Rattle.std.specs.Prelude.{nat_lt}
use Rattle.std.specs.List.{position, prefix_len, list_any}
use borrow.Author.Tests.{ltb-true}
use Rattle.std.proofs.lemmas.Bool.Decides.{nat_tests}
use Rattle.pb_text_tree.specs.Form.{Named}
use Rattle.pb_text_meaning.specs.Syntax.{Name, same_name, Equation, Spec}
use Rattle.pb_text_meaning.specs.Names.{is_declared}
use Rattle.pb_typing_declarations.specs.declared.fault.TypingRule.TheVariants as rule
use Rattle.pb_base.specs.declared.or_memory.OrMemory.TheVariants.{Refused}
use Rattle.pb_typing_declarations.specs.Faults.{unless, IsAmong}
use Rattle.pb_typing_declarations.specs.Agreement.{equation_place}
use Rattle.pb_typing_rules.specs.Faults.{unknown_faults}

-- the first place at which a test passes: there is one exactly where some element passes
below : {A : Type 0} (t : A → Bool) (xs : List A) → prefix_len (λ x. not (t x)) xs < length xs → list_any t xs ≡ true
below t [] h = absurd (omega (arith, h))
below t (x ∷ xs) h = by_test (t x) h (below t xs)
  where
    by_test : (b : Bool) → cond (not b) (1 + prefix_len (λ y. not (t y)) xs) 0 < length (x ∷ xs) → (prefix_len (λ y. not (t y)) xs < length xs → list_any t xs ≡ true) → (b || list_any t xs) ≡ true
    by_test true h rest = refl
    by_test false h rest = rest (omega (arith, h))

beyond : {A : Type 0} (t : A → Bool) (xs : List A) → length xs ≤ prefix_len (λ x. not (t x)) xs → list_any t xs ≡ false
beyond t [] h = refl
beyond t (x ∷ xs) h = by_test (t x) h (beyond t xs)
  where
    by_test : (b : Bool) → length (x ∷ xs) ≤ cond (not b) (1 + prefix_len (λ y. not (t y)) xs) 0 → (length xs ≤ prefix_len (λ y. not (t y)) xs → list_any t xs ≡ false) → (b || list_any t xs) ≡ false
    by_test true h rest = absurd (omega (arith, h))
    by_test false h rest = rest (omega (arith, h))

pub some_position : {A : Type 0} (t : A → Bool) (xs : List A) (k : ℕ) → position t xs ≡ Some k → (k < length xs) × (prefix_len (λ x. not (t x)) xs ≡ k)
some_position t xs k e = by_test (nat_lt (prefix_len (λ x. not (t x)) xs) (length xs)) refl e
  where
    by_test : (b : Bool) → nat_lt (prefix_len (λ x. not (t x)) xs) (length xs) ≡ b
        → cond b (Some (prefix_len (λ x. not (t x)) xs)) None ≡ Some k → (k < length xs) × (prefix_len (λ x. not (t x)) xs ≡ k)
    by_test true is f = let same : prefix_len (λ x. not (t x)) xs ≡ k = cc in let h = ltb-true _ _ is in (omega (arith, h, same), same)
    by_test false is f = absurd (cc)

pub no_position : {A : Type 0} (t : A → Bool) (xs : List A) → position t xs ≡ None → length xs ≤ prefix_len (λ x. not (t x)) xs
no_position t xs e = by_test (nat_lt (prefix_len (λ x. not (t x)) xs) (length xs)) refl e
  where
    by_test : (b : Bool) → nat_lt (prefix_len (λ x. not (t x)) xs) (length xs) ≡ b → cond b (Some (prefix_len (λ x. not (t x)) xs)) None ≡ None → length xs ≤ prefix_len (λ x. not (t x)) xs
    by_test true is f = absurd (cc)
    by_test false is f = grind (arith, nat_tests)

abbrev named_as : Name → Equation → Bool
named_as x X = same_name X.name x

pub predicate_in_data : (S : Spec) (x : Named) (text : Name) (k : ℕ) → text ≡ x.text → equation_place S text ≡ Some k
    → IsAmong (unknown_faults S x) (Refused (record { rule = rule.PredicateInData; place = x.place }))
predicate_in_data S x text k same e =
    let p = some_position (named_as x.text) S.equations k (sym (ap (equation_place S) same) ∙ e) in
    by_test (is_declared S.equations x.text) (below (named_as x.text) S.equations (omega (arith, p.0, p.1)))
  where
    by_test : (d : Bool) → d ≡ true → IsAmong (unless (not d) rule.PredicateInData x.place ++ unless d rule.UnknownName x.place) (Refused (record { rule = rule.PredicateInData; place = x.place }))
    by_test true f = (0, omega arith, refl)
    by_test false f = absurd (true≢false (sym f))

pub unknown_name : (S : Spec) (x : Named) (text : Name) → text ≡ x.text → equation_place S text ≡ None → IsAmong (unknown_faults S x) (Refused (record { rule = rule.UnknownName; place = x.place }))
unknown_name S x text same e =
    by_test (is_declared S.equations x.text) (beyond (named_as x.text) S.equations (no_position (named_as x.text) S.equations (sym (ap (equation_place S) same) ∙ e)))
  where
    by_test : (d : Bool) → d ≡ false → IsAmong (unless (not d) rule.PredicateInData x.place ++ unless d rule.UnknownName x.place) (Refused (record { rule = rule.UnknownName; place = x.place }))
    by_test true f = absurd (true≢false f)
    by_test false f = (0, omega arith, refl)
