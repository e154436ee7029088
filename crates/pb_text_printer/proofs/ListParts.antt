-- Arguments, enumerators and the lines of a text that are written one after another.
use Rattle.std.proofs.Common.{◌≡◌, ℕ, ◌+◌, ◌<◌, ◌≤◌, zero, suc, arith, add-one, true, false, List, [], ◌∷◌, ◌++◌, length, get_or, drop, map, refl, sym, ◌∙◌, ap}
use Rattle.std.specs.Prelude.{flat_map, codes, ◌==◌}
use Rattle.std.proofs.lemmas.List.{append-nil, drop_all}
use Rattle.pb_text_tree.specs.declared.place.Place.{Place}
use Rattle.pb_text_tree.specs.declared.term.Argument.{Argument}
use Rattle.pb_text_tree.specs.declared.sort.Enumerator.{Enumerator}
use Rattle.pb_text_tree.specs.declared.sort.Range.{Range}
use Rattle.pb_text_tree.specs.Form.{TermForm, ArgumentForms, argument, term_form, argument_forms, EnumeratorForm, enumerator_form, range_form}
use Rattle.pb_text_lexer.specs.declared.kind.Kind.TheVariants as k
use Rattle.pb_text_printer.specs.Words.{Word, word, term_words, more_words, close_word, enumerator_words, enumerators_words, range_bytes}
use Rattle.pb_text_printer.specs.Page.{Page, after, typed, broken}
use Rattle.pb_text_printer.specs.Parts.{separator, arguments_from, bar_words, barred_words, enumerators_from, behind_ranges}
use Rattle.pb_text_printer.proofs.PageLemmas.{left, left-next}

-- ---- arguments

from-argument : (n : ℕ) (place : Place) (x : TermForm) (xs : ArgumentForms) → arguments_from n (argument place x xs) ≡ separator n ∷ (term_words x true ++ more_words xs)
from-argument zero place x xs = refl
from-argument (suc n) place x xs = refl

more-behind : (n : ℕ) (xs : ArgumentForms) → arguments_from (n + 1) xs ≡ more_words xs
more-behind n xs = ap (λ (m : ℕ). arguments_from m xs) (add-one n)

pub argument-next : (xs : List Argument) (n : ℕ) (x : Argument) (p q r : Page) → n < length xs → x ≡ get_or xs n x → q ≡ after (separator n ∷ []) p → r ≡ after (term_words (term_form x.term) true) q
    → after (arguments_from (n + 1) (argument_forms (drop (n + 1) xs))) r ≡ after (arguments_from n (argument_forms (drop n xs))) p
argument-next xs n x p q r below at first second =
    let rest : List Word = more_words (argument_forms (drop (n + 1) xs)) in
    ap (λ (w : List Word). after w r) (more-behind n (argument_forms (drop (n + 1) xs)))
    ∙ left (term_words (term_form x.term) true) rest q r second
    ∙ ap (after (term_words (term_form x.term) true ++ rest)) first
    ∙ ap (λ (w : List Word). after w p) (sym (from-argument n x.place (term_form x.term) (argument_forms (drop (n + 1) xs))))
    ∙ ap (λ (v : List Argument). after (arguments_from n (argument_forms v)) p) (sym (left-next xs n x below at))

pub arguments-end : (xs : List Argument) (n : ℕ) → length xs ≤ n → false ≡ (length xs == 0) → close_word ∷ [] ≡ arguments_from n (argument_forms (drop n xs))
arguments-end [] n h some = cc
arguments-end (x ∷ xs) zero h some = absurd (omega arith)
arguments-end (x ∷ xs) (suc n) h some = ap (λ (v : List Argument). more_words (argument_forms v)) (sym (drop_all n xs (omega arith)))

-- ---- enumerators

barred : (e : EnumeratorForm) (es : List EnumeratorForm) → enumerators_words (e ∷ es) ≡ enumerator_words e ++ barred_words es
barred e [] = sym (append-nil (enumerator_words e))
barred e (f ∷ es) = ap (λ (v : List Word). enumerator_words e ++ (word k.Bar (codes "|") ∷ v)) (barred f es)

from-enumerator : (n : ℕ) (e : EnumeratorForm) (es : List EnumeratorForm) → enumerators_from n (e ∷ es) ≡ bar_words n ++ (enumerator_words e ++ barred_words es)
from-enumerator zero e es = barred e es
from-enumerator (suc n) e es = refl

barred-behind : (n : ℕ) (es : List EnumeratorForm) → enumerators_from (n + 1) es ≡ barred_words es
barred-behind n es = ap (λ (m : ℕ). enumerators_from m es) (add-one n)

pub enumerator-next : (es : List Enumerator) (n : ℕ) (e : Enumerator) (p q r : Page) → n < length es → e ≡ get_or es n e
    → q ≡ after (bar_words n) p → r ≡ after (enumerator_words (enumerator_form e)) q
    → after (enumerators_from (n + 1) (map enumerator_form (drop (n + 1) es))) r ≡ after (enumerators_from n (map enumerator_form (drop n es))) p
enumerator-next es n e p q r below at first second =
    let rest : List Word = barred_words (map enumerator_form (drop (n + 1) es)) in
    ap (λ (w : List Word). after w r) (barred-behind n (map enumerator_form (drop (n + 1) es)))
    ∙ left (enumerator_words (enumerator_form e)) rest q r second
    ∙ left (bar_words n) (enumerator_words (enumerator_form e) ++ rest) p q first
    ∙ ap (λ (w : List Word). after w p) (sym (from-enumerator n (enumerator_form e) (map enumerator_form (drop (n + 1) es))))
    ∙ ap (λ (v : List Enumerator). after (enumerators_from n (map enumerator_form v)) p) (sym (left-next es n e below at))

no-enumerators : (n : ℕ) → [] ≡ enumerators_from n []
no-enumerators zero = refl
no-enumerators (suc n) = refl

pub enumerators-end : (es : List Enumerator) (n : ℕ) (p : Page) → length es ≤ n → p ≡ after (enumerators_from n (map enumerator_form (drop n es))) p
enumerators-end es n p h =
    ap (λ (w : List Word). after w p) (no-enumerators n) ∙ ap (λ (v : List Enumerator). after (enumerators_from n (map enumerator_form v)) p) (sym (drop_all n es h))

-- ---- lines

module _ {A F : Type 0} (form : A → F) (words : F → List Word) where
  pub line-next : (xs : List A) (n : ℕ) (x : A) (p q : Page) → n < length xs → x ≡ get_or xs n x → q ≡ after (words (form x)) p
      → after (flat_map words (map form (drop (n + 1) xs))) q ≡ after (flat_map words (map form (drop n xs))) p
  line-next xs n x p q below at first =
      left (words (form x)) (flat_map words (map form (drop (n + 1) xs))) p q first
      ∙ ap (λ (v : List A). after (flat_map words (map form v)) p) (sym (left-next xs n x below at))

  pub lines-end : (xs : List A) (n : ℕ) (p : Page) → length xs ≤ n → p ≡ after (flat_map words (map form (drop n xs))) p
  lines-end xs n p h = ap (λ (v : List A). after (flat_map words (map form v)) p) (sym (drop_all n xs h))

pub range-next : (xs : List Range) (n : ℕ) (x : Range) (p q : Page) → n < length xs → x ≡ get_or xs n x → q ≡ broken (typed false true (range_bytes (range_form x)) p)
    → behind_ranges (map range_form (drop (n + 1) xs)) q ≡ behind_ranges (map range_form (drop n xs)) p
range-next xs n x p q below at first =
    ap (behind_ranges (map range_form (drop (n + 1) xs))) first ∙ ap (λ (v : List Range). behind_ranges (map range_form v) p) (sym (left-next xs n x below at))

pub ranges-end : (xs : List Range) (n : ℕ) (p : Page) → length xs ≤ n → p ≡ behind_ranges (map range_form (drop n xs)) p
ranges-end xs n p h = ap (λ (v : List Range). behind_ranges (map range_form v) p) (sym (drop_all n xs h))
