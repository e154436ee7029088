-- Which operands of a chain ask a test.
use Rattle.std.proofs.Common.{◌≡◌, ◌∙◌, ℕ, ◌+◌, ◌==◌, ◌<◌, ◌≤◌, Bool, true, false, true≢false, not, ◌&&◌, ◌||◌, List, [], ◌∷◌, length, get_or, drop, refl, sym, ap, Vec, Global, Box, vec_len, arith}
use Rattle.std.specs.Prelude.{box_value}
use Rattle.std.proofs.lemmas.Bool.{ne_eqb}
use Rattle.std.proofs.lemmas.List.{drop_all}
use Rattle.pb_text_tree.specs.declared.place.Place.{Place}
use Rattle.pb_text_tree.specs.declared.operator.Connective.{Connective}
use Rattle.pb_text_tree.specs.declared.formula.Formula as formula
use Rattle.pb_text_tree.specs.declared.formula.Formula.{Formula}
use Rattle.pb_text_tree.specs.declared.formula.Link.{Link}
use Rattle.pb_text_tree.specs.Form.{FormulaForm, chained, formula_form, link_forms}
use Rattle.pb_text_tree.proofs.FormLemmas.{formula-chain}
use Rattle.pb_sorts.proofs.Places.{drop-at}
use Rattle.pb_model_words.specs.Vocabulary.{Vocabulary}
use Rattle.pb_evidence_words.specs.Asking.{asks_test, is_guard}

-- whether an operand of which this is known asks a test, or one of those linked to it
abbrev pub asks_rest : Vocabulary → Bool → FormulaForm → List (Place × FormulaForm) → Bool
asks_rest m b f [] = b
asks_rest m b f (l ∷ ls) = (b && not (is_guard l.0 f)) || asks_rest m (asks_test m l.1) l.1 ls

asks-chained : (m : Vocabulary) (c : Connective) (f : FormulaForm) (ls : List (Place × FormulaForm))
    → asks_test m (chained (FormulaForm.connected c) f ls) ≡ asks_rest m (asks_test m f) f ls
asks-chained m c f [] = refl
asks-chained m c f (l ∷ ls) = ap (λ b. (asks_test m f && not (is_guard l.0 f)) || b) (asks-chained m c l.1 ls)

-- a chain asks one where its operands do
pub asks-chain : (m : Vocabulary) (f : Formula) (c : Connective) (first : Box Formula Global) (v : Vec Link Global) → f ≡ formula.Chain c first v
    → asks_rest m (asks_test m (formula_form (box_value first))) (formula_form (box_value first)) (link_forms v.items) ≡ asks_test m (formula_form f)
asks-chain m f c first v is =
    sym (ap (λ (g : Formula). asks_test m (formula_form g)) is
    ∙ (ap (asks_test m) (formula-chain c first v) ∙ asks-chained m c (formula_form (box_value first)) (link_forms v.items)))

-- an operand, and those linked to it from a place on
pub asks-on : (m : Vocabulary) (b : Bool) (f : FormulaForm) (ls : List Link) (k : ℕ) (l : Link) → k < length ls → l ≡ get_or ls k l
    → asks_rest m b f (link_forms (drop k ls))
    ≡ (b && not (is_guard l.place f)) || asks_rest m (asks_test m (formula_form l.operand)) (formula_form l.operand) (link_forms (drop (k + 1) ls))
asks-on m b f ls k l lt at = ap (λ (xs : List Link). asks_rest m b f (link_forms xs)) (drop-at ls k l lt at)

pub asks-all : (m : Vocabulary) (b : Bool) (f : FormulaForm) (ls : List Link) (k : ℕ) → length ls ≤ k → asks_rest m b f (link_forms (drop k ls)) ≡ b
asks-all m b f ls k le = ap (λ (xs : List Link). asks_rest m b f (link_forms xs)) (drop_all k ls le)

-- a vector's length, as it is asked for
pub empty_items : (v : Vec Link Global) {b : Bool} → b ≡ (vec_len v == 0) → (length v.items == 0) ≡ b
empty_items v is =
    let lengths : length v.items ≡ vec_len v = omega (arith, v.ok.0) in
    ap (λ (n : ℕ). n == 0) lengths ∙ sym is

-- a chain is a guard where it has one operand, which is one
pub chain-guard : (here : Place) (f : Formula) (c : Connective) (first : Box Formula Global) (v : Vec Link Global) → f ≡ formula.Chain c first v
    → is_guard here (formula_form f) ≡ (length v.items == 0) && is_guard here (formula_form (box_value first))
chain-guard here f c first v is =
    ap (λ (g : Formula). is_guard here (formula_form g)) is ∙ (ap (is_guard here) (formula-chain c first v) ∙ by v.items)
  where
    by : (ls : List Link) → is_guard here (chained (FormulaForm.connected c) (formula_form (box_value first)) (link_forms ls))
        ≡ (length ls == 0) && is_guard here (formula_form (box_value first))
    by [] = refl
    by (l ∷ ls) = sym (ap (λ (b : Bool). b && is_guard here (formula_form (box_value first))) (ne_eqb (length (l ∷ ls)) 0 (λ e. omega (arith, e))))

-- it asks, and is no guard: so does the chain
pub asked : (b guard rest all : Bool) → (b && not guard) || rest ≡ all → b ≡ true → guard ≡ false → true ≡ all
asked true false rest all whole is other = whole
asked true true rest all whole is other = absurd (true≢false other)
asked false guard rest all whole is other = absurd (true≢false (sym is))

-- it doesn't, or is one: so the others decide
pub not-asked : (b guard rest all : Bool) → (b && not guard) || rest ≡ all → (b ≡ true → guard ≡ false → ⊥) → rest ≡ all
not-asked true false rest all whole none = absurd (none refl refl)
not-asked true true rest all whole none = whole
not-asked false guard rest all whole none = whole
