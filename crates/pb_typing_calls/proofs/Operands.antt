-- The calls of a chain, operand by operand.
use Rattle.std.proofs.Common.{◌≡◌, ℕ, ◌+◌, ◌==◌, ◌<◌, ◌≤◌, Bool, ◌&&◌, ◌||◌}
use Rattle.std.proofs.Common.{List, [], ◌∷◌, ◌++◌, length, get_or, drop, refl, sym, ◌∙◌, ap}
use Rattle.std.proofs.Common.{append_assoc, append-nil, Vec, Global, Box, arith}
use Rattle.std.specs.Prelude.{box_value}
use Rattle.std.proofs.lemmas.Bool.{ne_eqb}
use Rattle.std.proofs.lemmas.List.{drop_all}
use Rattle.std.proofs.lemmas.List.Folds.{list_any-append}
use Rattle.pb_text_tree.specs.declared.place.Place.{Place}
use Rattle.pb_text_tree.specs.declared.operator.Connective.{Connective}
use Rattle.pb_text_tree.specs.declared.operator.Quantifier.{Quantifier}
use Rattle.pb_sorts.specs.declared.carrier.Carrier.{Carrier}
use Rattle.pb_sorts.proofs.Places.{drop-at}
use Rattle.pb_typing_tree.specs.Calls.{call_places, places_of}
use Rattle.pb_typing_tree.specs.Tree as tree
use Rattle.pb_typing_tree.specs.Tree.{Connected}
use Rattle.pb_typing_tree.specs.View.{chained_formula, formula_view, formula_views, nested}
use Rattle.pb_typing_tree.specs.declared.formula.Formula as formula
use Rattle.pb_typing_tree.specs.declared.formula.Formula.{Formula}
use Rattle.pb_typing_tree.proofs.Calls.{chain-places}
use Rattle.pb_typing_tree.proofs.Views.{formula-chain}
use Rattle.pb_typing_calls.specs.Made.{is_test}
use Rattle.pb_typing_calls.proofs.Unmade.{any_at}

-- ---- places

pub chain-calls : (f : Formula) (c : Connective) (first : Box Formula Global)
    (v : Vec Formula Global) → f ≡ formula.Chain c first v
    → call_places f ≡ call_places (box_value first) ++ places_of v.items
chain-calls f c first v is = ap call_places is ∙ chain-places c first v

-- one more operand's places
pub places-more : (fs : List Formula) (k : ℕ) (f : Formula) (done more all : List Place)
    → k < length fs → f ≡ get_or fs k f → more ≡ done ++ call_places f
    → done ++ places_of (drop k fs) ≡ all → more ++ places_of (drop (k + 1) fs) ≡ all
places-more fs k f done more all lt at pushed h =
    ap (λ (ps : List Place). ps ++ places_of (drop (k + 1) fs)) pushed
    ∙ (append_assoc done (call_places f) (places_of (drop (k + 1) fs))
    ∙ (ap (λ (gs : List Formula). done ++ places_of gs) (sym (drop-at fs k f lt at)) ∙ h))

-- no operand is left
pub places-all : (fs : List Formula) (k : ℕ) (done all : List Place) → length fs ≤ k
    → done ++ places_of (drop k fs) ≡ all → done ≡ all
places-all fs k done all le h =
    sym (append-nil done)
    ∙ (ap (λ (gs : List Formula). done ++ places_of gs) (sym (drop_all k fs le)) ∙ h)

-- ---- tests

-- a chain is a test where it has one operand, which is one
pub chain-test : (f : Formula) (c : Connective) (first : Box Formula Global)
    (v : Vec Formula Global) → f ≡ formula.Chain c first v
    → is_test (formula_view f)
    ≡ (length v.items == 0) && is_test (formula_view (box_value first))
chain-test f c first v is =
    ap (λ (g : Formula). is_test (formula_view g)) is
    ∙ (ap is_test (formula-chain c first v) ∙ by v.items)
  where
    by : (fs : List Formula)
        → is_test (chained_formula (Connected c) (formula_view (box_value first)) (formula_views fs))
        ≡ (length fs == 0) && is_test (formula_view (box_value first))
    by [] = refl
    by (g ∷ gs) =
        sym (ap (λ (b : Bool). b && is_test (formula_view (box_value first)))
        (ne_eqb (length (g ∷ gs)) 0 (λ e. omega (arith, e))))

-- and a quantifier is none, unless it has no variables
pub quantifier-test : (q : Quantifier) (slot : ℕ) (cs : List Carrier) (f : tree.Formula)
    → is_test (nested q slot cs f) ≡ (length cs == 0) && is_test f
quantifier-test q slot [] f = refl
quantifier-test q slot (c ∷ cs) f =
    sym (ap (λ (b : Bool). b && is_test f)
    (ne_eqb (length (c ∷ cs)) 0 (λ e. omega (arith, e))))

-- ---- calls at a place

-- one of its first operand's calls or of the others' is there
pub any-chain : (place : Place) (f : Formula) (c : Connective) (first : Box Formula Global)
    (v : Vec Formula Global) → f ≡ formula.Chain c first v
    → any_at place (call_places f)
    ≡ any_at place (call_places (box_value first)) || any_at place (places_of v.items)
any-chain place f c first v is =
    ap (any_at place) (chain-calls f c first v is)
    ∙ list_any-append _ (call_places (box_value first)) (places_of v.items)

pub any-link : (place : Place) (fs : List Formula) (k : ℕ) (f : Formula) → k < length fs
    → f ≡ get_or fs k f
    → any_at place (places_of (drop k fs))
    ≡ any_at place (call_places f) || any_at place (places_of (drop (k + 1) fs))
any-link place fs k f lt at =
    ap (λ (gs : List Formula). any_at place (places_of gs)) (drop-at fs k f lt at)
    ∙ list_any-append _ (call_places f) (places_of (drop (k + 1) fs))

-- ---- operands without calls

pub none-append : (ps qs : List Place)
    → (length (ps ++ qs) == 0) ≡ (length ps == 0) && (length qs == 0)
none-append [] qs = refl
none-append (p ∷ ps) qs =
    let some = λ (rs : List Place). ne_eqb (length (p ∷ rs)) 0 (λ e. omega (arith, e)) in
    some (ps ++ qs) ∙ sym (ap (λ (b : Bool). b && (length qs == 0)) (some ps))

-- a chain has no call where its first operand and the others have none
pub none-chain : (f : Formula) (c : Connective) (first : Box Formula Global)
    (v : Vec Formula Global) → f ≡ formula.Chain c first v
    → (length (call_places f) == 0)
    ≡ (length (call_places (box_value first)) == 0) && (length (places_of v.items) == 0)
none-chain f c first v is =
    ap (λ (ps : List Place). length ps == 0) (chain-calls f c first v is)
    ∙ none-append (call_places (box_value first)) (places_of v.items)

pub none-link : (fs : List Formula) (k : ℕ) (f : Formula) → k < length fs → f ≡ get_or fs k f
    → (length (places_of (drop k fs)) == 0)
    ≡ (length (call_places f) == 0) && (length (places_of (drop (k + 1) fs)) == 0)
none-link fs k f lt at =
    ap (λ (gs : List Formula). length (places_of gs) == 0) (drop-at fs k f lt at)
    ∙ none-append (call_places f) (places_of (drop (k + 1) fs))
