-- Whether a chain makes a call, operand by operand.
use Rattle.std.proofs.Common.{◌≡◌, ℕ, ◌+◌, ◌-◌, ◌<◌, ◌≤◌, Bool, true, false, not, ◌&&◌, ◌||◌}
use Rattle.std.proofs.Common.{List, [], ◌∷◌, ◌++◌, length, get_or, take, drop, refl, sym, ◌∙◌, ap}
use Rattle.std.proofs.Common.{subst, append-nil, arith}
use Rattle.std.proofs.Math.Seq.{take-append_seam, take-length, drop-append_seam}
use Rattle.std.proofs.lemmas.Bool.{and_parts, and_right}
use Rattle.std.proofs.lemmas.List.{drop_all, length-drop}
use Rattle.pb_text_tree.specs.declared.operator.Connective.{Connective}
use Rattle.pb_text_tree.specs.declared.place.Place.{Place}
use Rattle.pb_base_values.specs.Carrier.{Tuple}
use Rattle.pb_sorts.specs.Instance.{instance_of}
use Rattle.pb_sorts.proofs.Places.{drop-at}
use Rattle.pb_text_meaning.specs.Syntax.{Spec}
use Rattle.pb_typing_tree.specs.Calls.{call_places, calls, places_of}
use Rattle.pb_typing_tree.specs.Meaning.{Slots}
use Rattle.pb_typing_tree.specs.Tree as tree
use Rattle.pb_typing_tree.specs.Tree.{Test, Negation, Connected, Quantified, Call}
use Rattle.pb_typing_tree.specs.View.{chained_formula, formula_view, formula_views}
use Rattle.pb_typing_tree.specs.declared.formula.Formula.{Formula}
use Rattle.pb_typing_tree.proofs.Calls.{calls-counted}
use Rattle.pb_typing_tree.proofs.FormulaWeight.{links_weight, weight}
use Rattle.pb_typing_values.specs.Slots.{slots_of}
use Rattle.pb_typing_calls.specs.Made.{is_deciding, is_test, made, rest_decides}
use Rattle.pb_typing_calls.specs.Sought.{FitsValues, FitValues, IsOf, chain_makes, is_made}
use Rattle.pb_typing_calls.specs.declared.side.Side.TheVariants.{Left, Right}
use Rattle.pb_typing_calls.specs.declared.sought.Sought.{Sought}
use Rattle.pb_typing_calls.proofs.Nodes.{IsChainOf}

-- ---- each operand fits

fits-each : (s : Sought) (vs : Tuple) (o : Connective) (first : Formula) (fs : List Formula)
    → FitsValues s vs (chained_formula (Connected o) (formula_view first) (formula_views fs))
    → FitsValues s vs (formula_view first) × FitValues s vs fs
fits-each s vs o first [] h = (h, tt)
fits-each s vs o first (f ∷ fs) h = (h.0, fits-each s vs o f fs h.1)

pub fits-chained : (s : Sought) (vs : Tuple) {f : Formula} {o : Connective} {first : Formula} {links : List Formula}
    → IsChainOf f o first links → FitsValues s vs (formula_view f)
    → FitsValues s vs (formula_view first) × FitValues s vs links
fits-chained s vs {f} {o} {first} {links} read h = fits-each s vs o first links (subst (FitsValues s vs) read.view h)

-- ---- operands make the call

-- a test makes no call
test-unmade : (spec : Spec) (i : _) (place : Place) (a : Slots) (f : tree.Formula) (ps : List Place)
    → is_test f ≡ true → made spec i place a f ps ≡ false
test-unmade spec i place a (Test x) ps e = refl
test-unmade spec i place a (Negation f) ps e = test-unmade spec i place a f ps e
test-unmade spec i place a (Connected c f g) ps e = cc
test-unmade spec i place a (Quantified q s shape f) ps e = cc
test-unmade spec i place a (Call X es) ps e = cc

module _ (spec : Spec) (s : Sought) (a : Slots) (o : Connective) where
  abbrev formula_makes : tree.Formula → List Place → Bool
  formula_makes t ps = made spec (instance_of s.called.now) s.place a t ps

  rest-chained : (t : tree.Formula) (ts : List tree.Formula)
      → is_deciding spec a o Right (chained_formula (Connected o) t ts) ≡ rest_decides spec a o (t ∷ ts)
  rest-chained t [] = refl
  rest-chained t (u ∷ ts) = refl

  made-chained : (first : Formula) (fs : List Formula)
      → formula_makes (chained_formula (Connected o) (formula_view first) (formula_views fs))
      (call_places first ++ places_of fs)
      ≡ chain_makes spec s a o first fs
  made-chained first [] =
      ap (formula_makes (formula_view first)) (append-nil (call_places first))
  made-chained first (f ∷ fs) =
      let t = formula_view first in
      let u = chained_formula (Connected o) (formula_view f) (formula_views fs) in
      let ps = call_places first in
      let qs = call_places f ++ places_of fs in
      let count : calls t ≡ length ps = sym (calls-counted first) in
      let front : take (calls t) (ps ++ qs) ≡ ps =
      ap (λ k. take k (ps ++ qs)) count ∙ take-append_seam ps qs in
      let back : drop (calls t) (ps ++ qs) ≡ qs =
      ap (λ k. drop k (ps ++ qs)) count ∙ drop-append_seam ps qs in
      let both : Bool → Bool → Bool → Bool =
      λ r x y. (not r && x) || (not (is_deciding spec a o Left t) && y) in
      let right = is_deciding spec a o Right u in
      ap (λ xs. both right (formula_makes t xs) (formula_makes u (drop (calls t) (ps ++ qs)))) front
      ∙ (ap (λ xs. both right (formula_makes t ps) (formula_makes u xs)) back
      ∙ (ap (λ b. both b (formula_makes t ps) (formula_makes u qs))
      (rest-chained (formula_view f) (formula_views fs))
      ∙ ap (both (rest_decides spec a o (formula_views (f ∷ fs))) (formula_makes t ps))
      (made-chained f fs)))

  -- a chain makes the call where its operands do
  pub made-chain : {f first : Formula} {links : List Formula} → IsChainOf f o first links
      → is_made spec s a f ≡ chain_makes spec s a o first links
  made-chain {f} {first} {links} read =
      ap (λ (t : tree.Formula). formula_makes t (call_places f)) read.view
      ∙ (ap (formula_makes (chained_formula (Connected o) (formula_view first) (formula_views links))) read.places
      ∙ made-chained first links)

  -- ---- one operand of a chain, and those behind it

  -- those behind it are a test that decides: neither it nor they make the call
  behind-decides : (f : Formula) (fs : List Formula)
      → rest_decides spec a o (formula_views fs) ≡ true → chain_makes spec s a o f fs ≡ false
  behind-decides f [] e = cc
  behind-decides f (g ∷ []) e =
      let test = (and_parts (is_test (formula_view g)) _ e).0 in
      let unmade =
      test-unmade spec (instance_of s.called.now) s.place a (formula_view g) (call_places g) test in
      let left = not (is_deciding spec a o Left (formula_view f)) in
      ap (λ b. (not b && is_made spec s a f) || (left && is_made spec s a g)) e
      ∙ (ap (λ b. left && b) unmade ∙ and_right left false refl)
  behind-decides f (g ∷ h ∷ fs) e = cc

  abbrev step : Bool → Bool → Bool → Bool → Bool
  step r x l y = (not r && x) || (not l && y)

  -- it makes the call
  makes-here : (f : Formula) (fs : List Formula)
      → rest_decides spec a o (formula_views fs) ≡ false → is_made spec s a f ≡ true
      → chain_makes spec s a o f fs ≡ true
  makes-here f [] r e = e
  makes-here f (g ∷ fs) r e =
      let left = is_deciding spec a o Left (formula_view f) in
      let rest = chain_makes spec s a o g fs in
      ap (λ b. step b (is_made spec s a f) left rest) r ∙ ap (λ b. step false b left rest) e

  -- it doesn't, and decides
  decides-here : (f g : Formula) (fs : List Formula)
      → is_made spec s a f ≡ false → is_deciding spec a o Left (formula_view f) ≡ true
      → chain_makes spec s a o f (g ∷ fs) ≡ false
  decides-here f g fs e d =
      let right = rest_decides spec a o (formula_views (g ∷ fs)) in
      let rest = chain_makes spec s a o g fs in
      ap (λ b. step right b (is_deciding spec a o Left (formula_view f)) rest) e
      ∙ (ap (λ b. step right false b rest) d
      ∙ ap (λ b. b || false) (and_right (not right) false refl))

  -- it doesn't, and those behind it are left
  goes-on : (f g : Formula) (fs : List Formula)
      → is_made spec s a f ≡ false → is_deciding spec a o Left (formula_view f) ≡ false
      → chain_makes spec s a o f (g ∷ fs) ≡ chain_makes spec s a o g fs
  goes-on f g fs e d =
      let right = rest_decides spec a o (formula_views (g ∷ fs)) in
      let rest = chain_makes spec s a o g fs in
      ap (λ b. step right b (is_deciding spec a o Left (formula_view f)) rest) e
      ∙ (ap (λ b. step right false b rest) d
      ∙ ap (λ b. b || rest) (and_right (not right) false refl))

-- ---- the operands that are left

-- a list from a place on, as a slice of it reads
pub from-place : (fs : List Formula) (k : ℕ) → take (length fs - k) (drop k fs) ≡ drop k fs
from-place fs k =
    ap (λ n. take n (drop k fs)) (sym (length-drop k fs)) ∙ take-length (drop k fs)

-- the operand and those from k on fit, weigh no more than all, and make the call where all do
pub record IsLeft (s : Sought) (vs : Tuple) (o : Connective) (first : Formula)
    (links : List Formula) (k : ℕ) (operand : Formula) : Type 0 where
  pub fits : FitsValues s vs (formula_view operand)
  pub rest : FitValues s vs (drop k links)
  pub lighter : weight operand + links_weight (drop k links) ≤ weight first + links_weight links
  pub makes : (spec : Spec) → IsOf s spec
      → chain_makes spec s (slots_of vs) o operand (drop k links)
      ≡ chain_makes spec s (slots_of vs) o first links

pub all-left : (s : Sought) (vs : Tuple) (o : Connective) (first : Formula)
    (links : List Formula) → FitsValues s vs (formula_view first) → FitValues s vs links
    → IsLeft s vs o first links 0 first
all-left s vs o first links fits rest = record {
  fits = fits;
  rest = rest;
  lighter = omega arith;
  makes = λ spec of. refl;
}

module _ (s : Sought) (vs : Tuple) (o : Connective) (first : Formula)
    (links : List Formula) (k : ℕ) (operand : Formula)
    (is : IsLeft s vs o first links k operand) where
  abbrev a : Slots
  a = slots_of vs

  -- no operand stands behind
  pub last-left : (spec : Spec) → IsOf s spec → length links ≤ k
      → is_made spec s a operand ≡ chain_makes spec s a o first links
  last-left spec of end =
      ap (chain_makes spec s a o operand) (sym (drop_all k links end)) ∙ is.makes spec of

  pub left-decided : (spec : Spec) → IsOf s spec
      → rest_decides spec a o (formula_views (drop k links)) ≡ true
      → false ≡ chain_makes spec s a o first links
  left-decided spec of e =
      sym (behind-decides spec s a o operand (drop k links) e) ∙ is.makes spec of

  pub left-made : (spec : Spec) → IsOf s spec
      → rest_decides spec a o (formula_views (drop k links)) ≡ false
      → is_made spec s a operand ≡ true → true ≡ chain_makes spec s a o first links
  left-made spec of e here =
      sym (makes-here spec s a o operand (drop k links) e here) ∙ is.makes spec of

  module _ (next : Formula) (below : k < length links) (at : next ≡ get_or links k next) where
    abbrev behind : List Formula
    behind = drop (k + 1) links

    split : drop k links ≡ next ∷ behind
    split = drop-at links k next below at

    pub left-stopped : (spec : Spec) → IsOf s spec → is_made spec s a operand ≡ false
        → is_deciding spec a o Left (formula_view operand) ≡ true
        → false ≡ chain_makes spec s a o first links
    left-stopped spec of here e =
        sym (decides-here spec s a o operand next behind here e)
        ∙ (ap (chain_makes spec s a o operand) (sym split) ∙ is.makes spec of)

    pub next-left : ((spec : Spec) → IsOf s spec → is_made spec s a operand ≡ false)
        → ((spec : Spec) → IsOf s spec → is_deciding spec a o Left (formula_view operand) ≡ false)
        → IsLeft s vs o first links (k + 1) next
    next-left unmade undecided =
        let both = subst (FitValues s vs) split is.rest in
        record {
          fits = both.0;
          rest = both.1;
          lighter = omega (arith, is.lighter, ap links_weight split);
          makes = λ spec of.
              sym (goes-on spec s a o operand next behind (unmade spec of) (undecided spec of))
              ∙ (ap (chain_makes spec s a o operand) (sym split) ∙ is.makes spec of);
        }
