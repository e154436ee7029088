-- The calls that a chain makes, operand by operand.
use Rattle.std.proofs.Common.{◌≡◌, ℕ, ◌+◌, ◌<◌, ◌≤◌, Bool, true, false, if◌then◌else◌}
use Rattle.std.proofs.Common.{List, [], ◌∷◌, ◌++◌, length, get_or, take, drop, refl, sym, ◌∙◌, ap}
use Rattle.std.proofs.Common.{subst, append_assoc, append-nil, arith}
use Rattle.std.proofs.Math.Seq.{take-append_seam, drop-append_seam}
use Rattle.std.proofs.lemmas.List.{drop_all}
use Rattle.pb_text_tree.specs.declared.operator.Connective.{Connective}
use Rattle.pb_text_tree.specs.declared.place.Place.{Place}
use Rattle.pb_base_values.specs.Carrier.{Tuple}
use Rattle.pb_sorts.proofs.Places.{drop-at}
use Rattle.pb_text_meaning.specs.Syntax.{Spec}
use Rattle.pb_typing_tree.specs.Calls.{call_places, calls, places_of}
use Rattle.pb_typing_tree.specs.Meaning.{Slots}
use Rattle.pb_typing_tree.specs.Tree as tree
use Rattle.pb_typing_tree.specs.Tree.{Connected}
use Rattle.pb_typing_tree.specs.View.{chained_formula, formula_view, formula_views}
use Rattle.pb_typing_tree.specs.declared.formula.Formula.{Formula}
use Rattle.pb_typing_tree.proofs.Calls.{calls-counted}
use Rattle.pb_typing_tree.proofs.FormulaWeight.{links_weight, weight}
use Rattle.pb_typing_values.specs.Environment.{IsLaidOut}
use Rattle.pb_typing_values.specs.Slots.{slots_of}
use Rattle.pb_typing_calls.specs.Gathered.{FitAt, FitsAt, calls_of, chain_calls, decides_first}
use Rattle.pb_typing_calls.specs.Gathered.{gathered}
use Rattle.pb_typing_calls.specs.MadeCalls.{MadeCall}
use Rattle.pb_typing_calls.specs.declared.scope.Scope.{Scope}
use Rattle.pb_typing_calls.proofs.Nodes.{IsChainOf}

-- ---- each operand fits

fit-each : (s : Scope) (vs : Tuple) (o : Connective) (first : Formula) (fs : List Formula)
    → FitsAt s vs (chained_formula (Connected o) (formula_view first) (formula_views fs))
    → FitsAt s vs (formula_view first) × FitAt s vs fs
fit-each s vs o first [] h = (h, tt)
fit-each s vs o first (f ∷ fs) h = (h.0, fit-each s vs o f fs h.1)

pub fit-chained : (s : Scope) (vs : Tuple) {f : Formula} {o : Connective} {first : Formula} {links : List Formula}
    → IsChainOf f o first links → FitsAt s vs (formula_view f) → FitsAt s vs (formula_view first) × FitAt s vs links
fit-chained s vs {f} {o} {first} {links} read h = fit-each s vs o first links (subst (FitsAt s vs) read.view h)

-- ---- operands make calls

module _ (spec : Spec) (s : Scope) (a : Slots) (o : Connective) where
  abbrev formula_calls : tree.Formula → List Place → List MadeCall
  formula_calls t ps = gathered spec s.own.now a t ps

  gathered-chained : (first : Formula) (fs : List Formula)
      → formula_calls (chained_formula (Connected o) (formula_view first) (formula_views fs))
      (call_places first ++ places_of fs)
      ≡ chain_calls spec s a o first fs
  gathered-chained first [] =
      ap (formula_calls (formula_view first)) (append-nil (call_places first))
  gathered-chained first (f ∷ fs) =
      let t = formula_view first in
      let u = chained_formula (Connected o) (formula_view f) (formula_views fs) in
      let ps = call_places first in
      let qs = call_places f ++ places_of fs in
      let count : calls t ≡ length ps = sym (calls-counted first) in
      let front : take (calls t) (ps ++ qs) ≡ ps =
      ap (λ k. take k (ps ++ qs)) count ∙ take-append_seam ps qs in
      let back : drop (calls t) (ps ++ qs) ≡ qs =
      ap (λ k. drop k (ps ++ qs)) count ∙ drop-append_seam ps qs in
      let both : List MadeCall → List MadeCall → List MadeCall =
      λ xs ys. xs ++ (if decides_first spec a o t then [] else ys) in
      ap (λ xs. both (formula_calls t xs) (formula_calls u (drop (calls t) (ps ++ qs)))) front
      ∙ (ap (λ xs. both (formula_calls t ps) (formula_calls u xs)) back
      ∙ ap (both (formula_calls t ps)) (gathered-chained f fs))

  -- a chain makes the calls of its operands
  pub gathered-chain : {f first : Formula} {links : List Formula} → IsChainOf f o first links
      → calls_of spec s a f ≡ chain_calls spec s a o first links
  gathered-chain {f} {first} {links} read =
      ap (λ (t : tree.Formula). formula_calls t (call_places f)) read.view
      ∙ (ap (formula_calls (chained_formula (Connected o) (formula_view first) (formula_views links))) read.places
      ∙ gathered-chained first links)

  -- behind an operand that decides no call is made
  stops-there : (f : Formula) (fs : List Formula) → decides_first spec a o (formula_view f) ≡ true
      → chain_calls spec s a o f fs ≡ calls_of spec s a f
  stops-there f [] e = refl
  stops-there f (g ∷ fs) e =
      let rest = chain_calls spec s a o g fs in
      ap (λ b. calls_of spec s a f ++ (if b then [] else rest)) e
      ∙ append-nil (calls_of spec s a f)

-- ---- the operands that are left

-- The operand and those from k on fit and weigh no more than all. What is gathered and what they
-- make is what was gathered before and what all make.
pub record IsChainLeft (s : Scope) (vs : Tuple) (o : Connective) (first : Formula)
    (links : List Formula) (old : List MadeCall) (k : ℕ) (operand : Formula)
    (done : List MadeCall) : Type 0 where
  pub fits : FitsAt s vs (formula_view operand)
  pub rest : FitAt s vs (drop k links)
  pub lighter : weight operand + links_weight (drop k links) ≤ weight first + links_weight links
  pub gathers : (spec : Spec) → IsLaidOut spec s.environment.layout.now
      → done ++ chain_calls spec s (slots_of vs) o operand (drop k links)
      ≡ old ++ chain_calls spec s (slots_of vs) o first links

pub chain-begun : (s : Scope) (vs : Tuple) (o : Connective) (first : Formula)
    (links : List Formula) (old : List MadeCall) → FitsAt s vs (formula_view first)
    → FitAt s vs links → IsChainLeft s vs o first links old 0 first old
chain-begun s vs o first links old fits rest = record {
  fits = fits;
  rest = rest;
  lighter = omega arith;
  gathers = λ spec of. refl;
}

module _ (s : Scope) (vs : Tuple) (o : Connective) (first : Formula)
    (links : List Formula) (old : List MadeCall) (k : ℕ) (operand : Formula)
    (done : List MadeCall) (is : IsChainLeft s vs o first links old k operand done) where
  abbrev a : Slots
  a = slots_of vs

  abbrev all : Spec → List MadeCall
  all spec = old ++ chain_calls spec s a o first links

  -- no operand stands behind
  pub chain-last : (spec : Spec) → IsLaidOut spec s.environment.layout.now → length links ≤ k
      → (more : List MadeCall) → more ≡ done ++ calls_of spec s a operand → more ≡ all spec
  chain-last spec of end more e =
      e ∙ (ap (λ fs. done ++ chain_calls spec s a o operand fs) (sym (drop_all k links end))
      ∙ is.gathers spec of)

  pub chain-stopped : (spec : Spec) → IsLaidOut spec s.environment.layout.now
      → (more : List MadeCall) → more ≡ done ++ calls_of spec s a operand → (b : Bool)
      → b ≡ decides_first spec a o (formula_view operand) → b ≡ true → more ≡ all spec
  chain-stopped spec of more e b is_so stops =
      e ∙ (ap (λ xs. done ++ xs)
      (sym (stops-there spec s a o operand (drop k links) (sym is_so ∙ stops)))
      ∙ is.gathers spec of)

  module _ (next : Formula) (below : k < length links) (at : next ≡ get_or links k next)
      (more : List MadeCall) where
    abbrev behind : List Formula
    behind = drop (k + 1) links

    split : drop k links ≡ next ∷ behind
    split = drop-at links k next below at

    -- what is gathered with the operand, and those behind it unless it decides
    split-calls : (spec : Spec) → IsLaidOut spec s.environment.layout.now
        → more ≡ done ++ calls_of spec s a operand → (b : Bool)
        → b ≡ decides_first spec a o (formula_view operand)
        → more ++ (if b then [] else chain_calls spec s a o next behind) ≡ all spec
    split-calls spec of e b is_so =
        let rest : Bool → List MadeCall =
        λ d. if d then [] else chain_calls spec s a o next behind in
        ap (λ xs. xs ++ rest b) e
        ∙ (append_assoc done (calls_of spec s a operand) (rest b)
        ∙ (ap (λ d. done ++ (calls_of spec s a operand ++ rest d)) is_so
        ∙ (ap (λ fs. done ++ chain_calls spec s a o operand fs) (sym split)
        ∙ is.gathers spec of)))

    pub chain-next : ((spec : Spec) → IsLaidOut spec s.environment.layout.now
        → more ≡ done ++ calls_of spec s a operand) → (b : Bool)
        → ((spec : Spec) → IsLaidOut spec s.environment.layout.now
        → b ≡ decides_first spec a o (formula_view operand))
        → b ≡ false → IsChainLeft s vs o first links old (k + 1) next more
    chain-next e b is_so goes =
        let both = subst (FitAt s vs) split is.rest in
        record {
          fits = both.0;
          rest = both.1;
          lighter = omega (arith, is.lighter, ap links_weight split);
          gathers = λ spec of.
              ap (λ d. more ++ (if d then [] else chain_calls spec s a o next behind)) (sym goes)
              ∙ split-calls spec of (e spec of) b (is_so spec of);
        }
