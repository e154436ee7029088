-- The truth of a chain, operand by operand, and why its operands fit.
use Rattle.std.proofs.Common.{◌≡◌, ℕ, zero, suc, ◌+◌, ◌<◌, Bool, List, [], ◌∷◌, length, get_or, refl, sym, ◌∙◌, ap, arith, subst, Vec, Global, Box}
use Rattle.std.specs.Prelude.{⊤, box_value}
use Rattle.pb_fixpoint.specs.Solution.{Environment}
use Rattle.pb_text_tree.specs.declared.operator.Connective.{Connective}
use Rattle.pb_text_meaning.specs.Syntax.{Spec}
use Rattle.pb_text_meaning.specs.Formula.{Instance}
use Rattle.pb_typing_tree.specs.declared.formula.Formula as formula
use Rattle.pb_typing_tree.specs.declared.formula.Formula.{Formula}
use Rattle.pb_typing_tree.specs.Tree as tree
use Rattle.pb_typing_tree.specs.Tree.{Connected}
use Rattle.pb_typing_tree.specs.View.{chained_formula, formula_view, formula_views}
use Rattle.pb_typing_tree.specs.Meaning.{Slots, connected_truth, truth}
use Rattle.pb_typing_tree.specs.Fits.{FormulaFits}
use Rattle.pb_typing_tree.proofs.FormulaWeight.{weight, links_weight, weight-chain, operand_lighter, chain_is}

-- the truth of a chain whose first operand has this truth
abbrev pub chain_truth : Spec → Slots → Environment Instance → Connective → Bool → List Formula → Bool
chain_truth S a t c x [] = x
chain_truth S a t c x (f ∷ fs) = connected_truth c x (chain_truth S a t c (truth S a t (formula_view f)) fs)

abbrev pub OperandsFit : ℕ → ℕ → Slots → List Formula → Type 0
OperandsFit k n a [] = ⊤
OperandsFit k n a (f ∷ fs) = FormulaFits k n a (formula_view f) × OperandsFit k n a fs

truth-chained : (S : Spec) (a : Slots) (t : Environment Instance) (c : Connective) (first : tree.Formula)
    (fs : List Formula) → truth S a t (chained_formula (Connected c) first (formula_views fs)) ≡ chain_truth S a t c (truth S a t first) fs
truth-chained S a t c first [] = refl
truth-chained S a t c first (f ∷ fs) = ap (connected_truth c (truth S a t first)) (truth-chained S a t c (formula_view f) fs)

fits-chained : (k n : ℕ) (a : Slots) (c : Connective) (first : tree.Formula) (fs : List Formula)
    → FormulaFits k n a (chained_formula (Connected c) first (formula_views fs)) → FormulaFits k n a first × OperandsFit k n a fs
fits-chained k n a c first [] h = (h, tt)
fits-chained k n a c first (f ∷ fs) h = (h.0, fits-chained k n a c (formula_view f) fs h.1)

operand_fits : (k n : ℕ) (a : Slots) (fs : List Formula) (i : ℕ) (f : Formula) → OperandsFit k n a fs → i < length fs → f ≡ get_or fs i f → FormulaFits k n a (formula_view f)
operand_fits k n a [] i f h lt at = absurd (omega arith)
operand_fits k n a (g ∷ fs) zero f h lt at = subst (λ (e : Formula). FormulaFits k n a (formula_view e)) (sym at) h.0
operand_fits k n a (g ∷ fs) (suc i) f h lt at = operand_fits k n a fs i f h.1 (omega arith) at

-- ---- a chain, as it is read

-- a formula connects a first operand and those linked to it
pub record IsChain (f : Formula) (o : Connective) (first : Formula) (links : List Formula) : Type 0 where
  pub view : chained_formula (Connected o) (formula_view first) (formula_views links) ≡ formula_view f
  pub weighs : weight f ≡ 8 + (weight first + links_weight links)

pub chain-read : {f first : Formula} (o : Connective) (b : Box Formula Global) (v : Vec Formula Global) → f ≡ formula.Chain o b v → first ≡ box_value b → IsChain f o first v.items
chain-read {f} {first} o b v is at = record {
  view = chain_is f first o b v v.items is at refl;
  weighs = omega (arith, ap weight is ∙ weight-chain o b v, ap weight at);
}

module _ {f : Formula} {o : Connective} {first : Formula} {links : List Formula} (chain : IsChain f o first links) where
  pub chain-begun : (S : Spec) (a : Slots) (t : Environment Instance) {x : Bool} {fs : List Formula} → x ≡ truth S a t (formula_view first) → fs ≡ links
      → chain_truth S a t o x fs ≡ truth S a t (formula_view f)
  chain-begun S a t {x} {fs} is same =
      ap (λ (gs : List Formula). chain_truth S a t o x gs) same
      ∙ (ap (λ (b : Bool). chain_truth S a t o b links) is
      ∙ (sym (truth-chained S a t o (formula_view first) links) ∙ ap (truth S a t) chain.view))

  operands-fit : (k n : ℕ) (a : Slots) → FormulaFits k n a (formula_view f) → FormulaFits k n a (formula_view first) × OperandsFit k n a links
  operands-fit k n a fits = fits-chained k n a o (formula_view first) links (subst (FormulaFits k n a) (sym chain.view) fits)

  pub first-fits : (k n : ℕ) (a : Slots) → FormulaFits k n a (formula_view f) → FormulaFits k n a (formula_view first)
  first-fits k n a fits = (operands-fit k n a fits).0

  -- an operand that is linked fits, and it weighs less
  pub link-fits : (k n : ℕ) (a : Slots) → FormulaFits k n a (formula_view f) → {fs : List Formula} → fs ≡ links → (i : ℕ) (g : Formula) → i < length fs → g ≡ get_or fs i g
      → FormulaFits k n a (formula_view g)
  link-fits k n a fits same i g lt at =
      operand_fits k n a links i g (operands-fit k n a fits).1
      (subst (λ (gs : List Formula). i < length gs) same lt) (at ∙ ap (λ (gs : List Formula). get_or gs i g) same)

  pub link-lighter : {fs : List Formula} → fs ≡ links → (i : ℕ) (g : Formula) → i < length fs → g ≡ get_or fs i g → weight g < weight f
  link-lighter {fs} same i g lt at = omega (arith, chain.weighs, ap links_weight same, operand_lighter fs i g lt at)
