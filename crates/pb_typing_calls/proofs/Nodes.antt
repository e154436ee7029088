-- A chain and a quantifier of the code, by the parts that are read of them.
use Rattle.std.proofs.Common.{◌≡◌, ℕ, suc, ◌+◌, List, [], ◌∷◌, ◌++◌, sym, ◌∙◌, ap, subst, Vec, Global, Box, arith}
use Rattle.std.specs.Prelude.{box_value}
use Rattle.pb_sorts.specs.declared.carrier.Carrier.{Carrier}
use Rattle.pb_text_tree.specs.declared.operator.Connective.{Connective}
use Rattle.pb_text_tree.specs.declared.operator.Quantifier.{Quantifier}
use Rattle.pb_text_tree.specs.declared.operator.Quantifier.TheVariants.{Exists}
use Rattle.pb_typing_tree.specs.Calls.{call_places, places_of}
use Rattle.pb_typing_tree.specs.Fits.{FormulaFits}
use Rattle.pb_typing_tree.specs.Meaning.{Slots, set}
use Rattle.pb_typing_tree.specs.Tree as tree
use Rattle.pb_typing_tree.specs.Tree.{Connected}
use Rattle.pb_typing_tree.specs.View.{chained_formula, formula_view, formula_views, nested}
use Rattle.pb_typing_tree.specs.declared.formula.Formula as formula
use Rattle.pb_typing_tree.specs.declared.formula.Formula.{Formula}
use Rattle.pb_typing_tree.proofs.Calls.{chain-places}
use Rattle.pb_typing_tree.proofs.FormulaWeight.{links_weight, weight, weight-chain}
use Rattle.pb_typing_tree.proofs.Views.{formula-chain}

-- ---- chains

-- a chain of a first operand and those linked to it
pub record IsChainOf (f : Formula) (o : Connective) (first : Formula) (links : List Formula) : Type 0 where
  pub view : formula_view f ≡ chained_formula (Connected o) (formula_view first) (formula_views links)
  pub places : call_places f ≡ call_places first ++ places_of links
  pub weighs : weight f ≡ 8 + (weight first + links_weight links)

pub chain-read : {f first : Formula} {links : List Formula} (o : Connective) (b : Box Formula Global) (v : Vec Formula Global)
    → f ≡ formula.Chain o b v → first ≡ box_value b → links ≡ v.items → IsChainOf f o first links
chain-read {f} {first} {links} o b v is at behind = record {
  view =
      ap formula_view is ∙ (formula-chain o b v
      ∙ (ap (λ (g : Formula). chained_formula (Connected o) (formula_view g) (formula_views v.items)) (sym at)
      ∙ ap (λ (gs : List Formula). chained_formula (Connected o) (formula_view first) (formula_views gs)) (sym behind)));
  places =
      ap call_places is ∙ (chain-places o b v
      ∙ (ap (λ (g : Formula). call_places g ++ places_of v.items) (sym at)
      ∙ ap (λ (gs : List Formula). call_places first ++ places_of gs) (sym behind)));
  weighs = omega (arith, ap weight is ∙ weight-chain o b v, ap weight at, ap links_weight behind);
}

-- ---- quantifiers

-- a quantifier over the slots from one on, which have these carriers
pub record IsQuantifierOf (f : Formula) (q : Quantifier) (slot : ℕ) (cs : List Carrier) (body : Formula) : Type 0 where
  pub view : formula_view f ≡ nested q slot cs (formula_view body)
  pub places : call_places f ≡ call_places body
  pub weighs : weight f ≡ 8 + weight body

pub quantifier-read : {f body : Formula} {cs : List Carrier} (q : Quantifier) (slot : ℕ) (v : Vec Carrier Global) (b : Box Formula Global)
    → f ≡ formula.Quantified q slot v b → cs ≡ v.items → body ≡ box_value b → IsQuantifierOf f q slot cs body
quantifier-read {f} {body} {cs} q slot v b is over inside = record {
  view =
      ap formula_view is
      ∙ (ap (λ (ds : List Carrier). nested q slot ds (formula_view (box_value b))) (sym over)
      ∙ ap (λ (g : Formula). nested q slot cs (formula_view g)) (sym inside));
  places = ap call_places is ∙ ap call_places (sym inside);
  weighs = omega (arith, ap weight is, ap weight inside);
}

-- which quantifier it is makes no difference to what fits
any-quantifier-fits : (k n : ℕ) (q r : Quantifier) (s : ℕ) (cs : List Carrier) (f : tree.Formula) (a : Slots)
    → FormulaFits k n a (nested q s cs f) → FormulaFits k n a (nested r s cs f)
any-quantifier-fits k n q r s [] f a h = h
any-quantifier-fits k n q r s (c ∷ cs) f a h =
    (h.0, h.1, λ v within. any-quantifier-fits k n q r (suc s) cs f (set a s v) (h.2 v within))

pub exists-fits : (k n : ℕ) (a : Slots) {f : Formula} {q : Quantifier} {slot : ℕ} {cs : List Carrier} {body : Formula}
    → IsQuantifierOf f q slot cs body → FormulaFits k n a (formula_view f)
    → FormulaFits k n a (nested Exists slot cs (formula_view body))
exists-fits k n a {f} {q} {slot} {cs} {body} read fits =
    any-quantifier-fits k n q Exists slot cs (formula_view body) a (subst (FormulaFits k n a) read.view fits)
