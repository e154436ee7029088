-- The kind of the outermost bracket, as the nodes of formulas have it.
use Rattle.std.proofs.Common.{◌≡◌, ℕ, ◌<◌, List, [], ◌∷◌, length, refl, sym, ap, ◌∙◌, arith, Vec, Global, Box}
use Rattle.std.specs.Prelude.{box_value}
use Rattle.pb_sorts.specs.declared.carrier.Carrier.{Carrier}
use Rattle.pb_text_tree.specs.declared.operator.Quantifier.{Quantifier}
use Rattle.pb_normal.specs.Normal as normal
use Rattle.pb_normal.specs.Normal.{Join}
use Rattle.pb_fixpoint_trees.specs.declared.junction.Junction.{Junction}
use Rattle.pb_normal.specs.declared.formula.Formula as formula
use Rattle.pb_normal.specs.declared.formula.Formula.{Formula}
use Rattle.pb_normal.specs.View.{chained_formula, formula_view, formula_views, nested}
use Rattle.pb_normal.proofs.Views.{formula-join}
use Rattle.pb_assembler_scheme.specs.Scheme.{head, junction_of}

chain_head : (m : Junction) (f : normal.Formula) (fs : List Formula) → 0 < length fs → head (chained_formula (Join m) f (formula_views fs)) ≡ m
chain_head m f [] l = absurd (omega arith)
chain_head m f (g ∷ gs) l = refl

pub join_head : (x : Formula) (m : Junction) (first : Box Formula Global) (v : Vec Formula Global) → x ≡ formula.Join m first v → 0 < length v.items → m ≡ head (formula_view x)
join_head x m first v is some = sym (ap (λ (y : Formula). head (formula_view y)) is ∙ ap head (formula-join m first v) ∙ chain_head m (formula_view (box_value first)) v.items some)

pub nested_head : (q : Quantifier) (s : ℕ) (cs : List Carrier) (f : normal.Formula) → 0 < length cs → head (nested q s cs f) ≡ junction_of q
nested_head q s [] f l = absurd (omega arith)
nested_head q s (c ∷ cs) f l = refl
