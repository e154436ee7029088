-- Sets of steps and formulas that are joined, and the values of a step's own variables.
use Rattle.std.proofs.Common.{◌≡◌, ℕ, zero, suc, ◌+◌, ◌<◌, Bool, true, false, ◌&&◌, List, [], ◌∷◌, ◌++◌, map, length, get_or, drop, refl, sym, ap, ◌∙◌, arith, Option, Some, None, Vec, Box, Global}
use Rattle.std.specs.Prelude.{box_value}
use Rattle.std.specs.List.{list_all}
use Rattle.pb_sorts.proofs.Places.{drop-at}
use Rattle.pb_text_tree.specs.declared.place.Place.{Place}
use Rattle.pb_text_tree.specs.declared.operator.Connective.{Connective}
use Rattle.pb_text_tree.specs.declared.operator.Connective.TheVariants as connective
use Rattle.pb_text_tree.specs.declared.name.Name as declared_name
use Rattle.pb_text_tree.specs.declared.variable.Variables.{Variables}
use Rattle.pb_text_tree.specs.Form.{Named, VariableForm, named, variable_forms, chained}
use Rattle.pb_text_meaning.specs.Syntax.{Variable, Term}
use Rattle.pb_text_meaning.specs.Erase.{erased_variables}
use Rattle.pb_protocol_tree.specs.declared.formula.Formula as formula
use Rattle.pb_protocol_tree.specs.declared.formula.Formula.{Formula, Row_of-Link, end_of-Link, more_of-Link, items-the_row-Link, items_hidden-the_row-Link-0}
use Rattle.pb_protocol_tree.specs.declared.formula.Link.{Link}
use Rattle.pb_protocol_tree.specs.declared.step_set.StepValue.{StepValue}
use Rattle.pb_protocol_tree.specs.declared.step_set.StepSet as set
use Rattle.pb_protocol_tree.specs.declared.step_set.StepSet.{StepSet, Row_of-StepSetLink, end_of-StepSetLink, more_of-StepSetLink, items-the_row-StepSetLink, items_hidden-the_row-StepSetLink-0}
use Rattle.pb_protocol_tree.specs.declared.step_set.StepSetLink.{StepSetLink}
use Rattle.pb_protocol_tree.specs.Form.{StepSetForm, FormulaForm, step_set_form, step_set_links_in, step_value_form, formula_form, links_in}
use Rattle.pb_protocol_meaning.specs.Syntax as syntax
use Rattle.pb_protocol_meaning.specs.Erase.{erased_value, erased_steps, erased_formula}
use Rattle.pb_protocol_scalar_sets.specs.declared.term.Context.{Context}
use Rattle.pb_protocol_scalar_sets.specs.declared.formula.Readings.{Readings}
use Rattle.pb_protocol_scalar_sets.specs.Formulas.{sort_at, value_fits, values_fit, set_fits, set_link_fits, formula_fits, link_fits}
use mathlib.Core.Former.{Count}

and-true : (b : Bool) → b ≡ (b && true)
and-true true = refl
and-true false = refl

-- ---- sets of steps

abbrev set_row : StepSet → (n : Count) × Row_of-StepSetLink n
set_row (set.Union' p first shape row) = (_, row)
set_row _ = (_, end_of-StepSetLink)

module _ (c : Context) (scope : List Variable) (a : syntax.Step) where
  row-set : (A : StepSetForm) (n : _) (row : Row_of-StepSetLink n)
      → set_fits c scope (erased_steps (chained StepSetForm.union A (step_set_links_in row))) a
      ≡ (set_fits c scope (erased_steps A) a && list_all (set_link_fits c scope a) (items-the_row-StepSetLink n row))
  row-set A n end_of-StepSetLink = and-true (set_fits c scope (erased_steps A) a)
  row-set A n (more_of-StepSetLink place operand row) = ap (λ (b : Bool). set_fits c scope (erased_steps A) a && b) (row-set (step_set_form operand) _ row)

  -- a union fits where its operands do
  pub union-fits : (S A : StepSet) (p : Box StepSet Global) (v : Vec StepSetLink Global) (ls : List StepSetLink) → S ≡ set.Union p v → A ≡ box_value p → ls ≡ v.items
      → set_fits c scope (erased_steps (step_set_form S)) a ≡ (set_fits c scope (erased_steps (step_set_form A)) a && list_all (set_link_fits c scope a) ls)
  union-fits S A p v ls is at same =
      let row = set_row (set.Union p v) in
      let first = step_set_form (box_value p) in
      ap (λ (T : StepSet). set_fits c scope (erased_steps (step_set_form T)) a) is
      ∙ (row-set first row.0 row.1
      ∙ (ap (λ (ks : List StepSetLink). set_fits c scope (erased_steps first) a && list_all (set_link_fits c scope a) ks) (items_hidden-the_row-StepSetLink-0 v ∙ sym same)
      ∙ ap (λ (T : StepSet). set_fits c scope (erased_steps (step_set_form T)) a && list_all (set_link_fits c scope a) ls) (sym at)))

-- ---- formulas

abbrev formula_row : Formula → (n : Count) × Row_of-Link n
formula_row (formula.Chain' c p first shape row) = (_, row)
formula_row _ = (_, end_of-Link)

module _ (r : Readings) (scope : List Variable) where
  connected-fits : (k : Connective) (p : Place) (f g : FormulaForm)
      → formula_fits r scope (erased_formula (FormulaForm.connected k p f g)) ≡ (formula_fits r scope (erased_formula f) && formula_fits r scope (erased_formula g))
  connected-fits connective.And p f g = refl
  connected-fits connective.Or p f g = refl
  connected-fits connective.Implies p f g = refl

  row-formula : (k : Connective) (f : FormulaForm) (n : _) (row : Row_of-Link n)
      → formula_fits r scope (erased_formula (chained (FormulaForm.connected k) f (links_in row)))
      ≡ (formula_fits r scope (erased_formula f) && list_all (link_fits r scope) (items-the_row-Link n row))
  row-formula k f n end_of-Link = and-true (formula_fits r scope (erased_formula f))
  row-formula k f n (more_of-Link place operand row) =
      connected-fits k place f (chained (FormulaForm.connected k) (formula_form operand) (links_in row))
      ∙ ap (λ (b : Bool). formula_fits r scope (erased_formula f) && b) (row-formula k (formula_form operand) _ row)

  -- a chain fits where its operands do
  pub chain-fits : (f x : Formula) (k : Connective) (p : Box Formula Global) (v : Vec Link Global) (ls : List Link) → f ≡ formula.Chain k p v → x ≡ box_value p → ls ≡ v.items
      → formula_fits r scope (erased_formula (formula_form f)) ≡ (formula_fits r scope (erased_formula (formula_form x)) && list_all (link_fits r scope) ls)
  chain-fits f x k p v ls is at same =
      let row = formula_row (formula.Chain k p v) in
      let first = formula_form (box_value p) in
      ap (λ (g : Formula). formula_fits r scope (erased_formula (formula_form g))) is
      ∙ (row-formula k first row.0 row.1
      ∙ (ap (λ (ks : List Link). formula_fits r scope (erased_formula first) && list_all (link_fits r scope) ks) (items_hidden-the_row-Link-0 v ∙ sym same)
      ∙ ap (λ (g : Formula). formula_fits r scope (erased_formula (formula_form g)) && list_all (link_fits r scope) ls) (sym at)))

-- ---- values of a step's own variables

abbrev group_said : Named → List declared_name.Name → List VariableForm
group_said sort ns = map (λ n. record { name = named n; sort = sort }) ns

group-at : (sort : Named) (ns : List declared_name.Name) (ys : List VariableForm) (k : ℕ) → k < length ns → Some sort.text ≡ sort_at (erased_variables (group_said sort ns ++ ys)) k
group-at sort [] ys k below = absurd (omega (arith, below))
group-at sort (n ∷ ns) ys zero below = refl
group-at sort (n ∷ ns) ys (suc k) below = group-at sort ns ys k (omega (arith, below))

group-past : (sort : Named) (ns : List declared_name.Name) (ys : List VariableForm) (k m : ℕ)
    → k ≡ length ns + m → sort_at (erased_variables (group_said sort ns ++ ys)) k ≡ sort_at (erased_variables ys) m
group-past sort [] ys k m e = ap (sort_at (erased_variables ys)) (omega (arith, e))
group-past sort (n ∷ ns) ys zero m e = absurd (omega (arith, e))
group-past sort (n ∷ ns) ys (suc k) m e = group-past sort ns ys k m (omega (arith, e))

-- in the groups from the one at i on
module _ (gs : List Variables) (i : ℕ) (g : Variables) (below : i < length gs) (at : g ≡ get_or gs i g) where
  pub sort-here : (k : ℕ) → k < length g.names.items → Some (named g.sort).text ≡ sort_at (erased_variables (variable_forms (drop i gs))) k
  sort-here k inside =
      group-at (named g.sort) g.names.items (variable_forms (drop (i + 1) gs)) k inside
      ∙ sym (ap (λ (hs : List Variables). sort_at (erased_variables (variable_forms hs)) k) (drop-at gs i g below at))

  pub sort-past : (k m : ℕ) → k ≡ length g.names.items + m → sort_at (erased_variables (variable_forms (drop i gs))) k ≡ sort_at (erased_variables (variable_forms (drop (i + 1) gs))) m
  sort-past k m e =
      ap (λ (hs : List Variables). sort_at (erased_variables (variable_forms hs)) k) (drop-at gs i g below at)
      ∙ group-past (named g.sort) g.names.items (variable_forms (drop (i + 1) gs)) k m e

module _ (c : Context) (scope : List Variable) where
  pub no-values : (zs : List Variable) → values_fit c scope zs [] ≡ true
  no-values [] = refl
  no-values (z ∷ zs) = refl

  no-variables : (xs : List (Option Term)) → values_fit c scope [] xs ≡ true
  no-variables [] = refl
  no-variables (x ∷ xs) = refl

  -- the value at a place, and those after it
  first-value : (zs : List Variable) (k : ℕ) (x : Option Term) (xs : List (Option Term))
      → values_fit c scope (drop k zs) (x ∷ xs) ≡ (value_fits c scope (sort_at zs k) x && values_fit c scope (drop (suc k) zs) xs)
  first-value [] zero x xs = sym (no-variables xs)
  first-value [] (suc k) x xs = sym (no-variables xs)
  first-value (z ∷ zs) zero (Some x) xs = refl
  first-value (z ∷ zs) zero None xs = refl
  first-value (z ∷ zs) (suc k) x xs = first-value zs k x xs

  abbrev said_values : List StepValue → List (Option Term)
  said_values vs = map erased_value (map step_value_form vs)

  pub value-next : (zs : List Variable) (vs : List StepValue) (k : ℕ) (v : StepValue) → k < length vs → v ≡ get_or vs k v
      → values_fit c scope (drop k zs) (said_values (drop k vs))
      ≡ (value_fits c scope (sort_at zs k) (erased_value (step_value_form v)) && values_fit c scope (drop (k + 1) zs) (said_values (drop (k + 1) vs)))
  value-next zs vs k v below at =
      let next : suc k ≡ k + 1 = omega arith in
      ap (λ (us : List StepValue). values_fit c scope (drop k zs) (said_values us)) (drop-at vs k v below at)
      ∙ (first-value zs k (erased_value (step_value_form v)) (said_values (drop (k + 1) vs))
      ∙ ap (λ (n : ℕ). value_fits c scope (sort_at zs k) (erased_value (step_value_form v)) && values_fit c scope (drop n zs) (said_values (drop (k + 1) vs))) next)
