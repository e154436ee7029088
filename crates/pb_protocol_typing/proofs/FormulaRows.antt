-- The first faults of sets of steps and of formulas that are joined, as the code meets them.
use Rattle.std.proofs.Common.{◌≡◌, ℕ, ◌+◌, ◌-◌, ◌<◌, Bool, false, List, [], ◌∷◌, length, get_or, drop, refl, sym, ◌∙◌, ap, arith, Some, None, Vec, Box, Global}
use Rattle.std.specs.Prelude.{box_value}
use Rattle.std.specs.List.{slice_get}
use Rattle.std.proofs.lemmas.List.{length-drop}
use Rattle.pb_sorts.proofs.Places.{drop-at}
use Rattle.pb_text_tree.specs.declared.operator.Connective.{Connective}
use Rattle.pb_text_tree.specs.Form.{chained}
use Rattle.pb_typing_rules.specs.Faults.{operand_parity, left_parity}
use Rattle.pb_protocol_tree.specs.declared.formula.Formula as formula
use Rattle.pb_protocol_tree.specs.declared.formula.Formula.{Formula, Row_of-Link, end_of-Link, more_of-Link, items-the_row-Link, items_hidden-the_row-Link-0}
use Rattle.pb_protocol_tree.specs.declared.formula.Link.{Link}
use Rattle.pb_protocol_tree.specs.declared.step_set.StepSet as set
use Rattle.pb_protocol_tree.specs.declared.step_set.StepSet.{StepSet, Row_of-StepSetLink, end_of-StepSetLink, more_of-StepSetLink, items-the_row-StepSetLink, items_hidden-the_row-StepSetLink-0}
use Rattle.pb_protocol_tree.specs.declared.step_set.StepSetLink.{StepSetLink}
use Rattle.pb_protocol_tree.specs.Form.{StepSetForm, FormulaForm, step_set_form, step_set_links_in, formula_form, links_in}
use Rattle.pb_protocol_typing.specs.Fault.{either_fault}
use Rattle.pb_protocol_typing.specs.Scopes.{Scope}
use Rattle.pb_protocol_typing.specs.Sets.{StepShapes, set_fault}
use Rattle.pb_protocol_typing.specs.Formulas.{is_constant, formula_fault}
use Rattle.pb_protocol_typing.specs.FormulaLinks.{sets_fault, operands_fault}
use Rattle.pb_protocol_typing.proofs.Rows.{or_else-none}
use mathlib.Core.Former.{Count}

abbrev set_row : StepSet → (n : Count) × Row_of-StepSetLink n
set_row (set.Union' p first shape row) = (_, row)
set_row _ = (_, end_of-StepSetLink)

abbrev formula_row : Formula → (n : Count) × Row_of-Link n
formula_row (formula.Chain' c p first shape row) = (_, row)
formula_row _ = (_, end_of-Link)

module _ (steps : StepShapes) (s : Scope) where
  -- ---- sets of steps

  row-set : (A : StepSetForm) (n : _) (row : Row_of-StepSetLink n)
      → set_fault steps s (chained StepSetForm.union A (step_set_links_in row))
      ≡ either_fault (set_fault steps s A) (sets_fault steps s (items-the_row-StepSetLink n row))
  row-set A n end_of-StepSetLink = sym (or_else-none (set_fault steps s A))
  row-set A n (more_of-StepSetLink place operand row) = ap (either_fault (set_fault steps s A)) (row-set (step_set_form operand) _ row)

  pub union-fault : (S A : StepSet) (p : Box StepSet Global) (v : Vec StepSetLink Global) (ls : List StepSetLink) → S ≡ set.Union p v → A ≡ box_value p → ls ≡ v.items
      → set_fault steps s (step_set_form S) ≡ either_fault (set_fault steps s (step_set_form A)) (sets_fault steps s ls)
  union-fault S A p v ls is at same =
      let row = set_row (set.Union p v) in
      let first = step_set_form (box_value p) in
      ap (λ (T : StepSet). set_fault steps s (step_set_form T)) is
      ∙ (row-set first row.0 row.1
      ∙ (ap (λ (ks : List StepSetLink). either_fault (set_fault steps s first) (sets_fault steps s ks)) (items_hidden-the_row-StepSetLink-0 v ∙ sym same)
      ∙ ap (λ (T : StepSet). either_fault (set_fault steps s (step_set_form T)) (sets_fault steps s ls)) (sym at)))

  -- ---- formulas

  row-formula : (c : Connective) (even : Bool) (f : FormulaForm) (n : _) (row : Row_of-Link n)
      → formula_fault steps s even (chained (FormulaForm.connected c) f (links_in row))
      ≡ either_fault (formula_fault steps s (operand_parity c even (length (items-the_row-Link n row))) f) (operands_fault steps s c even (items-the_row-Link n row))
  row-formula c even f n end_of-Link = sym (or_else-none (formula_fault steps s even f))
  row-formula c even f n (more_of-Link place operand row) = ap (either_fault (formula_fault steps s (left_parity c even) f)) (row-formula c even (formula_form operand) _ row)

  pub chain-fault : (even : Bool) (f x : Formula) (c : Connective) (p : Box Formula Global) (v : Vec Link Global) (ls : List Link) (n : ℕ) (b : Bool)
      → f ≡ formula.Chain c p v → x ≡ box_value p → ls ≡ v.items → n ≡ length ls → b ≡ operand_parity c even n
      → formula_fault steps s even (formula_form f) ≡ either_fault (formula_fault steps s b (formula_form x)) (operands_fault steps s c even ls)
  chain-fault even f x c p v ls n b is at same are parity =
      let row = formula_row (formula.Chain c p v) in
      let first = formula_form (box_value p) in
      ap (λ (g : Formula). formula_fault steps s even (formula_form g)) is
      ∙ (row-formula c even first row.0 row.1
      ∙ (ap (λ (ks : List Link). either_fault (formula_fault steps s (operand_parity c even (length ks)) first) (operands_fault steps s c even ks)) (items_hidden-the_row-Link-0 v ∙ sym same)
      ∙ (ap (λ (q : Bool). either_fault (formula_fault steps s q first) (operands_fault steps s c even ls)) (ap (operand_parity c even) (sym are) ∙ sym parity)
      ∙ ap (λ (g : Formula). either_fault (formula_fault steps s b (formula_form g)) (operands_fault steps s c even ls)) (sym at))))

  pub operand-next : (c : Connective) (even : Bool) (links : List Link) (k n : ℕ) (link : Link) (b : Bool)
      → k < length links → link ≡ get_or links k link → n ≡ length links - k - 1 → b ≡ operand_parity c even n
      → operands_fault steps s c even (drop k links) ≡ either_fault (formula_fault steps s b (formula_form link.operand)) (operands_fault steps s c even (drop (k + 1) links))
  operand-next c even links k n link b below at are parity =
      let rest = operands_fault steps s c even (drop (k + 1) links) in
      let behind : length (drop (k + 1) links) ≡ n = length-drop (k + 1) links ∙ (omega arith) in
      ap (operands_fault steps s c even) (drop-at links k link below at)
      ∙ ap (λ (q : Bool). either_fault (formula_fault steps s q (formula_form link.operand)) rest) (ap (operand_parity c even) behind ∙ sym parity)

-- ---- constants

abbrev constant_chain : Bool → List Link → Bool
constant_chain b [] = b
constant_chain b (link ∷ links) = false

row-constant : (c : Connective) (f : FormulaForm) (n : _) (row : Row_of-Link n)
    → is_constant (chained (FormulaForm.connected c) f (links_in row)) ≡ constant_chain (is_constant f) (items-the_row-Link n row)
row-constant c f n end_of-Link = refl
row-constant c f n (more_of-Link place operand row) = refl

constant-said : (f x : Formula) (c : Connective) (p : Box Formula Global) (v : Vec Link Global) (ls : List Link) → f ≡ formula.Chain c p v → x ≡ box_value p → ls ≡ v.items
    → is_constant (formula_form f) ≡ constant_chain (is_constant (formula_form x)) ls
constant-said f x c p v ls is at same =
    let row = formula_row (formula.Chain c p v) in
    ap (λ (g : Formula). is_constant (formula_form g)) is
    ∙ (row-constant c (formula_form (box_value p)) row.0 row.1
    ∙ (ap (constant_chain (is_constant (formula_form (box_value p)))) (items_hidden-the_row-Link-0 v ∙ sym same)
    ∙ ap (λ (g : Formula). constant_chain (is_constant (formula_form g)) ls) (sym at)))

pub constant-alone : (f x : Formula) (c : Connective) (p : Box Formula Global) (v : Vec Link Global) (ls : List Link) → f ≡ formula.Chain c p v → x ≡ box_value p → ls ≡ v.items → None ≡ slice_get ls 0
    → is_constant (formula_form f) ≡ is_constant (formula_form x)
constant-alone f x c p v [] is at same none = constant-said f x c p v [] is at same
constant-alone f x c p v (l ∷ ls) is at same none = cc

pub constant-several : (f : Formula) (c : Connective) (p : Box Formula Global) (v : Vec Link Global) (ls : List Link) (l : Link) → f ≡ formula.Chain c p v → ls ≡ v.items → Some l ≡ slice_get ls 0
    → is_constant (formula_form f) ≡ false
constant-several f c p v [] l is same some = cc
constant-several f c p v (k ∷ ls) l is same some = constant-said f (box_value p) c p v (k ∷ ls) is refl same
