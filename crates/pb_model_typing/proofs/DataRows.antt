-- Names of fixpoints in the operands of chains and in arguments.
use Rattle.std.proofs.Common.{◌≡◌, ℕ, ◌+◌, ◌<◌, ◌≤◌, Bool, true, false, ◌||◌, List, [], ◌∷◌, length, get_or, drop, map, sym, ◌∙◌, ap, Vec, Box, Global}
use Rattle.std.specs.Prelude.{box_value}
use Rattle.std.specs.List.{list_any}
use Rattle.std.proofs.Math.Bool.{or_assoc, or-false}
use Rattle.std.proofs.Math.ListN.{drop_of_length-le}
use Rattle.pb_sorts.proofs.Places.{drop-at}
use Rattle.pb_text_tree.specs.declared.operator.Connective.{Connective}
use Rattle.pb_text_tree.specs.declared.name.Name as declared_name
use Rattle.pb_text_tree.specs.declared.place.Place.{Place}
use Rattle.pb_text_tree.specs.declared.term.Term as term
use Rattle.pb_text_tree.specs.declared.term.Term.{Term}
use Rattle.pb_text_tree.specs.declared.term.TermLink.{TermLink}
use Rattle.pb_text_tree.specs.declared.term.ArithmeticLink.{ArithmeticLink}
use Rattle.pb_text_tree.specs.declared.term.Argument.{Argument}
use Rattle.pb_text_tree.specs.Form.{TermForm, named, term_form, term_links, arithmetic_links, argument_forms, chained, calculated}
use Rattle.pb_text_tree.proofs.FormLemmas.{term-chain, term-arithmetic, term-application}
use Rattle.pb_text_meaning.specs.Syntax.{Name}
use Rattle.pb_model_tree.specs.declared.formula.Formula as formula
use Rattle.pb_model_tree.specs.declared.formula.Formula.{Formula, Row_of-Link, end_of-Link, more_of-Link, items-the_row-Link, items_hidden-the_row-Link-0}
use Rattle.pb_model_tree.specs.declared.formula.Link.{Link}
use Rattle.pb_model_tree.specs.Form.{FormulaForm, formula_form, links_in, property_form}
use Rattle.pb_model_tree.specs.declared.model.Property.{Property}
use Rattle.pb_model_typing.specs.Data.{names_fixpoint, term_names_fixpoint, arguments_name_fixpoint, formula_names_fixpoint, link_names_fixpoint, operation_names_fixpoint, operand_names_fixpoint, property_names_fixpoint}
use mathlib.Core.Former.{Count}

module _ (bound : List Name) (place : Place) where
  abbrev in_term : TermForm → Bool
  in_term = term_names_fixpoint bound place

  -- ---- data

  links-said : (c : Connective) (f : TermForm) (ls : List TermLink) → in_term (chained (TermForm.connected c) f (term_links ls)) ≡ (in_term f || list_any (link_names_fixpoint bound place) ls)
  links-said c f [] = sym (or-false (in_term f))
  links-said c f (l ∷ ls) = ap (λ b. in_term f || b) (links-said c (term_form l.operand) ls)

  operations-said : (f : TermForm) (ls : List ArithmeticLink) → in_term (calculated f (arithmetic_links ls)) ≡ (in_term f || list_any (operation_names_fixpoint bound place) ls)
  operations-said f [] = sym (or-false (in_term f))
  operations-said f (l ∷ ls) =
      operations-said (TermForm.computed l.operator l.place f (term_form l.operand)) ls ∙ or_assoc (in_term f) (in_term (term_form l.operand)) (list_any (operation_names_fixpoint bound place) ls)

  pub chain-said : (t x : Term) (c : Connective) (p : Box Term Global) (v : Vec TermLink Global) (ls : List TermLink) → t ≡ term.Chain c p v → x ≡ box_value p → ls ≡ v.items
      → in_term (term_form t) ≡ (in_term (term_form x) || list_any (link_names_fixpoint bound place) ls)
  chain-said t x c p v ls is at same =
      ap (λ u. in_term (term_form u)) is ∙ (ap in_term (term-chain c p v) ∙ (links-said c (term_form (box_value p)) v.items
      ∙ (ap (λ ks. in_term (term_form (box_value p)) || list_any (link_names_fixpoint bound place) ks) (sym same)
      ∙ ap (λ u. in_term (term_form u) || list_any (link_names_fixpoint bound place) ls) (sym at))))

  pub arithmetic-said : (t x : Term) (p : Box Term Global) (v : Vec ArithmeticLink Global) (ls : List ArithmeticLink) → t ≡ term.Arithmetic p v → x ≡ box_value p → ls ≡ v.items
      → in_term (term_form t) ≡ (in_term (term_form x) || list_any (operation_names_fixpoint bound place) ls)
  arithmetic-said t x p v ls is at same =
      ap (λ u. in_term (term_form u)) is ∙ (ap in_term (term-arithmetic p v) ∙ (operations-said (term_form (box_value p)) v.items
      ∙ (ap (λ ks. in_term (term_form (box_value p)) || list_any (operation_names_fixpoint bound place) ks) (sym same)
      ∙ ap (λ u. in_term (term_form u) || list_any (operation_names_fixpoint bound place) ls) (sym at))))

  pub application-said : (t : Term) (f : declared_name.Name) (v : Vec Argument Global) (es : List Argument) → t ≡ term.Application f v → es ≡ v.items
      → in_term (term_form t) ≡ (names_fixpoint bound place (named f) || arguments_name_fixpoint bound place (argument_forms es))
  application-said t f v es is same =
      ap (λ u. in_term (term_form u)) is ∙ (ap in_term (term-application f v)
      ∙ ap (λ ks. names_fixpoint bound place (named f) || arguments_name_fixpoint bound place (argument_forms ks)) (sym same))

  pub argument-next : (es : List Argument) (k : ℕ) (e : Argument) → k < length es → e ≡ get_or es k e
      → arguments_name_fixpoint bound place (argument_forms (drop k es)) ≡ (in_term (term_form e.term) || arguments_name_fixpoint bound place (argument_forms (drop (k + 1) es)))
  argument-next es k e below at = ap (λ (xs : List Argument). arguments_name_fixpoint bound place (argument_forms xs)) (drop-at es k e below at)

  -- ---- formulas

  row-said : (c : Connective) (f : FormulaForm) (n : _) (row : Row_of-Link n) →
      formula_names_fixpoint bound place (chained (FormulaForm.connected c) f (links_in row))
      ≡ (formula_names_fixpoint bound place f || list_any (operand_names_fixpoint bound place) (items-the_row-Link n row))
  row-said c f n end_of-Link = sym (or-false (formula_names_fixpoint bound place f))
  row-said c f n (more_of-Link at operand row) = ap (λ b. formula_names_fixpoint bound place f || b) (row-said c (formula_form operand) _ row)

  abbrev formula_row : Formula → (n : Count) × Row_of-Link n
  formula_row (formula.Chain' c p first shape row) = (_, row)
  formula_row _ = (_, end_of-Link)

  pub operands-said : (f x : Formula) (c : Connective) (p : Box Formula Global) (v : Vec Link Global) (ls : List Link) → f ≡ formula.Chain c p v → x ≡ box_value p → ls ≡ v.items
      → formula_names_fixpoint bound place (formula_form f) ≡ (formula_names_fixpoint bound place (formula_form x) || list_any (operand_names_fixpoint bound place) ls)
  operands-said f x c p v ls is at same =
      let row = formula_row (formula.Chain c p v) in
      let first = formula_form (box_value p) in
      ap (λ (g : Formula). formula_names_fixpoint bound place (formula_form g)) is
      ∙ (row-said c first row.0 row.1
      ∙ (ap (λ (ks : List Link). formula_names_fixpoint bound place first || list_any (operand_names_fixpoint bound place) ks) (items_hidden-the_row-Link-0 v ∙ sym same)
      ∙ ap (λ (g : Formula). formula_names_fixpoint bound place (formula_form g) || list_any (operand_names_fixpoint bound place) ls) (sym at)))

-- ---- properties

pub property-next : (place : Place) (ps : List Property) (k : ℕ) (x : Property) → k < length ps → x ≡ get_or ps k x
    → list_any (property_names_fixpoint place) (map property_form (drop k ps))
    ≡ (formula_names_fixpoint [] place (formula_form x.formula) || list_any (property_names_fixpoint place) (map property_form (drop (k + 1) ps)))
property-next place ps k x below at = ap (λ (xs : List Property). list_any (property_names_fixpoint place) (map property_form xs)) (drop-at ps k x below at)

pub property-past : (place : Place) (ps : List Property) (k : ℕ) → length ps ≤ k → list_any (property_names_fixpoint place) (map property_form (drop k ps)) ≡ false
property-past place ps k past = ap (λ (xs : List Property). list_any (property_names_fixpoint place) (map property_form xs)) (drop_of_length-le ps past)

-- a part that decides, and one that doesn't
pub found : (all b c : Bool) → all ≡ (b || c) → b ≡ true → true ≡ all
found all b c is h = sym (is ∙ ap (λ x. x || c) h)

pub left_out : (all b c r : Bool) → all ≡ (b || c) → b ≡ false → r ≡ c → r ≡ all
left_out all b c r is h same = same ∙ sym (is ∙ ap (λ x. x || c) h)
