-- Names in a model's data that stand for nothing there: of a fixpoint around (T07), or of nothing
-- at all (T01). A text says T07 of each name that an equation has, and the translation gives some
-- equations names that no fixpoint of the model has.
use Rattle.std.specs.Prelude.{Bool, false, ◌&&◌, ◌||◌, ◌==◌, if◌then◌else◌}
use Rattle.std.specs.Prelude.{List, [], ◌∷◌}
use Rattle.std.specs.List.{list_any}
use Rattle.pb_text_tree.specs.declared.place.Place.{Place}
use Rattle.pb_text_tree.specs.declared.term.TermLink.{TermLink}
use Rattle.pb_text_tree.specs.declared.term.ArithmeticLink.{ArithmeticLink}
use Rattle.pb_text_tree.specs.Form.{Named, TermForm, ArgumentForms, no_arguments, argument}
use Rattle.pb_text_tree.specs.Form.{term_form}
use Rattle.pb_text_meaning.specs.Syntax.{Name}
use Rattle.pb_model_tree.specs.declared.formula.Link.{Link}
use Rattle.pb_model_tree.specs.Form.{FormulaForm, PropertyForm, ModelForm, formula_form}
use Rattle.pb_typing_declarations.specs.declared.fault.TypingFault.{TypingFault}
use Rattle.pb_typing_declarations.specs.declared.fault.TypingRule.{TypingRule}
use Rattle.pb_typing_declarations.specs.declared.fault.TypingRule.TheVariants.{PredicateInData}
use Rattle.pb_typing_declarations.specs.declared.fault.TypingRule.TheVariants.{UnknownName}
use Rattle.pb_typing_declarations.specs.Faults.{is_among}

abbrev pub is_same_place : Place → Place → Bool
is_same_place p q = p.line == q.line && p.column == q.column

-- the name stands at the place, and is that of a fixpoint around
abbrev pub names_fixpoint : List Name → Place → Named → Bool
names_fixpoint bound p x = is_same_place x.place p && is_among bound x.text

-- such a name stands there in a term
abbrev mutual
  pub term_names_fixpoint : List Name → Place → TermForm → Bool
  term_names_fixpoint bound p (TermForm.constant q b) = false
  term_names_fixpoint bound p (TermForm.number q n) = false
  term_names_fixpoint bound p (TermForm.name x) = names_fixpoint bound p x
  term_names_fixpoint bound p (TermForm.not q x) = term_names_fixpoint bound p x
  term_names_fixpoint bound p (TermForm.negative q x) = term_names_fixpoint bound p x
  term_names_fixpoint bound p (TermForm.connected c q x y) =
      term_names_fixpoint bound p x || term_names_fixpoint bound p y
  term_names_fixpoint bound p (TermForm.compared c q x y) =
      term_names_fixpoint bound p x || term_names_fixpoint bound p y
  term_names_fixpoint bound p (TermForm.computed o q x y) =
      term_names_fixpoint bound p x || term_names_fixpoint bound p y
  term_names_fixpoint bound p (TermForm.application f xs) =
      names_fixpoint bound p f || arguments_name_fixpoint bound p xs
  term_names_fixpoint bound p (TermForm.quantified quantifier q xs x) =
      term_names_fixpoint bound p x

  pub arguments_name_fixpoint : List Name → Place → ArgumentForms → Bool
  arguments_name_fixpoint bound p no_arguments = false
  arguments_name_fixpoint bound p (argument q x xs) =
      term_names_fixpoint bound p x || arguments_name_fixpoint bound p xs

-- in a formula, within its fixpoints and those around it
abbrev pub formula_names_fixpoint : List Name → Place → FormulaForm → Bool
formula_names_fixpoint bound p (FormulaForm.constant q b) = false
formula_names_fixpoint bound p (FormulaForm.«data» q x) = term_names_fixpoint bound p x
formula_names_fixpoint bound p (FormulaForm.variable x) = false
formula_names_fixpoint bound p (FormulaForm.negation q f) = formula_names_fixpoint bound p f
formula_names_fixpoint bound p (FormulaForm.connected c q f g) =
    formula_names_fixpoint bound p f || formula_names_fixpoint bound p g
formula_names_fixpoint bound p (FormulaForm.modal k q A f) = formula_names_fixpoint bound p f
formula_names_fixpoint bound p (FormulaForm.fixpoint sign q x f) =
    formula_names_fixpoint (x.text ∷ bound) p f

-- in a property of a model
abbrev pub property_names_fixpoint : Place → PropertyForm → Bool
property_names_fixpoint p property = formula_names_fixpoint [] p property.formula

abbrev pub model_names_fixpoint : Place → ModelForm → Bool
model_names_fixpoint p model = list_any (property_names_fixpoint p) model.properties

-- ---- what a model breaks where a text of it breaks a rule

abbrev pub rule_in_model : ModelForm → TypingRule → Place → TypingRule
rule_in_model model PredicateInData p =
    if model_names_fixpoint p model then PredicateInData else UnknownName
rule_in_model model rule p = rule

abbrev pub fault_in_model : ModelForm → TypingFault → TypingFault
fault_in_model model fault = record {
  rule = rule_in_model model fault.rule fault.place;
  place = fault.place;
}

-- ---- links, as the code goes through them

abbrev pub link_names_fixpoint : List Name → Place → TermLink → Bool
link_names_fixpoint bound p link = term_names_fixpoint bound p (term_form link.operand)

abbrev pub operation_names_fixpoint : List Name → Place → ArithmeticLink → Bool
operation_names_fixpoint bound p link = term_names_fixpoint bound p (term_form link.operand)

abbrev pub operand_names_fixpoint : List Name → Place → Link → Bool
operand_names_fixpoint bound p link = formula_names_fixpoint bound p (formula_form link.operand)
