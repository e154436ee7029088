-- What a connective of two folded operands becomes.
use Rattle.std.specs.Prelude.{Bool, true, false, List, [], ◌∷◌, Option}
use Rattle.pb_text_tree.specs.declared.operator.Connective.{Connective}
use Rattle.pb_text_tree.specs.declared.operator.Connective.TheVariants as connective
use Rattle.pb_text_tree.specs.declared.operator.Quantifier.{Quantifier}
use Rattle.pb_text_tree.specs.declared.operator.Quantifier.TheVariants.{Forall, Exists}
use Rattle.pb_text_meaning.specs.Syntax.{Term}
use Rattle.pb_text_meaning.specs.Erase.{of_connective}
use Rattle.pb_model_meaning.specs.Syntax.{Formula}
use Rattle.pb_model_meaning.specs.Erase.{joined}
use Rattle.pb_protocol_folding.specs.Folding.{is_test, and_of, or_of, implies_of, folded_and, folded_or}
use Rattle.pb_protocol_folding.specs.Folding.{folded_implies}
use Rattle.pb_protocol_folding.specs.FoldedModels.{folded_and_formula, folded_or_formula}
use Rattle.pb_protocol_folding.specs.FoldedModels.{folded_implies_formula, and_formula, or_formula}
use Rattle.pb_protocol_folding.specs.FoldedModels.{implies_formula}
use Rattle.pb_protocol_folding.specs.declared.kept.Kept.{Kept}
use Rattle.pb_protocol_folding.specs.declared.kept.Kept.TheVariants as kept

-- a connective by the truth values that its operands are written as, of terms and of formulas
abbrev pub decided_term : Connective → Option Bool → Option Bool → Term → Term → Term
decided_term connective.And = and_of
decided_term connective.Or = or_of
decided_term connective.Implies = implies_of

abbrev pub decided_formula : Connective → Option Bool → Option Bool → Formula → Formula → Formula
decided_formula connective.And = and_formula
decided_formula connective.Or = or_formula
decided_formula connective.Implies = implies_formula

-- a connective of two folded terms
abbrev pub folded_connective : Connective → Bool → Term → Term → Term
folded_connective connective.And = folded_and
folded_connective connective.Or = folded_or
folded_connective connective.Implies = folded_implies

-- and of two folded formulas
abbrev pub folded_connective_formula : Connective → Formula → Formula → Formula
folded_connective_formula connective.And = folded_and_formula
folded_connective_formula connective.Or = folded_or_formula
folded_connective_formula connective.Implies = folded_implies_formula

-- the connective between what is said of all, or of some
abbrev pub joining : Quantifier → Connective
joining Forall = connective.And
joining Exists = connective.Or

-- and what is said of none
abbrev pub neutral : Quantifier → Bool
neutral Forall = true
neutral Exists = false

-- what is kept of two terms, and of two formulas
abbrev pub kept_term : Connective → Kept → Term → Term → Term
kept_term c kept.Both x y = Term.Binary (of_connective c) x y
kept_term c kept.Left x y = x
kept_term c kept.Right x y = y
kept_term c kept.NotLeft x y = Term.Not x
kept_term c (kept.Truth b) x y = Term.Truth b

abbrev pub kept_formula : Connective → Kept → Formula → Formula → Formula
kept_formula c kept.Both f g = joined c f g
kept_formula c kept.Left f g = f
kept_formula c kept.Right f g = g
kept_formula c kept.NotLeft f g = Formula.Not f
kept_formula c (kept.Truth b) f g = Formula.Data (Term.Truth b)

-- whether what is kept has a truth value, whatever its names stand for
abbrev pub has_truth : Kept → Term → Term → Bool
has_truth kept.Left x y = is_test x
has_truth kept.Right x y = is_test y
has_truth k x y = true

-- whether the truth alone of what is joined behind these operands counts
abbrev pub truth_counts : {A : Type 0} → Bool → List A → Bool
truth_counts truth [] = truth
truth_counts truth (x ∷ xs) = true
