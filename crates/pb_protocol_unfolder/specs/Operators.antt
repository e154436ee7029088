-- How many operators a formula has as it is written out: a quantifier as its copies, terms as they
-- are folded, and sets of steps by the names of the steps in them that may be taken.
use Rattle.std.specs.Prelude.{◌+◌, ◌<◌, ℕ, suc, Bool, true, []}
use Rattle.pb_base.specs.declared.limits.TheConstants.{MAX_OPERATORS}
use Rattle.pb_text_tree.specs.declared.term.Argument.{Argument}
use Rattle.pb_text_tree.specs.declared.term.ArithmeticLink.{ArithmeticLink}
use Rattle.pb_text_tree.specs.declared.term.TermLink.{TermLink}
use Rattle.pb_text_meaning.specs.Syntax.{Name, Spec}
use Rattle.pb_model_meaning.specs.Syntax.{Formula, StepSet}
use Rattle.pb_protocol_meaning.specs.Syntax as protocol
use Rattle.pb_protocol_meaning.specs.Steps.{data_of}
use Rattle.pb_protocol_folding.specs.Folding.{folded}
use Rattle.pb_protocol_folding.specs.FoldedModels.{folded_set, is_left}
use Rattle.pb_protocol_folding.specs.View.{term_of}
use Rattle.pb_protocol_unfolding.specs.PutIn.{TermScope}
use Rattle.pb_protocol_unfolding.specs.Unfolding.{unfolded, unfolded_formula}
use Rattle.pb_protocol_unfolder_terms.specs.Unfolding.{operator_count}

-- how many names a set of steps has
abbrev pub name_count : StepSet → ℕ
name_count StepSet.All = 0
name_count (StepSet.Only x) = 1
name_count (StepSet.Complement A) = name_count A
name_count (StepSet.Union A B) = name_count A + name_count B

-- how many connectives, modalities, fixpoints, names of steps and operators of terms a formula has,
-- its terms folded, of steps the names of those that are left
abbrev pub formula_operators : Spec → (Name → Bool) → Formula → ℕ
formula_operators spec left (Formula.Truth b) = 0
formula_operators spec left (Formula.Data x) = operator_count (folded spec true x)
formula_operators spec left (Formula.Named X) = 0
formula_operators spec left (Formula.Not f) = suc (formula_operators spec left f)
formula_operators spec left (Formula.And f g) =
    suc (formula_operators spec left f + formula_operators spec left g)
formula_operators spec left (Formula.Or f g) =
    suc (formula_operators spec left f + formula_operators spec left g)
formula_operators spec left (Formula.Implies f g) =
    suc (formula_operators spec left f + formula_operators spec left g)
formula_operators spec left (Formula.Box A f) =
    suc (name_count (folded_set left A) + formula_operators spec left f)
formula_operators spec left (Formula.Diamond A f) =
    suc (name_count (folded_set left A) + formula_operators spec left f)
formula_operators spec left (Formula.Fixpoint sign X f) = suc (formula_operators spec left f)

-- how many a protocol's formula has as it is written out
abbrev pub written_operators : protocol.Protocol → TermScope → protocol.Formula → ℕ
written_operators m ρ f =
    formula_operators (data_of m) (is_left (unfolded m)) (unfolded_formula m ρ f)

-- as it is written out it has more than 8,192
abbrev pub HasManyWritten : protocol.Protocol → protocol.Formula → Type 0
HasManyWritten m f = MAX_OPERATORS < written_operators m [] f

-- ---- parts of terms

-- an operand with the connective before it
abbrev pub operand_operators : TermLink → ℕ
operand_operators link = suc (operator_count (term_of link.operand))

-- an operand with the operator before it
abbrev pub operation_operators : ArithmeticLink → ℕ
operation_operators link = suc (operator_count (term_of link.operand))

abbrev pub argument_operators : Argument → ℕ
argument_operators a = operator_count (term_of a.term)
