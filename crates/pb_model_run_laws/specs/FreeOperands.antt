-- No operand of a word speaks of the variable of the word's fixpoint: that is what the laws of the
-- patterns ask of their operands.
use Rattle.std.specs.Prelude.{◌≡◌, ℕ, true, false}
use Rattle.pb_text_meaning.specs.Syntax.{Name}
use Rattle.pb_text_lexer.specs.Grammar.{State}
use Rattle.pb_protocol_tree.specs.Form.{FormulaForm}
use Rattle.pb_protocol_meaning.specs.Syntax.{Protocol}
use Rattle.pb_protocol_unfolding.specs.PutIn.{TermScope}
use Rattle.pb_model_text.specs.Words.{is_word}
use Rattle.pb_model_text.specs.Grammar.{FixpointNames, IsNode}
use Rattle.pb_model_run_laws.specs.Free.{is_free}
use Rattle.pb_model_run_laws.specs.Patterns.{written_out}

-- no word is free in an operand, whatever fixpoints are around it
abbrev pub OperandsAreFreeOfWords : Type 0
OperandsAreFreeOfWords =
    (scope : FixpointNames) (depth : ℕ) (s z : State) (p : FormulaForm) →
    IsNode scope depth s p z → (m : Protocol) (ρ : TermScope) (x : Name) → is_word x ≡ true →
    is_free x (written_out m ρ p) ≡ false
