-- The answer to a text's module is the answer to the text.
use Rattle.std.proofs.Common.{◌∙◌, ℕ, List, ap}
use Rattle.pb_sorts.specs.declared.counting.Counting.{Counting}
use Rattle.pb_bytecode.specs.Contents.{Contents}
use Rattle.pb_report.specs.declared.answer.Answer.{Answer}
use Rattle.pb_command_solver.specs.Answers.{IsAnswerOf}
use Rattle.pb_text_tree.specs.Form.{SpecForm}
use Rattle.pb_command_texts.specs.Answers.{IsAnswer, IsModuleOfForm, IsModuleOfText, IsReadText, IsWellTypedBy}

-- the module of what a text says is that of its bytes
pub of_bytes : (counting : Counting) (bytes : List ℕ) (text : SpecForm) (m : Contents) → IsReadText bytes text → IsWellTypedBy counting text → IsModuleOfForm text m
    → IsModuleOfText counting bytes m
of_bytes counting bytes text m read typed made = record { text = text; read = read; typed = typed; of_text = made }

pub text_answer : (counting : Counting) (bytes : List ℕ) (m : Contents) → IsModuleOfText counting bytes m → (a : Answer) → IsAnswerOf counting m a → IsAnswer counting bytes a
text_answer counting bytes m of_text a answered = let some = of_text.of_text.trees in record {
  text = of_text.text;
  read = of_text.read;
  typed = of_text.typed;
  solved = ap (λ (x : Answer). x.truth) (answered some.0 some.1).exact ∙ (of_text.of_text.says some.0 some.1).answer;
  contents = m;
  of_text = of_text;
  counted = answered;
}
