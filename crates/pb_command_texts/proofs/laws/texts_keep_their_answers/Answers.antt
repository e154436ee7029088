-- As many instances as may be declared where each of them counts may be declared where the reached ones do.
use Rattle.std.proofs.Common.{ℕ, List, arith}
use Rattle.pb_sorts.specs.declared.counting.Counting.TheVariants.{Declared, Reached}
use Rattle.pb_bytecode.specs.Contents.{Contents}
use Rattle.pb_text_tree.specs.Form.{SpecForm}
use Rattle.pb_report.specs.declared.answer.Answer.{Answer}
use Rattle.pb_command_solver.specs.Answers.{IsAnswerOf}
use Rattle.pb_command_texts.specs.Answers.{IsModuleOfText, IsWellTypedBy}
use Rattle.pb_command_texts.proofs.laws.texts_keep_their_answers.Goals as goal

still_typed : (text : SpecForm) → IsWellTypedBy Declared text → IsWellTypedBy Reached text
still_typed text typed = record { typed = typed.typed; few = let few = typed.few in omega arith }

still_module : (bytes : List ℕ) (m : Contents) → IsModuleOfText Declared bytes m → IsModuleOfText Reached bytes m
still_module bytes m is = record { text = is.text; read = is.read; typed = still_typed is.text is.typed; of_text = is.of_text }

still_answer : (m : Contents) (a : Answer) → IsAnswerOf Declared m a → IsAnswerOf Reached m a
still_answer m a is trees have =
    let answered = is trees have in
    record { rows = answered.rows; reached = answered.reached; exact = answered.exact; few = let few = answered.few in omega arith }

pub returns-clause-modules : goal.returns-clause-modules
returns-clause-modules c bytes m is = still_module bytes m is

pub returns-clause-answers : goal.returns-clause-answers
returns-clause-answers c bytes a is = record {
  text = is.text;
  read = is.read;
  typed = still_typed is.text is.typed;
  solved = is.solved;
  contents = is.contents;
  of_text = still_module bytes is.contents is.of_text;
  counted = still_answer is.contents a is.counted;
}
