-- What was checked is what the text says.
use Rattle.std.proofs.Common.{sym, subst}
use Rattle.pb_text_tree.specs.declared.spec.Spec.{Spec}
use Rattle.pb_text_tree.specs.Form.{spec_form}
use Rattle.pb_command_texts.specs.Answers.{IsReadText, IsWellTypedBy}
use Rattle.pb_command_texts.proofs.Refusals.{unread, untyped}
use Rattle.pb_command_texts.proofs.compile.typed.Goals as goal

pub returns-in-Ok-check_counting : goal.returns-in-Ok-check_counting
returns-in-Ok-check_counting c = record {
  read =
      subst (λ (s : Spec). IsReadText c.args.text.input.bytes.now (spec_form s)) (sym c.in-Ok-check_counting.ensures.kept)
      (record { reading = c.in-Ok.ensures.reading; only = c.in-Ok.ensures.only });
  typed = subst (λ (s : Spec). IsWellTypedBy c.args.text.counting (spec_form s)) (sym c.in-Ok-check_counting.ensures.kept) c.in-Ok-check_counting.ensures.accepted;
  refused = tt;
}

pub returns-in-Err-check_counting : goal.returns-in-Err-check_counting
returns-in-Err-check_counting c = record {
  read = tt;
  typed = tt;
  refused =
      untyped c.args.text.counting c.args.text.input.bytes.now (spec_form c.in-Ok.spec) (record { reading = c.in-Ok.ensures.reading; only = c.in-Ok.ensures.only })
      c.in-Err-check_counting.error c.raise-in-Err-check_counting.result c.raise-in-Err-check_counting.ensures c.in-Err-check_counting.ensures.fails c.in-Err-check_counting.ensures.ill_typed;
}

pub returns-in-Err : goal.returns-in-Err
returns-in-Err c = record {
  read = tt;
  typed = tt;
  refused = unread c.args.text.counting c.args.text.input.bytes.now c.in-Err.error c.raise.result c.raise.ensures c.in-Err.ensures.refused c.in-Err.ensures.stands;
}
