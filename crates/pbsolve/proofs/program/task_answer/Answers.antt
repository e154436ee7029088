-- What `why` tells is what is asked for.
use Rattle.std.proofs.Common.{List, ℕ, Option, rules, sym, subst}
use Rattle.pb_command_line.specs.declared.request.Task.{Task}
use Rattle.pb_command_faults.specs.Errors.{IfInputRefused}
use Rattle.pb_command_modules.specs.Delivery.{Delivers}
use Rattle.pb_command_models.specs.Models.{IsUntranslated}
use Rattle.pbsolve.specs.Writes.{IsRefusedFor, Writes}
use Rattle.pb_command_models.specs.Why.{IsUnshown, WritesWhy}
use Rattle.pb_command_sizes.specs.Writes.{IsUnsizedInput}
use Rattle.pb_model_sizes.specs.Refusals.{AreSizesOf}
use Rattle.pbsolve.proofs.program.task_answer.Goals as goal

pub returns-in-Why : goal.returns-in-Why
returns-in-Why g c = record {
  written =
      subst (λ (t : Task). Delivers (Writes t c.args.input.bytes.now) c.why_text.result g.O.Sink c.args.out.now c.why_text.new.writer)
      (sym c.in-Why.is)
      (subst (λ (n : Option (List ℕ)). Delivers (WritesWhy c.in-Why.options.lines n c.args.input.bytes.now) c.why_text.result g.O.Sink c.args.out.now c.why_text.new.writer)
      c.name_of-in-Why.ensures c.why_text.ensures.told.0);
  refused =
      subst (λ (t : Task). IfInputRefused c.why_text.result (IsRefusedFor t c.args.input.bytes.now))
      (sym c.in-Why.is)
      (subst (λ (n : Option (List ℕ)). IfInputRefused c.why_text.result (IsUnshown n c.args.input.bytes.now))
      c.name_of-in-Why.ensures c.why_text.ensures.told.1);
  named = search rules;
}

-- and what a translation is refused by
pub returns-in-Translate : goal.returns-in-Translate
returns-in-Translate g c = record {
  written = search rules;
  refused =
      subst (λ (t : Task). IfInputRefused c.translate_text.result (IsRefusedFor t c.args.input.bytes.now))
      (sym c.in-Translate.is)
      (subst (λ (n : Option (List ℕ)). IfInputRefused c.translate_text.result (IsUntranslated n c.args.input.bytes.now))
      c.name_of.ensures c.translate_text.ensures.text.1);
  named = search rules;
}

-- and what is written of a size
pub returns-in-Size : goal.returns-in-Size
returns-in-Size g c = record {
  written =
      subst (λ (t : Task). Delivers (Writes t c.args.input.bytes.now) c.size_text.result g.O.Sink c.args.out.now c.size_text.new.writer)
      (sym c.in-Size.is)
      (subst (λ (n : Option (List ℕ)). Delivers (AreSizesOf n c.args.input.bytes.now) c.size_text.result g.O.Sink c.args.out.now c.size_text.new.writer)
      c.name_of-in-Size.ensures c.size_text.ensures.sizes.0);
  refused =
      subst (λ (t : Task). IfInputRefused c.size_text.result (IsRefusedFor t c.args.input.bytes.now))
      (sym c.in-Size.is)
      (subst (λ (n : Option (List ℕ)). IfInputRefused c.size_text.result (IsUnsizedInput n c.args.input.bytes.now))
      c.name_of-in-Size.ensures c.size_text.ensures.sizes.1);
  named = search rules;
}

-- what evidence shows is of the instances that count
pub returns-in-Explain : goal.returns-in-Explain
returns-in-Explain g c = record {
  written =
      subst (λ (t : Task). Delivers (Writes t c.args.input.bytes.now) c.explain_text.result g.O.Sink c.args.out.now c.explain_text.new.writer)
      (sym c.in-Explain.is) c.explain_text.ensures.0;
  refused =
      subst (λ (t : Task). IfInputRefused c.explain_text.result (IsRefusedFor t c.args.input.bytes.now))
      (sym c.in-Explain.is) c.explain_text.ensures.1;
  named = search rules;
}

-- and what the answer to a module is refused by
pub returns-in_err-solve_code-in-SolveCode : goal.returns-in_err-solve_code-in-SolveCode
returns-in_err-solve_code-in-SolveCode g c = record {
  written = search rules;
  refused =
      subst (λ (t : Task). IfInputRefused c.from_residual-in_err-solve_code-in-SolveCode.result (IsRefusedFor t c.args.input.bytes.now))
      (sym c.in-SolveCode.is) (search rules);
  named = search rules;
}
