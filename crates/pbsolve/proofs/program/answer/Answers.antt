-- What is written answers the request, with the status that the run ends with.
use Rattle.std.proofs.Common.{◌≡◌, ◌∙◌, ◌≢◌, ℕ, List, [], Result, Err, refl, rules, sym, subst}
use Rattle.pb_sorts.specs.declared.sink.Sink.{Ghosts}
use Rattle.pb_command_faults.specs.Errors.{IfInputRefused}
use Rattle.pb_command_faults.specs.declared.solve_error.SolveError.{SolveError}
use Rattle.pb_command_faults.specs.declared.solve_error.SolveError.TheVariants.{Refused}
use Rattle.pb_command_faults.specs.declared.solve_fault.SolveFault.TheVariants.{NoProperty}
use Rattle.pb_command_line.specs.Words.{property_names}
use Rattle.pb_command_line.specs.declared.request.Request.{Request}
use Rattle.pb_command_line.specs.declared.request.Request.TheVariants as request_is
use Rattle.pb_command_line.specs.declared.request.Task.{Task}
use Rattle.pb_command_line.specs.Pages.{page_words}
use Rattle.pb_command_line.specs.declared.page.Page.{Page}
use Rattle.pb_command_modules.specs.Delivery.{Delivers}
use Rattle.pb_command_modules.proofs.Deliveries.{less_left_on, less_sent}
use Rattle.pb_command_line.specs.declared.status.Status.{Status}
use Rattle.pb_command_line.specs.declared.status.Status.TheVariants.{Answered}
use Rattle.pbsolve.specs.Endings.{AnswersRequest}
use Rattle.pbsolve.specs.Requests.{Answers, RefusesBytes}
use Rattle.pb_command_models.specs.Writes.{WithStatus}
use Rattle.pbsolve.specs.Writes.{Writes}
use Rattle.pb_command_models.proofs.Findings.{no_status}
use Rattle.pbsolve.proofs.program.answer.Goals as goal

-- what answers the request in one arm of the match answers it
module _ (bytes : List ℕ) (request : Request) where
  answers_page : (page : Page) → request ≡ request_is.Page page → (text : List ℕ) → text ≡ page_words page → Answers request bytes Answered text
  answers_page page is text same = subst (λ (r : Request). Answers r bytes Answered text) (sym is) (refl, same)

  answers_input : (task : Task) → request ≡ request_is.Input task → (text : List ℕ) → Writes task bytes text → Answers request bytes Answered text
  answers_input task is text written = subst (λ (r : Request). Answers r bytes Answered text) (sym is) (refl, written)

-- what goes out, and what is said of a refusal
answers : {S : Type 0} {request : Request} {bytes : List ℕ} {r : Result Status SolveError} {sink : Ghosts S} {old new : S}
    → Delivers (WithStatus r (Answers request bytes)) r sink old new → IfInputRefused r (RefusesBytes request bytes)
    → (r ≡ Err (Refused NoProperty) → property_names request ≢ []) → AnswersRequest request bytes r sink old new
answers written refused named = record { written = written; refused = refused; named = named }

pub returns-in_err-deliver-in-Page : goal.returns-in_err-deliver-in-Page
returns-in_err-deliver-in-Page g c =
    let r = c.from_residual.result in
    answers (less_left_on g.O.Sink (λ (t : List ℕ). t ≡ c.as_bytes.result.now) (WithStatus r (Answers c.args.request.now c.args.input.bytes.now))
    (λ text is. (
      Answered,
      no_status (λ (s : Status). s ≡ Answered) _ r c.from_residual.ensures.1,
      answers_page c.args.input.bytes.now c.args.request.now c.in-Page.page c.in-Page.is text (is ∙ (c.as_bytes.ensures.value ∙ c.words.ensures)),
    )) c.args.out.now c.deliver.new.writer r c.in_err-deliver-in-Page.field-0.0 c.from_residual.ensures.1 c.in_err-deliver-in-Page.ensures.text) (search rules) (search rules)

pub returns-in_ok-deliver-in-Page : goal.returns-in_ok-deliver-in-Page
returns-in_ok-deliver-in-Page g c =
    answers (less_sent g.O.Sink (λ (t : List ℕ). t ≡ c.as_bytes.result.now) (λ (t : List ℕ). (s : Status) × (Answered ≡ s) × Answers c.args.request.now c.args.input.bytes.now s t)
    (λ text is. (Answered, refl, answers_page c.args.input.bytes.now c.args.request.now c.in-Page.page c.in-Page.is text (is ∙ (c.as_bytes.ensures.value ∙ c.words.ensures))))
    c.args.out.now c.deliver.new.writer c.in_ok-deliver-in-Page.ensures.text) (search rules) (search rules)

pub returns-in-Check : goal.returns-in-Check
returns-in-Check g c =
    answers (subst (λ (r : Request). Delivers (WithStatus c.check_text.result (Answers r c.args.input.bytes.now)) c.check_text.result g.O.Sink c.args.out.now c.check_text.new.writer)
    (sym c.in-Check.is) c.check_text.ensures.verdicts.0) (search rules) (search rules)

pub returns-in_err-task_answer-in-Input : goal.returns-in_err-task_answer-in-Input
returns-in_err-task_answer-in-Input g c =
    let r = c.from_residual-in_err-task_answer-in-Input.result in
    let made = c.from_residual-in_err-task_answer-in-Input.ensures.1 in
    answers (less_left_on g.O.Sink (Writes c.in-Input.task c.args.input.bytes.now) (WithStatus r (Answers c.args.request.now c.args.input.bytes.now))
    (λ text written. (
      Answered,
      no_status (λ (s : Status). s ≡ Answered) _ r made,
      answers_input c.args.input.bytes.now c.args.request.now c.in-Input.task c.in-Input.is text written,
    )) c.args.out.now c.task_answer.new.out r c.in_err-task_answer-in-Input.field-0.0 made c.in_err-task_answer-in-Input.ensures.written) (search rules) (search rules)

pub returns-in_ok-task_answer-in-Input : goal.returns-in_ok-task_answer-in-Input
returns-in_ok-task_answer-in-Input g c =
    answers (less_sent g.O.Sink (Writes c.in-Input.task c.args.input.bytes.now) (λ (t : List ℕ). (s : Status) × (Answered ≡ s) × Answers c.args.request.now c.args.input.bytes.now s t)
    (λ text written. (Answered, refl, answers_input c.args.input.bytes.now c.args.request.now c.in-Input.task c.in-Input.is text written))
    c.args.out.now c.task_answer.new.out c.in_ok-task_answer-in-Input.ensures.written) (search rules) (search rules)
