-- What is read of a command's options is what its task has.
use Rattle.std.proofs.Common.{◌≡◌, ◌∙◌, List, Option, Some, None, IfSome, MatchOption, IsSomeAnd, Result, IfOk, ap, sym, subst}
use Rattle.std.specs.Option.{ok_or}
use Rattle.clap.specs.Matches.{found_of}
use Rattle.clap.specs.Walk.{Row, rows_of}
use Rattle.pb_command_line.specs.Options.{HasOptions, IsExplainingOf, IsExploringOf, IsSolvingOf}
use Rattle.pb_command_line.specs.Words.{command_of, command_of_task}
use Rattle.pb_command_line.specs.declared.command.Command.{Command}
use Rattle.pb_command_line.specs.declared.request.Request.{Request}
use Rattle.pb_command_line.specs.declared.request.Request.TheVariants.{Input}
use Rattle.pb_command_line.specs.declared.request.Task.{Task}
use Rattle.pb_command_line.proofs.words.request_for.Goals.{in-Solve, in-Game, in-Solution, in-Certificate, in-Explain, in-Compile, in-Verify, in-List, in-SolveCode, in-Translate+in_ok-translating_of-in-Translate, in-Why+in_ok-showing_of-in-Why, in-Size+in_ok-translating_of-in-Size}
use Rattle.pb_command_line.proofs.words.request_for.Goals as goal

module _ (rows : List Row) where
  -- the task, if there is one, has these options
  abbrev Has : Option Task → Type 0
  Has t = IfSome t (λ x. HasOptions rows (Input x))

  -- a task that is made of options that were read has them
  counted_has : {T : Type 0} (Reads : T → Type 0) (Makes : T → Task → Type 0) (o : Option T) (t s : Option Task) → s ≡ t
      → MatchOption o (t ≡ None) (λ read. IsSomeAnd t (Makes read)) → IfSome o Reads
      → ((read : T) (made : Task) → Makes read made → Reads read → HasOptions rows (Input made)) → Has s
  counted_has Reads Makes None t s is made read has = subst Has (sym (is ∙ made)) tt
  counted_has Reads Makes (Some x) None s is made read has = absurd made
  counted_has Reads Makes (Some x) (Some t) s is made read has = subst Has (sym is) (has x t made read)

  -- and so has the request that asks for it
  asked : {E : Type 0} (Makes : Task → Request → Type 0) (t : Option Task) (q : Option Request) (e : E) (r : Result Request E)
      → MatchOption t (q ≡ None) (λ x. IsSomeAnd q (Makes x)) → r ≡ ok_or q e → ((x : Task) (y : Request) → Makes x y → y ≡ Input x) → Has t → IfOk r (HasOptions rows)
  asked Makes None q e r made is same has = subst (λ z. IfOk z (HasOptions rows)) (sym (is ∙ ap (λ o. ok_or o e) made)) tt
  asked Makes (Some x) None e r made is same has = absurd made
  asked Makes (Some x) (Some y) e r made is same has =
      subst (λ z. IfOk z (HasOptions rows)) (sym is) (subst (HasOptions rows) (sym (same x y made)) has)

pub returns-clause-read : goal.returns-clause-read
returns-clause-read c =
    let rows = rows_of (found_of c.args.options.now) in
    let counts = c.counting_of-counting.ensures in
    let of_made = λ (x : Task) (y : Task) (same : y ≡ x) (has : HasOptions rows (Input x)). subst (λ (t : Task). HasOptions rows (Input t)) (sym same) has in
    let has : Has rows c.match-command.task = elim c.match-command.branch [
      | in-Solve w ↦ counted_has rows (IsSolvingOf rows) _ w.solving_of.result w.counted-task.result _ w.task-is w.counted-task.ensures w.solving_of.ensures.read
          (λ read made makes reads. of_made _ made makes.1 (reads, counts))
      | in-Game w ↦ counted_has rows (IsExploringOf rows) _ w.exploring_of.result w.counted-task-in-Game.result _ w.task-is w.counted-task-in-Game.ensures w.exploring_of.ensures.read
          (λ read made makes reads. of_made _ made makes.1 (reads, counts))
      | in-Solution w ↦ counted_has rows (IsSolvingOf rows) _ w.solving_of-in-Solution.result w.counted-task-in-Solution.result _ w.task-is w.counted-task-in-Solution.ensures
          w.solving_of-in-Solution.ensures.read (λ read made makes reads. of_made _ made makes.1 (reads, counts))
      | in-Certificate w ↦ counted_has rows (IsSolvingOf rows) _ w.solving_of-in-Certificate.result w.counted-task-in-Certificate.result _ w.task-is
          w.counted-task-in-Certificate.ensures w.solving_of-in-Certificate.ensures.read (λ read made makes reads. of_made _ made makes.1 (reads, counts))
      | in-Explain w ↦ counted_has rows (IsExplainingOf rows) _ w.explaining_of.result w.counted-task-in-Explain.result _ w.task-is w.counted-task-in-Explain.ensures
          w.explaining_of.ensures.read (λ read made makes reads. of_made _ made makes.1 (reads, counts))
      | in-Compile w ↦ subst (Has rows) (sym w.task-is) counts
      | in-Verify w ↦ subst (Has rows) (sym w.task-is) counts
      | in-List w ↦ subst (Has rows) (sym w.task-is) counts
      | in-SolveCode w ↦ counted_has rows (IsSolvingOf rows) _ w.solving_of-in-SolveCode.result w.counted-task-in-SolveCode.result _ w.task-is
          w.counted-task-in-SolveCode.ensures w.solving_of-in-SolveCode.ensures.read (λ read made makes reads. of_made _ made makes.1 (reads, counts))
      | in-Translate+in_ok-translating_of-in-Translate w ↦ subst (Has rows) (sym w.task-is) w.in_ok-translating_of-in-Translate.ensures
      | in-Why+in_ok-showing_of-in-Why w ↦ subst (Has rows) (sym w.task-is) w.in_ok-showing_of-in-Why.ensures.read
      | in-Size+in_ok-translating_of-in-Size w ↦ subst (Has rows) (sym w.task-is) w.in_ok-translating_of-in-Size.ensures
    ] in
    asked rows _ c.match-command.task c.map-2.result c.into-2.result c.ok_or-2.result c.map-2.ensures.cases c.ok_or-2.ensures.value (λ x y makes. makes) has

-- ---- whose command it is

module _ (command : Command) where
  -- the task, if there is one, is this command's
  abbrev Is : Option Task → Type 0
  Is t = IfSome t (λ x. command_of_task x ≡ command)

  counted_is : {T : Type 0} (Makes : T → Task → Type 0) (o : Option T) (t s : Option Task) → s ≡ t → MatchOption o (t ≡ None) (λ read. IsSomeAnd t (Makes read))
      → ((read : T) (made : Task) → Makes read made → command_of_task made ≡ command) → Is s
  counted_is Makes None t s is made same = subst Is (sym (is ∙ made)) tt
  counted_is Makes (Some x) None s is made same = absurd made
  counted_is Makes (Some x) (Some t) s is made same = subst Is (sym is) (same x t made)

  asked_is : {E : Type 0} (Makes : Task → Request → Type 0) (t : Option Task) (q : Option Request) (e : E) (r : Result Request E)
      → MatchOption t (q ≡ None) (λ x. IsSomeAnd q (Makes x)) → r ≡ ok_or q e → ((x : Task) (y : Request) → Makes x y → y ≡ Input x) → Is t → IfOk r (λ y. command_of y ≡ command)
  asked_is Makes None q e r made is same has = subst (λ z. IfOk z (λ y. command_of y ≡ command)) (sym (is ∙ ap (λ o. ok_or o e) made)) tt
  asked_is Makes (Some x) None e r made is same has = absurd made
  asked_is Makes (Some x) (Some y) e r made is same has =
      subst (λ z. IfOk z (λ y. command_of y ≡ command)) (sym is) (ap command_of (same x y made) ∙ has)

pub returns-clause-command : goal.returns-clause-command
returns-clause-command c =
    let command = c.args.command in
    let has : Is command c.match-command.task = elim c.match-command.branch [
      | in-Solve w ↦ counted_is command _ w.solving_of.result w.counted-task.result _ w.task-is w.counted-task.ensures (λ read made makes. ap command_of_task makes.1 ∙ sym w.in-Solve.is)
      | in-Game w ↦ counted_is command _ w.exploring_of.result w.counted-task-in-Game.result _ w.task-is w.counted-task-in-Game.ensures
          (λ read made makes. ap command_of_task makes.1 ∙ sym w.in-Game.is)
      | in-Solution w ↦ counted_is command _ w.solving_of-in-Solution.result w.counted-task-in-Solution.result _ w.task-is w.counted-task-in-Solution.ensures
          (λ read made makes. ap command_of_task makes.1 ∙ sym w.in-Solution.is)
      | in-Certificate w ↦ counted_is command _ w.solving_of-in-Certificate.result w.counted-task-in-Certificate.result _ w.task-is w.counted-task-in-Certificate.ensures
          (λ read made makes. ap command_of_task makes.1 ∙ sym w.in-Certificate.is)
      | in-Explain w ↦ counted_is command _ w.explaining_of.result w.counted-task-in-Explain.result _ w.task-is w.counted-task-in-Explain.ensures
          (λ read made makes. ap command_of_task makes.1 ∙ sym w.in-Explain.is)
      | in-Compile w ↦ subst (Is command) (sym w.task-is) (sym w.in-Compile.is)
      | in-Verify w ↦ subst (Is command) (sym w.task-is) (sym w.in-Verify.is)
      | in-List w ↦ subst (Is command) (sym w.task-is) (sym w.in-List.is)
      | in-SolveCode w ↦ counted_is command _ w.solving_of-in-SolveCode.result w.counted-task-in-SolveCode.result _ w.task-is w.counted-task-in-SolveCode.ensures
          (λ read made makes. ap command_of_task makes.1 ∙ sym w.in-SolveCode.is)
      | in-Translate+in_ok-translating_of-in-Translate w ↦ subst (Is command) (sym w.task-is) (sym w.in-Translate.is)
      | in-Why+in_ok-showing_of-in-Why w ↦ subst (Is command) (sym w.task-is) (sym w.in-Why.is)
      | in-Size+in_ok-translating_of-in-Size w ↦ subst (Is command) (sym w.task-is) (sym w.in-Size.is)
    ] in
    asked_is command _ c.match-command.task c.map-2.result c.into-2.result c.ok_or-2.result c.map-2.ensures.cases c.ok_or-2.ensures.value (λ x y makes. makes) has
