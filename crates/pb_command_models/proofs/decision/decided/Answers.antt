-- What is found of the property, by what becomes of its text.
use Rattle.std.proofs.Common.{◌<◌, rules, subst, arith}
use Rattle.std.proofs.lemmas.Option.{slice_get_within}
use Rattle.pb_command_models.specs.Outcomes.{IsOutcome}
use Rattle.pb_command_models.proofs.Decisions.{found_decided, found_false, found_large, found_true, has_property}
use Rattle.pb_command_models.proofs.Tellings.{ok_more}
use Rattle.pb_command_models.proofs.decision.decided.Goals as goal

pub negation_module-requires : goal.negation_module-requires
negation_module-requires g c =
    let at = c.requires.2 in
    has_property c.args.input.now c.requires.0 c.requires.1 c.args.asked.place (slice_get_within c.requires.0.properties c.args.asked.place at.property at.stands)

pub returns-in-TooLarge : goal.returns-in-TooLarge
returns-in-TooLarge g c counts = record {
  same = search rules;
  found = λ model said at. found_large counts said.protocol model said.is_for c.args.asked.place at.property at.stands c.in-TooLarge.excess
      (subst (IsOutcome model at.property) c.in-TooLarge.is at.outcome);
}

pub returns-then-answer : goal.returns-then-answer
returns-then-answer g c counts = record {
  same = search rules;
  found = λ model said at. found_true counts said.protocol model said.is_for c.args.asked.place at.property at.stands c.in-Answered.answer
      (subst (IsOutcome model at.property) c.in-Answered.is at.outcome) c.if-answer.true;
}

pub returns-then-answer-eq0 : goal.returns-then-answer-eq0
returns-then-answer-eq0 g c counts = record {
  same = search rules;
  found = λ model said at. found_false counts said.protocol model said.is_for c.args.asked.place at.property at.stands c.in-Answered.answer
      (subst (IsOutcome model at.property) c.in-Answered.is at.outcome) c.if-answer.false c.if-answer-eq0.true;
}

pub returns-in_ok-negation-in-Answered : goal.returns-in_ok-negation-in-Answered
returns-in_ok-negation-in-Answered g c counts =
    let uncut = c.if-answer-eq0.false in
    let cut : 0 < c.in-Answered.answer.cut = omega (arith, uncut) in
    record {
      same = c.in_ok-negation-in-Answered.ensures.same;
      found = ok_more _ _ (λ finding h model said at. found_decided counts said.protocol model said.is_for c.args.asked.place at.property at.stands c.in-Answered.answer
          (subst (IsOutcome model at.property) c.in-Answered.is at.outcome) c.args.input.now said.read c.if-answer.false cut
          c.in_ok-negation-in-Answered.negation c.in_ok-negation-in-Answered.ensures.compiled finding h) c.decision.result c.decision.ensures;
    }
