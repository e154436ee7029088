-- What is found of the property, by what is told early of its module, or by all instances of its text.
use Rattle.std.proofs.Common.{◌≡◌, ◌∙◌, Bool, false, true, rules, subst}
use Rattle.std.proofs.lemmas.Option.{slice_get_within}
use Rattle.pb_command_solver.specs.declared.early.Early.{Early}
use Rattle.pb_command_solver.specs.declared.early.Early.TheVariants as early
use Rattle.pb_model_tree.specs.Form.{ModelForm}
use Rattle.pb_model_properties.specs.Said.{tree_satisfies}
use Rattle.pb_report.specs.declared.answer.Answer.{Answer}
use Rattle.pb_command_models.specs.Outcomes.{IsEarlyOf, IsModuleAt, IsOutcomeAt, OfModule}
use Rattle.pb_command_models.specs.declared.outcome.Outcome.TheVariants as outcome
use Rattle.pb_command_models.specs.declared.property_module.AskedModule.{AskedModule}
use Rattle.pb_command_models.proofs.Decisions.{found_shown, has_property, shown_false, shown_true}
use Rattle.pb_command_models.proofs.Tellings.{ok_more}
use Rattle.pb_command_models.proofs.decision.finding_by.Goals as goal

-- what is told early of the module is told of the property at its place
module _ (model : ModelForm) (asked : AskedModule) (at : IsModuleAt model asked) (told : Early) (early_told : OfModule asked.compiled (λ m q. IsEarlyOf m q told)) where
  answer_here : (answer : Answer) → told ≡ early.Whole answer → IsOutcomeAt model (record { place = asked.place; outcome = outcome.Answered answer })
  answer_here answer is = record {
    property = at.property;
    stands = at.stands;
    outcome = subst (IsEarlyOf model at.property) is (early_told model at.property at.compiled);
  }

  truth_here : (b x : Bool) → told ≡ early.Shown x → x ≡ b → b ≡ tree_satisfies model at.property.formula
  truth_here b x is same = subst (λ (y : Bool). y ≡ tree_satisfies model at.property.formula) same (subst (IsEarlyOf model at.property) is (early_told model at.property at.compiled))

pub is_denied-requires-after_bounds : goal.is_denied-requires-after_bounds
is_denied-requires-after_bounds g c κs within =
    let at = c.requires.2 in
    has_property c.args.input.now c.requires.0 c.requires.1 c.args.asked.now.place
    (slice_get_within c.requires.0.properties c.args.asked.now.place at.property at.stands)

pub decided-requires-after_bounds : goal.decided-requires-after_bounds
decided-requires-after_bounds g c κs within =
    let given = c.requires in
    (given.0, given.1, answer_here given.0 c.args.asked.now given.2 c.in_ok-early_of.field-0 c.in_ok-early_of.ensures c.in-Whole.answer c.in-Whole.is)

pub returns-then-options : goal.returns-then-options
returns-then-options g c = c.decided_by_all.ensures c.args.options.counts

pub returns-in-Unknown : goal.returns-in-Unknown
returns-in-Unknown g c = c.decided_by_all-in-Unknown.ensures c.args.options.counts

pub returns-in-Whole : goal.returns-in-Whole
returns-in-Whole g c =
    let finds = c.decided.ensures c.args.options.counts in
    record {
      same = finds.same;
      found = ok_more _ _ (λ finding h model said at. h model said
          (answer_here model c.args.asked.now at c.in_ok-early_of.field-0 c.in_ok-early_of.ensures c.in-Whole.answer c.in-Whole.is)) c.decided.result finds.found;
    }

pub returns-in-Shown-true : goal.returns-in-Shown-true
returns-in-Shown-true g c =
    let counts = c.args.options.counts in
    let place = c.args.asked.now.place in
    record {
      same = search rules;
      found = λ model said at.
          let truth = truth_here model c.args.asked.now at c.in_ok-early_of.field-0 c.in_ok-early_of.ensures true c.in-Shown-true.field-0 c.in-Shown-true.is c.in-Shown-true.field-0-test in
          found_shown counts said.protocol model said.is_for place at.property at.stands true c.if-options.false
          (shown_true counts said.protocol model said.is_for place at.property at.stands truth);
    }

pub returns-then-denied : goal.returns-then-denied
returns-then-denied g c =
    let counts = c.args.options.counts in
    let place = c.args.asked.now.place in
    record {
      same = c.is_denied.ensures.same;
      found = λ model said at.
          let truth = truth_here model c.args.asked.now at c.in_ok-early_of.field-0 c.in_ok-early_of.ensures false c.in-Shown-false.field-0 c.in-Shown-false.is c.in-Shown-false.field-0-test in
          found_shown counts said.protocol model said.is_for place at.property at.stands false c.if-options.false
          (shown_false counts said.protocol model said.is_for place at.property at.stands c.args.input.now said.read (c.in_ok-denied-in-Shown-false.ensures.denied c.if-denied.true) truth);
    }

pub returns-else-denied : goal.returns-else-denied
returns-else-denied g c =
    let finds = c.decided_by_all-in-Shown-false.ensures c.args.options.counts in
    let same = c.is_denied.ensures.same in
    record { same = finds.same ∙ same; found = rw same at finds.found }
