-- What is found of the property at the place of a text, which may be known to be satisfied.
use Rattle.std.proofs.Common.{◌≡◌, ℕ, Bool, true, false, true≢false, not, refl, sym, subst}
use Rattle.std.proofs.lemmas.List.Elements.{All-contains}
use Rattle.pb_model_properties.specs.Joint.{IsSatisfiedAt}
use Rattle.pb_model_properties.specs.Said.{tree_satisfies}
use Rattle.pb_command_models.specs.Models.{IsPropertyFound}
use Rattle.pb_command_models.proofs.Decisions.{found_shown, shown_true}
use Rattle.pb_command_models.proofs.decision.finding_of_text.Goals as goal

false-where-not : (b : Bool) → not b ≡ true → b ≡ false
false-where-not true e = absurd (true≢false (sym e))
false-where-not false e = refl

pub finding_by-requires-after_bounds : goal.finding_by-requires-after_bounds
finding_by-requires-after_bounds g c κs within = let given = c.requires in (given.0, given.1, c.in_ok-made.ensures.compiled given.0 given.2.0)

pub returns-then-is_among : goal.returns-then-is_among
returns-then-is_among g c =
    let counts = c.args.options.counts in
    let place = c.args.asked.place in
    record {
      same = refl;
      place = refl;
      found = λ model said at satisfied.
          let holds : tree_satisfies model at.property.formula ≡ true =
          All-contains (IsSatisfiedAt model) c.args.satisfied.now place satisfied (c.is_among.ensures c.if-is_among.true) at.property at.stands in
          found_shown counts said.protocol model said.is_for place at.property at.stands true (false-where-not counts c.if-not-options.true)
          (shown_true counts said.protocol model said.is_for place at.property at.stands (sym holds));
    }

pub returns : goal.returns
returns g c = record {
  same = c.finding_by.ensures.same;
  place = refl;
  found = λ model said at satisfied.
      subst (λ (k : ℕ). IsPropertyFound c.args.options.counts said.protocol model (record { place = k; finding = c.in_ok-finding.finding })) c.in_ok-made.ensures.place
      (c.in_ok-finding.ensures.found model said (c.in_ok-made.ensures.compiled model at));
}
