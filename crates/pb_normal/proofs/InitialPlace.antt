-- The initial instance of a well-typed specification.
use Rattle.std.proofs.Common.{◌≡◌, true, Option, Some, None, sym, true≢false}
use Rattle.std.specs.List.{slice_get}
use Rattle.std.proofs.lemmas.List.Folds.{find_at}
use Rattle.pb_text_meaning.specs.Syntax.{same_name, Equation, Spec}
use Rattle.pb_text_meaning.specs.Formula.{equation_named, fits}
use Rattle.pb_typing_rules.specs.WellTyped.{IsWellTyped}
use Rattle.pb_normal.specs.InitialPlace.{initial_place, initial_values, HasInitial}

by_equation : (spec : Spec) (o : Option Equation) → slice_get spec.equations (initial_place spec) ≡ o → fits spec o (initial_values spec) ≡ true → HasInitial spec
by_equation spec None e h = absurd (true≢false (sym h))
by_equation spec (Some X) e h = record { equation = X; there = e; within = h }

pub initial-there : (spec : Spec) → IsWellTyped spec → HasInitial spec
initial-there spec h =
    by_equation spec (equation_named spec.equations spec.initial) (sym (find_at (λ (X : Equation). same_name X.name spec.initial) spec.equations)) h.values
