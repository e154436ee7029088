use Rattle.std.proofs.Common.{◌≡◌, drop}
use Rattle.std.specs.List.{list_all}
use Rattle.pb_model_invariants.specs.Invariants.{is_part}
use Rattle.pb_model_invariants.specs.Links.{forms_in}
use Rattle.pb_model_invariants.proofs.invariant.are_parts.Given as goal

abbrev pub invariant-loop-formula : goal.invariant-loop-formula
invariant-loop-formula l = list_all (is_part l.variable) (forms_in l.formulas) ≡ list_all (is_part l.variable) (forms_in (drop l.formula-index l.formulas))
