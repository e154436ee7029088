use Rattle.std.proofs.Common.{◌≡◌, drop}
use Rattle.std.specs.List.{list_all}
use Rattle.pb_model_tree.specs.Form.{formula_form}
use Rattle.pb_model_invariants.specs.Invariants.{is_invariant, is_single_invariant}
use Rattle.pb_model_invariants.specs.Links.{forms_in}
use Rattle.pb_model_invariants.proofs.invariant.is_invariant.Given as goal

abbrev pub invariant-loop-conjunct : goal.invariant-loop-conjunct
invariant-loop-conjunct l = is_invariant (formula_form l.formula) ≡ list_all is_single_invariant (forms_in (drop l.conjunct-index l.conjunct-items))
