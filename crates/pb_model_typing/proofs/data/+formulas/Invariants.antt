use Rattle.std.proofs.Common.{◌≡◌, drop}
use Rattle.std.specs.List.{list_any}
use Rattle.pb_model_typing.specs.Data.{operand_names_fixpoint}
use Rattle.pb_model_typing.specs.View.{bound_names}
use Rattle.pb_model_typing.proofs.data.+formulas.Given as goal

abbrev pub invariant-operands_name_fixpoint-loop-link : goal.invariant-operands_name_fixpoint-loop-link
invariant-operands_name_fixpoint-loop-link l =
    let here = list_any (operand_names_fixpoint (bound_names l.bound) l.place) in here l.links ≡ here (drop l.link-index l.links)
