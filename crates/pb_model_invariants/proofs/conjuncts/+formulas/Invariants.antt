use Rattle.std.proofs.Common.{◌≡◌, ◌++◌, drop, flat_map}
use Rattle.pb_model_invariants.specs.Links.{conjuncts_of_link, forms_in}
use Rattle.pb_model_invariants.proofs.conjuncts.+formulas.Given as goal

-- the conjuncts so far, and those of the links that are left
abbrev pub invariant-push_operands-loop-link : goal.invariant-push_operands-loop-link
invariant-push_operands-loop-link l =
    forms_in l.operands.items ++ flat_map conjuncts_of_link (drop l.link-index l.links) ≡ forms_in l.initial.operands.items ++ flat_map conjuncts_of_link l.links
