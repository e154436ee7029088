use Rattle.std.proofs.Common.{◌≡◌, ◌++◌, drop, flat_map}
use Rattle.pb_model_tree.specs.Form.{formula_form}
use Rattle.pb_model_invariants.specs.Invariants.{parts, parts_of_single}
use Rattle.pb_model_invariants.specs.Links.{forms_in}
use Rattle.pb_model_invariants.proofs.joint.push_parts_of.Given as goal

-- the parts so far, and those of the conjuncts that are left
abbrev pub invariant-loop-conjunct : goal.invariant-loop-conjunct
invariant-loop-conjunct l =
    forms_in l.collected.items ++ flat_map parts_of_single (forms_in (drop l.conjunct-index l.conjunct-items)) ≡ forms_in l.initial.collected.items ++ parts (formula_form l.formula)
