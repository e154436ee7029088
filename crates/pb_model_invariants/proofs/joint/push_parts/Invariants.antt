use Rattle.std.proofs.Common.{◌≡◌, ◌++◌, drop}
use Rattle.pb_model_invariants.specs.Invariants.{parts_besides}
use Rattle.pb_model_invariants.specs.Links.{forms_in}
use Rattle.pb_model_invariants.proofs.joint.push_parts.Given as goal

-- the parts so far, and those among the conjuncts that are left
abbrev pub invariant-loop-conjunct : goal.invariant-loop-conjunct
invariant-loop-conjunct l =
    forms_in l.collected.items ++ parts_besides l.variable (forms_in (drop l.conjunct-index l.conjuncts))
    ≡ forms_in l.initial.collected.items ++ parts_besides l.variable (forms_in l.conjuncts)
