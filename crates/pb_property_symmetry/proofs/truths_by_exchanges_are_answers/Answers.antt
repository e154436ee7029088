-- The symmetries by which a truth is an answer are those of the property's module.
use Rattle.std.proofs.Common.{map}
use Rattle.pb_fixpoint_trees.specs.Equations.{numbered}
use Rattle.pb_protocol_meaning.specs.Erase.{erase}
use Rattle.pb_bytecode.specs.Meaning.{signature_of}
use Rattle.pb_exploration_orbits.specs.Laws.{is_declared}
use Rattle.pb_property_symmetry.proofs.truths_by_exchanges_are_answers.Goals as goal

pub returns : goal.returns
returns c protocol p m trees of sort elements permutable truth is =
    let closed = c.modules_of_properties_are_closed.ensures protocol p m trees of in
    is trees of.ends closed
    (c.neighbours_are_symmetries.ensures (is_declared m) (numbered 0 (map signature_of m.equations) trees) closed (erase protocol) sort elements
    (λ u w inside within. c.modules_of_properties_are_symmetric.ensures protocol p m trees of sort elements permutable.same u w inside within))
