use Rattle.std.proofs.Common.{map}
use Rattle.pb_fixpoint_trees.proofs.Numbers.{equations_are_solved}
use Rattle.pb_bytecode.specs.Meaning.{signature_of}
use Rattle.pb_bytecode.proofs.laws.sets_of_modules_are_extreme_fixpoints.Goals as goal

pub returns : goal.returns
returns c first e after trees t =
    let solved = equations_are_solved first (signature_of e) (map signature_of after) trees t in
    record { fixpoint = solved.fixpoint; extreme = solved.extreme }
