use Rattle.std.proofs.Common.{map}
use Rattle.std.proofs.lemmas.Result.{IfOk-weaker}
use Rattle.pb_bytecode.specs.Meaning.{signature_of, initial_of}
use Rattle.pb_command_solver.proofs.Parts.{part_explains, some_rows}
use Rattle.pb_command_solver.proofs.part.SolvedPart.explanation.Goals as goal

pub evidence_of_rows-requires : goal.evidence_of_rows-requires
evidence_of_rows-requires c =
    let m = c.args.verified.now in
    let part = c.args.self.now.part in
    let some = some_rows m part.rows c.requires.trees part.truth c.requires.part.assumed in
    (map signature_of m.equations, some.0, initial_of m, some.1, c.requires.game some.0 some.1)

pub returns : goal.returns
returns c =
    IfOk-weaker c.evidence_of_rows.result _ _ (part_explains c.args.verified.now c.args.self.now c.requires c.assumed_is_shown.ensures)
    c.evidence_of_rows.ensures
