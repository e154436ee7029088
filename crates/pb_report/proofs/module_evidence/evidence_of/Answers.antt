use Rattle.std.proofs.Common.{map}
use Rattle.std.proofs.lemmas.Result.{IfOk-weaker}
use Rattle.pb_bytecode.specs.Meaning.{signature_of, initial_of}
use Rattle.pb_report.proofs.module_evidence.evidence_of.Goals as goal

pub evidence_of_rows-requires : goal.evidence_of_rows-requires
evidence_of_rows-requires c =
    let m = c.requires.0 in
    let trees = c.requires.1.0 in
    let have = c.requires.1.1 in
    (map signature_of m.equations, trees, initial_of m, c.requires.2 trees have, c.requires.3 trees have)

pub returns : goal.returns
returns c = IfOk-weaker c.evidence_of_rows.result _ _ (λ e shown m are_rows is_game trees have.
    shown (map signature_of m.equations) trees (initial_of m) (are_rows trees have) (is_game trees have)) c.evidence_of_rows.ensures
