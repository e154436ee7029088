use Rattle.std.proofs.Common.{subst}
use Rattle.pb_bytecode.specs.Meaning.{program_of}
use Rattle.pb_verifier.specs.Acceptance.{IsAccepted}
use Rattle.pb_verifier.proofs.verified.Verified.runs_safely.Goals as goal

pub returns-clause-safe : goal.returns-clause-safe
returns-clause-safe c k e at =
    let all : IsAccepted c.args.self.now = subst IsAccepted c.self.view_is c.self.invariant.0.accepted in
    let code = all.codes k e at in
    let a = code.accepted in
    record {
      safe = c.accepted_is_safe.ensures (program_of c.args.self.now e) code.table a;
      steps = a.steps_stated;
      tokens = a.tokens_stated;
      few_steps = a.steps_limit;
      few_tokens = a.tokens_limit;
    }
