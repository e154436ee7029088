-- The line of an error is kept whole, or memory was refused.
use Rattle.std.proofs.Common.{inl, inr, rules}
use Rattle.pbsolve.proofs.Kept.{kept_text}
use Rattle.pbsolve.proofs.files.refusal.Goals as goal

pub returns : goal.returns
returns c =
    elim c.tell-status.ensures.line [
      | inl appended ↦ record {
        alone = search rules;
        status = c.tell-status.ensures.status;
        written = search rules;
        diagnostics = kept_text _ _ _ _ c.new-line.ensures.taken c.into_bytes.ensures appended;
      }
      | inr failed ↦ absurd (cc (failed.0, c.failed.ensures, c.if-failed.false))
    ]
