use Rattle.std.proofs.Common.{rules}
use Rattle.pb_strategy.proofs.certified.certify.Goals as goal

pub returns-in-Some-clause-certificate : goal.returns-in-Some-clause-certificate
returns-in-Some-clause-certificate g c = (λ e. cc, λ h. absurd (c.in-Some.ensures.none h))
