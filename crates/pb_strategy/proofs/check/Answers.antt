use Rattle.pb_strategy.proofs.check.Goals as goal

pub returns-in-Some-clause-certificate : goal.returns-in-Some-clause-certificate
returns-in-Some-clause-certificate c = (λ e. cc, λ h. absurd (c.in-Some.ensures.none h))
