use Rattle.std.proofs.Common.{arith}
use Rattle.pb_game_of_trees.proofs.LaidOut.{exceeds_found, fits_found}
use Rattle.pb_game_of_trees.proofs.Refused.{rightly_refused, not_laid}
use Rattle.pb_game_of_trees.proofs.places.laid_rows.Goals as goal

pub returns-in-Ok-None-clause-too_many : goal.returns-in-Ok-None-clause-too_many
returns-in-Ok-None-clause-too_many c = rightly_refused (exceeds_found c.in-Ok-None.field-0 c.in-Ok-None.field-0-is c.in-Ok-None.ensures.laid)

pub returns-in-Ok-Some-clause-too_many : goal.returns-in-Ok-Some-clause-too_many
returns-in-Ok-Some-clause-too_many c =
    not_laid (λ e. cc) (fits_found c.in-Ok-Some.field-0 c.in-Ok-Some.field-0-is c.in-Ok-Some.ensures.small c.in-Ok-Some.ensures.laid)

pub returns-in-None-clause-too_many : goal.returns-in-None-clause-too_many
returns-in-None-clause-too_many c = rightly_refused c.in-None.ensures.size

pub returns-in-Some-clause-too_many : goal.returns-in-Some-clause-too_many
returns-in-Some-clause-too_many c = not_laid (λ e. cc) (λ plain hold. omega (arith, c.in-Some.ensures.small, c.in-Some.ensures.size plain hold))
