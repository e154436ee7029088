use Rattle.pb_verifier.proofs.Whole.{pass_sound, pass_complete}
use Rattle.pb_verifier.proofs.laws.pass_decides.Goals as goal

pub returns : goal.returns
returns c = record { sound = pass_sound; complete = pass_complete }
