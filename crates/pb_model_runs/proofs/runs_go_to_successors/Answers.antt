use Rattle.pb_model_runs.proofs.RunsLemmas.{steps-lead-to-successors, lassos-go-round}
use Rattle.pb_model_runs.proofs.runs_go_to_successors.Goals as goal

pub returns : goal.returns
returns c = record { successors = steps-lead-to-successors; lassos = lassos-go-round }
