use Rattle.pb_model_places.proofs.Models.{read-protocols-stand-apart, read-places-have-columns}
use Rattle.pb_model_places.proofs.Kept.{kept-places-stand-apart}
use Rattle.pb_model_places.proofs.read_protocols_stand_apart.Goals as goal

pub returns : goal.returns
returns c = record { read = read-protocols-stand-apart; kept = kept-places-stand-apart; columns = read-places-have-columns }
