use Rattle.pb_text_meaning.proofs.Bounded.{fits_bounded}
use Rattle.pb_text_meaning.proofs.what_fits_is_bounded.Goals as goal

pub returns : goal.returns
returns c = fits_bounded
