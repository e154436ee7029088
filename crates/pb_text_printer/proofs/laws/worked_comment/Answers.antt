use Rattle.std.proofs.Common.{refl}
use Rattle.pb_text_printer.proofs.laws.worked_comment.Goals as goal

pub returns : goal.returns
returns c = refl
