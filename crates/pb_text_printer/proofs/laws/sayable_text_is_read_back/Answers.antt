use Rattle.pb_text_printer.proofs.laws.sayable_text_is_read_back.Goals as goal
use Rattle.pb_text_printer.proofs.PrintLemmas.{sayable-reads}

pub returns : goal.returns
returns c = sayable-reads
