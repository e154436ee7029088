use Rattle.pb_text_printer.proofs.laws.commented_text_is_read_back.Goals as goal
use Rattle.pb_text_printer.proofs.PrintLemmas.{commented-reads}

pub returns : goal.returns
returns c = commented-reads
