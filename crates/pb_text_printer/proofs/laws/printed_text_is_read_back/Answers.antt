-- What was read can be said, its lines and words are cut into themselves, and they are read back.
use Rattle.pb_text_printer.proofs.laws.printed_text_is_read_back.Goals as goal
use Rattle.pb_text_printer.proofs.PrintLemmas.{written-reads}

pub returns : goal.returns
returns c = written-reads
