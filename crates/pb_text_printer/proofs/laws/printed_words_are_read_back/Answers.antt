-- What is read can be said, and what can be said is read back from its words.
use Rattle.pb_text_printer.proofs.laws.printed_words_are_read_back.Goals as goal
use Rattle.pb_text_printer.proofs.PrintLemmas.{printed-reads}

pub returns : goal.returns
returns c = printed-reads
