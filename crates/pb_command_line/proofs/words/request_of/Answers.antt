-- The word of a command alone asks for that, and words that name none ask for nothing.
use Rattle.std.proofs.Common.{map}
use Rattle.pb_command_line.proofs.CommandLine.{memory_alone, plain_results_have_no_files, plain_results_name_none, plain_words_ask}
use Rattle.pb_command_line.proofs.NamedFiles.{named_faultless, named_results}
use Rattle.pb_command_line.proofs.OneWord.{no_request}
use Rattle.pb_command_line.proofs.words.request_of.Goals as goal

pub returns-clause-understood : goal.returns-clause-understood
returns-clause-understood g c plain =
    let words = map g.S.AsStr.text c.args.words.now in
    memory_alone words c.request_in.result c.request_in.ensures.faulty (plain_words_ask words plain)

pub returns-clause-refused : goal.returns-clause-refused
returns-clause-refused g c nothing = no_request (map g.S.AsStr.text c.args.words.now) nothing c.request_in.result c.request_in.ensures.asked

pub returns-clause-nameless : goal.returns-clause-nameless
returns-clause-nameless g c plain = plain_results_name_none (map g.S.AsStr.text c.args.words.now) plain c.request_in.result c.request_in.ensures.asked

pub returns-clause-fileless : goal.returns-clause-fileless
returns-clause-fileless g c plain = plain_results_have_no_files (map g.S.AsStr.text c.args.words.now) plain c.request_in.result c.request_in.ensures.asked

pub returns-clause-faultless : goal.returns-clause-faultless
returns-clause-faultless g c files named = named_faultless (map g.S.AsStr.text c.args.words.now) files named

pub returns-clause-named : goal.returns-clause-named
returns-clause-named g c files named = named_results (map g.S.AsStr.text c.args.words.now) files named c.request_in.result c.request_in.ensures.asked
