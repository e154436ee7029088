-- What clap reads is what stands in the words, and its faults are theirs.
use Rattle.std.proofs.Common.{map, sym, subst}
use Rattle.clap.specs.Matches.{found_of}
use Rattle.clap.specs.Walk.{rows_of}
use Rattle.pb_base.specs.OrMemory.{IfFault}
use Rattle.pb_command_line.specs.Words.{HaveFault}
use Rattle.pb_command_line.proofs.CommandLine.{asks, clap_refuses, clap_takes, met, unnamed, unread}
use Rattle.pb_command_line.proofs.words.request_in.Goals as goal

pub returns-in-Err-clause-faulty : goal.returns-in-Err-clause-faulty
returns-in-Err-clause-faulty g c =
    let words = map g.S.AsStr.text c.args.words.now in
    subst (λ e. IfFault e (λ _. HaveFault words)) (sym c.words_error.ensures)
    (clap_refuses _ words c.in-Err.error c.in_ok-command_line.ensures c.in-Err.ensures.kinds)

pub returns-in-Some-named-clause-asked : goal.returns-in-Some-named-clause-asked
returns-in-Some-named-clause-asked g c =
    let words = map g.S.AsStr.text c.args.words.now in
    let rows = rows_of (found_of c.in-Some.options.now) in
    let read = met _ words c.in-Ok.matches c.in_ok-command_line.ensures c.in-Ok.ensures.matches c.in-Some.name.now rows c.in-Some.ensures.name c.in-Some.ensures.rows in
    asks words c.in-Some.name.now rows read c.in-Some-named.command (clap_takes _ words c.in_ok-command_line.ensures c.in-Ok.ensures.kinds)
    c.in-Some-named.ensures.named c.request_for.result c.request_for.ensures.command c.request_for.ensures.read

pub returns-in-Some-named-clause-faulty : goal.returns-in-Some-named-clause-faulty
returns-in-Some-named-clause-faulty g c =
    let words = map g.S.AsStr.text c.args.words.now in
    let rows = rows_of (found_of c.in-Some.options.now) in
    let read = met _ words c.in-Ok.matches c.in_ok-command_line.ensures c.in-Ok.ensures.matches c.in-Some.name.now rows c.in-Some.ensures.name c.in-Some.ensures.rows in
    unread words c.in-Some.name.now rows read c.in-Some-named.command c.in-Some-named.ensures.every c.request_for.result c.request_for.ensures.none

pub returns-clause-faulty : goal.returns-clause-faulty
returns-clause-faulty g c =
    let words = map g.S.AsStr.text c.args.words.now in
    let rows = rows_of (found_of c.in-Some.options.now) in
    let read = met _ words c.in-Ok.matches c.in_ok-command_line.ensures c.in-Ok.ensures.matches c.in-Some.name.now rows c.in-Some.ensures.name c.in-Some.ensures.rows in
    unnamed words c.in-Some.name.now rows read c.in-None.ensures.every c.into-in-None.result
