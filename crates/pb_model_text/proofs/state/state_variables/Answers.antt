use Rattle.std.proofs.Common.{rules, arith, ◌≡◌, true, false}
use Rattle.std.proofs.lemmas.List.{map_push}
use Rattle.pb_text_lexer.specs.Steps.{kind}
use Rattle.pb_text_terms.specs.Reading.{is_comma}
use Rattle.pb_text_terms.proofs.ReaderLemmas.{fails-on}
use Rattle.pb_text_terms.proofs.ListLemmas.{listed-fails, listed-ends, listed-goes-on}
use Rattle.pb_model_text.proofs.StateLemmas.{state-read, state-fails}
use Rattle.pb_model_text.proofs.state.state_variables.Goals as goal

pub returns-in_err-group : goal.returns-in_err-group
returns-in_err-group c =
    fails-on c.from_residual-in_err-group.result c.from_residual-in_err-group.ensures.1 c.in_err-group.ensures
    (λ bad e. state-fails c.args.input.now bad (listed-fails c.groups.invariant bad e))

pub returns-then-not-same_kind : goal.returns-then-not-same_kind
returns-then-not-same_kind c =
    let stops : is_comma (kind c.state_group.new.input) ≡ false = search rules in
    record {
      reads = state-read c.args.input.now c.state_group.new.input c.push.new.self.items (rw (c.in_ok-push.ensures.items, map_push) (listed-ends c.groups.invariant c.in_ok-group.ensures.reads stops));
      fewer = search rules;
    }

pub groups-preserved : goal.groups-preserved
groups-preserved c =
    let goes : is_comma (kind c.state_group.new.input) ≡ true = search rules in
    rw (c.in_ok-push.ensures.items, map_push)
    (listed-goes-on c.groups.invariant c.in_ok-group.ensures.reads goes c.take.ensures.reads c.in_ok-push.ensures.len (omega (arith, c.in_ok-group.ensures.fewer, c.take.ensures.fewer)))
