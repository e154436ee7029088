use Rattle.std.proofs.Common.{rules, arith, ◌≡◌, true, false}
use Rattle.std.proofs.lemmas.List.{map_push}
use Rattle.pb_text_lexer.specs.Steps.{kind}
use Rattle.pb_text_terms.specs.Reading.{is_comma}
use Rattle.pb_text_terms.proofs.ReaderLemmas.{fails-on}
use Rattle.pb_text_terms.proofs.ListLemmas.{listed-fails, listed-ends, listed-goes-on}
use Rattle.pb_text_terms.proofs.variable.names.Goals as goal

pub returns-in_err-name : goal.returns-in_err-name
returns-in_err-name c = fails-on c.from_residual-in_err-name.result c.from_residual-in_err-name.ensures.1 c.in_err-name.ensures (listed-fails c.names.invariant)

pub returns-then-not-same_kind : goal.returns-then-not-same_kind
returns-then-not-same_kind c =
    let stops : is_comma (kind c.name.new.input) ≡ false = search rules in
    record {
      reads = rw (c.in_ok-push.ensures.items, map_push) (listed-ends c.names.invariant c.in_ok-name.ensures.reads stops);
      fewer = search rules;
    }

pub names-preserved : goal.names-preserved
names-preserved c =
    let goes : is_comma (kind c.name.new.input) ≡ true = search rules in
    rw (c.in_ok-push.ensures.items, map_push)
    (listed-goes-on c.names.invariant c.in_ok-name.ensures.reads goes c.take.ensures.reads c.in_ok-push.ensures.len (omega (arith, c.in_ok-name.ensures.fewer, c.take.ensures.fewer)))
