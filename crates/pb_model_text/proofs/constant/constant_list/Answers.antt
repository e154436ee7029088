use Rattle.std.proofs.Common.{rules, arith, ◌≡◌, true, false}
use Rattle.std.proofs.lemmas.List.{map_push}
use Rattle.pb_text_lexer.specs.Steps.{kind}
use Rattle.pb_text_terms.specs.Reading.{is_comma}
use Rattle.pb_text_terms.proofs.ReaderLemmas.{fails-on}
use Rattle.pb_text_terms.proofs.ListLemmas.{listed-fails, listed-ends, listed-goes-on}
use Rattle.pb_model_text.proofs.constant.constant_list.Goals as goal

pub returns-in_err-constant : goal.returns-in_err-constant
returns-in_err-constant c = fails-on c.from_residual-in_err-constant.result c.from_residual-in_err-constant.ensures.1 c.in_err-constant.ensures (listed-fails c.constants.invariant)

pub returns-then-not-same_kind : goal.returns-then-not-same_kind
returns-then-not-same_kind c =
    let stops : is_comma (kind c.constant.new.input) ≡ false = search rules in
    record {
      reads = rw (c.in_ok-push.ensures.items, map_push) (listed-ends c.constants.invariant c.in_ok-constant.ensures.reads stops);
      fewer = search rules;
    }

pub constants-preserved : goal.constants-preserved
constants-preserved c =
    let goes : is_comma (kind c.constant.new.input) ≡ true = search rules in
    rw (c.in_ok-push.ensures.items, map_push)
    (listed-goes-on c.constants.invariant c.in_ok-constant.ensures.reads goes c.take.ensures.reads c.in_ok-push.ensures.len (omega (arith, c.in_ok-constant.ensures.fewer, c.take.ensures.fewer)))
