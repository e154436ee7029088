use Rattle.std.proofs.Common.{rules, arith, ◌≡◌, true, false}
use Rattle.std.proofs.lemmas.List.{map_push}
use Rattle.pb_text_lexer.specs.Steps.{kind, take_token}
use Rattle.pb_text_terms.proofs.ReaderLemmas.{fails-on}
use Rattle.pb_text_terms.proofs.ListLemmas.{listed-none, listed-fails, listed-ends, listed-goes-on}
use Rattle.pb_text_formulas.specs.Reading.{enumerator, is_bar}
use Rattle.pb_text_formulas.proofs.sort.enumerators.Goals as goal

pub enumerators-init : goal.enumerators-init
enumerators-init c = rw (c.new-enumerators.ensures.items, c.new-enumerators.ensures.len) (listed-none enumerator is_bar take_token c.args.input.now)

pub returns-in_err-enumerator : goal.returns-in_err-enumerator
returns-in_err-enumerator c = fails-on c.from_residual.result c.from_residual.ensures.1 c.in_err-enumerator.ensures (listed-fails c.enumerators.invariant)

pub returns-then-not-same_kind : goal.returns-then-not-same_kind
returns-then-not-same_kind c =
    let stops : is_bar (kind c.enumerator.new.input) ≡ false = search rules in
    record {
      reads = rw (c.in_ok-push.ensures.items, map_push) (listed-ends c.enumerators.invariant c.in_ok-enumerator.ensures.reads stops);
      fewer = search rules;
    }

pub enumerators-preserved : goal.enumerators-preserved
enumerators-preserved c =
    let goes : is_bar (kind c.enumerator.new.input) ≡ true = search rules in
    rw (c.in_ok-push.ensures.items, map_push)
    (listed-goes-on c.enumerators.invariant c.in_ok-enumerator.ensures.reads goes c.take.ensures.reads c.in_ok-push.ensures.len (omega (arith, c.in_ok-enumerator.ensures.fewer, c.take.ensures.fewer)))
