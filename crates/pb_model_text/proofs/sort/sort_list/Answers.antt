use Rattle.std.proofs.Common.{rules, arith, ◌≡◌, true, false, refl}
use Rattle.std.proofs.lemmas.List.{map_push}
use Rattle.pb_text_lexer.specs.Steps.{kind, nothing_between}
use Rattle.pb_text_terms.proofs.ReaderLemmas.{fails-on}
use Rattle.pb_text_terms.proofs.ListLemmas.{listed-none, listed-fails, listed-ends, listed-goes-on}
use Rattle.pb_text_formulas.specs.Reading.{is_name_kind}
use Rattle.pb_model_text.specs.ModelReading.{sort}
use Rattle.pb_model_text.proofs.sort.sort_list.Goals as goal

pub sorts-init : goal.sorts-init
sorts-init c = rw (c.new-sorts.ensures.items, c.new-sorts.ensures.len) (listed-none (sort 64) is_name_kind nothing_between c.args.input.now)

pub returns-in_err-sort : goal.returns-in_err-sort
returns-in_err-sort c = fails-on c.from_residual.result c.from_residual.ensures.1 c.in_err-sort.ensures (listed-fails c.sorts.invariant)

pub returns-then-not-same_kind : goal.returns-then-not-same_kind
returns-then-not-same_kind c =
    let stops : is_name_kind (kind c.sort.new.input) ≡ false = search rules in
    record {
      reads = rw (c.in_ok-push.ensures.items, map_push) (listed-ends c.sorts.invariant c.in_ok-sort.ensures.reads stops);
      fewer = search rules;
    }

pub sorts-preserved : goal.sorts-preserved
sorts-preserved c =
    let goes : is_name_kind (kind c.sort.new.input) ≡ true = search rules in
    rw (c.in_ok-push.ensures.items, map_push)
    (listed-goes-on c.sorts.invariant c.in_ok-sort.ensures.reads goes refl c.in_ok-push.ensures.len (omega (arith, c.in_ok-sort.ensures.fewer)))
