use Rattle.std.proofs.Common.{rules, arith, ◌≡◌, true, false}
use Rattle.std.proofs.lemmas.List.{map_push}
use Rattle.pb_text_lexer.specs.Steps.{kind}
use Rattle.pb_text_terms.specs.Reading.{is_comma}
use Rattle.pb_text_terms.proofs.ReaderLemmas.{fails-on}
use Rattle.pb_text_terms.proofs.ListLemmas.{listed-fails, listed-ends, listed-goes-on}
use Rattle.pb_model_text.proofs.assignment.assignments.Goals as goal

pub returns-in_err-assignment : goal.returns-in_err-assignment
returns-in_err-assignment c = fails-on c.from_residual-in_err-assignment.result c.from_residual-in_err-assignment.ensures.1 c.in_err-assignment.ensures (listed-fails c.assignments.invariant)

pub returns-then-not-same_kind : goal.returns-then-not-same_kind
returns-then-not-same_kind c =
    let stops : is_comma (kind c.assignment.new.input) ≡ false = search rules in
    record {
      reads = rw (c.in_ok-push.ensures.items, map_push) (listed-ends c.assignments.invariant c.in_ok-assignment.ensures.reads stops);
      fewer = search rules;
    }

pub assignments-preserved : goal.assignments-preserved
assignments-preserved c =
    let goes : is_comma (kind c.assignment.new.input) ≡ true = search rules in
    rw (c.in_ok-push.ensures.items, map_push)
    (listed-goes-on c.assignments.invariant c.in_ok-assignment.ensures.reads goes c.take.ensures.reads c.in_ok-push.ensures.len (omega (arith, c.in_ok-assignment.ensures.fewer, c.take.ensures.fewer)))
