use Rattle.std.proofs.Common.{rules, arith, ◌≡◌, true, false, refl}
use Rattle.std.proofs.lemmas.List.{map_push}
use Rattle.pb_text_lexer.specs.Steps.{kind, nothing_between}
use Rattle.pb_text_terms.proofs.ReaderLemmas.{fails-on}
use Rattle.pb_text_terms.proofs.ListLemmas.{listed-none, listed-fails, listed-ends, listed-goes-on}
use Rattle.pb_text_formulas.specs.Reading.{declaration, is_name_kind}
use Rattle.pb_text_formulas.proofs.sort.declarations.Goals as goal

pub declarations-init : goal.declarations-init
declarations-init c = rw (c.new-declarations.ensures.items, c.new-declarations.ensures.len) (listed-none declaration is_name_kind nothing_between c.args.input.now)

pub returns-in_err-declaration : goal.returns-in_err-declaration
returns-in_err-declaration c = fails-on c.from_residual.result c.from_residual.ensures.1 c.in_err-declaration.ensures (listed-fails c.declarations.invariant)

pub returns-then-not-same_kind : goal.returns-then-not-same_kind
returns-then-not-same_kind c =
    let stops : is_name_kind (kind c.declaration.new.input) ≡ false = search rules in
    record {
      reads = rw (c.in_ok-push.ensures.items, map_push) (listed-ends c.declarations.invariant c.in_ok-declaration.ensures.reads stops);
      fewer = search rules;
    }

pub declarations-preserved : goal.declarations-preserved
declarations-preserved c =
    let goes : is_name_kind (kind c.declaration.new.input) ≡ true = search rules in
    rw (c.in_ok-push.ensures.items, map_push)
    (listed-goes-on c.declarations.invariant c.in_ok-declaration.ensures.reads goes refl c.in_ok-push.ensures.len (omega (arith, c.in_ok-declaration.ensures.fewer)))
