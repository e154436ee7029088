use Rattle.std.proofs.Common.{rules, arith, ◌≡◌, true, false, refl}
use Rattle.std.proofs.lemmas.List.{map_push}
use Rattle.pb_base.proofs.Faults.{if_fault}
use Rattle.pb_text_lexer.specs.Steps.{kind, nothing_between}
use Rattle.pb_text_terms.proofs.ReaderLemmas.{error-is}
use Rattle.pb_text_terms.proofs.ListLemmas.{listed-none, listed-fails, listed-ends, listed-goes-on}
use Rattle.pb_text.specs.Reading.{equation, begins_equation}
use Rattle.pb_text.proofs.system.equations.Goals as goal

pub equations-init : goal.equations-init
equations-init c = rw (c.new-equations.ensures.items, c.new-equations.ensures.len) (listed-none (equation 64) begins_equation nothing_between c.args.input.now)

pub returns-in_err-equation : goal.returns-in_err-equation
returns-in_err-equation c =
    rw (error-is c.from_residual.result _ c.from_residual.ensures.1)
    (if_fault c.in_err-equation.field-0.0 (listed-fails c.equations.invariant) c.in_err-equation.ensures.reads)

pub returns-then-not-begins_equation : goal.returns-then-not-begins_equation
returns-then-not-begins_equation c =
    let stops : begins_equation (kind c.equation.new.input) ≡ false = search rules in
    rw (c.in_ok-push.ensures.items, map_push) (listed-ends c.equations.invariant c.in_ok-equation.ensures.reads stops)

pub equations-preserved : goal.equations-preserved
equations-preserved c =
    let goes : begins_equation (kind c.equation.new.input) ≡ true = search rules in
    rw (c.in_ok-push.ensures.items, map_push)
    (listed-goes-on c.equations.invariant c.in_ok-equation.ensures.reads goes refl c.in_ok-push.ensures.len (omega (arith, c.in_ok-equation.ensures.fewer)))
