use Rattle.std.proofs.Common.{rules, ◌≡◌, ◌∙◌, ap, map, true, false, Ok}
use Rattle.pb_base.proofs.Faults.{if_fault}
use Rattle.pb_text_tree.specs.Form.{named}
use Rattle.pb_text_lexer.specs.Steps.{kind}
use Rattle.pb_text_lexer.specs.Tokens.{tok}
use Rattle.pb_text_terms.specs.Reading.{is_open, argument_pair}
use Rattle.pb_text_terms.proofs.ReadLemmas.{arguments-fail, arguments-read, arguments-is}
use Rattle.pb_text_terms.proofs.ReaderLemmas.{error-on}
use Rattle.pb_model_text.proofs.atom.instance_behind.Goals as goal

pub returns-in_err-arguments : goal.returns-in_err-arguments
returns-in_err-arguments c =
    let opens : is_open (kind c.args.input.now) ≡ true = search rules in
    error-on c.from_residual-in_err-arguments.result _ c.from_residual-in_err-arguments.ensures.1
    (λ s is. if_fault c.in_err-arguments.field-0.0
    (arguments-fail c.args.depth c.in_ok-enter.ensures.deeper s c.args.input.now c.enter.new.self
    (named c.args.name) (tok c.in_ok-enter.field-0) is opens c.in_ok-enter.ensures.reads) c.in_err-arguments.ensures.reads)

pub returns : goal.returns
returns c =
    let opens : is_open (kind c.args.input.now) ≡ true = search rules in
    let other : is_open (kind c.expect.new.self) ≡ false = search rules in
    record {
      reads = λ s is. arguments-read c.args.depth c.in_ok-enter.ensures.deeper s c.args.input.now c.enter.new.self (named c.args.name) (tok c.in_ok-enter.field-0) is opens c.in_ok-enter.ensures.reads
          c.argument_list.new.input c.expect.new.self (tok c.in_ok-expect.field-0) (map argument_pair c.in_ok-arguments.arguments.items)
          c.in_ok-arguments.ensures.reads c.in_ok-expect.ensures.reads other
          ∙ ap (λ v. Ok (record { name = named c.args.name; arguments = v }, c.expect.new.self)) (arguments-is c.in_ok-arguments.arguments.items);
      fewer = search rules;
    }
