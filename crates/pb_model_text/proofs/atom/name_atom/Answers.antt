use Rattle.std.proofs.Common.{rules, ◌≡◌, true, false, Ok}
use Rattle.pb_base.proofs.Faults.{if_fault}
use Rattle.pb_text_tree.specs.Form.{term_form, instance_form}
use Rattle.pb_text_lexer.specs.Steps.{kind}
use Rattle.pb_text_terms.specs.Operators.{is_operator}
use Rattle.pb_text_terms.specs.Reading.{unary}
use Rattle.pb_text_terms.proofs.ReadLemmas.{name-is}
use Rattle.pb_text_terms.proofs.ReaderLemmas.{error-on}
use Rattle.pb_model_text.specs.Grammar.{atom_of}
use Rattle.pb_model_text.specs.Reading.{names_of}
use Rattle.pb_model_text.proofs.AtomLemmas.{atom-fails, named-fails, named-alone, named-operated}
use Rattle.pb_model_text.proofs.WordLemmas.{name-owned, place-at}
use Rattle.pb_model_text.proofs.atom.name_atom.Goals as goal

pub returns-in_err-instance : goal.returns-in_err-instance
returns-in_err-instance c =
    error-on c.from_residual-in_err-instance.result _ c.from_residual-in_err-instance.ensures.1
    (λ s begins. if_fault c.in_err-instance.field-0.0 (named-fails (names_of c.args.scope.names.now) c.args.scope.depth s begins.0)
    (c.in_err-instance.ensures.reads s (name-owned s begins.1 (search rules))))

pub returns-then-not-is_operator : goal.returns-then-not-is_operator
returns-then-not-is_operator c =
    let other : is_operator (kind c.instance_behind.new.input) ≡ false = search rules in
    record {
      reads = λ s begins.
          rw c.named_atom.ensures (named-alone (names_of c.args.scope.names.now) c.args.scope.depth s begins.0 c.instance_behind.new.input c.args.name.place
          (instance_form c.in_ok-instance.instance) (place-at s begins.1)
          (c.in_ok-instance.ensures.reads s (name-owned s begins.1 (search rules))) other);
      fewer = search rules;
    }

pub returns-in_err-term : goal.returns-in_err-term
returns-in_err-term c =
    error-on c.from_residual-in_err-term.result _ c.from_residual-in_err-term.ensures.1
    (λ s begins.
    let first : unary c.args.scope.depth s ≡ Ok (term_form c.applied.result, c.instance_behind.new.input) =
    rw c.applied.ensures (name-is c.args.scope.depth s c.instance_behind.new.input (instance_form c.in_ok-instance.instance) begins.0
    (c.in_ok-instance.ensures.reads s (name-owned s begins.1 (search rules)))) in
    if_fault c.in_err-term.field-0.0 (atom-fails (atom_of (names_of c.args.scope.names.now)) c.args.scope.depth s) (c.in_err-term.ensures.reads s first))

pub returns : goal.returns
returns c =
    let on : is_operator (kind c.instance_behind.new.input) ≡ true = search rules in
    record {
      reads = λ s begins.
          let instance = c.in_ok-instance.ensures.reads s (name-owned s begins.1 (search rules)) in
          let first : unary c.args.scope.depth s ≡ Ok (term_form c.applied.result, c.instance_behind.new.input) =
          rw c.applied.ensures (name-is c.args.scope.depth s c.instance_behind.new.input (instance_form c.in_ok-instance.instance) begins.0 instance) in
          named-operated (names_of c.args.scope.names.now) c.args.scope.depth s begins.0 c.instance_behind.new.input c.operators_behind.new.input c.args.name.place
          (instance_form c.in_ok-instance.instance) (term_form c.in_ok-term.term) (place-at s begins.1) instance on (c.in_ok-term.ensures.reads s first);
      fewer = search rules;
    }
