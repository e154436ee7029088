use Rattle.std.proofs.Common.{rules, arith, ◌≡◌, ◌<◌, ◌≤◌, ◌-◌, ℕ, length, true, false, vec_len, ◌∙◌, ap, sym, subst, refl, Ok}
use Rattle.std.proofs.lemmas.Bool.{and_parts}
use Rattle.std.proofs.lemmas.List.{map_push}
use Rattle.pb_base.proofs.Faults.{if_fault}
use Rattle.pb_text_tree.specs.Form.{TermForm, instance_form, named, term_form, term_links, arithmetic_links}
use Rattle.pb_text_lexer.specs.declared.kind.Kind.TheVariants as k
use Rattle.pb_text_lexer.specs.Kinds.{same_kind}
use Rattle.pb_text_lexer.specs.Steps.{kind, enter}
use Rattle.pb_text_lexer.specs.Tokens.{tok}
use Rattle.pb_text_lexer.proofs.LoopLemmas.{resumed-first, resumed-more, resumed-end, resumed-operator-fails, resumed-operand-fails}
use Rattle.pb_text_terms.specs.declared.level.Level.{Level}
use Rattle.pb_text_terms.specs.declared.level.Operator.TheVariants.{Arithmetic, Connective}
use Rattle.pb_text_terms.specs.Levels.{operator_of_token, level_of, operand_level, rank, may_quantify, is_related}
use Rattle.pb_text_terms.specs.Operators.{symbol_kind, is_binder, arithmetic_of}
use Rattle.pb_text_terms.specs.Reading.{term, below, with_place, is_comma, is_open, operation, operations, is_among, is_mixed, at}
use Rattle.pb_text_terms.proofs.ReaderLemmas.{read-as, refused, refuses, fails-on, error-on, error-is, as-read, known}
use Rattle.pb_text_terms.proofs.PairLemmas.{fails-where, reads-where, on-ok-where, known-exactly}
use Rattle.pb_text_terms.proofs.ListLemmas.{listed-fails, listed-ends, listed-goes-on}
use Rattle.pb_text_terms.proofs.ReadLemmas.{bound-at, operation-fails, operation-operand-fails, operation-read, arguments-is, begun-at, inner-fails, name-is, unary-other, placed-fails, placed-read}
use Rattle.pb_text_terms.proofs.LevelLemmas.{may-above, skips-to, before-operator, operator-fails, lowest-quantified, quantified-fails, first-fails-as, first-or-fails, connects}
use Rattle.pb_text_terms.proofs.LevelLemmas.{calculation-fails, calculation-mixed, calculation-read, connection-is}
use Rattle.pb_text_terms.proofs.TermSteps.{IsOpened, read-at, opened-fails, opened-closes}
use Rattle.pb_text_terms.proofs.TermSteps.{relation-sign-fails, relation-right-fails, relation-goes-on, relation-read}
use Rattle.pb_text_terms.proofs.+terms.Goals as goal
use Rattle.pb_text_terms.proofs.+terms.Goals.{instance::argument_list-After-push, instance::instance-After-argument_list}
use Rattle.pb_text_terms.proofs.+terms.Goals.{chain::operations-After-take_operator, chain::operations-After-push, chain::links_behind-After-take_operator}

-- ---- names with arguments

pub instance::argument_list-returns-in_err-term : goal.instance::argument_list-returns-in_err-term
instance::argument_list-returns-in_err-term t c =
    fails-on c.from_residual-in_err-term.result c.from_residual-in_err-term.ensures.1 c.in_err-term.ensures
    (λ bad e. listed-fails c.arguments.invariant bad (placed-fails (term c.args.depth) c.arguments.input bad e))

argument_read : (t : ℕ) (c : instance::argument_list-After-push t)
    → with_place (term c.args.depth) c.arguments.input ≡ Ok ((c.place-place.result, term_form c.in_ok-term.term), c.term_at.new.input)
argument_read t c =
    placed-read (term c.args.depth) c.arguments.input c.term_at.new.input c.place-place.result (term_form c.in_ok-term.term) c.place-place.ensures c.in_ok-term.ensures.reads

pub instance::argument_list-returns-then-not-same_kind : goal.instance::argument_list-returns-then-not-same_kind
instance::argument_list-returns-then-not-same_kind t c =
    let read = argument_read t (goal.at.instance::argument_list-returns-then-not-same_kind t c).After-push in
    let stops : is_comma (kind c.term_at.new.input) ≡ false = search rules in
    record {
      reads = rw (c.in_ok-push.ensures.items, map_push) (listed-ends c.arguments.invariant read stops);
      fewer = search rules;
    }

pub instance::argument_list-arguments-preserved : goal.instance::argument_list-arguments-preserved
instance::argument_list-arguments-preserved t c =
    let read = argument_read t (goal.at.instance::argument_list-arguments-preserved t c).After-push in
    let goes : is_comma (kind c.term_at.new.input) ≡ true = search rules in
    rw (c.in_ok-push.ensures.items, map_push)
    (listed-goes-on c.arguments.invariant read goes c.take.ensures.reads c.in_ok-push.ensures.len (omega (arith, c.in_ok-term.ensures.fewer, c.take.ensures.fewer)))

opened : (t : ℕ) (c : instance::instance-After-argument_list t) → IsOpened c.args.depth c.args.input.now c.enter.new.self (named c.in_ok-name.name)
opened t c = record {
  some = c.in_ok-enter.ensures.deeper;
  between = c.name.new.input;
  bracket = tok c.in_ok-enter.field-0;
  named = c.in_ok-name.ensures.reads;
  opens = search rules;
  entered = c.in_ok-enter.ensures.reads;
}

pub instance::instance-returns-in_err-arguments : goal.instance::instance-returns-in_err-arguments
instance::instance-returns-in_err-arguments t c =
    fails-on c.from_residual-in_err-arguments.result c.from_residual-in_err-arguments.ensures.1 c.in_err-arguments.ensures
    (opened-fails (opened t (goal.at.instance::instance-returns-in_err-arguments t c).After-argument_list))

pub instance::instance-returns-then-same_kind : goal.instance::instance-returns-then-same_kind
instance::instance-returns-then-same_kind t c =
    let h = opened t (goal.at.instance::instance-returns-then-same_kind t c).After-argument_list in
    let again : is_open (kind c.expect.new.self) ≡ true = search rules in
    refused (rw c.refuse.ensures (opened-closes h true c.in_ok-arguments.ensures.reads c.in_ok-expect.ensures.reads again))

pub instance::instance-returns : goal.instance::instance-returns
instance::instance-returns t c = record {
  reads = let h = opened t (goal.at.instance::instance-returns t c).After-argument_list in
      let other : is_open (kind c.expect.new.self) ≡ false = search rules in
      opened-closes h false c.in_ok-arguments.ensures.reads c.in_ok-expect.ensures.reads other
      ∙ ap (λ v. Ok (record { name = named c.in_ok-name.name; arguments = v }, c.expect.new.self)) (arguments-is c.in_ok-arguments.arguments.items);
  fewer = search rules;
}

-- ---- operators of arithmetic with their operands

operation_there : (t : ℕ) (c : chain::operations-After-push t)
    → operation c.args.operators (at c.operand_level-level.result c.args.depth) c.operations.input
    ≡ Ok ((arithmetic_of c.in_ok-sign.sign.kind, c.in_ok-sign.sign.place, term_form c.in_ok-operand.operand), c.term_at.new.input)
operation_there t c =
    operation-read c.args.operators (at c.operand_level-level.result c.args.depth) c.operations.input c.take_operator.new.self c.term_at.new.input
    (tok c.in_ok-sign.sign) (term_form c.in_ok-operand.operand) c.operations.invariant.stands c.in_ok-sign.ensures.reads c.in_ok-operand.ensures.reads

-- the level is that of the operands
same_level : (t : ℕ) (c : chain::operations-After-take_operator t)
    → operations c.args.operators (at (operand_level (Arithmetic c.args.operators)) c.args.depth) c.args.input.now
    ≡ operations c.args.operators (at c.operand_level-level.result c.args.depth) c.args.input.now
same_level t c = ap (λ (v : Level). operations c.args.operators (at v c.args.depth) c.args.input.now) (sym c.operand_level-level.ensures)

pub chain::operations-returns-in_err-sign : goal.chain::operations-returns-in_err-sign
chain::operations-returns-in_err-sign t c =
    refuses c.from_residual-in_err-sign.result c.from_residual-in_err-sign.ensures.1
    (same_level t (goal.at.chain::operations-returns-in_err-sign t c).After-take_operator
    ∙ listed-fails c.operations.invariant.listed c.in_err-sign.field-0.0
    (operation-fails c.args.operators (at c.operand_level-level.result c.args.depth) c.operations.input c.in_err-sign.field-0.0
    c.operations.invariant.stands c.in_err-sign.ensures.reads))

pub chain::operations-returns-in_err-operand : goal.chain::operations-returns-in_err-operand
chain::operations-returns-in_err-operand t c =
    fails-on c.from_residual-in_err-operand.result c.from_residual-in_err-operand.ensures.1 c.in_err-operand.ensures
    (λ bad e. same_level t (goal.at.chain::operations-returns-in_err-operand t c).After-take_operator
    ∙ listed-fails c.operations.invariant.listed bad
    (operation-operand-fails c.args.operators (at c.operand_level-level.result c.args.depth) c.operations.input c.take_operator.new.self (tok c.in_ok-sign.sign) bad
    c.operations.invariant.stands c.in_ok-sign.ensures.reads e))

pub chain::operations-returns-then-not-is_among : goal.chain::operations-returns-then-not-is_among
chain::operations-returns-then-not-is_among t c =
    let place = goal.at.chain::operations-returns-then-not-is_among t c in
    let stops : is_among c.args.operators (kind c.term_at.new.input) ≡ false = search rules in
    record {
      reads = rw (c.in_ok-push.ensures.items, map_push, c.arithmetic.ensures)
          (same_level t place.After-take_operator ∙ listed-ends c.operations.invariant.listed (operation_there t place.After-push) stops);
      fewer = search rules;
    }

pub chain::operations-operations-preserved : goal.chain::operations-operations-preserved
chain::operations-operations-preserved t c =
    let read = operation_there t (goal.at.chain::operations-operations-preserved t c).After-push in
    let goes : is_among c.args.operators (kind c.term_at.new.input) ≡ true = search rules in
    record {
      listed = rw (c.in_ok-push.ensures.items, map_push, c.arithmetic.ensures)
          (listed-goes-on c.operations.invariant.listed read goes refl c.in_ok-push.ensures.len (omega (arith, c.in_ok-sign.ensures.fewer, c.in_ok-operand.ensures.fewer)));
      stands = goes;
    }

-- ---- operands that are read first

pub primary::unary-returns-in_ok-instance-in-Name : goal.primary::unary-returns-in_ok-instance-in-Name
primary::unary-returns-in_ok-instance-in-Name t c =
    let is : kind c.args.input.now ≡ k.Name = search rules in
    record {
      reads = rw c.applied.ensures (name-is c.args.depth c.args.input.now c.instance.new.input (instance_form c.in_ok-instance-in-Name.instance) is c.in_ok-instance-in-Name.ensures.reads);
      fewer = c.in_ok-instance-in-Name.ensures.fewer;
    }

pub primary::unary-returns-in_default : goal.primary::unary-returns-in_default
primary::unary-returns-in_default t c =
    rw c.refuse.ensures (record {
      reads = unary-other c.args.depth c.args.input.now (λ q. c.in_default.not-Not (c.kind.ensures ∙ q))
          (λ q. c.in_default.not-Minus (c.kind.ensures ∙ q)) (λ q. c.in_default.not-Open (c.kind.ensures ∙ q))
          (λ q. c.in_default.not-Number (c.kind.ensures ∙ q)) (λ q. c.in_default.not-True (c.kind.ensures ∙ q))
          (λ q. c.in_default.not-False (c.kind.ensures ∙ q)) (λ q. c.in_default.not-Name (c.kind.ensures ∙ q));
      fewer = tt;
    })

pub primary::bracketed-returns-in_err-inner : goal.primary::bracketed-returns-in_err-inner
primary::bracketed-returns-in_err-inner t c =
    fails-on c.from_residual-in_err-inner.result c.from_residual-in_err-inner.ensures.1 c.in_err-inner.ensures
    (λ bad e. inner-fails c.args.depth c.args.input.now c.enter.new.self (tok c.in_ok-enter.field-0) bad
    c.in_ok-enter.ensures.deeper c.requires c.in_ok-enter.ensures.reads e)

pub primary::quantified-returns-else-same_kind : goal.primary::quantified-returns-else-same_kind
primary::quantified-returns-else-same_kind t c =
    let other : same_kind (kind c.args.input.now) k.Count ≡ false = search rules in
    read-as (ap (λ p. p c.args.input.now) (bound-at (enter c.args.depth) (below term c.args.depth) (kind c.args.input.now) other)) (omega arith) c.quantifying.ensures

pub primary::unary-returns-in_ok-number-in-Number : goal.primary::unary-returns-in_ok-number-in-Number
primary::unary-returns-in_ok-number-in-Number t c = as-read (begun-at c.args.depth c.args.input.now k.Number (search rules)) c.in_ok-number-in-Number.ensures

pub primary::unary-returns-in_err-number-in-Number : goal.primary::unary-returns-in_err-number-in-Number
primary::unary-returns-in_err-number-in-Number t c =
    refuses c.from_residual.result c.from_residual.ensures.1 (begun-at c.args.depth c.args.input.now k.Number (search rules) ∙ c.in_err-number-in-Number.ensures.reads)

pub primary::unary-returns-in_ok-constant-in-True : goal.primary::unary-returns-in_ok-constant-in-True
primary::unary-returns-in_ok-constant-in-True t c = as-read (begun-at c.args.depth c.args.input.now k.True (search rules)) c.in_ok-constant-in-True.ensures

pub primary::unary-returns-in_err-constant-in-True : goal.primary::unary-returns-in_err-constant-in-True
primary::unary-returns-in_err-constant-in-True t c =
    refuses c.from_residual-in_err-constant-in-True.result c.from_residual-in_err-constant-in-True.ensures.1
    (begun-at c.args.depth c.args.input.now k.True (search rules) ∙ c.in_err-constant-in-True.ensures.reads)

pub primary::unary-returns-in_ok-constant-in-False : goal.primary::unary-returns-in_ok-constant-in-False
primary::unary-returns-in_ok-constant-in-False t c = as-read (begun-at c.args.depth c.args.input.now k.False (search rules)) c.in_ok-constant-in-False.ensures

pub primary::unary-returns-in_err-constant-in-False : goal.primary::unary-returns-in_err-constant-in-False
primary::unary-returns-in_err-constant-in-False t c =
    refuses c.from_residual-in_err-constant-in-False.result c.from_residual-in_err-constant-in-False.ensures.1
    (begun-at c.args.depth c.args.input.now k.False (search rules) ∙ c.in_err-constant-in-False.ensures.reads)

pub chain::calculated_by-returns-in_err-first : goal.chain::calculated_by-returns-in_err-first
chain::calculated_by-returns-in_err-first t c =
    error-on c.from_residual.result _ c.from_residual.ensures.1
    (λ s h. if_fault c.in_err-first.field-0.0
    (λ bad e. calculation-fails c.args.depth s c.args.input.now (term_form c.args.first) c.args.operators bad h c.requires e)
    (known c.in_err-first.ensures c.operations-links.ensures).reads)

pub chain::calculated_by-returns-then-is_mixed : goal.chain::calculated_by-returns-then-is_mixed
chain::calculated_by-returns-then-is_mixed t c = record {
  reads = λ s h. let mixed : is_mixed c.args.operators (kind c.operations-links.new.input) ≡ true = search rules in
      rw c.refuse.ensures
      (calculation-mixed c.args.depth s c.args.input.now (term_form c.args.first) c.args.operators
      (arithmetic_links c.in_ok-first.links.items) c.operations-links.new.input h c.requires (known c.in_ok-first.ensures.1 c.operations-links.ensures).reads mixed);
  fewer = search rules;
}

pub chain::calculated_by-returns : goal.chain::calculated_by-returns
chain::calculated_by-returns t c =
    let links = known c.in_ok-first.ensures.1 c.operations-links.ensures in
    record {
      reads = λ s h. let other : is_mixed c.args.operators (kind c.operations-links.new.input) ≡ false = search rules in
          rw (c.in_ok-calculated.ensures, c.in_ok-first.ensures.0)
          (calculation-read c.args.depth s c.args.input.now (term_form c.args.first) c.args.operators
          (arithmetic_links c.in_ok-first.links.items) c.operations-links.new.input h c.requires links.reads other);
      fewer = omega (arith, links.fewer);
    }

-- ---- comparisons

pub chain::related_by-returns-in_err-left : goal.chain::related_by-returns-in_err-left
chain::related_by-returns-in_err-left t c =
    error-on c.from_residual.result _ c.from_residual.ensures.1
    (λ s h. relation-sign-fails c.args.relation c.args.depth s c.args.input.now (term_form c.args.left) h c.requires c.in_err-left.field-0.0
    (known-exactly _ _ _ c.in_err-left.ensures c.take_operator.ensures.reads))

pub chain::related_by-returns-in_err-left-2 : goal.chain::related_by-returns-in_err-left-2
chain::related_by-returns-in_err-left-2 t c =
    error-on c.from_residual-in_err-left-2.result _ c.from_residual-in_err-left-2.ensures.1
    (λ s h. let level = c.operand_level-level in
    if_fault c.in_err-left-2.field-0.0
    (λ bad e. relation-right-fails c.args.relation c.args.depth s c.args.input.now (term_form c.args.left) h c.requires level.result level.ensures
    (known-exactly _ _ _ c.in_ok-left.ensures.1 c.take_operator.ensures.reads) bad e)
    (known c.in_err-left-2.ensures c.term_at-right.ensures).reads)

pub chain::related_by-returns-then-is_related : goal.chain::related_by-returns-then-is_related
chain::related_by-returns-then-is_related t c = record {
  reads = λ s h. let again : is_related c.args.relation (kind c.term_at-right.new.input) ≡ true = search rules in
      rw c.refuse.ensures
      (relation-goes-on c.args.relation c.args.depth s c.args.input.now (term_form c.args.left) h c.requires c.operand_level-level.result c.operand_level-level.ensures
      (known-exactly _ _ _ c.in_ok-left.ensures.1 c.take_operator.ensures.reads) (known c.in_ok-left-2.ensures.1 c.term_at-right.ensures).reads again);
  fewer = search rules;
}

pub chain::related_by-returns : goal.chain::related_by-returns
chain::related_by-returns t c =
    let right = known c.in_ok-left-2.ensures.1 c.term_at-right.ensures in
    record {
      reads = λ s h. let other : is_related c.args.relation (kind c.term_at-right.new.input) ≡ false = search rules in
          rw (c.in_ok-compared.ensures, c.in_ok-left-2.ensures.0, c.in_ok-left.ensures.0)
          (relation-read c.args.relation c.args.depth s c.args.input.now (term_form c.args.left) h c.requires c.operand_level-level.result c.operand_level-level.ensures
          (known-exactly _ _ _ c.in_ok-left.ensures.1 c.take_operator.ensures.reads) right.reads other);
      fewer = omega (arith, right.fewer, on-ok-where c.take_operator.result c.in_ok-left.sign _ c.in_ok-left.ensures.1 c.take_operator.ensures.fewer);
    }

-- ---- chains of a connective

pub chain::links_behind-links-init : goal.chain::links_behind-links-init
chain::links_behind-links-init t c = record {
  reads = λ s x h. rw (c.in_ok-links.ensures.items, c.in_ok-links.ensures.len)
      (connection-is c.args.connective c.args.depth s
      ∙ resumed-first (symbol_kind c.args.connective) (TermForm.connected c.args.connective)
      (at (operand_level (Connective c.args.connective)) c.args.depth) (length s.tokens) s c.args.input.now x h.reads);
  room = omega (arith, c.in_ok-links.ensures.len);
}

-- the connective stands behind the links that are read
stands : (t : ℕ) (c : chain::links_behind-After-take_operator t) → same_kind (kind c.links.input) (symbol_kind c.args.connective) ≡ true
stands t c = search rules

pub chain::links_behind-returns-in_err-place-clause-reads : goal.chain::links_behind-returns-in_err-place-clause-reads
chain::links_behind-returns-in_err-place-clause-reads t c s x h =
    let place = (goal.at.chain::links_behind-returns-in_err-place-clause-reads t c).After-take_operator in
    rw (error-is c.from_residual-in_err-place.result _ c.from_residual-in_err-place.ensures.1)
    (c.links.invariant.reads s x h
    ∙ resumed-operator-fails (symbol_kind c.args.connective) (TermForm.connected c.args.connective) (at (operand_level (Connective c.args.connective)) c.args.depth)
    (length s.tokens - vec_len c.links.links) _ (term_links c.links.links.items) c.links.input c.in_err-place.field-0.0 (stands t place) c.in_err-place.ensures.reads)

pub chain::links_behind-returns-in_err-operand-clause-reads : goal.chain::links_behind-returns-in_err-operand-clause-reads
chain::links_behind-returns-in_err-operand-clause-reads t c s x h =
    let place = (goal.at.chain::links_behind-returns-in_err-operand-clause-reads t c).After-take_operator in
    let operands = operand_level (Connective c.args.connective) in
    let some : 0 < length s.tokens - vec_len c.links.links = omega (arith, h.fewer) in
    rw (error-is c.from_residual-in_err-operand.result _ c.from_residual-in_err-operand.ensures.1)
    (if_fault c.in_err-operand.field-0.0
    (λ bad e. c.links.invariant.reads s x h
    ∙ resumed-operand-fails (symbol_kind c.args.connective) (TermForm.connected c.args.connective) (at operands c.args.depth) (length s.tokens - vec_len c.links.links) _
    (term_links c.links.links.items) c.links.input c.take_operator.new.self (tok c.in_ok-place.field-0) bad some (stands t place) c.in_ok-place.ensures.reads
    (read-at c.operand_level-level.result operands c.args.depth c.take_operator.new.self c.operand_level-level.ensures e)) c.in_err-operand.ensures.reads)

pub chain::links_behind-links-preserved : goal.chain::links_behind-links-preserved
chain::links_behind-links-preserved t c =
    let place = (goal.at.chain::links_behind-links-preserved t c).After-take_operator in
    let operands = operand_level (Connective c.args.connective) in
    record {
      reads = λ s x h. let fewer = h.fewer in
          rw (c.in_ok-push.ensures.items, map_push)
          (c.links.invariant.reads s x h
          ∙ resumed-more (symbol_kind c.args.connective) (TermForm.connected c.args.connective) (at operands c.args.depth)
          (length s.tokens - vec_len c.links.links) (length s.tokens - vec_len c.push.new.self) _
          (term_links c.links.links.items) c.links.input c.take_operator.new.self c.term_at.new.input
          (tok c.in_ok-place.field-0) (term_form c.in_ok-operand.operand)
          (omega (arith, c.in_ok-push.ensures.len, c.links.invariant.room, fewer)) (stands t place) c.in_ok-place.ensures.reads
          (read-at c.operand_level-level.result operands c.args.depth c.take_operator.new.self c.operand_level-level.ensures c.in_ok-operand.ensures.reads));
      room = omega (arith, c.in_ok-place.ensures.fewer, c.in_ok-operand.ensures.fewer, c.in_ok-push.ensures.len);
    }

pub chain::links_behind-returns-clause-reads : goal.chain::links_behind-returns-clause-reads
chain::links_behind-returns-clause-reads t c s x h =
    let other : same_kind (kind c.links.input) (symbol_kind c.args.connective) ≡ false = search rules in
    c.links.invariant.reads s x h
    ∙ resumed-end (symbol_kind c.args.connective) (TermForm.connected c.args.connective) (at (operand_level (Connective c.args.connective)) c.args.depth)
    (length s.tokens - vec_len c.links.links) _ (term_links c.links.links.items) c.links.input other

pub chain::connected_by-returns-in_err-start : goal.chain::connected_by-returns-in_err-start
chain::connected_by-returns-in_err-start t c =
    error-on c.from_residual.result _ c.from_residual.ensures.1
    (λ s h. fails-where _ _ c.links_behind-links.result c.links_behind-links.new.input c.in_err-start.field-0.0 c.in_err-start.ensures
    (c.links_behind-links.ensures.reads s (term_form c.args.first) h))

pub chain::connected_by-returns : goal.chain::connected_by-returns
chain::connected_by-returns t c = record {
  reads = λ s h.
      rw (c.in_ok-joined.ensures, c.in_ok-start.ensures.0)
      (reads-where _ _ c.links_behind-links.result c.links_behind-links.new.input c.in_ok-start.links c.in_ok-start.ensures.1
      (c.links_behind-links.ensures.reads s (term_form c.args.first) h));
  fewer = on-ok-where c.links_behind-links.result c.in_ok-start.links _ c.in_ok-start.ensures.1 c.links_behind-links.ensures.fewer;
}

-- ---- what an operator makes of a first operand

pub chain::joined_by-returns-in-Arithmetic : goal.chain::joined_by-returns-in-Arithmetic
chain::joined_by-returns-in-Arithmetic t c = rw c.in-Arithmetic.is (record { reads = λ s h. c.calculated_by.ensures.reads s h.reads; fewer = c.calculated_by.ensures.fewer })

pub chain::joined_by-returns-in-Relation : goal.chain::joined_by-returns-in-Relation
chain::joined_by-returns-in-Relation t c = rw c.in-Relation.is (record { reads = λ s h. c.related_by.ensures.reads s h.reads; fewer = c.related_by.ensures.fewer })

pub chain::joined_by-returns-in-Connective : goal.chain::joined_by-returns-in-Connective
chain::joined_by-returns-in-Connective t c =
    rw c.in-Connective.is (record {
      reads = λ s h. c.connected_by.ensures.reads s (record { reads = h.reads; fewer = h.fewer (connects c.in-Connective.connective) });
      fewer = c.connected_by.ensures.fewer;
    })

pub term::term_at-returns-in_err-whole : goal.term::term_at-returns-in_err-whole
term::term_at-returns-in_err-whole t c =
    fails-on c.from_residual.result c.from_residual.ensures.1 c.in_err-whole.ensures
    (λ bad e. quantified-fails c.args.depth c.args.limit c.args.input.now bad (search rules) e)

pub term::term_at-returns-then-begins_quantified : goal.term::term_at-returns-then-begins_quantified
term::term_at-returns-then-begins_quantified t c = record {
  reads = let both = and_parts (may_quantify c.args.limit) (is_binder (kind c.args.input.now)) (search rules) in
      c.operated.ensures.reads c.args.input.now (record { reads = lowest-quantified c.args.depth c.args.input.now both.1 ∙ c.in_ok-whole.ensures.reads; fewer = λ q. c.in_ok-whole.ensures.fewer });
  fewer = search rules;
}

pub term::term_at-returns-in-None : goal.term::term_at-returns-in-None
term::term_at-returns-in-None t c = record {
  reads = first-or-fails c.args.depth c.args.limit c.args.input.now c.unary-first.new.input c.unary-first.result (search rules)
      (λ q is above. c.in-None.ensures.none q (ap operator_of_token c.kind-2.ensures ∙ is) above) c.unary-first.ensures.reads;
  fewer = search rules;
}

pub term::term_at-returns-in_err-first-in-Some : goal.term::term_at-returns-in_err-first-in-Some
term::term_at-returns-in_err-first-in-Some t c =
    fails-on c.from_residual-in_err-first-in-Some.result c.from_residual-in_err-first-in-Some.ensures.1 c.in_err-first-in-Some.ensures
    (λ bad e. first-fails-as c.args.depth c.args.limit c.args.input.now bad (search rules) e)

pub term::term_at-returns-in_ok-first-in-Some : goal.term::term_at-returns-in_ok-first-in-Some
term::term_at-returns-in_ok-first-in-Some t c = record {
  reads = c.operated-in-Some.ensures.reads c.args.input.now (record { reads = c.in_ok-first-in-Some.ensures.reads; fewer = λ q. c.in_ok-first-in-Some.ensures.fewer });
  fewer = search rules;
}

pub term::operated-operators-preserved : goal.term::operated-operators-preserved
term::operated-operators-preserved t c = record {
  reads = λ s h fewer. ap (λ (v : Level). at v c.args.depth s) c.level_of-above.ensures
      ∙ c.in_ok-left.ensures.reads s
      (record {
        reads = before-operator c.args.depth c.operators.above c.in-Some.operator s c.operators.input
            (term_form c.operators.left) (ap operator_of_token (sym c.kind.ensures) ∙ c.in-Some.ensures.stands)
            c.in-Some.ensures.above (c.operators.invariant.reads s h fewer);
        fewer = λ may. let less = fewer (may-above (level_of c.in-Some.operator) c.args.levels.limit c.in-Some.ensures.within may) in omega (arith, c.operators.invariant.room);
      });
  within = subst (λ (v : Level). rank v ≤ rank c.args.levels.limit) (sym c.level_of-above.ensures) c.in-Some.ensures.within;
  room = omega (arith, c.operators.invariant.room, c.in_ok-left.ensures.fewer);
}

pub term::operated-returns-in_err-left : goal.term::operated-returns-in_err-left
term::operated-returns-in_err-left t c =
    error-on c.from_residual.result _ c.from_residual.ensures.1
    (λ s h. let q = c.in-Some.operator in
    let reads = c.operators.invariant.reads s h.reads h.fewer in
    if_fault c.in_err-left.field-0.0
    (λ bad e. operator-fails c.args.depth c.operators.above c.args.levels.limit q s c.operators.input (term_form c.operators.left) bad reads c.in-Some.ensures.above c.in-Some.ensures.within e)
    (c.in_err-left.ensures.reads s
    (record {
      reads = before-operator c.args.depth c.operators.above q s c.operators.input (term_form c.operators.left)
          (ap operator_of_token (sym c.kind.ensures) ∙ c.in-Some.ensures.stands) c.in-Some.ensures.above reads;
      fewer = λ may. let less = h.fewer (may-above (level_of q) c.args.levels.limit c.in-Some.ensures.within may) in omega (arith, c.operators.invariant.room);
    })))

pub term::operated-returns : goal.term::operated-returns
term::operated-returns t c = record {
  reads = λ s h. skips-to c.args.depth c.operators.above c.args.levels.limit s c.operators.input (term_form c.operators.left)
      c.operators.invariant.within
      (λ q is above. c.in_default.ensures.none q (ap operator_of_token c.kind.ensures ∙ is) above) (c.operators.invariant.reads s h.reads h.fewer);
  fewer = search rules;
}
