use Rattle.std.proofs.Common.{rules, arith, ℕ, ◌≡◌, ◌∙◌, ◌<◌, suc, ◌-◌, true, false, length, map, ap}
use Rattle.std.proofs.lemmas.Result.{err_from_is_err_and}
use Rattle.pb_base.proofs.Faults.{if_fault}
use Rattle.pb_text_lexer.specs.Steps.{kind}
use Rattle.pb_text_formulas.specs.Reading.{is_name_kind, is_sort}
use Rattle.pb_model_text.specs.Links.{declared_sort_form}
use Rattle.pb_model_text.proofs.SortLemmas.{kept, kept-none, parts-refused, kept-end, kept-more, kept-fails, sorts-append}
use Rattle.pb_model_text.proofs.sort.sorts.Goals as goal

pub parts-init : goal.parts-init
parts-init c =
    let other : is_name_kind (kind c.args.input.now) ≡ false = search rules in
    rw c.new-sorts.ensures.items (suc (length c.args.input.now.tokens), omega arith, kept-none 64 c.args.input.now other)

pub returns-in_err-unless : goal.returns-in_err-unless
returns-in_err-unless c =
    let p = err_from_is_err_and c.from_residual.result c.from_residual.ensures.1 in
    rw (p.1, p.2) (rw c.in_err-unless.ensures.1 (parts-refused 64 c.args.input.now c.in_err-unless.ensures.0))

-- a turn is left
turn : (n i : ℕ) → i < n → n ≡ suc (n - 1)
turn n i h = omega arith

pub returns-in_err-part : goal.returns-in_err-part
returns-in_err-part c =
    let p = err_from_is_err_and c.from_residual-in_err-part.result c.from_residual-in_err-part.ensures.1 in
    let same : is_sort (kind c.parts.input) ≡ true = search rules in
    let n = c.parts.invariant.0 in
    let found = map declared_sort_form c.parts.sorts.items in
    rw (p.1, p.2) (if_fault c.in_err-part.field-0.0
    (λ bad e. c.parts.invariant.2 ∙ ap (λ k. kept 64 found k c.parts.input) (turn n (length c.parts.input.tokens) c.parts.invariant.1)
    ∙ kept-fails 64 found (n - 1) c.parts.input bad same e) c.in_err-part.ensures.reads)

pub parts-preserved : goal.parts-preserved
parts-preserved c =
    let same : is_sort (kind c.parts.input) ≡ true = search rules in
    let n = c.parts.invariant.0 in
    let found = map declared_sort_form c.parts.sorts.items in
    let less : length c.sort_part.new.input.tokens < n - 1 = omega (arith, c.parts.invariant.1, c.in_ok-part.ensures.fewer) in
    rw (c.in_ok-append.ensures.items, sorts-append) (
      n - 1,
      less,
      c.parts.invariant.2
          ∙ ap (λ k. kept 64 found k c.parts.input) (turn n (length c.parts.input.tokens) c.parts.invariant.1)
          ∙ kept-more 64 found (map declared_sort_form c.in_ok-part.part.items) (n - 1) c.parts.input c.sort_part.new.input same c.in_ok-part.ensures.reads,
    )

pub returns : goal.returns
returns c =
    let stops : is_sort (kind c.parts.input) ≡ false = search rules in
    c.parts.invariant.2 ∙ kept-end 64 (map declared_sort_form c.parts.sorts.items) c.parts.invariant.0 c.parts.input stops
