use Rattle.std.proofs.Common.{◌≡◌, ◌<◌, ◌++◌, ◌∙◌, sym, ap, subst, arith, w64, to_z, of_z, List, ℤ, length, map, get_or, true≢false}
use Rattle.std.proofs.lemmas.List.{length_push}
use Rattle.pb_base_values.proofs.Ends.{passed_word}
use Rattle.pb_typing_tree.specs.declared.formula.Argument.{Argument}
use Rattle.pb_typing_tree.specs.Fits.{AllFit}
use Rattle.pb_typing_tree.specs.View.{argument_view}
use Rattle.pb_typing_values.specs.Slots.{slots_of}
use Rattle.pb_typing_values.proofs.Called.{argument_fits, argument_values, values_more, values_all, other_length, numbered_truth, unnumbered_truth}
use Rattle.pb_typing_values.proofs.formula.call_truth.Goals as goal
use Rattle.pb_typing_values.proofs.formula.call_truth.Goals.{After-loop-argument}

pub returns-then-carriers-len : goal.returns-then-carriers-len
returns-then-carriers-len c = λ S laid.
    other_length laid c.args.environment.now.truths.now (slots_of c.args.slots.now) c.args.arguments.now.items c.args.equation c.requires.known
    c.carriers.result.now c.carriers.ensures.list (λ e. c.if-carriers-len.true (omega (arith, e, c.args.arguments.now.ok.0, c.len.ensures)))

pub value-requires : goal.value-requires
value-requires c =
    let a = slots_of c.args.slots.now in
    argument_fits (length c.args.slots.now) a c.deref-argument-items.result.now c.loop-argument.argument-index c.argument-item.result
    (subst (λ (xs : List Argument). AllFit (length c.args.slots.now) a (map argument_view xs)) (sym c.deref-argument-items.ensures.value) c.requires.fits) c.loop-argument-test.true c.argument-item.is

pub loop-argument-init : goal.loop-argument-init
loop-argument-init c =
    let vs = argument_values (slots_of c.args.slots.now) c.args.arguments.now.items in
    record {
      so_far = ap (λ (ws : List ℤ). ws ++ vs) c.new-values.ensures.items;
      count = ap (λ (ws : List ℤ). length ws) c.new-values.ensures.items;
      room = c.new-values.ensures.capacity;
    }

pub loop-argument-preserved : goal.loop-argument-preserved
loop-argument-preserved c =
    let a = slots_of c.args.slots.now in
    let xs = c.args.arguments.now.items in
    let same = c.deref-argument-items.ensures.value in
    let k = c.loop-argument.argument-index in
    let x = c.argument-item.result in
    record {
      so_far = values_more a xs k x c.loop-argument.values.items c.push_reserved.new.self.items (argument_values a xs) (to_z w64 (of_z w64 c.value.result))
          (subst (λ (ys : List Argument). k < length ys) same c.loop-argument-test.true) (subst (λ (ys : List Argument). x ≡ get_or ys k x) same c.argument-item.is)
          (passed_word _ _ c.value.type_inv c.value.ensures) c.push_reserved.ensures.items c.loop-argument.invariant.so_far;
      count = grind (arith, length_push, c.push_reserved.ensures.items, c.loop-argument.invariant.count);
      room = c.push_reserved.ensures.capacity ∙ c.loop-argument.invariant.room;
    }

-- the values are those of all arguments
all_taken : (c : After-loop-argument) → c.loop-argument.values.items ≡ argument_values (slots_of c.args.slots.now) c.args.arguments.now.items
all_taken c =
    let xs = c.args.arguments.now.items in
    let a = slots_of c.args.slots.now in
    values_all a xs c.loop-argument.argument-index c.loop-argument.values.items (argument_values a xs)
    (omega (arith, c.loop-argument-test.false, ap length c.deref-argument-items.ensures.value)) c.loop-argument.invariant.so_far

pub returns-in-Some : goal.returns-in-Some
returns-in-Some c = λ S laid.
    c.truth.ensures
    ∙ numbered_truth laid c.args.environment.now.truths.now (slots_of c.args.slots.now) c.args.arguments.now.items c.args.equation c.requires.known
    c.loop-argument.values.items c.in-Some.number (all_taken (goal.at.returns-in-Some c).After-loop-argument) c.in-Some.ensures.place

pub returns : goal.returns
returns c = λ S laid.
    unnumbered_truth laid c.args.environment.now.truths.now (slots_of c.args.slots.now) c.args.arguments.now.items c.args.equation c.requires.known
    c.loop-argument.values.items (all_taken (goal.at.returns c).After-loop-argument) (λ h. true≢false (sym (c.in-None.ensures.exists.1 h)))
