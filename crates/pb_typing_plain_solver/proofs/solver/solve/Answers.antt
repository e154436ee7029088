use Rattle.std.proofs.Common.{◌≡◌, ◌∙◌, List, Bool, get_or, true, false, sym, ap, subst, arith, length, ◌<◌, true≢false}
use Rattle.std.proofs.lemmas.List.{length-replicate}
use Rattle.std.proofs.lemmas.Option.{slice_get_within}
use Rattle.pb_fixpoint.specs.Solution.{solution}
use Rattle.pb_sorts.specs.Instance.{instances}
use Rattle.pb_sorts.specs.Layout.{carriers_of}
use Rattle.pb_text_meaning.specs.Meaning.{equations_of}
use Rattle.pb_typing_values.specs.Environment.{environment_of}
use Rattle.pb_typing_plain_solver.specs.Bounds.{AreBounds}
use Rattle.pb_typing_plain_solver.proofs.OneEquation.{lower_bounds, upper_bounds, none_true, written}
use Rattle.pb_typing_plain_solver.proofs.Ready.{able, initial_there, laid, text, well}
use Rattle.pb_typing_plain_solver.proofs.Asked.{any-default, asked, asked-there}
use Rattle.pb_typing_plain_solver.proofs.solver.solve.Goals as goal

pub solve_from-requires-clause-least : goal.solve_from-requires-clause-least
solve_from-requires-clause-least c =
    let S = text c.args.typed.now in
    let t = environment_of S c.deref_mut.result.now in
    subst (λ (u : List Bool). AreBounds true (equations_of S) t (environment_of S u)) (sym (c.deref.ensures.value ∙ c.in_ok-least.ensures.items_if_clones_equal (λ y e. e))) (lower_bounds S _ t)

pub solve_from-requires-clause-greatest : goal.solve_from-requires-clause-greatest
solve_from-requires-clause-greatest c =
    let S = text c.args.typed.now in
    let t = environment_of S c.deref_mut.result.now in
    subst (λ (u : List Bool). AreBounds false (equations_of S) t (environment_of S u)) (sym (c.deref-2.ensures.value ∙ c.in_ok-greatest.ensures.items_if_clones_equal (λ y e. e)))
    (upper_bounds S c.args.typed.now.layout _ t (laid c.args.typed.now).carriers (able c.args.typed.now).apart c.count-count.ensures.count)

pub unreachable-requires : goal.unreachable-requires
unreachable-requires c =
    let typed = c.args.typed.now in
    let vs = c.in_ok-from_slice.field-0.items in
    let there = asked-there (text typed) typed.layout (record { equation = typed.initial.equation; values = vs }) (laid typed) (well typed)
    (initial_there typed vs (c.in_ok-from_slice.ensures.ok ∙ c.deref-3.ensures.value)) in
    true≢false (sym (c.in-None.ensures.exists.1 there))

pub returns : goal.returns
returns c =
    let typed = c.args.typed.now in
    let S = text typed in
    let truths = c.solve_from.new.truths in
    let v = c.in_ok-truths.truths in
    let n = c.in-Some.number in
    let is = initial_there typed c.in_ok-from_slice.field-0.items (c.in_ok-from_slice.ensures.ok ∙ c.deref-3.ensures.value) in
    let none = c.in_ok-truths.ensures.items_if_clones_equal (λ y e. e) in
    let solved = c.in_ok-solve_from.ensures
    ∙ ap (solution (equations_of S)) (ap (λ (u : List Bool). environment_of S u) (c.deref_mut.ensures.value ∙ none) ∙ none_true S _) in
    let long = ap (λ (ys : List Bool). length ys) c.deref_mut.ensures.value in
    let all = ap (λ (ys : List Bool). length ys) none ∙ length-replicate _ _ in
    let same : length truths ≡ length v.items = omega (arith, c.solve_from.auto.truths, long) in
    let lt : n < length truths = omega (arith, slice_get_within (instances (carriers_of typed.layout)) n _ c.in-Some.ensures.place, same, all, c.count-count.ensures.count) in
    c.index.ensures ∙ (ap (λ (xs : List Bool). get_or xs n c.index.result.now) (written v.items truths v.len same (sym v.ok.0))
    ∙ (any-default truths n c.index.result.now false lt
    ∙ asked S typed.layout truths n (record { equation = typed.initial.equation; values = c.in_ok-from_slice.field-0.items }) (laid typed) (well typed) is c.in-Some.ensures.place solved))
