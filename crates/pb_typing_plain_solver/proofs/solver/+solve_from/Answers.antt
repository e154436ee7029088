use Rattle.std.proofs.Common.{◌≡◌, ◌+◌, ◌<◌, if◌then◌else◌, ◌∙◌, ℕ, List, Bool, true, false, Some, refl, sym, ap, subst, arith, length}
use Rattle.std.specs.List.{slice_get}
use Rattle.std.proofs.lemmas.Result.{on_ok_weaker}
use Rattle.pb_fixpoint.specs.Solution.{solution}
use Rattle.pb_sorts.specs.Instance.{size_of}
use Rattle.pb_sorts.specs.Layout.{carriers_of, count_of}
use Rattle.pb_text_meaning.specs.Syntax as syntax
use Rattle.pb_typing_plain_solver.specs.Bounds.{AreBounds}
use Rattle.pb_typing_plain_solver.specs.Side.{side_of}
use Rattle.pb_typing_plain_solver.specs.Step.{ChangesOnly, JoinsRight}
use Rattle.pb_typing_plain_solver.proofs.Ready.{text}
use Rattle.pb_typing_plain_solver.proofs.OneEquation.{written}
use Rattle.pb_typing_plain_solver.proofs.Solving.{IsFixed, IsMoved, IsStep, IsUnderway, behind, begins_at, bounds_kept, each_directed, ends_at, environment}
use Rattle.pb_typing_plain_solver.proofs.Solving.{fixed_at, goes_on, handed_on, length-chosen, solution_kept, stops_at}
use Rattle.pb_typing_plain_solver.proofs.solver.+solve_from.Goals as goal
use Rattle.pb_typing_plain_solver.proofs.solver.+solve_from.Goals.{Else-first-equation_count, After-take_set, After-directed, After-deref-in-loop-step}

-- there is an equation at the place
below : (t : ℕ) (c : Else-first-equation_count t) → c.args.first < length c.args.typed.now.layout
below t c = omega (arith, c.if-first-equation_count.false, c.equation_count.ensures.count, c.requires.within)

-- ---- both bounds are the same

fixed_set : (t : ℕ) (c : After-take_set t) → c.args.first < length c.args.typed.now.layout
    → IsFixed c.args.typed.now.layout c.args.first c.args.least.now c.args.greatest.now c.args.truths.now c.take_set.new.truths
fixed_set t c lt =
    fixed_at c.args.typed.now.layout c.args.first c.args.least.now c.args.greatest.now c.args.truths.now c.take_set.new.truths lt
    (c.same_set.ensures c.if-same_set.true) c.take_set.ensures.others c.take_set.ensures.taken

pub solve_from-requires : goal.solve_from-requires
solve_from-requires t c =
    let at = goal.at.solve_from-requires t c in
    let lt = below t at.Else-first-equation_count in
    let f = fixed_set t at.After-take_set lt in
    let low = bounds_kept c.args.typed.now c.args.first true lt f.low c.requires.least in
    let high = bounds_kept c.args.typed.now c.args.first false lt f.high c.requires.greatest in
    (omega (arith, c.decreases, lt), (omega (arith, lt), (omega (arith, c.requires.count, c.take_set.auto.truths), (c.requires.lower, (c.requires.upper, (low, high))))))

pub returns-then-same_set : goal.returns-then-same_set
returns-then-same_set t c =
    let at = goal.at.returns-then-same_set t c in
    let f = fixed_set t at.After-take_set (below t at.Else-first-equation_count) in
    on_ok_weaker c.solve_from.result (solution_kept c.args.typed.now c.args.first f c.requires.least c.requires.greatest c.solve_from.new.truths) c.solve_from.ensures

-- ---- the steps

-- the far bound has a truth for each instance
far_length : (t : ℕ) (c : After-directed t) → length c.directed.result.1.now ≡ count_of c.args.typed.now.layout
far_length t c =
    length-chosen (side_of c.index.result.now.sign) c.args.greatest.now c.args.least.now c.directed.result.1.now (count_of c.args.typed.now.layout) c.directed.ensures.far
    c.requires.upper c.requires.lower

-- what a call for the equations behind asks of its bounds
handed : (t : ℕ) (c : After-directed t) → c.args.first < length c.args.typed.now.layout → {cur kept : List Bool} {n : ℕ}
    → IsUnderway c.args.typed.now c.args.first c.args.truths.now n cur kept → (truths near low high : List Bool)
    → truths ≡ cur → near ≡ kept → length near ≡ count_of c.args.typed.now.layout
    → low ≡ (if side_of c.index.result.now.sign then near else c.directed.result.1.now) → high ≡ (if side_of c.index.result.now.sign then c.directed.result.1.now else near)
    → (length low ≡ count_of c.args.typed.now.layout) × ((length high ≡ count_of c.args.typed.now.layout)
    × (AreBounds true (behind c.args.typed.now c.args.first) (environment c.args.typed.now truths) (environment c.args.typed.now low)
    × AreBounds false (behind c.args.typed.now c.args.first) (environment c.args.typed.now truths) (environment c.args.typed.now high)))
handed t c lt u truths near low high same same_near long e f =
    let R = c.index.result.now in
    let far = c.directed.result.1.now in
    let n = count_of c.args.typed.now.layout in (
      length-chosen (side_of R.sign) near far low n e long (far_length t c),
      (
        length-chosen (side_of R.sign) far near high n f (far_length t c) long,
        handed_on c.args.typed.now c.args.first u R lt c.index.ensures c.args.least.now c.args.greatest.now far truths near low high
            c.directed.ensures.far c.requires.least c.requires.greatest same same_near e f,
      ),
    )

pub loop-step-init : goal.loop-step-init
loop-step-init t c =
    let lt = below t (goal.at.loop-step-init t c).Else-first-equation_count in
    let typed = c.args.typed.now in
    let R = c.index.result.now in
    let near = c.directed.result.0.now in
    let b = each_directed typed c.args.first R lt c.index.ensures c.args.truths.now c.args.least.now c.args.greatest.now near c.directed.result.1.now
    c.directed.ensures.near c.directed.ensures.far c.requires.least c.requires.greatest in
    let m : IsMoved typed.layout c.args.first near c.args.truths.now c.take_set-2.new.truths = record { others = c.take_set-2.ensures.others; taken = c.take_set-2.ensures.taken } in
    record {
      kept = c.in_ok-kept.ensures.len
          ∙ length-chosen (side_of R.sign) c.args.least.now c.args.greatest.now near (count_of typed.layout) c.directed.ensures.near c.requires.lower c.requires.upper;
      underway = begins_at typed c.args.first c.in_ok-kept.kept.items m c.in_ok-kept.ensures.items b.0;
    }

pub solve_from-requires-in-loop-step : goal.solve_from-requires-in-loop-step
solve_from-requires-in-loop-step t c =
    let at = goal.at.solve_from-requires-in-loop-step t c in
    let lt = below t at.Else-first-equation_count in
    let inv = c.loop-step.invariant in
    let d = c.directed-in-loop-step in
    let same = c.deref_mut.ensures.value ∙ c.in_ok-below.ensures.items in
    let count : length c.deref_mut.result.now ≡ count_of c.args.typed.now.layout =
    omega (arith, ap (λ (ys : List Bool). length ys) same, c.requires.count, c.loop-step.auto.truths) in (
      omega (arith, c.decreases, lt),
      (
        omega (arith, lt),
        (
          count,
          handed t at.After-directed lt inv.underway c.deref_mut.result.now c.deref.result.now d.result.0.now d.result.1.now same c.deref.ensures.value
              (omega (arith, c.deref.ensures.len, inv.kept)) d.ensures.near d.ensures.far,
        ),
      ),
    )

-- what the sets behind are after the call
whole : (t : ℕ) (c : After-deref-in-loop-step t) → c.deref-in-loop-step.result.now ≡ c.solve_from-in-loop-step.new.truths
whole t c =
    let v = c.in_ok-below.below in
    let long = ap (λ (ys : List Bool). length ys) c.deref_mut.ensures.value in
    c.deref-in-loop-step.ensures.value ∙ written v.items c.solve_from-in-loop-step.new.truths v.len (omega (arith, c.solve_from-in-loop-step.auto.truths, long)) (sym v.ok.0)

-- the sets behind are solved, and the set is joined with its right side
step : (t : ℕ) (c : After-deref-in-loop-step t) (next : List Bool) → ChangesOnly c.args.typed.now.layout c.args.first c.loop-step.truths next
    → ((X : syntax.Equation) → slice_get (text c.args.typed.now).equations c.args.first ≡ Some X
    → JoinsRight (text c.args.typed.now) c.args.typed.now.layout c.args.first X c.deref-in-loop-step.result.now c.loop-step.truths next)
    → IsStep c.args.typed.now c.args.first c.loop-step.truths c.deref-in-loop-step.result.now next
step t c next others joins =
    let typed = c.args.typed.now in
    record {
      solved = ap (λ (u : List Bool). environment typed u) (whole t c)
          ∙ (c.in_ok-solve_from.ensures ∙ ap (λ (u : List Bool). solution (behind typed c.args.first) (environment typed u)) (c.deref_mut.ensures.value ∙ c.in_ok-below.ensures.items));
      others = others;
      joins = joins;
    }

pub returns-then-not-changed : goal.returns-then-not-changed
returns-then-not-changed t c =
    let at = goal.at.returns-then-not-changed t c in
    let typed = c.args.typed.now in
    let s = step t at.After-deref-in-loop-step c.improve.new.truths c.in_ok-changed.ensures.others c.in_ok-changed.ensures.joins in
    ap (λ (u : List Bool). environment typed u) (c.copy_from_slice.ensures.after ∙ (c.deref-then-not-changed.ensures.value ∙ sym c.deref-in-loop-step.ensures.value))
    ∙ stops_at typed c.args.first c.loop-step.invariant.underway (below t at.Else-first-equation_count) s (c.in_ok-changed.ensures.unchanged c.if-not-changed.true)

pub loop-step-preserved : goal.loop-step-preserved
loop-step-preserved t c =
    let typed = c.args.typed.now in
    let s = step t (goal.at.loop-step-preserved t c).After-deref-in-loop-step c.improve.new.truths c.in_ok-changed.ensures.others c.in_ok-changed.ensures.joins in
    record {
      kept = omega (arith, c.in_ok-below.ensures.len, c.loop-step.auto.truths, c.requires.count);
      underway = subst (λ (u : List Bool). IsUnderway typed c.args.first c.args.truths.now (c.loop-step._step + 1) c.improve.new.truths u) c.deref-in-loop-step.ensures.value
          (goes_on typed c.args.first c.loop-step.invariant.underway s);
    }

pub solve_from-requires-2 : goal.solve_from-requires-2
solve_from-requires-2 t c =
    let at = goal.at.solve_from-requires-2 t c in
    let lt = below t at.Else-first-equation_count in
    let inv = c.loop-step.invariant in
    let d = c.directed-2 in
    let count : length c.loop-step.truths ≡ count_of c.args.typed.now.layout = omega (arith, c.requires.count, c.loop-step.auto.truths) in (
      omega (arith, c.decreases, lt),
      (
        omega (arith, lt),
        (
          count,
          handed t at.After-directed lt inv.underway c.loop-step.truths c.deref-2.result.now d.result.0.now d.result.1.now refl c.deref-2.ensures.value
              (omega (arith, c.deref-2.ensures.len, inv.kept)) d.ensures.near d.ensures.far,
        ),
      ),
    )

pub returns : goal.returns
returns t c =
    let all : c.loop-step._step ≡ size_of (carriers_of c.args.typed.now.layout) c.args.first =
    omega (arith, c.loop-step-test.false, c.loop-step.auto._step-end, c.size-step-end.ensures) in
    on_ok_weaker c.solve_from-2.result
    (ends_at c.args.typed.now c.args.first c.loop-step.invariant.underway c.solve_from-2.new.truths (below t (goal.at.returns t c).Else-first-equation_count) all) c.solve_from-2.ensures
