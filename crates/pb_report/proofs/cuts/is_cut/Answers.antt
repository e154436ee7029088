use Rattle.std.proofs.Common.{ℕ, List, subst, refl}
use Rattle.std.specs.List.Sorted.{IsPermutation}
use Rattle.pb_report.proofs.Cutting.{read_cut}
use Rattle.pb_report.proofs.cuts.is_cut.Goals as goal

pub returns : goal.returns
returns c = λ tree spelled.
    let named = c.in_ok-named.named in
    let e = c.args.evidence.now in
    let moved = subst (λ (list : List ℕ). IsPermutation list named.numbers.items) c.dependencies.ensures c.in_ok-named.ensures.numbers in
    read_cut e.truth _ named.value named.numbers.items tree c.in_ok-uncut_truth.field-0 _ c.in_ok-named.ensures.value moved
    (c.in_ok-uncut_truth.ensures tree spelled) refl
