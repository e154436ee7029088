-- The first line that rests on an instance, found from the last line on.
use Rattle.std.proofs.Common.{◌≡◌, ℕ, ◌+◌, ◌<◌, ◌≤◌, Bool, true, false, not, length, drop}
use Rattle.std.proofs.Common.{slice_index, ap, arith, if◌then◌else◌}
use Rattle.std.specs.List.{position_or_len}
use Rattle.std.proofs.lemmas.List.Sums.{prefix_len-drop_yes, prefix_len-drop_no, prefix_len-drop_all}
use Rattle.pb_game.specs.Adjacency.{is_among}
use Rattle.pb_evidence.specs.ProofGraphs.{Graph}

-- the first line from a place on that rests on the instance of line k
abbrev pub parent_behind : Graph → ℕ → ℕ → ℕ
parent_behind graph line k =
    line + position_or_len (λ x. is_among (graph.dependencies x) (slice_index graph.instances k))
    (drop line graph.instances)

pub parent_none : (graph : Graph) (line k : ℕ) → length graph.instances ≤ line
    → parent_behind graph line k ≡ line
parent_none graph line k over =
    let p : ℕ → Bool = λ x. not (is_among (graph.dependencies x) (slice_index graph.instances k)) in
    let e = prefix_len-drop_all p graph.instances line over in
    omega (arith, e)

-- one line more
pub parent_more : (graph : Graph) (line k : ℕ) (b : Bool) → line < length graph.instances
    → is_among (graph.dependencies (slice_index graph.instances line)) (slice_index graph.instances k) ≡ b
    → parent_behind graph line k ≡ (if b then line else parent_behind graph (line + 1) k)
parent_more graph line k true less is =
    let p : ℕ → Bool = λ x. not (is_among (graph.dependencies x) (slice_index graph.instances k)) in
    let e = prefix_len-drop_no p graph.instances line 0 less (ap not is) in
    omega (arith, e)
parent_more graph line k false less is =
    let p : ℕ → Bool = λ x. not (is_among (graph.dependencies x) (slice_index graph.instances k)) in
    let e = prefix_len-drop_yes p graph.instances line 0 less (ap not is) in
    omega (arith, e)
