use Rattle.std.proofs.Common.{◌≡◌, ℕ, List, length, get_or, set, ap, ◌∙◌, sym, subst, inl, inr, arith, length-set}
use Rattle.std.proofs.lemmas.Bool.{cases_eq}
use Rattle.std.specs.List.Sorted.{IsStrictlyIncreasing}
use Rattle.std.proofs.lemmas.List.{get_or-set_same, get_or-set_other, length-map}
use Rattle.pb_game.proofs.Rising.{rising_lt}
use Rattle.pb_fixpoint_trees.specs.Row.{nothing}
use Rattle.pb_fixpoint_trees.specs.Rows.{Row}
use Rattle.pb_game_of_trees.specs.Held.{Hold}
use Rattle.pb_game_of_trees.specs.Places.{numbers}
use Rattle.pb_game_of_trees.proofs.Rows.{number, numbers_of, number_at, AreBelow, numbered_alike}
use Rattle.pb_game_of_trees.proofs.Searched.{stands}
use Rattle.pb_game_of_trees.proofs.Dense.{dense}
use Rattle.pb_game_of_trees.proofs.numbering.number_vertices.Goals.{Start}
use Rattle.pb_game_of_trees.proofs.numbering.number_vertices.Goals as goal

-- whichever rows are held, their numbers are below the count
below : (c : Start) (plain : List Row) → Hold c.args.rows.now plain → AreBelow c.args.count c.args.rows.now plain
below c plain hold = numbered_alike c.args.count c.requires.within plain hold

pub invariant_of-result : goal.invariant_of-result
invariant_of-result c =
    let first = c.requires.within in
    record {
      rising = subst IsStrictlyIncreasing (numbers_of c.args.rows.now first.0 first.1 ∙ sym c.in_ok-numbers.ensures) first.2;
      sized = c.requires.lengths ∙ (sym (length-map c.args.rows.now number) ∙ ap length (sym c.in_ok-numbers.ensures));
    }

pub returns-then-len-count : goal.returns-then-len-count
returns-then-len-count c = λ plain hold.
    let are = below (goal.at.returns-then-len-count c).Start plain hold in
    let long : length (numbers plain) ≡ length plain = length-map plain (λ (row : Row). row.number) in λ k l.
    ap (λ (n : ℕ). get_or c.args.vertices.now n 0)
    (dense (numbers plain) are.rising (λ j h. let b = are.below j (omega (arith, h, long, are.size)) in omega (arith, b, long, are.size)) k (omega (arith, l, long)))

pub returns-then-len-count-2 : goal.returns-then-len-count-2
returns-then-len-count-2 c = λ plain hold.
    let are = below (goal.at.returns-then-len-count-2 c).Start plain hold in
    let list = c.in_ok-numbers.numbers.items in
    let vertices = c.args.vertices.now in
    let same : list ≡ numbers plain = c.in_ok-numbers.ensures ∙ sym (numbers_of c.args.rows.now plain hold) in
    let long : length list ≡ length c.args.rows.now = ap length c.in_ok-numbers.ensures ∙ length-map c.args.rows.now number in λ k l.
    stands list vertices (subst IsStrictlyIncreasing (sym same) are.rising) (get_or (numbers plain) k 0) k (omega (arith, l, are.size, long)) (ap (λ (ns : List ℕ). get_or ns k 0) same)

pub index_mut-requires : goal.index_mut-requires
index_mut-requires c =
    let rows = c.requires.within in
    let at = number_at c.args.rows.now rows.0 c.loop-k.k nothing rows.1 (omega arith) in
    let less = (below (goal.at.index_mut-requires c).Start rows.0 rows.1).below c.loop-k.k (omega arith) in
    omega (arith, c.number.ensures, at, less, c.loop-k.invariant.size, c.loop-k.table.ok.0)

pub loop-k-preserved : goal.loop-k-preserved
loop-k-preserved c =
    let l = c.loop-k in
    let here = c.number.result in
    let value = get_or c.args.vertices.now l.k 0 in
    record {
      size = length-set l.table.items here value ∙ l.invariant.size;
      placed = λ plain hold j less.
          let are = below (goal.at.loop-k-preserved c).Start plain hold in
          let own : here ≡ get_or (numbers plain) l.k 0 = c.number.ensures ∙ number_at c.args.rows.now plain l.k nothing hold (omega arith) in
          elim (cases_eq j l.k) [
            | inl e ↦
                let to : get_or (numbers plain) j 0 ≡ here = ap (λ (i : ℕ). get_or (numbers plain) i 0) e ∙ sym own in
                ap (λ (i : ℕ). get_or (set l.table.items here value) i 0) to
                ∙ (get_or-set_same l.table.items here value 0 (omega (arith, own, are.below l.k (omega arith), l.invariant.size))
                ∙ ap (λ (i : ℕ). get_or c.args.vertices.now i 0) (sym e))
            | inr ne ↦
                let long : length (numbers plain) ≡ length plain = length-map plain (λ (row : Row). row.number) in
                let earlier = rising_lt (numbers plain) are.rising j l.k (omega arith) (omega (arith, long, are.size)) in
                get_or-set_other l.table.items here (get_or (numbers plain) j 0) value 0 (λ e. omega (arith, earlier, own, e))
                ∙ l.invariant.placed plain hold j (omega arith)
          ];
    }
