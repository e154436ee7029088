use Rattle.std.proofs.Common.{List, All, map, sym, ap, subst, ◌∙◌}
use Rattle.pb_fixpoint_trees.specs.Row.{TokenRow}
use Rattle.pb_fixpoint_trees.specs.Entries.{IsThere, row_there, rows_in}
use Rattle.pb_fixpoint_trees.proofs.Gathered.{all_listed, same_rows}
use Rattle.pb_fixpoint_trees.proofs.index.IndexedRows.new.Goals as goal

pub invariant_of-order : goal.invariant_of-order
invariant_of-order c =
    let parts = c.in_ok-parts.parts.items in let index = c.args.index.items in
    let there : All (IsThere (map rows_in parts)) index = subst (λ (ls : List (List TokenRow)). All (IsThere ls) index) (sym c.in_ok-parts.ensures.rows) c.requires in
    rw (c.in_ok-lists.ensures, c.in_ok-entries.ensures, c.deref.ensures.value, c.deref-2.ensures.value) (all_listed parts c.in_ok-parts.ensures.inside index there)

pub returns : goal.returns
returns c =
    let parts = c.in_ok-parts.parts.items in let index = c.args.index.items in
    let there : All (IsThere (map rows_in parts)) index = subst (λ (ls : List (List TokenRow)). All (IsThere ls) index) (sym c.in_ok-parts.ensures.rows) c.requires in
    rw (c.in_ok-lists.ensures, c.in_ok-entries.ensures, c.deref.ensures.value, c.deref-2.ensures.value)
    (same_rows parts index there ∙ ap (λ ls. map (row_there ls) index) c.in_ok-parts.ensures.rows)
