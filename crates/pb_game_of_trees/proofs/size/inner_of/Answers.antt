use Rattle.std.proofs.Common.{ℕ, ◌-◌, List, count_by, length, map, sym, ap, ◌∙◌, arith}
use Rattle.std.proofs.lemmas.List.{length-map}
use Rattle.std.proofs.lemmas.List.Sums.{count_by-le-length}
use Rattle.pb_fixpoint_trees.specs.declared.Token.{Token}
use Rattle.pb_fixpoint_trees.specs.declared.kind.Kind.{Kind}
use Rattle.pb_fixpoint_trees.specs.Kinds.{kind_of}
use Rattle.pb_game_of_trees.specs.Places.{is_closing}
use Rattle.pb_game_of_trees.proofs.Closing.{closing_tree, short_tree}
use Rattle.pb_game_of_trees.proofs.size.inner_of.Goals as goal

pub returns-then-tree_len-lt-LEAST_NESTED-clause-inner : goal.returns-then-tree_len-lt-LEAST_NESTED-clause-inner
returns-then-tree_len-lt-LEAST_NESTED-clause-inner c = λ tree e. sym (short_tree tree (omega (arith, ap length e, c.tree_len.ensures.value)))

pub returns-clause-inner : goal.returns-clause-inner
returns-clause-inner c = λ tree e.
    c.saturating_sub.ensures ∙ (ap (λ (n : ℕ). n - 1) c.count_closing.ensures
    ∙ (ap (λ (ks : List Kind). count_by is_closing ks - 1) c.kinds.ensures
    ∙ (ap (λ (ts : List Token). count_by is_closing (map kind_of ts) - 1) (c.tokens.ensures ∙ e) ∙ closing_tree tree)))

pub returns-clause-bound : goal.returns-clause-bound
returns-clause-bound c = omega (
  arith,
  c.saturating_sub.ensures,
  c.count_closing.ensures,
  count_by-le-length is_closing c.kinds.result.now,
  ap length c.kinds.ensures,
  length-map c.tokens.result kind_of,
  ap length c.tokens.ensures,
  c.tree_len.ensures.value,
  c.tree_len.ensures.small,
)
