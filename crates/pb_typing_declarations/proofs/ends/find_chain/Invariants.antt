use Rattle.std.proofs.Common.{◌≡◌, ◌≤◌, ◌+◌, ◌-◌, ℕ}
use denote.Text.{Utf8}
use denote.Shadow.{shadow}
use Rattle.pb_typing_declarations.specs.Entries.{range_in, definition_in}
use Rattle.pb_typing_declarations.specs.Shapes.{end_within}
use Rattle.pb_typing_declarations.proofs.ends.find_chain.Given as goal

-- the chain that is left has the end of the whole one, through so many more sorts
abbrev pub invariant-loop-kept : goal.invariant-loop-kept
invariant-loop-kept l = record {
  utf8 : shadow (Utf8 l.sort);
  below : l.left ≤ l.limit;
  behind : (n : ℕ) → end_within ((l.limit - l.left) + n) (range_in l.ranges) (definition_in l.definitions) l.fn.sort ≡ end_within n (range_in l.ranges) (definition_in l.definitions) l.sort;
}

abbrev pub decreases-loop-kept : goal.decreases-loop-kept
decreases-loop-kept l = l.left
