use Rattle.std.proofs.Common.{◌≡◌, ◌+◌, ◌-◌, ◌≤◌, ◌++◌, length, map, take}
use Rattle.std.specs.Prelude.{vec_len, vec_capacity}
use Rattle.pb_fixpoint_trees.specs.Kinds.{calls_in, kind_of}
use Rattle.pb_fixpoint_trees.proofs.token_lists.push_each.Given as goal

abbrev pub invariant-loop-token : goal.invariant-loop-token
invariant-loop-token l = record {
  kinds : l.kinds.items ≡ l.fn.kinds.items ++ map kind_of (take l.token-index l.more);
  calls : l.calls.items ≡ l.fn.calls.items ++ calls_in (take l.token-index l.more);
  room_for_kinds : vec_len l.kinds + (length l.more - l.token-index) ≤ vec_capacity l.kinds;
  room_for_calls : vec_len l.calls + (length l.more - l.token-index) ≤ vec_capacity l.calls;
}
