use Rattle.std.proofs.Common.{◌≡◌, ℕ, get_or, true, false}
use Rattle.pb_sorts.specs.Instance.{first_of}
use Rattle.pb_sorts.specs.Layout.{carriers_of}
use Rattle.pb_typing_plain_solver.proofs.Ranges.{is_between}
use Rattle.pb_typing_plain_solver.proofs.set.same_set.Given as goal

-- below the number the truths are the same
abbrev pub invariant-loop-number : goal.invariant-loop-number
invariant-loop-number l = (n : ℕ) → is_between (first_of (carriers_of l.turn.typed.now.layout) l.turn.equation) l.number n ≡ true → get_or l.right n false ≡ get_or l.left n false
