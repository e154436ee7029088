use Rattle.std.proofs.Common.{◌≡◌, ℕ, get_or, false, Some}
use Rattle.std.specs.List.{slice_get}
use Rattle.pb_text_meaning.specs.Syntax.{Equation}
use Rattle.pb_typing_plain_solver.specs.Step.{AreSlots}
use Rattle.pb_sorts.specs.Instance.{first_of}
use Rattle.pb_sorts.specs.Layout.{carriers_of}
use Rattle.pb_typing_plain_solver.proofs.Ranges.{IsMixed}
use Rattle.pb_typing_plain_solver.proofs.Ready.{text}
use Rattle.pb_typing_plain_solver.proofs.Sets.{joined}
use Rattle.pb_typing_plain_solver.proofs.set.improve.Given as goal

-- below the number the truths are later_truth with those of the right side, and where none is another all are as they were
abbrev pub invariant-loop-number : goal.invariant-loop-number
invariant-loop-number l = record {
  mixed : (X : Equation) → slice_get (text l.turn.typed.now).equations l.turn.equation ≡ Some X
      → IsMixed (first_of (carriers_of l.turn.typed.now.layout) l.turn.equation) l.number (joined (text l.turn.typed.now) l.turn.typed.now.layout X l.below l.fn.truths) l.fn.truths l.truths;
  kept : l.changed ≡ false → (n : ℕ) → get_or l.truths n false ≡ get_or l.fn.truths n false;
  slots : (X : Equation) → slice_get (text l.turn.typed.now).equations l.turn.equation ≡ Some X → AreSlots (text l.turn.typed.now) X l.slots;
}
