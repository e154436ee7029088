use Rattle.std.proofs.Common.{◌≡◌, ◌<◌, ◌≤◌, ◌^◌, ℕ, length}
use Rattle.std.specs.Prelude.{slice_index}
use Rattle.pb_lifting.specs.Radix.{unit}
use Rattle.pb_lifting.specs.Measures.{base_of}
use Rattle.pb_lifting.proofs.scale.Scale.of.Given as goal

abbrev pub invariant-loop-priority : goal.invariant-loop-priority
invariant-loop-priority l = record {
  top : l.top ≡ unit (base_of l.game l.player) l.priority;
  small : l.top < 2 ^ 64;
  sized : length l.places ≡ 257;
  places : (p : ℕ) → p ≤ l.priority → slice_index l.places p ≡ unit (base_of l.game l.player) p;
}
