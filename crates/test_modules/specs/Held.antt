-- What a seat holds from one step to the next.
use Rattle.std.specs.Prelude.{◌≡◌, ℕ}
use Rattle.pb_instances.specs.declared.view.InstanceView.{InstanceView}
use Rattle.pb_instances.specs.Rule.{mark_of}

-- what was taken, is taken
abbrev pub KeepsHeld : InstanceView → InstanceView → Type 0
KeepsHeld v w = (n : ℕ) → mark_of v n ≡ 2 → mark_of w n ≡ 2
