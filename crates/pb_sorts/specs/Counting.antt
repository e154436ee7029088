-- How many instances may be declared (T12, L02, B05), by which of them count.
use Rattle.std.specs.Prelude.{ℕ}
use Rattle.pb_base.specs.declared.limits.TheConstants.{MAX_INSTANCES}
use Rattle.pb_sorts.specs.declared.counting.TheConstants.{MAX_NUMBERS}
use Rattle.pb_sorts.specs.declared.counting.Counting.{Counting}
use Rattle.pb_sorts.specs.declared.counting.Counting.TheVariants.{Declared, Reached}

abbrev pub instance_limit : Counting → ℕ
instance_limit Declared = MAX_INSTANCES
instance_limit Reached = MAX_NUMBERS
