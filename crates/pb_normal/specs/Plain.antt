-- What is asked of a formula, of slots and of an assignment, so that the normal form keeps the
-- truth.
use Rattle.std.specs.Prelude.{Bool, true, false, not}
pub use Rattle.pb_typing_tree.specs.Plain.{IsPlain, AreFree, Agree}

-- a truth, negated where the negations around it are odd in number
abbrev pub signed : Bool → Bool → Bool
signed true b = b
signed false b = not b
