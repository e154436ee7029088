-- What joins truth values, and what a negation around turns it into (De Morgan).
use Rattle.std.specs.Prelude.{Bool, true, false, ◌&&◌, ◌||◌}
use Rattle.pb_fixpoint_trees.specs.declared.junction.Junction.{Junction}
use Rattle.pb_fixpoint_trees.specs.declared.junction.Junction.TheVariants.{Conjunction, Disjunction}

-- a junction of two truth values
abbrev pub joined : Junction → Bool → Bool → Bool
joined Conjunction x y = x && y
joined Disjunction x y = x || y

-- of no operands: an empty conjunction is true, an empty disjunction false
abbrev pub neutral : Junction → Bool
neutral Conjunction = true
neutral Disjunction = false

-- the other junction
abbrev pub dual : Junction → Junction
dual Conjunction = Disjunction
dual Disjunction = Conjunction
