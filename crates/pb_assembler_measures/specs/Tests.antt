-- The data term whose value a test of a normal form pushes.
use Rattle.std.specs.Prelude.{Bool, true, false}
use Rattle.pb_typing.specs.View.{is_positive}
use Rattle.pb_normal.specs.Normal.{Term}
use Rattle.pb_normal.specs.View.{term_view}
use Rattle.pb_assembler_measures.specs.declared.test.Test.{Test}

-- negated where the negations around it are odd in number
abbrev pub signed_term : Bool → Term → Term
signed_term true x = x
signed_term false x = Term.Not x

abbrev pub tested_term : Test → Term
tested_term t = signed_term (is_positive t.polarity) (term_view t.term.now)
