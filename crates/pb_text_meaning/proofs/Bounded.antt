-- What fits is within the bound.
use Rattle.std.proofs.Common.{Bool, true, false, arith}
use Rattle.std.proofs.lemmas.Int.{ints}
use Rattle.pb_base_values.specs.Carrier.{of_bool}
use Rattle.pb_text_meaning.specs.Syntax.{Term, Spec}
use Rattle.pb_text_meaning.specs.Value.{Assignment, value}
use Rattle.pb_text_meaning.specs.Fits.{IsBounded, Fits}

bool_bounded : (b : Bool) → IsBounded (of_bool b)
bool_bounded true = record { low = omega (arith, ints); high = omega (arith, ints) }
bool_bounded false = record { low = omega (arith, ints); high = omega (arith, ints) }

pub fits_bounded : (spec : Spec) (a : Assignment) (x : Term) → Fits spec a x → IsBounded (value spec a x)
fits_bounded spec a (Term.Truth b) f = bool_bounded b
fits_bounded spec a (Term.Number n) f = f
fits_bounded spec a (Term.Named x) f = f
fits_bounded spec a (Term.Not x) f = bool_bounded _
fits_bounded spec a (Term.Negative x) f = f.1
fits_bounded spec a (Term.Binary o x y) f = f.3
fits_bounded spec a (Term.Apply g xs) f = f.1
fits_bounded spec a (Term.Quantified q xs x) f = bool_bounded _
