-- What a `Number` says.
use Rattle.std.specs.Prelude.{ℕ}
use Rattle.pb_model_sizes.specs.declared.number.Number.{Number}
use Rattle.pb_model_sizes.specs.Digits.{number_of_digits}

abbrev pub number_in : Number → ℕ
number_in n = number_of_digits n.digits.items
