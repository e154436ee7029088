use Rattle.std.proofs.Common.{◌≡◌, drop}
use Rattle.pb_model_text.specs.Grammar.{is_bound}
use Rattle.pb_model_text.specs.Reading.{names_of}
use Rattle.pb_model_text.proofs.scope.is_bound.Given as goal

abbrev pub invariant-loop-name : goal.invariant-loop-name
invariant-loop-name l = is_bound (names_of l.names) l.text ≡ is_bound (names_of (drop l.name-index l.names)) l.text
