use Rattle.std.proofs.Common.{◌≡◌, ◌++◌, suc}
use Rattle.std.specs.Prelude.{string_bytes}
use Rattle.pb_model_translation.specs.Names.{primes}
use Rattle.pb_protocol_packer.specs.View.{name_bytes}
use Rattle.pb_protocol_groups.proofs.taken.primed.Given as goal

abbrev pub invariant-loop : goal.invariant-loop
invariant-loop l = string_bytes l.text ≡ name_bytes l.name ++ primes (suc l.counter)
