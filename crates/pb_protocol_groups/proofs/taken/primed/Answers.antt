use Rattle.std.proofs.Common.{◌≡◌, true, List, ℕ, suc, sym, subst}
use Rattle.pb_base.specs.Names.{is_spelled}
use Rattle.pb_protocol_packer.specs.View.{name_bytes}
use Rattle.pb_protocol_groups.proofs.Primes.{primes-spelled}
use Rattle.pb_protocol_groups.proofs.taken.primed.Goals as goal

pub invariant_of-result : goal.invariant_of-result
invariant_of-result c = record {
  spelled = subst (λ (bs : List ℕ). is_spelled bs ≡ true) (sym c.loop.invariant) (primes-spelled (name_bytes c.args.name.now) (suc c.loop.counter) c.args.name.now.spelled);
}
