use Rattle.std.proofs.Common.{[], ◌∷◌, refl, arith}
use Rattle.pb_text_meaning.specs.Syntax.{Term}
use Rattle.pb_protocol_meaning.specs.Examples.{grant, c1, c2}
use Rattle.pb_protocol_unfolding.specs.Unfolding.{with_own}
use Rattle.pb_protocol_laws.proofs.named_steps.worked_instance.Goals as goal

pub returns : goal.returns
returns c = record { at = with_own grant (Term.Named c1 ∷ Term.Named c2 ∷ []); among = (5, omega arith, refl); named = refl; set = refl }
