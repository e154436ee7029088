use Rattle.std.proofs.Common.{◌∙◌, arith}
use Rattle.std.proofs.lemmas.Grind.{common_steps}
use Rattle.pb_model_words.proofs.Enumerators.{name-at}
use Rattle.pb_model_words.proofs.values.enumerator_at.Goals as goal

pub returns-in-Some : goal.returns-in-Some
returns-in-Some c =
    c.as_str.ensures.value ∙ name-at c.args.enumerators.now c.args.place c.in-Some.enumerator.now (grind (arith, common_steps)) (grind (arith, common_steps))
