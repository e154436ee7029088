use Rattle.std.proofs.Common.{◌≡◌, drop}
use Rattle.pb_text_meaning.specs.Sorts.{declared}
use Rattle.pb_model_words.specs.View.{declarations}
use Rattle.pb_model_words.proofs.writing.declared.Given as goal

abbrev pub invariant-loop-sort : goal.invariant-loop-sort
invariant-loop-sort l =
    declared (declarations (drop l.sort-index l.sorts)) l.name ≡ declared (declarations l.sorts) l.name
