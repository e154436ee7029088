-- The text of a formula of a model can be said, where both have words.
use Rattle.std.proofs.Common.{◌≤◌, sym, subst, arith}
use Rattle.pb_model_meaning.specs.Syntax.{Formula, Model}
use Rattle.pb_model_translation.specs.Translation.{total_count}
use Rattle.pb_model_translation.specs.Names.{names_of, translation}
use Rattle.pb_model_spelling.specs.Writable.{SpecWritable, ModalWritable, ModelWritable}
use Rattle.pb_model_spelling.specs.Laws.{TranslationsCanBeSaid}
use Rattle.pb_model_spelling.proofs.Depths.{text_said}
use Rattle.pb_model_spelling.proofs.Names.{names_are_words}
use Rattle.pb_model_spelling.proofs.Translated.{translation_writable}

translation_words : (model : Model) (f : Formula) → ModelWritable model → ModalWritable f → SpecWritable (translation model f)
translation_words model f m h =
    let within : total_count f ≤ total_count f = omega arith in
    translation_writable model (names_of f) (total_count f) (names_are_words f h) m f within h

pub translation_said : TranslationsCanBeSaid
translation_said model f x m h same = text_said x (subst SpecWritable (sym same) (translation_words model f m h))
