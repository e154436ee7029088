use Rattle.std.proofs.Common.{◌∷◌, [], ◌++◌, map, ap, ◌∙◌}
use Rattle.std.proofs.lemmas.List.{map_push}
use Rattle.std.proofs.lemmas.List.Elements.{All-push, All-same}
use Rattle.pb_fixpoint_trees.specs.Entries.{AreInside, rows_in}
use Rattle.pb_fixpoint_trees.proofs.listed.parts_of.Goals as goal

pub loop-rows-preserved : goal.loop-rows-preserved
loop-rows-preserved c =
    let parts = c.loop-rows.parts.items in let more = c.into_parts.result in let old = c.loop-rows.invariant in (
      ap (map rows_in) c.in_ok-push.ensures.items
          ∙ (map_push rows_in parts more
          ∙ (ap (λ l. l ++ rows_in more ∷ []) old.0 ∙ ap (λ r. c.loop-rows.yielded ++ r ∷ []) c.into_parts.ensures.rows)),
      All-same AreInside c.push.new.self.items (parts ++ more ∷ []) c.in_ok-push.ensures.items
          (All-push AreInside parts more old.1 c.into_parts.ensures.inside),
    )
