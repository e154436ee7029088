-- How many vertices a draft has.
use Rattle.std.proofs.Common.{◌≡◌, List, length, ap, ◌∙◌}
use Rattle.std.proofs.lemmas.List.{length-map, length-reverse}
use Rattle.pb_fixpoint_trees.specs.Game.{Vertex}
use Rattle.pb_game_of_trees.specs.declared.draft.Draft.{Draft}
use Rattle.pb_game_of_trees.specs.Draft.{owners, IsDraft}

pub has_length : {draft : Draft} {vertices : List Vertex} → IsDraft draft vertices → length draft.owners.items ≡ length vertices
has_length {draft} {vertices} is = ap length is.owner ∙ (length-reverse (owners vertices) ∙ length-map vertices (λ (x : Vertex). x.owner))
