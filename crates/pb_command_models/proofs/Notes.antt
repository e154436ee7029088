-- Further lines at their places.
use Rattle.std.proofs.Common.{◌≡◌, ◌∙◌, ◌<◌, ◌≤◌, ℕ, List, [], length, drop, get_or, map, Option, Some, None, Bor, sym, ap, subst, string_bytes}
use Rattle.std.specs.Prelude.{String}
use Rattle.std.specs.declared.alloc.Global.{Global}
use Rattle.std.proofs.lemmas.List.{drop-map, drop_all, drop_more}
use Rattle.pb_command_models.specs.Models.{first_note}

pub note_past : (notes : List (String Global)) (k : ℕ) → length notes ≤ k → first_note (drop k (map string_bytes notes)) ≡ []
note_past notes k past = ap first_note (drop-map string_bytes k notes ∙ ap (map string_bytes) (drop_all k notes past))

pub note_there : (notes : List (String Global)) (k : ℕ) (note : String Global) → k < length notes → note ≡ get_or notes k note → first_note (drop k (map string_bytes notes)) ≡ string_bytes note
note_there notes k note within is =
    ap first_note (drop-map string_bytes k notes ∙ ap (map string_bytes) (drop_more notes k note within)) ∙ ap string_bytes (sym is)
