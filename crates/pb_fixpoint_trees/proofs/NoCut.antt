-- Rows without a cut, where their lists have none.
use Rattle.std.proofs.Common.{◌≡◌, ℕ, Bool, true, false, List, [], All, map, take, drop, slice_index_or, sym, refl, ap, ◌∙◌}
use Rattle.std.specs.Prelude.{◌||◌}
use Rattle.std.specs.List.{list_any}
use Rattle.std.proofs.lemmas.List.{take-append-drop}
use Rattle.std.proofs.lemmas.List.Elements.{All-map, All-weaker}
use Rattle.std.proofs.lemmas.List.Folds.{list_any-append}
use Rattle.pb_fixpoint_trees.specs.declared.Token.{Token}
use Rattle.pb_fixpoint_trees.specs.declared.entry.Entry.{Entry}
use Rattle.pb_fixpoint_trees.specs.declared.listed.ListedEntry.{ListedEntry}
use Rattle.pb_fixpoint_trees.specs.Row.{HasNoCut, ListHasNoCut, token_is_cut}
use Rattle.pb_fixpoint_trees.specs.Entries.{IsListed, listed_row, row_at}

first_false : (a b : Bool) → (a || b) ≡ false → a ≡ false
first_false true b h = absurd (cc)
first_false false b h = refl

second_false : (a b : Bool) → (a || b) ≡ false → b ≡ false
second_false true b h = absurd (cc)
second_false false b h = h

-- of two lists that are one
halves : (i : ℕ) (tokens : List Token) → ListHasNoCut tokens → (list_any token_is_cut (take i tokens) || list_any token_is_cut (drop i tokens)) ≡ false
halves i tokens h = sym (list_any-append token_is_cut (take i tokens) (drop i tokens)) ∙ (ap (list_any token_is_cut) (take-append-drop i tokens) ∙ h)

in_row : (tokens : List Token) → ListHasNoCut tokens → (e : Entry) → HasNoCut (row_at tokens e)
in_row tokens h e =
    let rest : ListHasNoCut (drop e.first tokens) = second_false (list_any token_is_cut (take e.first tokens)) _ (halves e.first tokens h) in
    first_false (list_any token_is_cut (take e.count (drop e.first tokens))) _ (halves e.count (drop e.first tokens) rest)

-- rows of one list
pub in_rows : (tokens : List Token) (entries : List Entry) → ListHasNoCut tokens → All HasNoCut (map (row_at tokens) entries)
in_rows tokens entries h = All-map HasNoCut (row_at tokens) entries (λ k d l. in_row tokens h (slice_index_or entries k d))

-- rows of several lists
pub in_listed : (lists : List (List Token)) (entries : List ListedEntry) → All ListHasNoCut lists → All (IsListed lists) entries
    → All HasNoCut (map (listed_row lists) entries)
in_listed lists entries none inside =
    All-map HasNoCut (listed_row lists) entries
    (All-weaker (IsListed lists) (λ e. HasNoCut (listed_row lists e))
    (λ e at. in_row (slice_index_or lists e.list []) (none e.list [] at.0) e.entry) entries inside)
