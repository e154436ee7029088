-- Entries in the order of an index, beside the rows of their lists.
use Rattle.std.proofs.Common.{◌≡◌, ℕ, suc, ◌<◌, List, [], ◌∷◌, All, map, length, slice_index_or, sym, refl, ap, subst, ◌∙◌, arith}
use Rattle.std.proofs.lemmas.List.{get_or-map, length-map}
use Rattle.std.proofs.lemmas.List.Elements.{All-map, All-weaker}
use Rattle.pb_fixpoint_trees.specs.declared.Token.{Token}
use Rattle.pb_fixpoint_trees.specs.declared.entry.Entry.{Entry}
use Rattle.pb_fixpoint_trees.specs.declared.rows.Parts.{Parts}
use Rattle.pb_fixpoint_trees.specs.declared.index.Place.{Place}
use Rattle.pb_fixpoint_trees.specs.Row.{TokenRow, nothing}
use Rattle.pb_fixpoint_trees.specs.Entries.{AreInside, IsInside, IsListed, IsThere, entries_in, entry_there, listed_row, no_entry, row_at, row_there, rows_in, tokens_in}

-- the parts of one of the lists
record PartsAt (lists : List Parts) (k : ℕ) : Type 0 where
  parts : Parts
  rows : slice_index_or (map rows_in lists) k [] ≡ rows_in parts
  tokens : slice_index_or (map tokens_in lists) k [] ≡ tokens_in parts
  entries : slice_index_or (map entries_in lists) k [] ≡ entries_in parts
  inside : All AreInside lists → AreInside parts

parts_at : (lists : List Parts) (k : ℕ) → k < length lists → PartsAt lists k
parts_at [] k h = absurd (omega arith)
parts_at (first ∷ others) k h =
    let lists : List Parts = first ∷ others in
    record {
      parts = slice_index_or lists k first;
      rows = get_or-map rows_in lists k first [] h;
      tokens = get_or-map tokens_in lists k first [] h;
      entries = get_or-map entries_in lists k first [] h;
      inside = λ all. all k first h;
    }

module _ (lists : List Parts) where
  list_is : (p : Place) → IsThere (map rows_in lists) p → PartsAt lists p.list
  list_is p there = parts_at lists p.list (omega (arith, there.0, length-map lists rows_in))

  -- the entry at a place is one of its list's
  within : (p : Place) (there : IsThere (map rows_in lists) p) → p.entry < length (entries_in (list_is p there).parts)
  within p there =
      let at = list_is p there in
      omega (arith, there.1, ap length at.rows, length-map (entries_in at.parts) (row_at (tokens_in at.parts)))

  entry_is : (p : Place) (there : IsThere (map rows_in lists) p)
      → (entry_there lists p).entry ≡ slice_index_or (entries_in (list_is p there).parts) p.entry no_entry
  entry_is p there = ap (λ (es : List Entry). slice_index_or es p.entry no_entry) (list_is p there).entries

  listed : All AreInside lists → (p : Place) → IsThere (map rows_in lists) p → IsListed (map tokens_in lists) (entry_there lists p)
  listed inside p there =
      let at = list_is p there in
      let of_list : IsInside (tokens_in at.parts) (slice_index_or (entries_in at.parts) p.entry no_entry) =
      at.inside inside p.entry no_entry (within p there) in (
        omega (arith, there.0, length-map lists rows_in, length-map lists tokens_in),
        subst (λ (ts : List Token). IsInside ts (entry_there lists p).entry) (sym at.tokens)
            (subst (IsInside (tokens_in at.parts)) (sym (entry_is p there)) of_list),
      )

  same_row : (p : Place) → IsThere (map rows_in lists) p
      → listed_row (map tokens_in lists) (entry_there lists p) ≡ row_there (map rows_in lists) p
  same_row p there =
      let at = list_is p there in
      ap (λ (ts : List Token). row_at ts (entry_there lists p).entry) at.tokens
      ∙ (ap (row_at (tokens_in at.parts)) (entry_is p there)
      ∙ (sym (get_or-map (row_at (tokens_in at.parts)) (entries_in at.parts) p.entry no_entry nothing (within p there))
      ∙ sym (ap (λ (rs : List TokenRow). slice_index_or rs p.entry nothing) at.rows)))

  pub all_listed : All AreInside lists → (index : List Place) → All (IsThere (map rows_in lists)) index
      → All (IsListed (map tokens_in lists)) (map (entry_there lists) index)
  all_listed inside index there =
      All-map (IsListed (map tokens_in lists)) (entry_there lists) index
      (All-weaker (IsThere (map rows_in lists)) (λ p. IsListed (map tokens_in lists) (entry_there lists p)) (listed inside) index there)

  pub same_rows : (index : List Place) → All (IsThere (map rows_in lists)) index
      → map (listed_row (map tokens_in lists)) (map (entry_there lists) index) ≡ map (row_there (map rows_in lists)) index
  same_rows [] there = refl
  same_rows (p ∷ ps) there =
      ap (λ r. r ∷ map (listed_row (map tokens_in lists)) (map (entry_there lists) ps)) (same_row p (there 0 p (omega arith)))
      ∙ ap (λ l. row_there (map rows_in lists) p ∷ l) (same_rows ps (λ k d l. there (suc k) d (omega arith)))
