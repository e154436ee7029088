-- Where searches begin, while names come to be taken.
use Rattle.std.proofs.Common.{◌≡◌, ℕ, Bool, true, false, cond, refl, sym, ap, ◌∙◌, bytes_eq, String, Global, subst}
use Rattle.std.specs.Prelude.{string_bytes, Some, None, Result, Ok, Err, OnOk, OnErr}
use Rattle.std.specs.HashMap as map
use Rattle.std.specs.HashMap.{get_by_text}
use Rattle.std.specs.HashSet as set
use Rattle.std.specs.HashSet.{contains_text}
use Rattle.std.specs.List.{list_any}
use Rattle.std.specs.Map.{lookup}
use Rattle.std.specs.String.{string_eq}
use Rattle.std.proofs.lemmas.Map.Text.{hash_map_updates_text, hash_set_updates_text}
use Rattle.std.proofs.lemmas.Slice.Eq.{bytes_eq-Decides}
use Rattle.pb_text_meaning.specs.Syntax.{Name}
use Rattle.pb_model_translation.specs.Names.{numbered}
use Rattle.pb_model_names.specs.Taken.{NameSet, Starts, IsStart, AreStarts}

pub starts-none : (taken : NameSet) (starts : Starts) → map.IsEmpty starts → AreStarts taken starts
starts-none taken starts e x k has = by (ap (lookup (λ (s : String Global). bytes_eq x (string_bytes s))) e)
  where
    by : get_by_text starts x ≡ None → IsStart taken x k
    by none = cc (has, none)

-- no entry changes
pub starts-same : (taken : NameSet) (old new : Starts) → map.IsUnchanged old new → AreStarts taken old → AreStarts taken new
starts-same taken old new e h x k has = h x k (sym (ap (lookup (λ (s : String Global). bytes_eq x (string_bytes s))) e) ∙ has)

-- the search behind a name is to begin at a number
pub starts-put : (taken : NameSet) (old new : Starts) (key : String Global) (x : Name) (k : ℕ) → map.Updates string_eq old new key (Some k) → string_bytes key ≡ x → IsStart taken x k
    → AreStarts taken old → AreStarts taken new
starts-put taken old new key x k put is start h y m has = by (bytes_eq (string_bytes key) y) refl (sym (hash_map_updates_text (string_bytes key) old new (Some k) put y) ∙ has)
  where
    by : (b : Bool) → bytes_eq (string_bytes key) y ≡ b → cond b (Some k) (get_by_text old y) ≡ Some m → IsStart taken y m
    by true same e =
        let name : x ≡ y = sym is ∙ (bytes_eq-Decides (string_bytes key) y).0 same in
        let number : k ≡ m = cc in
        subst (λ (z : Name). IsStart taken z m) name (subst (IsStart taken x) number start)
    by false apart e = h y m e

-- ---- names come to be taken

abbrev Grows : NameSet → NameSet → Type 0
Grows old new = (x : Name) → contains_text old x ≡ true → contains_text new x ≡ true

grown : (old new : NameSet) (starts : Starts) → Grows old new → AreStarts old starts → AreStarts new starts
grown old new starts grows h x k has = let start = h x k has in (start.0, λ i some below. grows (numbered x i) (start.1 i some below))

-- none does
pub starts-unchanged : (old new : NameSet) (starts : Starts) → set.IsUnchanged old new → AreStarts old starts → AreStarts new starts
starts-unchanged old new starts e = grown old new starts (λ x has. ap (list_any (λ (k : String Global). bytes_eq x (string_bytes k))) e ∙ has)

-- one does
pub starts-more : (old new : NameSet) (starts : Starts) (key : String Global) → set.Updates string_eq old new key true → AreStarts old starts → AreStarts new starts
starts-more old new starts key put = grown old new starts (λ x has. hash_set_updates_text (string_bytes key) old new true put x ∙ by (bytes_eq (string_bytes key) x) (contains_text old x) has)
  where
    by : (a b : Bool) → b ≡ true → cond a true b ≡ true
    by true b h = refl
    by false b h = h

-- a name is put into the set, or memory was refused
pub starts-inserted : {T E : Type 0} (r : Result T E) (old new : NameSet) (starts : Starts) (key : String Global) → OnOk r (set.Updates string_eq old new key true) → OnErr r (set.IsUnchanged old new)
    → AreStarts old starts → AreStarts new starts
starts-inserted (Ok x) old new starts key put kept = starts-more old new starts key put
starts-inserted (Err e) old new starts key put kept = starts-unchanged old new starts kept

-- a search is to begin at a number, or memory was refused
pub starts-moved : {T E : Type 0} (r : Result T E) (taken : NameSet) (old new : Starts) (key : String Global) (x : Name) (k : ℕ) → OnOk r (map.Updates string_eq old new key (Some k))
    → OnErr r (map.IsUnchanged old new) → string_bytes key ≡ x → IsStart taken x k → AreStarts taken old → AreStarts taken new
starts-moved (Ok y) taken old new key x k put kept is start = starts-put taken old new key x k put is start
starts-moved (Err e) taken old new key x k put kept is start = starts-same taken old new kept
