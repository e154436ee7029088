-- Tokens in two lists: what kinds they are of, and the numbers that they call.
use Rattle.std.proofs.Common.{◌≡◌, ℕ, ◌+◌, ◌<◌, ◌≤◌, List, [], ◌∷◌, ◌++◌, length, map, take, drop, slice_index_or, sym, refl, ap, subst, ◌∙◌, arith, length-append}
use Rattle.std.specs.Prelude.{◌||◌}
use Rattle.std.specs.List.{list_any}
use Rattle.std.proofs.lemmas.List.{take_at, drop_at, take-append-drop, take-map, drop-map, map-append, length-map, map_push, take_more}
use Rattle.pb_fixpoint_trees.specs.declared.Token.{Token}
use Rattle.pb_fixpoint_trees.specs.declared.Token.TheVariants as token
use Rattle.pb_fixpoint_trees.specs.declared.kind.Kind.{Kind}
use Rattle.pb_fixpoint_trees.specs.declared.entry.Entry.{Entry}
use Rattle.pb_fixpoint_trees.specs.Kinds.{IsSplit, calls_in, kind_is_cut, kind_of, woven}
use Rattle.pb_fixpoint_trees.specs.Row.{token_is_cut}
use Rattle.pb_fixpoint_trees.specs.Entries.{IsInside, tree_at}
use Rattle.pb_fixpoint_trees.specs.Laws.{KindsAndCallsDetermine}

woven-split : (ts : List Token) → woven (map kind_of ts) (calls_in ts) ≡ ts
woven-split [] = refl
woven-split (token.Call n ∷ ts) = ap (λ l. token.Call n ∷ l) (woven-split ts)
woven-split (t ∷ ts) = ap (λ l. t ∷ l) (woven-split ts)

pub calls-append : (xs ys : List Token) → calls_in (xs ++ ys) ≡ calls_in xs ++ calls_in ys
calls-append [] ys = refl
calls-append (token.Call n ∷ xs) ys = ap (λ l. n ∷ l) (calls-append xs ys)
calls-append (_ ∷ xs) ys = calls-append xs ys

-- there are no more calls than tokens
pub few_calls : (ts : List Token) → length (calls_in ts) ≤ length ts
few_calls [] = omega arith
few_calls (token.Call n ∷ ts) = let rest = few_calls ts in omega arith
few_calls (_ ∷ ts) = let rest = few_calls ts in omega arith

-- how many calls there are when tokens came behind others
pub length-calls-append : (xs ys zs : List Token) → zs ≡ xs ++ ys → length (calls_in zs) ≡ length (calls_in xs) + length (calls_in ys)
length-calls-append xs ys zs e = ap (λ l. length (calls_in l)) e ∙ (ap length (calls-append xs ys) ∙ length-append (calls_in xs) (calls_in ys))

pub kinds_and_calls_determine : KindsAndCallsDetermine
kinds_and_calls_determine xs ys kinds calls =
    sym (woven-split xs) ∙ (ap (λ ks. woven ks (calls_in xs)) kinds ∙ (ap (woven (map kind_of ys)) calls ∙ woven-split ys))

-- the tokens of which two lists are the halves
module _ (ts : List Token) (kinds : List Kind) (numbers : List ℕ) (split : IsSplit ts kinds numbers) where
  pub woven_is : woven kinds numbers ≡ ts
  woven_is = ap (λ ks. woven ks numbers) split.of_kinds ∙ (ap (woven (map kind_of ts)) split.of_numbers ∙ woven-split ts)

  pub woven_split : IsSplit (woven kinds numbers) kinds numbers
  woven_split = record {
    of_kinds = split.of_kinds ∙ ap (map kind_of) (sym woven_is);
    of_numbers = split.of_numbers ∙ ap calls_in (sym woven_is);
  }

-- the two lists of a value that contracts see as these tokens
pub seen_split : (ts : List Token) (ks : List Kind) (ns : List ℕ) → woven ks ns ≡ ts → IsSplit (woven ks ns) ks ns → IsSplit ts ks ns
seen_split ts ks ns seen split = subst (λ l. IsSplit l ks ns) seen split

pub kinds_long : (ts : List Token) (ks : List Kind) (ns : List ℕ) → IsSplit ts ks ns → length ks ≡ length ts
kinds_long ts ks ns split = ap length split.of_kinds ∙ length-map ts kind_of

-- two lists that others were added to
pub split-append : (xs ys : List Token) (ks ls : List Kind) (ns ms : List ℕ) → IsSplit xs ks ns → IsSplit ys ls ms
    → (kinds : List Kind) (numbers : List ℕ) → kinds ≡ ks ++ ls → numbers ≡ ns ++ ms → IsSplit (xs ++ ys) kinds numbers
split-append xs ys ks ls ns ms left right kinds numbers of_kinds of_numbers = record {
  of_kinds = of_kinds ∙ (ap (λ l. l ++ ls) left.of_kinds ∙ (ap (λ l. map kind_of xs ++ l) right.of_kinds ∙ sym (map-append kind_of xs ys)));
  of_numbers = of_numbers ∙ (ap (λ l. l ++ ms) left.of_numbers ∙ (ap (λ l. calls_in xs ++ l) right.of_numbers ∙ sym (calls-append xs ys)));
}

-- the calls of a part of a list of tokens
module _ (first count : ℕ) (ts : List Token) where
  abbrev before : List Token
  before = take first ts

  abbrev part : List Token
  part = take count (drop first ts)

  abbrev behind : List Token
  behind = drop count (drop first ts)

  parts_call : calls_in ts ≡ calls_in before ++ (calls_in part ++ calls_in behind)
  parts_call =
      ap calls_in (sym (take-append-drop first ts))
      ∙ (calls-append before (drop first ts)
      ∙ ap (λ l. calls_in before ++ l) (ap calls_in (sym (take-append-drop count (drop first ts))) ∙ calls-append part behind))

  calls-part : take (length (calls_in part)) (drop (length (calls_in before)) (calls_in ts)) ≡ calls_in part
  calls-part =
      ap (λ l. take (length (calls_in part)) (drop (length (calls_in before)) l)) parts_call
      ∙ (ap (take (length (calls_in part))) (drop_at (calls_in before) (calls_in part ++ calls_in behind) _ refl)
      ∙ take_at (calls_in part) (calls_in behind) _ refl)

  calls-within : length (calls_in before) + length (calls_in part) ≤ length (calls_in ts)
  calls-within =
      let all = ap length parts_call in
      omega (arith, all, length-append (calls_in before) (calls_in part ++ calls_in behind), length-append (calls_in part) (calls_in behind))

-- the tokens of an entry's tree
pub split-tree : (ts : List Token) (ks : List Kind) (ns : List ℕ) (e : Entry) → IsSplit ts ks ns → IsInside ts e
    → IsSplit (tree_at ts e) (take e.count (drop e.first ks)) (take e.calls (drop e.first_call ns))
split-tree ts ks ns e split inside = record {
  of_kinds =
      ap (λ l. take e.count (drop e.first l)) split.of_kinds
      ∙ (ap (take e.count) (drop-map kind_of e.first ts) ∙ take-map kind_of e.count (drop e.first ts));
  of_numbers =
      ap (λ l. take e.calls (drop e.first_call l)) split.of_numbers
      ∙ (ap (λ n. take n (drop e.first_call (calls_in ts))) inside.calls
      ∙ (ap (λ n. take (length (calls_in (tree_at ts e))) (drop n (calls_in ts))) inside.before
      ∙ calls-part e.first e.count ts));
}

-- an entry's calls are among all
pub calls_within : (ts : List Token) (e : Entry) → IsInside ts e → e.first_call + e.calls ≤ length (calls_in ts)
calls_within ts e inside = let all = calls-within e.first e.count ts in omega (arith, all, inside.before, inside.calls)

cut-kind : (t : Token) → kind_is_cut (kind_of t) ≡ token_is_cut t
cut-kind token.Cut = refl
cut-kind _ = refl

pub any-cut : (ts : List Token) → list_any kind_is_cut (map kind_of ts) ≡ list_any token_is_cut ts
any-cut [] = refl
any-cut (t ∷ ts) = ap (λ b. b || list_any kind_is_cut (map kind_of ts)) (cut-kind t) ∙ ap (λ b. token_is_cut t || b) (any-cut ts)

-- one token more of some
module _ (ts : List Token) (i : ℕ) (d : Token) (inside : i < length ts) where
  pub kinds_more : map kind_of (take (i + 1) ts) ≡ map kind_of (take i ts) ++ kind_of (slice_index_or ts i d) ∷ []
  kinds_more = ap (map kind_of) (take_more ts i d inside) ∙ map_push kind_of (take i ts) (slice_index_or ts i d)

  pub calls_more : calls_in (take (i + 1) ts) ≡ calls_in (take i ts) ++ calls_in (slice_index_or ts i d ∷ [])
  calls_more = ap calls_in (take_more ts i d inside) ∙ calls-append (take i ts) (slice_index_or ts i d ∷ [])

pub no_call : (t : Token) → ((n : ℕ) → t ≡ token.Call n → ⊥) → calls_in (t ∷ []) ≡ []
no_call (token.Call n) other = absurd (other n refl)
no_call _ other = refl
