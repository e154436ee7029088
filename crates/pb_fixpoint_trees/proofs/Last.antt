-- The last of tokens in two lists.
use Rattle.std.proofs.Common.{◌≡◌, ℕ, ◌+◌, ◌-◌, ◌≤◌, List, [], ◌∷◌, ◌++◌, Option, Some, None, length, map, take, slice_index_or, sym, refl, ap, ◌∙◌, arith, length-append}
use Rattle.std.proofs.lemmas.List.{take_at, take_all, take_more, get_or_push, map_push, length-map, append-nil}
use Rattle.pb_fixpoint_trees.specs.declared.Token.{Token}
use Rattle.pb_fixpoint_trees.specs.declared.Token.TheVariants as token
use Rattle.pb_fixpoint_trees.specs.declared.kind.Kind.{Kind}
use Rattle.pb_fixpoint_trees.specs.Kinds.{IsSplit, calls_in, kind_of, token_of, woven}
use Rattle.pb_fixpoint_trees.proofs.Split.{calls-append, woven_is, woven_split}

-- a list with an item at its end
module _ {A : Type 0} (xs : List A) (x : A) (l : List A) (e : l ≡ xs ++ x ∷ []) where
  long : length l ≡ length xs + 1
  long = ap length e ∙ length-append xs (x ∷ [])

  take_front : take (length l - 1) l ≡ xs
  take_front = ap (take (length l - 1)) e ∙ take_at xs (x ∷ []) (length l - 1) (let n = long in omega arith)

  get_last : (d : A) → slice_index_or l (length l - 1) d ≡ x
  get_last d = ap (λ k. slice_index_or k (length l - 1) d) e ∙ get_or_push xs x d (length l - 1) (let n = long in omega arith)

-- tokens with one at their end
record Parted (ts : List Token) : Type 0 where
  front : List Token
  last : Token
  is : ts ≡ front ++ last ∷ []

parted : (ts : List Token) → 1 ≤ length ts → Parted ts
parted ts some =
    let i : ℕ = length ts - 1 in
    record {
      front = take i ts;
      last = slice_index_or ts i token.And;
      is = sym (take_all (i + 1) ts (omega arith)) ∙ take_more ts i token.And (omega arith);
    }

other_is : (t u : Token) → token_of (kind_of t) ≡ Some u → (t ≡ u) × (calls_in (t ∷ []) ≡ [])
other_is (token.Call n) u h = absurd (cc)
other_is t u h = (cc, refl)

call_is : (t : Token) → token_of (kind_of t) ≡ None → (n : ℕ) × (t ≡ token.Call n)
call_is (token.Call n) h = (n, refl)
call_is _ h = absurd (cc)

-- the tokens of two lists are some, with one more at the end
pub record Ends (ts : List Token) (kinds : List Kind) (numbers : List ℕ) (last : Token) : Type 0 where
  pub split : IsSplit (woven kinds numbers) kinds numbers
  pub is : ts ≡ woven kinds numbers ++ last ∷ []

ends : (ts front : List Token) (t u : Token) (kinds : List Kind) (numbers : List ℕ) → ts ≡ front ++ t ∷ [] → t ≡ u → IsSplit front kinds numbers
    → Ends ts kinds numbers u
ends ts front t u kinds numbers e same split = record {
  split = woven_split front kinds numbers split;
  is = e ∙ (ap (λ x. front ++ x ∷ []) same ∙ ap (λ l. l ++ u ∷ []) (sym (woven_is front kinds numbers split)));
}

-- what the code finds of the last kind
module _ (ts : List Token) (kinds : List Kind) (numbers : List ℕ) (split : IsSplit ts kinds numbers) (some : 1 ≤ length kinds) where
  parts : Parted ts
  parts = parted ts (let n = ap length split.of_kinds ∙ length-map ts kind_of in omega arith)

  kinds_are : kinds ≡ map kind_of parts.front ++ kind_of parts.last ∷ []
  kinds_are = split.of_kinds ∙ (ap (map kind_of) parts.is ∙ map_push kind_of parts.front parts.last)

  numbers_are : numbers ≡ calls_in parts.front ++ calls_in (parts.last ∷ [])
  numbers_are = split.of_numbers ∙ (ap calls_in parts.is ∙ calls-append parts.front (parts.last ∷ []))

  kind_is : (d : Kind) (r : Option Token) → token_of (slice_index_or kinds (length kinds - 1) d) ≡ r → token_of (kind_of parts.last) ≡ r
  kind_is d r h = ap token_of (sym (get_last (map kind_of parts.front) (kind_of parts.last) kinds kinds_are d)) ∙ h

  before : take (length kinds - 1) kinds ≡ map kind_of parts.front
  before = take_front (map kind_of parts.front) (kind_of parts.last) kinds kinds_are

  -- it is no call
  pub ends_other : (d : Kind) (u : Token) → token_of (slice_index_or kinds (length kinds - 1) d) ≡ Some u
      → Ends ts (take (length kinds - 1) kinds) numbers u
  ends_other d u h =
      let at = other_is parts.last u (kind_is d (Some u) h) in
      ends ts parts.front parts.last u (take (length kinds - 1) kinds) numbers parts.is at.0 (record {
        of_kinds = before;
        of_numbers = numbers_are ∙ (ap (λ l. calls_in parts.front ++ l) at.1 ∙ append-nil (calls_in parts.front));
      })

  -- it is a call
  module _ (d : Kind) (h : token_of (slice_index_or kinds (length kinds - 1) d) ≡ None) where
    called : (n : ℕ) × (parts.last ≡ token.Call n)
    called = call_is parts.last (kind_is d None h)

    numbers_end : numbers ≡ calls_in parts.front ++ called.0 ∷ []
    numbers_end = numbers_are ∙ ap (λ t. calls_in parts.front ++ calls_in (t ∷ [])) called.1

    pub has_number : 1 ≤ length numbers
    has_number = let n = long (calls_in parts.front) called.0 numbers numbers_end in omega arith

    pub ends_call : Ends ts (take (length kinds - 1) kinds) (take (length numbers - 1) numbers) (token.Call (slice_index_or numbers (length numbers - 1) 0))
    ends_call =
        ends ts parts.front parts.last _ (take (length kinds - 1) kinds) (take (length numbers - 1) numbers) parts.is
        (called.1 ∙ ap (λ n. token.Call n) (sym (get_last (calls_in parts.front) called.0 numbers numbers_end 0)))
        (record {
          of_kinds = before;
          of_numbers = take_front (calls_in parts.front) called.0 numbers numbers_end;
        })
