-- Rows of entries, while the tokens grow at the end.
use Rattle.std.proofs.Common.{◌≡◌, suc, ◌-◌, List, [], ◌∷◌, ◌++◌, All, map, length, take, drop, Result, Ok, Err, sym, refl, ap, ◌∙◌, arith, length-append}
use Rattle.std.specs.Prelude.{OnErr}
use Rattle.std.proofs.lemmas.List.{take-append-le, drop-append-le, length-drop, length-take-le, drop_at, take_at, take_all, map_push}
use Rattle.std.proofs.lemmas.List.Elements.{All-push, All-weaker}
use Rattle.pb_fixpoint_trees.specs.declared.Token.{Token}
use Rattle.pb_fixpoint_trees.specs.declared.entry.Entry.{Entry}
use Rattle.pb_fixpoint_trees.specs.Kinds.{calls_in}
use Rattle.pb_fixpoint_trees.specs.Row.{row_of_tokens}
use Rattle.pb_fixpoint_trees.specs.Entries.{IsInside, row_at, tree_at}

-- a tree has as many tokens as its entry says
pub tree_long : (tokens : List Token) (e : Entry) → IsInside tokens e → length (row_at tokens e).tree ≡ e.count
tree_long tokens e h = length-take-le e.count (drop e.first tokens) (let d = length-drop e.first tokens in omega (arith, h.within))

-- an entry of tokens that come behind others
pub record IsBehind (tokens more : List Token) (e : Entry) : Type 0 where
  pub first : e.first ≡ length tokens
  pub first_call : e.first_call ≡ length (calls_in tokens)
  pub count : e.count ≡ length more
  pub calls : e.calls ≡ length (calls_in more)

-- entries of tokens that grow at the end
module _ (tokens more : List Token) where
  same_tree : (e : Entry) → IsInside tokens e → tree_at (tokens ++ more) e ≡ tree_at tokens e
  same_tree e h =
      let d : length (drop e.first tokens) ≡ length tokens - e.first = length-drop e.first tokens in
      ap (take e.count) (drop-append-le e.first tokens more (omega (arith, h.within)))
      ∙ take-append-le e.count (drop e.first tokens) more (omega (arith, h.within))

  stays_inside : (e : Entry) → IsInside tokens e → IsInside (tokens ++ more) e
  stays_inside e h = record {
    within = omega (arith, h.within, length-append tokens more);
    before = h.before ∙ ap (λ l. length (calls_in l)) (sym (take-append-le e.first tokens more (omega (arith, h.within))));
    calls = h.calls ∙ ap (λ l. length (calls_in l)) (sym (same_tree e h));
  }

  pub stay_inside : (es : List Entry) → All (IsInside tokens) es → All (IsInside (tokens ++ more)) es
  stay_inside es h = All-weaker (IsInside tokens) (IsInside (tokens ++ more)) stays_inside es h

  pub same_rows : (es : List Entry) → All (IsInside tokens) es → map (row_at (tokens ++ more)) es ≡ map (row_at tokens) es
  same_rows [] h = refl
  same_rows (e ∷ es) h =
      ap (λ t. row_of_tokens e.number t ∷ map (row_at (tokens ++ more)) es) (same_tree e (h 0 e (omega arith)))
      ∙ ap (λ l. row_at tokens e ∷ l) (same_rows es (λ k d l. h (suc k) d (omega arith)))

  -- an entry for the tokens at the end
  module _ (e : Entry) (new : IsBehind tokens more e) where
    new_tree : tree_at (tokens ++ more) e ≡ more
    new_tree = ap (take e.count) (drop_at tokens more e.first (sym new.first)) ∙ take_all e.count more (omega (arith, new.count))

    new_inside : IsInside (tokens ++ more) e
    new_inside = record {
      within = omega (arith, new.first, new.count, length-append tokens more);
      before = new.first_call ∙ ap (λ l. length (calls_in l)) (sym (take_at tokens more e.first (sym new.first)));
      calls = new.calls ∙ ap (λ l. length (calls_in l)) (sym new_tree);
    }

    pub pushed_inside : (es : List Entry) → All (IsInside tokens) es → All (IsInside (tokens ++ more)) (es ++ e ∷ [])
    pushed_inside es h = All-push (IsInside (tokens ++ more)) es e (stay_inside es h) new_inside

    pub pushed_rows : (es : List Entry) → All (IsInside tokens) es
        → map (row_at (tokens ++ more)) (es ++ e ∷ []) ≡ map (row_at tokens) es ++ row_of_tokens e.number more ∷ []
    pushed_rows es h =
        map_push (row_at (tokens ++ more)) es e
        ∙ (ap (λ l. l ++ row_at (tokens ++ more) e ∷ []) (same_rows es h)
        ∙ ap (λ t. map (row_at tokens) es ++ row_of_tokens e.number t ∷ []) new_tree)

-- a fact, of a result that is an error
pub on_err : {A E : Type 0} {P : Type 0} (r : Result A E) → P → OnErr r P
on_err (Ok x) p = tt
on_err (Err e) p = p
