use Rattle.std.proofs.Common.{◌≡◌, ◌<◌, ◌+◌, ℕ, List, [], ◌∷◌, ◌++◌, length, get_or, inl, inr, arith, rules, sym, ◌∙◌, subst}
use Rattle.std.specs.List.{range_with_len}
use Rattle.std.proofs.lemmas.Bool.{cases_eq}
use Rattle.std.proofs.lemmas.List.{ext_get_or, get_or_append_left, length-append}
use Rattle.std.proofs.lemmas.List.FromFn.{length-range_with_len, get_or-range_with_len}
use Rattle.pb_zielonka.proofs.Lists.{last_item}
use Rattle.pb_zielonka.proofs.all_vertices.Goals as goal

at : (n i : ℕ) → i < n → get_or (range_with_len 0 n) i 0 ≡ i
at n i h = let e : get_or (range_with_len 0 n) i 0 ≡ 0 + i = get_or-range_with_len 0 n i 0 h in omega (arith, e)

one_more : (n : ℕ) (xs : List ℕ) → xs ≡ range_with_len 0 n → xs ++ n ∷ [] ≡ range_with_len 0 (n + 1)
one_more n xs e =
    let size : length xs ≡ n = rw e (length-range_with_len 0 n) in
    let longer : length (xs ++ n ∷ []) ≡ length xs + 1 = length-append xs (n ∷ []) in
    ext_get_or 0 (xs ++ n ∷ []) (range_with_len 0 (n + 1)) (omega (arith, longer, size, length-range_with_len 0 (n + 1))) (λ i h.
    let to : get_or (range_with_len 0 (n + 1)) i 0 ≡ i = at (n + 1) i (omega (arith, h, longer, size)) in
    let from : get_or (xs ++ n ∷ []) i 0 ≡ i = elim (cases_eq i n) [
      | inl same ↦ subst (λ (x : ℕ). get_or (xs ++ n ∷ []) x 0 ≡ n) (let there : length xs ≡ i = omega arith in there) (last_item xs n) ∙ sym same
      | inr ne ↦
          get_or_append_left xs (n ∷ []) 0 i (omega (arith, h, longer, size)) ∙
          subst (λ (ys : List ℕ). get_or ys i 0 ≡ i) (sym e) (at n i (omega (arith, h, longer, size)))
    ] in
    from ∙ sym to)

pub loop-v-preserved : goal.loop-v-preserved
loop-v-preserved c =
    let i = c.loop-v.invariant in
    let e : c.push.new.self.items ≡ c.loop-v.list.items ++ c.loop-v.v ∷ [] = search rules in
    record { end = i.end; so_far = e ∙ one_more c.loop-v.v c.loop-v.list.items i.so_far }
