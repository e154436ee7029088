-- Of a name as many definitions are looked through as there are up to its last.
use Rattle.std.proofs.Common.{◌≡◌, ◌≤◌, ◌<◌, ◌+◌, ℕ, zero, suc, Bool, true, false, cond, List, [], ◌∷◌, map, take, length, get_or, Some, None, inl, inr, refl, sym, ◌∙◌, ap, subst, arith, bytes_eq, add-one, ◌-◌}
use Rattle.std.specs.Prelude.{◌⊎◌, ◌&&◌, Option, min, unwrap_or, option_map}
use Rattle.std.specs.List.{slice_get}
use Rattle.std.specs.Cmp.Lexicographic.{same_text}
use denote.Ref.{Bor}
use Rattle.std.specs.HashMap.{Updates, get_by}
use Rattle.std.proofs.lemmas.Bool.{cases_lt, false≢true}
use Rattle.std.proofs.Math.Nat.{min-eq_left, min-eq_right}
use Rattle.std.proofs.lemmas.Option.{slice_get-map, slice_get_past}
use Rattle.std.proofs.lemmas.Slice.Eq.{bytes_eq-Decides}
use Rattle.pb_text_meaning.specs.Syntax.{Name, same_name, Term, Terms, Spec}
use Rattle.pb_protocol_meaning.specs.Syntax as syntax
use Rattle.pb_protocol_unfolding.specs.PutIn.{Forms, are_as_many, with_definitions}
use Rattle.pb_protocol_unfolder_terms.specs.declared.context.Definition.{Definition}
use Rattle.pb_protocol_unfolder_terms.specs.Contexts.{definition_of}
use Rattle.pb_protocol_unfolder_terms.specs.Counts.{AreCounts, Counts, count_of}
use Rattle.pb_protocol_unfolder_terms.proofs.ContextLemmas.{definition-next}
use Rattle.pb_protocol_unfolder_terms.proofs.ReadLemmas.{none-not, some-is}

-- ---- as they are counted

-- of one more, what stands in the list is the last or stands among the others
taken : (ds : List Definition) (n k : ℕ) (e : Definition) → slice_get (take (suc n) ds) k ≡ Some e → ((k ≡ n) × (slice_get ds n ≡ Some e)) ⊎ (slice_get (take n ds) k ≡ Some e)
taken [] n k e there = absurd (none-not e there)
taken (d ∷ ds) zero zero e there = inl (refl, there)
taken (d ∷ ds) zero (suc k) e there = absurd (none-not e there)
taken (d ∷ ds) (suc n) zero e there = inr there
taken (d ∷ ds) (suc n) (suc k) e there = by (taken ds n k e there)
  where
    by : ((k ≡ n) × (slice_get ds n ≡ Some e)) ⊎ (slice_get (take n ds) k ≡ Some e)
        → ((suc k ≡ suc n) × (slice_get ds n ≡ Some e)) ⊎ (slice_get (d ∷ take n ds) (suc k) ≡ Some e)
    by (inl h) = inl (ap suc h.0, h.1)
    by (inr h) = inr h

item-there : (ds : List Definition) (n : ℕ) (d : Definition) → n < length ds → d ≡ get_or ds n d → slice_get ds n ≡ Some d
item-there [] n d within is = absurd (omega (arith, within))
item-there (e ∷ ds) zero d within is = ap Some (sym is)
item-there (e ∷ ds) (suc n) d within is = item-there ds n d (omega (arith, within)) is

within-taken : (ds : List Definition) (n k : ℕ) (e : Definition) → slice_get (take n ds) k ≡ Some e → k < n
within-taken [] zero k e there = absurd (none-not e there)
within-taken [] (suc n) k e there = absurd (none-not e there)
within-taken (d ∷ ds) zero k e there = absurd (none-not e there)
within-taken (d ∷ ds) (suc n) zero e there = omega arith
within-taken (d ∷ ds) (suc n) (suc k) e there = let less = within-taken ds n k e there in omega (arith, less)

abbrev count_at : Counts → Name → Option ℕ
count_at counts x = get_by (λ (y : Bor (List ℕ)). bytes_eq x y.now) counts

pub counted-more : (ds : List Definition) (n : ℕ) (d : Definition) (old new : Counts) → n < length ds → d ≡ get_or ds n d → AreCounts old (take n ds)
    → Updates (λ x y. bytes_eq x.now y.now) old new d.name (Some (n + 1)) → AreCounts new (take (n + 1) ds)
counted-more ds n d old new within is before updates k e there =
    by (bytes_eq d.name.now e.name.now) refl (taken ds n k e (subst (λ (m : ℕ). slice_get (take m ds) k ≡ Some e) (add-one n) there))
  where
    put : (b : Bool) → bytes_eq d.name.now e.name.now ≡ b → count_of new e.name.now ≡ unwrap_or (cond b (Some (n + 1)) (count_at old e.name.now)) 0
    put b h = ap (λ o. unwrap_or o 0) (updates.0 (record { ref_ptr = (0, 0); now = e.name.now }) ∙ ap (λ (b : Bool). cond b (Some (n + 1)) (count_at old e.name.now)) h)

    by : (b : Bool) → bytes_eq d.name.now e.name.now ≡ b → ((k ≡ n) × (slice_get ds n ≡ Some e)) ⊎ (slice_get (take n ds) k ≡ Some e) → k < count_of new e.name.now
    by true h (inl c) = let counted = put true h in omega (arith, counted, c.0)
    by true h (inr c) = let counted = put true h in let less = within-taken ds n k e c in omega (arith, counted, less)
    by false h (inl c) =
        let d-is : Some d ≡ Some e = sym (item-there ds n d within is) ∙ c.1 in
        absurd (false≢true (sym h ∙ (bytes_eq-Decides d.name.now e.name.now).1 (ap (λ (y : Definition). y.name.now) (some-is d e d-is))))
    by false h (inr c) = let counted = put false h in let less = before k e c in omega (arith, counted, less)

-- ---- as they are looked through

take-end : {A : Type 0} (xs : List A) (k : ℕ) → slice_get xs k ≡ None → take (suc k) xs ≡ take k xs
take-end [] zero end = refl
take-end [] (suc k) end = refl
take-end (x ∷ xs) zero end = absurd (none-not x (sym end))
take-end (x ∷ xs) (suc k) end = ap (λ ys. x ∷ ys) (take-end xs k end)

-- none of the definitions from the m-th on is of the name: they count as if they weren't there
passed : (sorts : Spec) (base : Forms) (ds : List Definition) (m : ℕ) (x : Name) → ((k : ℕ) (d : Definition) → m ≤ k → slice_get ds k ≡ Some d → d.name.now ≡ x → ⊥)
    → (j n : ℕ) → n ≡ j + m → (ts : Terms) → with_definitions sorts base (take n (map definition_of ds)) x ts ≡ with_definitions sorts base (take m (map definition_of ds)) x ts
passed sorts base ds m x none zero n next ts = let same : n ≡ m = omega (arith, next) in ap (λ (k : ℕ). with_definitions sorts base (take k (map definition_of ds)) x ts) same
passed sorts base ds m x none (suc j) n next ts =
    let same : n ≡ suc (j + m) = omega (arith, next) in
    ap (λ (k : ℕ). with_definitions sorts base (take k (map definition_of ds)) x ts) same
    ∙ by (slice_get ds (j + m)) refl ∙ passed sorts base ds m x none j (j + m) refl ts
  where
    -- as the list of all has it
    end-mapped : slice_get ds (j + m) ≡ None → take (suc (j + m)) (map definition_of ds) ≡ take (j + m) (map definition_of ds)
    end-mapped end = take-end (map definition_of ds) (j + m) (slice_get-map definition_of ds (j + m) ∙ ap (option_map definition_of) end)

    by : (o : Option Definition) → slice_get ds (j + m) ≡ o
        → with_definitions sorts base (take (suc (j + m)) (map definition_of ds)) x ts ≡ with_definitions sorts base (take (j + m) (map definition_of ds)) x ts
    by None end = ap (λ (es : List syntax.Definition). with_definitions sorts base es x ts) (end-mapped end)
    by (Some d) there =
        definition-next sorts base (map definition_of ds) (suc (j + m)) (j + m) (definition_of d) x ts refl (slice_get-map definition_of ds (j + m) ∙ ap (option_map definition_of) there)
        (other (same_name d.name.now x) (are_as_many (definition_of d).parameters ts) refl)
      where
        other : (b c : Bool) → same_name d.name.now x ≡ b → (same_name d.name.now x && c) ≡ false
        other true c e = absurd (none (j + m) d (omega arith) there (same_text d.name.now x (sym e)))
        other false c e = ap (λ (b : Bool). b && c) e

-- up to a place from which on there is none of the name, or there is nothing
looked-through : (sorts : Spec) (base : Forms) (ds : List Definition) (n m : ℕ) (x : Name) → m ≤ n → ((k : ℕ) (d : Definition) → m ≤ k → slice_get ds k ≡ Some d → d.name.now ≡ x → ⊥)
    → (ts : Terms) → with_definitions sorts base (take n (map definition_of ds)) x ts ≡ with_definitions sorts base (take m (map definition_of ds)) x ts
looked-through sorts base ds n m x within none ts =
    passed sorts base ds m x none (n - m) n (omega (arith, within)) ts

-- so it is up to the last of the name
pub enough : (sorts : Spec) (base : Forms) (ds : List Definition) (counts : Counts) (n among limit : ℕ) (x : Name) → AreCounts counts ds
    → among ≡ min n (length ds) → limit ≡ min among (count_of counts x) → (ts : Terms)
    → with_definitions sorts base (take n (map definition_of ds)) x ts ≡ with_definitions sorts base (take limit (map definition_of ds)) x ts
enough sorts base ds counts n among limit x are first second ts =
    by (cases_lt n (length ds)) ∙ by-count (cases_lt among (count_of counts x))
  where
    up_to : ℕ → Option Term
    up_to k = with_definitions sorts base (take k (map definition_of ds)) x ts

    behind : (k : ℕ) (d : Definition) → count_of counts x ≤ k → slice_get ds k ≡ Some d → d.name.now ≡ x → ⊥
    behind k d past there same = let less = subst (λ (y : Name). k < count_of counts y) same (are k d there) in omega (arith, past, less)

    by : (n < length ds) ⊎ (length ds ≤ n) → up_to n ≡ up_to among
    by (inl less) = ap up_to (sym (first ∙ min-eq_left (omega (arith, less))))
    by (inr more) =
        looked-through sorts base ds n (length ds) x more (λ k d past there same. none-not d (sym (slice_get_past ds k past) ∙ there)) ts
        ∙ ap up_to (sym (first ∙ min-eq_right more))

    by-count : (among < count_of counts x) ⊎ (count_of counts x ≤ among) → up_to among ≡ up_to limit
    by-count (inl less) = ap up_to (sym (second ∙ min-eq_left (omega (arith, less))))
    by-count (inr more) =
        looked-through sorts base ds among (count_of counts x) x more behind ts
        ∙ ap up_to (sym (second ∙ min-eq_right more))
