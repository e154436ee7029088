-- A permutation of elements keeps the number of those for which a condition is true.
use Rattle.std.proofs.Common.{◌≡◌, ℕ, ◌+◌, Bool, true, false, true≢false, not, ◌&&◌, ◌||◌, if◌then◌else◌, List, [], ◌∷◌, ◌++◌, map, flat_map, int_eq, refl, sym, ap, ◌∙◌, arith}
use Rattle.std.proofs.lemmas.Bool.{or_right}
use Rattle.std.proofs.lemmas.Bool.Decides.{Decides-int_eq}
use Rattle.pb_base_values.specs.Carrier.{Value, Carrier, contains}
use Rattle.pb_protocol_meaning.specs.Meaning.{true_count}
use Rattle.pb_protocol_symmetry.specs.Permutation.{IsPermutation, AreElements}
use Rattle.pb_protocol_symmetry.proofs.Carriers.{same_by, same_when_moved, within, back-within}
use Rattle.pb_protocol_symmetry.proofs.Distinct.{IsDistinct, differ}

-- the sum over the values of a carrier
abbrev pub total : (Value → ℕ) → Carrier → ℕ
total F [] = 0
total F (v ∷ c) = F v + total F c

-- ---- counts are sums

count-append : (bs cs : List Bool) → true_count (bs ++ cs) ≡ true_count bs + true_count cs
count-append [] cs = omega arith
count-append (true ∷ bs) cs = omega (arith, count-append bs cs)
count-append (false ∷ bs) cs = count-append bs cs

pub count-total : (f : Value → List Bool) (c : Carrier) → true_count (flat_map f c) ≡ total (λ v. true_count (f v)) c
count-total f [] = refl
count-total f (v ∷ c) = count-append (f v) (flat_map f c) ∙ ap (λ n. true_count (f v) + n) (count-total f c)

pub total-same : (F G : Value → ℕ) (c : Carrier) → ((v : Value) → contains c v ≡ true → F v ≡ G v) → total F c ≡ total G c
total-same F G [] h = refl
total-same F G (u ∷ c) h =
    ap (λ n. n + total F c) (h u (ap (λ b. b || contains c u) ((Decides-int_eq u u).1 refl))) ∙
    ap (λ n. G u + n) (total-same F G c (λ v e. h v (or_right (int_eq u v) (contains c v) e)))

total-map : (F : Value → ℕ) (p : Value → Value) (c : Carrier) → total F (map p c) ≡ total (λ v. F (p v)) c
total-map F p [] = refl
total-map F p (u ∷ c) = ap (λ n. F (p u) + n) (total-map F p c)

-- ---- carriers of the same values

without : Value → Carrier → Carrier
without w [] = []
without w (u ∷ c) = if int_eq u w then c else u ∷ without w c

total-without : (F : Value → ℕ) (w : Value) (c : Carrier) → contains c w ≡ true → total F c ≡ F w + total F (without w c)
unfolding without
total-without F w [] e = absurd (true≢false (sym e))
total-without F w (u ∷ c) e = by (int_eq u w) refl e (total-without F w c)
  where
    by : (b : Bool) → int_eq u w ≡ b → (b || contains c w) ≡ true → (contains c w ≡ true → total F c ≡ F w + total F (without w c)) → F u + total F c ≡ F w + total F (if b then c else u ∷ without w c)
    by true h e later = ap (λ v. F v + total F c) ((Decides-int_eq u w).0 h)
    by false h e later = omega (arith, later e)

contains-without : (w : Value) (c : Carrier) → IsDistinct c → (v : Value) → contains (without w c) v ≡ (contains c v && not (int_eq v w))
unfolding without
contains-without w [] h v = refl
contains-without w (u ∷ c) h v = by (int_eq u w) refl (contains-without w c h.1 v)
  where
    alike : (a : Bool) → int_eq v w ≡ a → int_eq u w ≡ true → contains c v ≡ ((int_eq u v || contains c v) && not a)
    alike true e k =
        ap (contains c) ((Decides-int_eq v w).0 e ∙ sym ((Decides-int_eq u w).0 k)) ∙ (h.0 ∙ sym (none (int_eq u v || contains c v)))
      where
        none : (b : Bool) → (b && false) ≡ false
        none true = refl
        none false = refl
    alike false e k = other (int_eq u v) refl
      where
        all : (b : Bool) → b ≡ (b && true)
        all true = refl
        all false = refl

        other : (b : Bool) → int_eq u v ≡ b → contains c v ≡ ((b || contains c v) && true)
        other true f = absurd (differ v w e (sym ((Decides-int_eq u v).0 f) ∙ (Decides-int_eq u w).0 k))
        other false f = all (contains c v)

    by : (b : Bool) → int_eq u w ≡ b → contains (without w c) v ≡ (contains c v && not (int_eq v w)) →
        contains (if b then c else u ∷ without w c) v ≡ ((int_eq u v || contains c v) && not (int_eq v w))
    by true k later = alike (int_eq v w) refl k
    by false k later = ap (λ b. int_eq u v || b) later ∙ spread (int_eq u v) refl
      where
        stays : (b : Bool) → int_eq v w ≡ b → int_eq u v ≡ true → true ≡ not b
        stays true e f = absurd (differ u w k ((Decides-int_eq u v).0 f ∙ (Decides-int_eq v w).0 e))
        stays false e f = refl

        spread : (b : Bool) → int_eq u v ≡ b → (b || (contains c v && not (int_eq v w))) ≡ ((b || contains c v) && not (int_eq v w))
        spread true f = stays (int_eq v w) refl f
        spread false f = refl

distinct-without : (w : Value) (c : Carrier) → IsDistinct c → IsDistinct (without w c)
unfolding without
distinct-without w [] h = tt
distinct-without w (u ∷ c) h = by (int_eq u w) (distinct-without w c h.1)
  where
    by : (b : Bool) → IsDistinct (without w c) → IsDistinct (if b then c else u ∷ without w c)
    by true rest = h.1
    by false rest = (contains-without w c h.1 u ∙ ap (λ b. b && not (int_eq u w)) h.0, rest)

same-total : (F : Value → ℕ) (c d : Carrier) → IsDistinct c → IsDistinct d → ((v : Value) → contains c v ≡ contains d v) → total F c ≡ total F d
same-total F [] [] hc hd same = refl
same-total F [] (u ∷ d) hc hd same = absurd (true≢false (sym (ap (λ b. b || contains d u) ((Decides-int_eq u u).1 refl)) ∙ sym (same u)))
same-total F (u ∷ c) d hc hd same =
    let here : contains d u ≡ true = sym (same u) ∙ ap (λ b. b || contains c u) ((Decides-int_eq u u).1 refl) in
    ap (λ n. F u + n) (same-total F c (without u d) hc.1 (distinct-without u d hd) (λ v. rest v ∙ sym (contains-without u d hd v))) ∙
    sym (total-without F u d here)
  where
    rest : (v : Value) → contains c v ≡ (contains d v && not (int_eq v u))
    rest v = by (int_eq v u) refl
      where
        none : (b : Bool) → (b && false) ≡ false
        none true = refl
        none false = refl

        all : (b : Bool) → (b && true) ≡ b
        all true = refl
        all false = refl

        by : (b : Bool) → int_eq v u ≡ b → contains c v ≡ (contains d v && not b)
        by true e = ap (contains c) ((Decides-int_eq v u).0 e) ∙ (hc.0 ∙ sym (none (contains d v)))
        by false e = other (int_eq u v) refl (same v) ∙ sym (all (contains d v))
          where
            other : (b : Bool) → int_eq u v ≡ b → (b || contains c v) ≡ contains d v → contains c v ≡ contains d v
            other true f s = absurd (differ v u e (sym ((Decides-int_eq u v).0 f)))
            other false f s = s

-- ---- permutations

module _ (carrier M : Carrier) (p back : Value → Value) (permutes : IsPermutation M p back) (elements : AreElements carrier M) where
  contains-map : (c : Carrier) (v : Value) → contains (map p c) v ≡ contains c (back v)
  contains-map [] v = refl
  contains-map (u ∷ c) v =
      ap (λ b. b || contains (map p c) v)
      (ap (int_eq (p u)) (sym (permutes.there v)) ∙ same_when_moved carrier M p back permutes elements u (back v)) ∙
      ap (λ b. int_eq u (back v) || b) (contains-map c v)

  distinct-map : (c : Carrier) → IsDistinct c → IsDistinct (map p c)
  distinct-map [] h = tt
  distinct-map (u ∷ c) h = (contains-map c (p u) ∙ (ap (contains c) (permutes.here u) ∙ h.0), distinct-map c h.1)

  -- elements of the carrier are those from which they are moved, and those to which they are
  contains-back : (v : Value) → contains carrier v ≡ contains carrier (back v)
  contains-back v =
      same_by (contains carrier v) (contains carrier (back v))
      (back-within carrier M p back permutes elements v)
      (λ e. ap (contains carrier) (sym (permutes.there v)) ∙ within carrier M p back permutes elements (back v) e)

  pub contains-moved : (v : Value) → contains carrier (p v) ≡ contains carrier v
  contains-moved v = contains-back (p v) ∙ ap (contains carrier) (permutes.here v)

  pub total-moved : IsDistinct carrier → (F G : Value → ℕ) → ((v : Value) → contains carrier v ≡ true → F (p v) ≡ G v) → total F carrier ≡ total G carrier
  total-moved distinct F G h =
      same-total F carrier (map p carrier) distinct (distinct-map carrier distinct) (λ v. contains-back v ∙ sym (contains-map carrier v)) ∙
      (total-map F p carrier ∙ total-same (λ v. F (p v)) G carrier h)
