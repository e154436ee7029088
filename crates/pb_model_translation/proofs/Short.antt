-- The names of a translation's equations are short: among more numbers than there are names one is free, and a number below 1000 is short.
use Rattle.std.proofs.Common.{◌≡◌, ℕ, zero, suc, ◌+◌, ◌-◌, ◌^◌, ◌<◌, ◌≤◌, Bool, true, false, true≢false, not, ◌||◌, ◌⊎◌, inl, inr, if◌then◌else◌, List, [], ◌∷◌, ◌++◌, length, drop, refl, sym, ap, ◌∙◌, arith, length-append}
use Rattle.std.specs.Prelude.{All, codes, decimal, nat_lt}
use Rattle.std.specs.List.{list_any}
use Rattle.std.proofs.lemmas.Bool.Decides.{nat_tests}
use Rattle.std.proofs.lemmas.Fmt.{decimal_injective, length-decimal-le}
use Rattle.std.proofs.lemmas.List.{append_cancel_left}
use Rattle.std.proofs.lemmas.List.Elements.{All-head, All-tail}
use Rattle.std.proofs.lemmas.Slice.Eq.{bytes_eq-Decides}
use Rattle.pb_text_meaning.specs.Syntax.{Name, same_name}
use Rattle.pb_model_meaning.specs.Syntax.{Formula}
use Rattle.pb_model_translation.specs.Translation.{has_equation, is_fixpoint, next_if, equation_count, total_count}
use Rattle.pb_model_translation.specs.Names.{numbered, first_numbered, with_room, new_name, Wanted, operand_named, with_name, wanted_names, all_wanted, variables_of, given_names, name_at}
use Rattle.pb_model_translation.specs.Short.{IsShort, NamesAreShort}
use Rattle.pb_model_translation.proofs.Names.{length-with, length-wanted}

-- ---- among more numbers than there are names one is free

-- the names without the first that is c
abbrev without : Name → List Name → List Name
without c [] = []
without c (y ∷ ys) = if same_name c y then ys else y ∷ without c ys

one-less : (c : Name) (ys : List Name) → list_any (same_name c) ys ≡ true → length ys ≡ suc (length (without c ys))
one-less c [] h = absurd (true≢false (sym h))
one-less c (y ∷ ys) h = by (same_name c y) h (one-less c ys)
  where
    by : (b : Bool) → (b || list_any (same_name c) ys) ≡ true → (list_any (same_name c) ys ≡ true → length ys ≡ suc (length (without c ys)))
        → length (y ∷ ys) ≡ suc (length (if b then ys else y ∷ without c ys))
    by true h rest = refl
    by false h rest = ap suc (rest h)

others-stay : (c d : Name) (ys : List Name) → same_name d c ≡ false → list_any (same_name d) ys ≡ true → list_any (same_name d) (without c ys) ≡ true
others-stay c d [] apart h = h
others-stay c d (y ∷ ys) apart h = by (same_name c y) refl (others-stay c d ys apart)
  where
    -- d isn't y, which is c
    later : (a b : Bool) → a ≡ false → (a || b) ≡ true → b ≡ true
    later true b e h = absurd (true≢false e)
    later false b e h = h

    same : same_name c y ≡ true → same_name d y ≡ false
    same e = ap (same_name d) (sym ((bytes_eq-Decides c y).0 e)) ∙ apart

    first : (a b b' : Bool) → (a || b) ≡ true → (b ≡ true → b' ≡ true) → (a || b') ≡ true
    first true b b' h rest = refl
    first false b b' h rest = rest h

    by : (b : Bool) → same_name c y ≡ b → (list_any (same_name d) ys ≡ true → list_any (same_name d) (without c ys) ≡ true)
        → list_any (same_name d) (if b then ys else y ∷ without c ys) ≡ true
    by true e rest = later (same_name d y) (list_any (same_name d) ys) (same e) h
    by false e rest = first (same_name d y) (list_any (same_name d) ys) (list_any (same_name d) (without c ys)) h rest

numbers-apart : (x : Name) (j k : ℕ) → j < k → k < 2 ^ 64 → same_name (numbered x k) (numbered x j) ≡ false
numbers-apart x j k less small = by (same_name (numbered x k) (numbered x j)) refl
  where
    by : (b : Bool) → same_name (numbered x k) (numbered x j) ≡ b → b ≡ false
    by false e = refl
    by true e =
        let same : k ≡ j =
        decimal_injective k j small (omega (arith, less, small))
        (ap (drop 1) (append_cancel_left x (39 ∷ decimal k) (39 ∷ decimal j) ((bytes_eq-Decides (numbered x k) (numbered x j)).0 e))) in
        absurd (omega (arith, less, same))

-- so many numbers from k on are taken
abbrev AreTaken : List Name → Name → ℕ → ℕ → Type 0
AreTaken taken x k zero = Unit {0}
AreTaken taken x k (suc more) = (list_any (same_name (numbered x k)) taken ≡ true) × AreTaken taken x (suc k) more

taken-without : (taken : List Name) (x : Name) (j k more : ℕ) → j < k → k + more ≤ 2 ^ 64 → AreTaken taken x k more → AreTaken (without (numbered x j) taken) x k more
taken-without taken x j k zero less small h = tt
taken-without taken x j k (suc more) less small h =
    (others-stay (numbered x j) (numbered x k) taken (numbers-apart x j k less (omega arith)) h.0, taken-without taken x j (suc k) more (omega arith) (omega arith) h.1)

many-taken : (taken : List Name) (x : Name) (k more : ℕ) → k + more ≤ 2 ^ 64 → AreTaken taken x k more → more ≤ length taken
many-taken taken x k zero small h = omega arith
many-taken taken x k (suc more) small h =
    let rest = many-taken (without (numbered x k) taken) x (suc k) more (omega arith) (taken-without taken x k (suc k) more (omega arith) (omega arith) h.1) in
    omega (arith, rest, one-less (numbered x k) taken h.0)

all-tried : (taken : List Name) (x : Name) (last k more : ℕ) → 0 < k → k + more ≤ last → ((i : ℕ) → 0 < i → i < last → list_any (same_name (numbered x i)) taken ≡ true) →
    AreTaken taken x k more
all-tried taken x last k zero some fits h = tt
all-tried taken x last k (suc more) some fits h = (h k some (omega arith), all-tried taken x last (suc k) more (omega arith) (omega arith) h)

-- no more numbers from 1 on are taken than there are names
pub numbers-taken : (taken : List Name) (x : Name) (last : ℕ) → 0 < last → last < 2 ^ 64 → ((i : ℕ) → 0 < i → i < last → list_any (same_name (numbered x i)) taken ≡ true) →
    last ≤ suc (length taken)
numbers-taken taken x last some small h =
    omega (arith, some, many-taken taken x 1 (last - 1) (omega (arith, some, small)) (all-tried taken x last 1 (last - 1) (omega arith) (omega (arith, some)) h))

-- ---- a number below 1000 takes four bytes, with its prime

found : (taken : List Name) (x : Name) (k more : ℕ) → k + more ≤ 1000 → (length (first_numbered taken x k more) ≤ length x + 4) ⊎ AreTaken taken x k more
found taken x k zero small = inr tt
found taken x k (suc more) small = by (list_any (same_name (numbered x k)) taken) refl (found taken x (suc k) more (omega arith))
  where
    by : (b : Bool) → list_any (same_name (numbered x k)) taken ≡ b → (length (first_numbered taken x (suc k) more) ≤ length x + 4) ⊎ AreTaken taken x (suc k) more
        → (length (if b then first_numbered taken x (suc k) more else numbered x k) ≤ length x + 4) ⊎ AreTaken taken x k (suc more)
    by true e (inl short) = inl short
    by true e (inr later) = inr (e, later)
    by false e later =
        inl (omega (arith, length-append x (39 ∷ decimal k), length-decimal-le 3 k (omega arith) (omega (arith, small)) (omega (arith, small))))

room-short : (x : Name) → length (with_room x) ≤ 60
room-short x = by (nat_lt 60 (length x)) refl
  where
    by : (b : Bool) → nat_lt 60 (length x) ≡ b → length (if b then codes "X" else x) ≤ 60
    by true e = omega arith
    by false e = grind (arith, nat_tests)

new_name-short : (taken : List Name) (x : Name) → length taken < 999 → IsShort x → IsShort (new_name taken x)
new_name-short taken x few short = by (list_any (same_name x) taken)
  where
    last : (length (first_numbered taken (with_room x) 1 (suc (length taken))) ≤ length (with_room x) + 4) ⊎ AreTaken taken (with_room x) 1 (suc (length taken))
        → IsShort (first_numbered taken (with_room x) 1 (suc (length taken)))
    last (inl h) = omega (arith, h, room-short x)
    last (inr h) = absurd (omega (arith, few, many-taken taken (with_room x) 1 (suc (length taken)) (omega (arith, few)) h))

    by : (b : Bool) → IsShort (if b then first_numbered taken (with_room x) 1 (suc (length taken)) else x)
    by true = last (found taken (with_room x) 1 (suc (length taken)) (omega (arith, few)))
    by false = short

-- ---- the names of a formula's equations

abbrev WantsShort : List Wanted → Type 0
WantsShort [] = Unit {0}
WantsShort (w ∷ ws) = IsShort w.name × WantsShort ws

abbrev AreShort : List Name → Type 0
AreShort [] = Unit {0}
AreShort (x ∷ xs) = IsShort x × AreShort xs

few-chosen : (b : Bool) (variables taken : List Name) → length variables + length taken < 999 → length (if b then variables ++ taken else taken) < 999
few-chosen true variables taken few = omega (arith, length-append variables taken, few)
few-chosen false variables taken few = omega (arith, few)

given-short : (variables taken : List Name) (ws : List Wanted) → length variables + length taken + length ws < 1000 → WantsShort ws → AreShort (given_names variables taken ws)
given-short variables taken [] few h = tt
given-short variables taken (w ∷ ws) few h =
    let before = if w.is_operand then variables ++ taken else taken in
    let x = new_name before w.name in
    (new_name-short before w.name (few-chosen w.is_operand variables taken (omega arith)) h.0, given-short variables (x ∷ taken) ws (omega arith) h.1)

both-want : (ws vs : List Wanted) → WantsShort ws → WantsShort vs → WantsShort (ws ++ vs)
both-want [] vs h g = g
both-want (w ∷ ws) vs h g = (h.0, both-want ws vs h.1 g)

one-wants : (b : Bool) (w : Wanted) (ws : List Wanted) → IsShort w.name → WantsShort ws → WantsShort (with_name b w ws)
one-wants true w ws h g = (h, g)
one-wants false w ws h g = g

-- of two lists of names
first-short : (xs ys : List Name) → AreShort (xs ++ ys) → AreShort xs
first-short [] ys h = tt
first-short (x ∷ xs) ys h = (h.0, first-short xs ys h.1)

last-short : (xs ys : List Name) → AreShort (xs ++ ys) → AreShort ys
last-short [] ys h = h
last-short (x ∷ xs) ys h = last-short xs ys h.1

wanted-short : (around : Name) (f : Formula) → IsShort around → AreShort (variables_of f) → WantsShort (wanted_names around f)
wanted-short around (Formula.Truth b) s h = tt
wanted-short around (Formula.Data x) s h = tt
wanted-short around (Formula.Named X) s h = tt
wanted-short around (Formula.Not f) s h = wanted-short around f s h
wanted-short around (Formula.And f g) s h =
    both-want (wanted_names around f) (wanted_names around g)
    (wanted-short around f s (first-short (variables_of f) (variables_of g) h))
    (wanted-short around g s (last-short (variables_of f) (variables_of g) h))
wanted-short around (Formula.Or f g) s h =
    both-want (wanted_names around f) (wanted_names around g)
    (wanted-short around f s (first-short (variables_of f) (variables_of g) h))
    (wanted-short around g s (last-short (variables_of f) (variables_of g) h))
wanted-short around (Formula.Implies f g) s h =
    both-want (wanted_names around f) (wanted_names around g)
    (wanted-short around f s (first-short (variables_of f) (variables_of g) h))
    (wanted-short around g s (last-short (variables_of f) (variables_of g) h))
wanted-short around (Formula.Box A f) s h = one-wants (has_equation f) (operand_named around) (wanted_names around f) s (wanted-short around f s h)
wanted-short around (Formula.Diamond A f) s h = one-wants (has_equation f) (operand_named around) (wanted_names around f) s (wanted-short around f s h)
wanted-short around (Formula.Fixpoint sign X f) s h = (h.0, wanted-short X f h.0 h.1)

-- a formula has no more fixpoints than equations
abbrev at_most : Formula → Type 0
at_most f = length (variables_of f) ≤ equation_count f

at_most-if : (b : Bool) (m n : ℕ) → m ≤ n → m ≤ next_if b n
at_most-if true m n h = omega (arith, h)
at_most-if false m n h = h

fixpoints-counted : (f : Formula) → at_most f
fixpoints-counted (Formula.Truth b) = omega arith
fixpoints-counted (Formula.Data x) = omega arith
fixpoints-counted (Formula.Named X) = omega arith
fixpoints-counted (Formula.Not f) = fixpoints-counted f
fixpoints-counted (Formula.And f g) = omega (arith, length-append (variables_of f) (variables_of g), fixpoints-counted f, fixpoints-counted g)
fixpoints-counted (Formula.Or f g) = omega (arith, length-append (variables_of f) (variables_of g), fixpoints-counted f, fixpoints-counted g)
fixpoints-counted (Formula.Implies f g) = omega (arith, length-append (variables_of f) (variables_of g), fixpoints-counted f, fixpoints-counted g)
fixpoints-counted (Formula.Box A f) = at_most-if (has_equation f) (length (variables_of f)) (equation_count f) (fixpoints-counted f)
fixpoints-counted (Formula.Diamond A f) = at_most-if (has_equation f) (length (variables_of f)) (equation_count f) (fixpoints-counted f)
fixpoints-counted (Formula.Fixpoint sign X f) = omega (arith, fixpoints-counted f)

are-short : (xs : List Name) → All IsShort xs → AreShort xs
are-short [] h = tt
are-short (x ∷ xs) h = (All-head IsShort x xs h, are-short xs (All-tail IsShort x xs h))

at-short : (xs : List Name) (k : ℕ) → AreShort xs → IsShort (name_at xs k)
at-short [] k h = omega arith
at-short (x ∷ xs) zero h = h.0
at-short (x ∷ xs) (suc k) h = at-short xs k h.1

pub names_are_short : NamesAreShort
names_are_short f few h k =
    let variables = are-short (variables_of f) h in
    let outer : IsShort (codes "X") = omega arith in
    let ws = all_wanted f in
    let own = not (is_fixpoint f) in
    let counted : length ws ≡ total_count f = length-with own (operand_named (codes "X")) (wanted_names (codes "X") f) ∙ ap (next_if own) (length-wanted (codes "X") f) in
    let fixpoints : length (variables_of f) ≤ total_count f = at_most-if own (length (variables_of f)) (equation_count f) (fixpoints-counted f) in
    at-short (given_names (variables_of f) [] ws) k
    (given-short (variables_of f) [] ws (omega (arith, few, counted, fixpoints))
    (one-wants own (operand_named (codes "X")) (wanted_names (codes "X") f) outer (wanted-short (codes "X") f outer variables)))
