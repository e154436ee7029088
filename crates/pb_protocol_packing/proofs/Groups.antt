-- The groups of a model have its variables, in order, and names that nothing else has.
use Rattle.std.proofs.Common.{◌≡◌, ℕ, zero, suc, ◌<◌, ◌≤◌, Bool, true, false, true≢false, ◌||◌, inl, inr, if◌then◌else◌, List, [], ◌∷◌, ◌++◌, map, length, flat_map, take, drop, refl, sym, ap, ◌∙◌, arith, length-append, length-drop}
use Rattle.std.specs.Prelude.{codes}
use Rattle.std.specs.List.{list_any, sum_by}
use Rattle.std.specs.Cmp.Lexicographic.{same_text}
use Rattle.std.proofs.lemmas.Bool.{or_cases, or_right}
use Rattle.std.proofs.lemmas.List.{take-append-drop}
use Rattle.std.proofs.lemmas.List.Sums.{sum_by-cons}
use Rattle.pb_text_meaning.specs.Syntax.{Name, same_name, Variable}
use Rattle.pb_model_translation.specs.Names.{primes, longest}
use Rattle.pb_model_translation.specs.Apart.{IsNew, AreApart, AreNew}
use Rattle.pb_protocol_packing.specs.Packing.{Member, variable_of}
use Rattle.pb_protocol_packing.specs.Apart.{Each, is_among, all_members, variables_of, group_variables, new_names, new_sorts, AreAllApart}
use Rattle.pb_protocol_packing.specs.Groups.{named_groups, unused_name}
use Rattle.pb_protocol_packing.specs.Sizes.{cut_into_groups}
use Rattle.pb_protocol_packing.proofs.Lists.{each-same, each-join, each-front, each-rest, same-itself, apart-sym, neither}

-- ---- a new name

length-primes : (n : ℕ) → length (primes n) ≡ n
length-primes zero = refl
length-primes (suc n) = ap suc (length-primes n)

-- what is taken is no longer than the longest
taken-short : (taken : List Name) (x : Name) → is_among taken x ≡ true → length x ≤ longest taken
taken-short [] x e = absurd (true≢false (sym e))
taken-short (y ∷ ys) x e =
    elim (or_cases (same_name y x) (is_among ys x) e) [
      | inl here ↦ let same : length y ≡ length x = ap length (same_text y x (sym here)) in omega arith
      | inr later ↦ let short = taken-short ys x later in omega (arith, short)
    ]

pub new-untaken : (taken : List Name) (x : Name) → is_among taken (unused_name taken x) ≡ false
new-untaken taken x = by (is_among taken x) refl
  where
    longer : (y : Name) → longest taken < length y → (b : Bool) → is_among taken y ≡ b → b ≡ false
    longer y more true e = let short = taken-short taken y e in absurd (omega (arith, short))
    longer y more false e = refl

    by : (b : Bool) → is_among taken x ≡ b → is_among taken (if b then x ++ primes (suc (longest taken)) else x) ≡ false
    by true e =
        let more = primes (suc (longest taken)) in
        longer (x ++ more) (omega (arith, length-append x more, length-primes (suc (longest taken)))) (is_among taken (x ++ more)) refl
    by false e = e

-- a name that is taken differs from one that isn't
differs : (taken : List Name) (x y : Name) → is_among taken y ≡ true → is_among taken x ≡ false → same_name x y ≡ false
differs taken x y among new = by (same_name x y) refl
  where
    by : (b : Bool) → same_name x y ≡ b → b ≡ false
    by true e = absurd (true≢false (sym among ∙ (ap (is_among taken) (sym (same_text x y (sym e))) ∙ new)))
    by false e = refl

-- ---- the names of groups

abbrev flat : List (List Member) → List Member
flat cs = flat_map (λ (c : List Member). c) cs

pub new-apart : (taken : List Name) (cs : List (List Member)) (y : Name) → is_among taken y ≡ true → is_among (new_names (named_groups taken cs)) y ≡ false
new-apart taken [] y e = refl
new-apart taken ([] ∷ cs) y e = new-apart taken cs y e
new-apart taken ((p ∷ []) ∷ cs) y e = new-apart taken cs y e
new-apart taken ((p ∷ r ∷ ps) ∷ cs) y e =
    let x = unused_name taken (p.variable.name ++ codes "'") in
    ap (λ b. b || is_among (new_names (named_groups (x ∷ taken) cs)) y) (differs taken x y e (new-untaken taken (p.variable.name ++ codes "'")))
    ∙ new-apart (x ∷ taken) cs y (or_right (same_name x y) (is_among taken y) e)

pub sorts-are-names : (taken : List Name) (cs : List (List Member)) → new_sorts (named_groups taken cs) ≡ new_names (named_groups taken cs)
sorts-are-names taken [] = refl
sorts-are-names taken ([] ∷ cs) = sorts-are-names taken cs
sorts-are-names taken ((p ∷ []) ∷ cs) = sorts-are-names taken cs
sorts-are-names taken ((p ∷ r ∷ ps) ∷ cs) =
    let x = unused_name taken (p.variable.name ++ codes "'") in ap (λ (xs : List Name). x ∷ xs) (sorts-are-names (x ∷ taken) cs)

pub new-all-apart : (taken : List Name) (cs : List (List Member)) → AreAllApart (new_names (named_groups taken cs))
new-all-apart taken [] = tt
new-all-apart taken ([] ∷ cs) = new-all-apart taken cs
new-all-apart taken ((p ∷ []) ∷ cs) = new-all-apart taken cs
new-all-apart taken ((p ∷ r ∷ ps) ∷ cs) =
    let x = unused_name taken (p.variable.name ++ codes "'") in
    (new-apart (x ∷ taken) cs x (ap (λ b. b || is_among taken x) (same-itself x)), new-all-apart (x ∷ taken) cs)

-- ---- the variables of groups

map-parts : (c d : List Member) → variables_of c ++ variables_of d ≡ variables_of (c ++ d)
map-parts [] d = refl
map-parts (p ∷ c) d = ap (λ (xs : List Variable). p.variable ∷ xs) (map-parts c d)

pub group_variables-are : (taken : List Name) (cs : List (List Member)) → flat_map group_variables (named_groups taken cs) ≡ variables_of (flat cs)
group_variables-are taken [] = refl
group_variables-are taken ([] ∷ cs) = group_variables-are taken cs
group_variables-are taken ((p ∷ []) ∷ cs) = ap (λ (xs : List Variable). p.variable ∷ xs) (group_variables-are taken cs)
group_variables-are taken ((p ∷ r ∷ ps) ∷ cs) =
    let x = unused_name taken (p.variable.name ++ codes "'") in
    ap (λ (xs : List Variable). variables_of (p ∷ r ∷ ps) ++ xs) (group_variables-are (x ∷ taken) cs) ∙ map-parts (p ∷ r ∷ ps) (flat cs)

pub each-place : (P : Member → Type 0) (taken : List Name) (cs : List (List Member)) → Each P (flat cs) → Each P (all_members (named_groups taken cs))
each-place P taken [] h = tt
each-place P taken ([] ∷ cs) h = each-place P taken cs h
each-place P taken ((p ∷ []) ∷ cs) h = each-place P taken cs h.1
each-place P taken ((p ∷ r ∷ ps) ∷ cs) h =
    each-join P (p ∷ r ∷ ps) (all_members (named_groups (unused_name taken (p.variable.name ++ codes "'") ∷ taken) cs)) (each-front P (p ∷ r ∷ ps) (flat cs) h)
    (each-place P (unused_name taken (p.variable.name ++ codes "'") ∷ taken) cs (each-rest P (p ∷ r ∷ ps) (flat cs) h))

new-rest : (y : Name) (c d : List Member) → IsNew y (variables_of (c ++ d)) → IsNew y (variables_of d)
new-rest y [] d h = h
new-rest y (p ∷ c) d h = new-rest y c d h.1

apart-rest : (c d : List Member) → AreApart (variables_of (c ++ d)) → AreApart (variables_of d)
apart-rest [] d h = h
apart-rest (p ∷ c) d h = apart-rest c d h.1

own-rest : (own : List Variable) (c d : List Member) → AreNew (variables_of (c ++ d)) own → AreNew (variables_of d) own
own-rest own [] d h = h
own-rest own (p ∷ c) d h = own-rest own c d h.1

each-variables : (P : Variable → Type 0) (c d : List Member) → Each P (variables_of (c ++ d)) → Each P (variables_of d)
each-variables P [] d h = h
each-variables P (p ∷ c) d h = each-variables P c d h.1

pub is-new : (taken : List Name) (cs : List (List Member)) (y : Name) → IsNew y (variables_of (flat cs))
    → is_among (new_names (named_groups taken cs)) y ≡ false → IsNew y (map variable_of (named_groups taken cs))
is-new taken [] y new e = tt
is-new taken ([] ∷ cs) y new e = is-new taken cs y new e
is-new taken ((p ∷ []) ∷ cs) y new e = (new.0, is-new taken cs y new.1 e)
is-new taken ((p ∷ r ∷ ps) ∷ cs) y new e =
    let x = unused_name taken (p.variable.name ++ codes "'") in
    let parts = neither (same_name x y) (is_among (new_names (named_groups (x ∷ taken) cs)) y) e in
    (parts.0, is-new (x ∷ taken) cs y (new-rest y (p ∷ r ∷ ps) (flat cs) new) parts.1)

-- all these variables have names that are taken
abbrev AreTaken : List Name → List Variable → Type 0
AreTaken taken xs = Each (λ (x : Variable). is_among taken x.name ≡ true) xs

taken-more : (taken : List Name) (y : Name) (xs : List Variable) → AreTaken taken xs → AreTaken (y ∷ taken) xs
taken-more taken y xs h = each-same _ _ xs (λ x e. or_right (same_name y x.name) (is_among taken x.name) e) h

untaken-new : (taken : List Name) (x : Name) (xs : List Variable) → is_among taken x ≡ false → AreTaken taken xs → IsNew x xs
untaken-new taken x [] new h = tt
untaken-new taken x (y ∷ ys) new h = (apart-sym x y.name (differs taken x y.name h.0 new), untaken-new taken x ys new h.1)

pub after-apart : (taken : List Name) (cs : List (List Member)) → AreApart (variables_of (flat cs)) → AreTaken taken (variables_of (flat cs)) → AreApart (map variable_of (named_groups taken cs))
after-apart taken [] apart h = tt
after-apart taken ([] ∷ cs) apart h = after-apart taken cs apart h
after-apart taken ((p ∷ []) ∷ cs) apart h = (is-new taken cs p.variable.name apart.0 (new-apart taken cs p.variable.name h.0), after-apart taken cs apart.1 h.1)
after-apart taken ((p ∷ r ∷ ps) ∷ cs) apart h =
    let x = unused_name taken (p.variable.name ++ codes "'") in
    let others = each-variables (λ (z : Variable). is_among taken z.name ≡ true) (p ∷ r ∷ ps) (flat cs) h in (
      is-new (x ∷ taken) cs x
          (untaken-new taken x (variables_of (flat cs)) (new-untaken taken (p.variable.name ++ codes "'")) others)
          (new-apart (x ∷ taken) cs x (ap (λ b. b || is_among taken x) (same-itself x))),
      after-apart (x ∷ taken) cs (apart-rest (p ∷ r ∷ ps) (flat cs) apart) (taken-more taken x (variables_of (flat cs)) others),
    )

-- and no variable of a step has the name of one
pub after-new : (taken : List Name) (cs : List (List Member)) (own : List Variable) → AreNew (variables_of (flat cs)) own → AreTaken taken own → AreNew (map variable_of (named_groups taken cs)) own
after-new taken [] own new h = tt
after-new taken ([] ∷ cs) own new h = after-new taken cs own new h
after-new taken ((p ∷ []) ∷ cs) own new h = (new.0, after-new taken cs own new.1 h)
after-new taken ((p ∷ r ∷ ps) ∷ cs) own new h =
    let x = unused_name taken (p.variable.name ++ codes "'") in
    (untaken-new taken x own (new-untaken taken (p.variable.name ++ codes "'")) h, after-new (x ∷ taken) cs own (own-rest own (p ∷ r ∷ ps) (flat cs) new) (taken-more taken x own h))

-- ---- cutting

no-places : (ps : List Member) → length ps ≤ 0 → [] ≡ ps
no-places [] h = refl
no-places (p ∷ ps) h = absurd (omega arith)

pub cut-all : (ks : List ℕ) (ps : List Member) → length ps ≤ sum_by (λ k. k) ks → flat (cut_into_groups ks ps) ≡ ps
cut-all [] ps h = no-places ps h
cut-all (k ∷ ks) ps h =
    ap (λ (qs : List Member). take k ps ++ qs) (cut-all ks (drop k ps) (omega (arith, length-drop k ps, h, sum_by-cons (λ (k : ℕ). k) k ks))) ∙ take-append-drop k ps

pub few-groups : (taken : List Name) (cs : List (List Member)) → length (map variable_of (named_groups taken cs)) ≤ length cs
few-groups taken [] = omega arith
few-groups taken ([] ∷ cs) = omega (arith, few-groups taken cs)
few-groups taken ((p ∷ []) ∷ cs) = omega (arith, few-groups taken cs)
few-groups taken ((p ∷ r ∷ ps) ∷ cs) = omega (arith, few-groups (unused_name taken (p.variable.name ++ codes "'") ∷ taken) cs)

pub length-cut : (ks : List ℕ) (ps : List Member) → length (cut_into_groups ks ps) ≡ length ks
length-cut [] ps = refl
length-cut (k ∷ ks) ps = ap suc (length-cut ks (drop k ps))
