-- The values of sorts as they are written in a text, and names made of them.
use Rattle.std.specs.Prelude.{ℕ, zero, suc, Bool, true, false, not, if◌then◌else◌, nat_eq, List}
use Rattle.std.specs.Prelude.{[], ◌∷◌, ◌++◌, map, flat_map, length, Option, Some, None, codes}
use Rattle.std.specs.Prelude.{decimal}
use Rattle.std.specs.List.{list_any}
use Rattle.pb_base_values.specs.Carrier.{interval}
use Rattle.pb_text_meaning.specs.Syntax.{Name, same_name, Variable, Term, Enumerator, Sort, Struct}
use Rattle.pb_text_meaning.specs.Syntax.{Alias, Range, Spec}
use Rattle.pb_text_meaning.specs.Sorts.{range_of, declared}
use Rattle.pb_protocol_folding.specs.Folding.{number}

-- ---- values as they are written

-- the values of a sort, as its carrier has them: numbers, truth values or enumerators
abbrev pub written_by : Option Range → Bool → Option Sort → (Name → List Term) → List Term
written_by (Some r) is_bool sort target = map number (interval r.low r.high)
written_by None true sort target = Term.Truth false ∷ Term.Truth true ∷ []
written_by None false (Some (Struct enumerators)) target =
    map (λ (e : Enumerator). Term.Named e.name) enumerators
written_by None false (Some (Alias s)) target = target s
written_by None false None target = []

-- through at most n sorts
abbrev pub written_within : ℕ → Spec → Name → List Term
written_within zero spec s = []
written_within (suc n) spec s =
    written_by (range_of spec.ranges s) (same_name s (codes "Bool")) (declared spec.sorts s)
    (written_within n spec)

-- no chain of aliases is longer than the list of sorts
abbrev pub written_values : Spec → Name → List Term
written_values spec s = written_within (suc (length spec.sorts)) spec s

-- a written value for each variable, for all values, the last fastest
abbrev pub written_tuples : Spec → List Variable → List (List Term)
written_tuples spec [] = [] ∷ []
written_tuples spec (x ∷ xs) =
    flat_map (λ k. map (λ (ks : List Term). k ∷ ks) (written_tuples spec xs))
    (written_values spec x.sort)

-- ---- terms that are written values

abbrev pub same_truth : Bool → Bool → Bool
same_truth b c = if b then c else not c

-- -m and -n
abbrev pub same_negative : Term → Term → Bool
same_negative (Term.Number m) (Term.Number n) = nat_eq m n
same_negative x y = false

-- two truth values, numbers or names that are the same
abbrev pub same_written : Term → Term → Bool
same_written (Term.Truth b) (Term.Truth c) = same_truth b c
same_written (Term.Number m) (Term.Number n) = nat_eq m n
same_written (Term.Negative x) (Term.Negative y) = same_negative x y
same_written (Term.Named x) (Term.Named y) = same_name x y
same_written x y = false

-- whether a term is one of these written values
abbrev pub is_written : Term → List Term → Bool
is_written t ks = list_any (same_written t) ks

-- ---- names

-- how a written value stands in a name
abbrev pub spelled : Term → Name
spelled (Term.Truth true) = codes "true"
spelled (Term.Truth false) = codes "false"
spelled (Term.Number n) = decimal n
spelled (Term.Negative (Term.Number n)) = codes "m" ++ decimal n
spelled (Term.Named e) = e
spelled x = []

-- x'k
abbrev pub element : Name → Term → Name
element x k = x ++ (39 ∷ spelled k)

-- x'k'l ..
abbrev pub element_of : Name → List Term → Name
element_of x [] = x
element_of x (k ∷ ks) = element_of (element x k) ks
