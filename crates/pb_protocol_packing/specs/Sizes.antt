-- How many variables each group has: as even as can be, in eight groups at most, and where one of
-- these would have too many values together as many in each as have not.
use Rattle.std.specs.Prelude.{ℕ, zero, suc, ◌*◌, ◌-◌, ◌/◌, ◌%◌, nat_lt, nat_le, Bool, true, ◌&&◌}
use Rattle.std.specs.Prelude.{if◌then◌else◌, List, [], ◌∷◌, ◌++◌, length, take, drop, replicate}
use Rattle.std.specs.List.{list_all}
use Rattle.pb_protocol_packing.specs.declared.limits.TheConstants.{MAX_GROUP_VALUES}
use Rattle.pb_protocol_packing.specs.Packing.{Member, Group, Alone, Joined, capacity}

-- ---- groups that aren't too large

-- some values, and so few that a range has them
abbrev pub is_few : ℕ → Bool
is_few n = nat_lt 0 n && nat_le n MAX_GROUP_VALUES

abbrev pub are_few : List Member → Bool
are_few ps = is_few (capacity ps)

-- the variable of a group of several has few values
abbrev pub has_few : Group → Bool
has_few (Alone x) = true
has_few (Joined x ps) = are_few ps

-- the same of variables that are to be a group: one alone stays as it is
abbrev pub makes_few : List Member → Bool
makes_few [] = true
makes_few (p ∷ []) = true
makes_few (p ∷ r ∷ ps) = are_few (p ∷ r ∷ ps)

-- ---- sizes

abbrev pub cut_into_groups : List ℕ → List Member → List (List Member)
cut_into_groups [] ps = []
cut_into_groups (k ∷ ks) ps = take k ps ∷ cut_into_groups ks (drop k ps)

-- eight numbers with the sum n that differ by one at most
abbrev pub even_sizes : ℕ → List ℕ
even_sizes n = replicate (n % 8) (suc (n / 8)) ++ replicate (8 - n % 8) (n / 8)

-- how many variables can stand behind ones that have n values together
abbrev pub fitting : ℕ → List Member → ℕ
fitting n [] = 0
fitting n (p ∷ ps) =
    if nat_le (n * p.size) MAX_GROUP_VALUES then suc (fitting (n * p.size) ps) else 0

-- as many in each group as can, and all that are left in one behind k groups
abbrev pub fitting_sizes : ℕ → List Member → List ℕ
fitting_sizes k [] = []
fitting_sizes zero (p ∷ ps) = suc (length ps) ∷ []
fitting_sizes (suc k) (p ∷ ps) =
    suc (fitting p.size ps) ∷ fitting_sizes k (drop (fitting p.size ps) ps)

abbrev pub group_sizes : List Member → List ℕ
group_sizes ps =
    let even = even_sizes (length ps) in
    if list_all makes_few (cut_into_groups even ps) then even else fitting_sizes 7 ps
