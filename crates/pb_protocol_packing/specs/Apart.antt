-- When groups pack a model: they have its variables, in order, as their sorts say, and their own
-- names stand for nothing else.
use Rattle.std.specs.Prelude.{◌≡◌, ℕ, zero, suc, pos, Bool, true, false, not, ◌&&◌, ⊤, List, []}
use Rattle.std.specs.Prelude.{◌∷◌, length, map, flat_map, None}
use Rattle.std.specs.Prelude.{Some, Option, codes}
use Rattle.std.specs.List.{list_any, list_all}
use Rattle.pb_base_values.specs.Carrier.{numbers_from}
use Rattle.pb_text_meaning.specs.Syntax.{Name, same_name, Variable, Term, Terms, Sort, Struct}
use Rattle.pb_text_meaning.specs.Syntax.{Alias, SortDeclaration, Range}
use Rattle.pb_text_meaning.specs.Sorts.{carrier_of, range_of, declared}
use Rattle.pb_text_meaning.specs.Value.{named_value}
use Rattle.pb_model_meaning.specs.Syntax.{Assignment, Step, Formula, Model}
use Rattle.pb_model_meaning.specs.Steps.{data_of}
use Rattle.pb_model_translation.specs.Apart.{IsNew, AreApart}
use Rattle.pb_protocol_packing.specs.Numbers.{Kind, Boolean, Enumeration, Whole}
use Rattle.pb_protocol_packing.specs.Packing.{Member, Group, Alone, Joined, variable_of}

-- a fact of each element
abbrev pub Each : {A : Type 0} → (A → Type 0) → List A → Type 0
Each P [] = ⊤
Each P (x ∷ xs) = P x × Each P xs

abbrev pub is_among : List Name → Name → Bool
is_among xs x = list_any (λ y. same_name y x) xs

-- ---- what groups have

abbrev pub members_of : Group → List Member
members_of (Alone x) = []
members_of (Joined x ps) = ps

abbrev pub all_members : List Group → List Member
all_members gs = flat_map members_of gs

abbrev pub variables_of : List Member → List Variable
variables_of ps = map (λ (p : Member). p.variable) ps

-- the variables that a group is made of
abbrev pub group_variables : Group → List Variable
group_variables (Alone x) = x ∷ []
group_variables (Joined x ps) = variables_of ps

-- the names and sorts that no model has, and the enumerators that terms are said by
abbrev pub new_name_in : Group → List Name
new_name_in (Alone x) = []
new_name_in (Joined x ps) = x.name ∷ []

abbrev pub new_sort_in : Group → List Name
new_sort_in (Alone x) = []
new_sort_in (Joined x ps) = x.sort ∷ []

abbrev pub new_names : List Group → List Name
new_names gs = flat_map new_name_in gs

abbrev pub new_sorts : List Group → List Name
new_sorts gs = flat_map new_sort_in gs

abbrev pub enumerators_of : Kind → List Name
enumerators_of (Enumeration es) = es
enumerators_of k = []

abbrev pub used_enumerators : List Group → List Name
used_enumerators gs = flat_map (λ (p : Member). enumerators_of p.kind) (all_members gs)

-- ---- terms that are apart

-- a variable of a quantifier or a step hides no name that terms are said by
abbrev pub may_bind : List Group → Variable → Bool
may_bind gs x =
    not (is_among (new_names gs) x.name) && not (is_among (used_enumerators gs) x.name)
    && not (is_among (new_sorts gs) x.sort)

abbrev mutual
  pub is_apart : List Group → Term → Bool
  is_apart gs (Term.Truth b) = true
  is_apart gs (Term.Number n) = true
  is_apart gs (Term.Named x) = not (is_among (new_names gs) x)
  is_apart gs (Term.Not x) = is_apart gs x
  is_apart gs (Term.Negative x) = is_apart gs x
  is_apart gs (Term.Binary o x y) = is_apart gs x && is_apart gs y
  is_apart gs (Term.Apply f xs) = all_apart gs xs
  is_apart gs (Term.Quantified q xs x) = list_all (may_bind gs) xs && is_apart gs x

  pub all_apart : List Group → Terms → Bool
  all_apart gs Terms.NoTerms = true
  all_apart gs (Terms.Then x xs) = is_apart gs x && all_apart gs xs

abbrev pub is_apart_step : List Group → Step → Bool
is_apart_step gs a =
    list_all (may_bind gs) a.variables && is_apart gs a.guard
    && list_all (λ (b : Assignment). is_apart gs b.term) a.assignments

abbrev pub is_apart_formula : List Group → Formula → Bool
is_apart_formula gs (Formula.Truth b) = true
is_apart_formula gs (Formula.Data x) = is_apart gs x
is_apart_formula gs (Formula.Named X) = true
is_apart_formula gs (Formula.Not f) = is_apart_formula gs f
is_apart_formula gs (Formula.And f g) = is_apart_formula gs f && is_apart_formula gs g
is_apart_formula gs (Formula.Or f g) = is_apart_formula gs f && is_apart_formula gs g
is_apart_formula gs (Formula.Implies f g) = is_apart_formula gs f && is_apart_formula gs g
is_apart_formula gs (Formula.Box A f) = is_apart_formula gs f
is_apart_formula gs (Formula.Diamond A f) = is_apart_formula gs f
is_apart_formula gs (Formula.Fixpoint sign X f) = is_apart_formula gs f

-- ---- places

-- these names have the values n, n + 1 ..
abbrev pub ArePlaced : Model → ℕ → List Name → Type 0
ArePlaced m n [] = ⊤
ArePlaced m n (e ∷ es) = (named_value (data_of m) None e ≡ pos n) × ArePlaced m (suc n) es

-- truth values are 0 and 1, and enumerators their places
abbrev pub IsKind : Model → Kind → Member → Type 0
IsKind m Boolean p = (p.low ≡ pos 0) × (p.size ≡ 2)
IsKind m (Enumeration es) p = (p.low ≡ pos 0) × (p.size ≡ length es) × ArePlaced m 0 es
IsKind m Whole p = ⊤

pub record IsMember (m : Model) (p : Member) : Type 0 where
  pub carrier : carrier_of (data_of m) p.variable.sort ≡ numbers_from p.low p.size
  pub kind : IsKind m p.kind p

-- ---- sorts

-- no name stands twice
abbrev pub AreAllApart : List Name → Type 0
AreAllApart [] = ⊤
AreAllApart (x ∷ xs) = (is_among xs x ≡ false) × AreAllApart xs

-- a variable that stays has an old sort, and an alias an old target
abbrev pub HasOldSort : List Group → Group → Type 0
HasOldSort gs (Alone x) = is_among (new_sorts gs) x.sort ≡ false
HasOldSort gs (Joined x ps) = ⊤

abbrev pub is_old_target : List Group → Sort → Bool
is_old_target gs (Struct es) = true
is_old_target gs (Alias s) = not (is_among (new_sorts gs) s)

abbrev pub HasOldTarget : List Group → SortDeclaration → Type 0
HasOldTarget gs d = is_old_target gs d.sort ≡ true

-- whether a chain of aliases has an end within n sorts
abbrev pub ends_by : Option Range → Bool → Option Sort → (Name → Bool) → Bool
ends_by (Some r) is_bool sort target = true
ends_by None true sort target = true
ends_by None false (Some (Struct es)) target = true
ends_by None false (Some (Alias s)) target = target s
ends_by None false None target = true

abbrev pub ends_within : ℕ → Model → Name → Bool
ends_within zero m s = false
ends_within (suc n) m s =
    ends_by (range_of m.ranges s) (same_name s (codes "Bool")) (declared m.sorts s)
    (ends_within n m)

-- ---- groups that pack a model

abbrev pub term_count : Terms → ℕ
term_count Terms.NoTerms = 0
term_count (Terms.Then x xs) = suc (term_count xs)

pub record IsPacking (m : Model) (gs : List Group) : Type 0 where
  -- the variables of the model, in order, as their sorts say
  pub variables : m.variables ≡ flat_map group_variables gs
  pub places : Each (IsMember m) (all_members gs)
  -- the names of variables are apart, before and afterwards
  pub before : AreApart m.variables
  pub after : AreApart (map variable_of gs)
  pub enumerators : Each (λ e. IsNew e (map variable_of gs)) (used_enumerators gs)
  -- the new sorts are apart, and no other sort changes
  pub sorts : AreAllApart (new_sorts gs)
  pub old_sorts : Each (HasOldSort gs) gs
  pub old_targets : Each (HasOldTarget gs) m.sorts
  pub chains : (s : Name) → ends_within (suc (length m.sorts)) m s ≡ true
  -- no term has a new name
  pub steps : Each (λ (a : Step). is_apart_step gs a ≡ true) m.steps
  pub initial : all_apart gs m.initial ≡ true
  -- an initial value for each variable
  pub count : term_count m.initial ≡ length m.variables
