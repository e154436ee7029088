-- The groups of a model's variables: at most eight, of consecutive variables. Their names are new.
use Rattle.std.specs.Prelude.{ℕ, zero, suc, pos, Bool, true, false, List, []}
use Rattle.std.specs.Prelude.{if◌then◌else◌}
use Rattle.std.specs.Prelude.{◌∷◌, ◌++◌, length, map, flat_map, Option, Some}
use Rattle.std.specs.Prelude.{None, codes}
use Rattle.pb_base_values.specs.Carrier.{Carrier, Value}
use Rattle.pb_text_meaning.specs.Syntax.{Name, same_name, Variable, Enumerator, Term, Terms, Sort}
use Rattle.pb_text_meaning.specs.Syntax.{Struct, Alias, SortDeclaration, Range}
use Rattle.pb_text_meaning.specs.Sorts.{range_of, declared, carrier_of}
use Rattle.pb_model_meaning.specs.Syntax.{Assignment, Step, Formula, Property, Model}
use Rattle.pb_model_meaning.specs.Steps.{data_of}
use Rattle.pb_model_translation.specs.Names.{primes, longest}
use Rattle.pb_protocol_packing.specs.Apart.{is_among}
use Rattle.pb_protocol_packing.specs.Numbers.{Kind, Boolean, Enumeration, Whole}
use Rattle.pb_protocol_packing.specs.Packing.{Member, Group, Alone, Joined, packed_by, packed_formula}
use Rattle.pb_protocol_packing.specs.Sizes.{cut_into_groups, group_sizes}

-- ---- places

abbrev pub name_of : Enumerator → Name
name_of e = e.name

-- how values of a sort are written, by what its carrier is found by
abbrev pub kind_by : Option Range → Bool → Option Sort → (Name → Kind) → Kind
kind_by (Some r) is_bool sort target = Whole
kind_by None true sort target = Boolean
kind_by None false (Some (Struct es)) target = Enumeration (map name_of es)
kind_by None false (Some (Alias s)) target = target s
kind_by None false None target = Whole

abbrev pub kind_within : ℕ → Model → Name → Kind
kind_within zero m s = Whole
kind_within (suc n) m s =
    kind_by (range_of m.ranges s) (same_name s (codes "Bool")) (declared m.sorts s)
    (kind_within n m)

abbrev pub kind_of : Model → Name → Kind
kind_of m s = kind_within (suc (length m.sorts)) m s

abbrev pub lowest : Carrier → Value
lowest [] = pos 0
lowest (v ∷ vs) = v

abbrev pub member_for : Model → Variable → Member
member_for m x = record {
  variable = x;
  kind = kind_of m x.sort;
  low = lowest (carrier_of (data_of m) x.sort);
  size = length (carrier_of (data_of m) x.sort);
}

abbrev pub all_members_for : Model → List Member
all_members_for m = map (member_for m) m.variables

-- ---- names

abbrev pub variable_names : List Variable → List Name
variable_names [] = []
variable_names (x ∷ xs) = x.name ∷ x.sort ∷ variable_names xs

abbrev mutual
  pub term_names : Term → List Name
  term_names (Term.Truth b) = []
  term_names (Term.Number n) = []
  term_names (Term.Named x) = x ∷ []
  term_names (Term.Not x) = term_names x
  term_names (Term.Negative x) = term_names x
  term_names (Term.Binary o x y) = term_names x ++ term_names y
  term_names (Term.Apply f xs) = all_term_names xs
  term_names (Term.Quantified q xs x) = variable_names xs ++ term_names x

  pub all_term_names : Terms → List Name
  all_term_names Terms.NoTerms = []
  all_term_names (Terms.Then x xs) = term_names x ++ all_term_names xs

abbrev pub formula_names : Formula → List Name
formula_names (Formula.Truth b) = []
formula_names (Formula.Data x) = term_names x
formula_names (Formula.Named X) = []
formula_names (Formula.Not f) = formula_names f
formula_names (Formula.And f g) = formula_names f ++ formula_names g
formula_names (Formula.Or f g) = formula_names f ++ formula_names g
formula_names (Formula.Implies f g) = formula_names f ++ formula_names g
formula_names (Formula.Box A f) = formula_names f
formula_names (Formula.Diamond A f) = formula_names f
formula_names (Formula.Fixpoint sign X f) = X ∷ formula_names f

abbrev pub step_names : Step → List Name
step_names a =
    variable_names a.variables ++ (term_names a.guard
    ++ flat_map (λ (b : Assignment). term_names b.term) a.assignments)

abbrev pub enumerators_in : Sort → List Name
enumerators_in (Struct es) = map name_of es
enumerators_in (Alias s) = []

abbrev pub targets_in : Sort → List Name
targets_in (Struct es) = []
targets_in (Alias s) = s ∷ []

abbrev pub sort_names : SortDeclaration → List Name
sort_names d = d.name ∷ enumerators_in d.sort ++ targets_in d.sort

-- the names of variables, sorts, enumerators and fixpoints in a model and in the formulas of its
-- properties
abbrev pub names_in : Model → List Name
names_in m =
    variable_names m.variables ++ (flat_map sort_names m.sorts ++ (flat_map step_names m.steps
    ++ (all_term_names m.initial
    ++ flat_map (λ (p : Property). formula_names p.formula) m.properties)))

-- ---- groups

-- the name, and where it is taken the name with more primes than any name has letters
abbrev pub unused_name : List Name → Name → Name
unused_name taken x = if is_among taken x then x ++ primes (suc (longest taken)) else x

-- one variable stays as it is; several get the name of the first with a prime, or with more of them
-- where that is taken
abbrev pub named_groups : List Name → List (List Member) → List Group
named_groups taken [] = []
named_groups taken ([] ∷ cs) = named_groups taken cs
named_groups taken ((p ∷ []) ∷ cs) = Alone p.variable ∷ named_groups taken cs
named_groups taken ((p ∷ r ∷ ps) ∷ cs) =
    let x = unused_name taken (p.variable.name ++ codes "'") in
    Joined (record { name = x; sort = x }) (p ∷ r ∷ ps) ∷ named_groups (x ∷ taken) cs

abbrev pub groups_of : Model → List Group
groups_of m =
    let ps = all_members_for m in named_groups (names_in m) (cut_into_groups (group_sizes ps) ps)

-- a model over at most eight variables, and what a formula says there
abbrev pub packed : Model → Model
packed m = packed_by (groups_of m) m

abbrev pub said_formula : Model → Formula → Formula
said_formula m f = packed_formula (groups_of m) f
