-- Which steps stay whole where a protocol is unfolded, if there are too many with their values:
-- those whose own variables stand in terms as data alone, and which no property names by values.
use Rattle.std.specs.Prelude.{Bool, true, false, not, ◌&&◌, ◌||◌, List, [], ◌∷◌, ◌++◌, flat_map}
use Rattle.std.specs.List.{list_any, list_all}
use Rattle.pb_text_meaning.specs.Syntax.{Name, same_name, Operator, Term, Terms}
use Rattle.pb_protocol_folding.specs.Names.{names_of}
use Rattle.pb_protocol_meaning.specs.Syntax.{Assignment, Step, StepSet, Formula, Property}

-- whether a name is one of these
abbrev pub is_among : List Name → Name → Bool
is_among names x = list_any (same_name x) names

-- ---- terms

abbrev pub is_division : Operator → Bool
is_division Operator.Div = true
is_division Operator.Mod = true
is_division o = false

-- Names stand in a term as data alone, so not within arguments, indices and divisors, by which it
-- is checked what is read and what is divided by; where they aren't free, they don't stand in it.
abbrev mutual
  pub is_data : List Name → Bool → Term → Bool
  is_data own free (Term.Truth b) = true
  is_data own free (Term.Number n) = true
  is_data own free (Term.Named x) = free || not (is_among own x)
  is_data own free (Term.Not x) = is_data own free x
  is_data own free (Term.Negative x) = is_data own free x
  is_data own free (Term.Binary o x y) =
      is_data own free x && is_data own (free && not (is_division o)) y
  is_data own free (Term.Apply f xs) = are_absent own xs
  is_data own free (Term.Quantified q ys x) = is_data own free x

  pub are_absent : List Name → Terms → Bool
  are_absent own Terms.NoTerms = true
  are_absent own (Terms.Then x xs) = is_data own false x && are_absent own xs

abbrev pub assigns_data : List Name → Assignment → Bool
assigns_data own a = are_absent own a.index && is_data own true a.term

-- ---- names

-- these are apart, and none of them is one of the others
abbrev pub are_fresh : List Name → List Name → Bool
are_fresh others [] = true
are_fresh others (x ∷ xs) =
    not (is_among others x) && not (is_among xs x) && are_fresh others xs

-- ---- sets of steps

-- the names of the steps that are named by values, in a set and in a formula
abbrev pub valued_in_set : StepSet → List Name
valued_in_set StepSet.All = []
valued_in_set (StepSet.Only x) = []
valued_in_set (StepSet.With x xs) = x ∷ []
valued_in_set (StepSet.Complement A) = valued_in_set A
valued_in_set (StepSet.Union A B) = valued_in_set A ++ valued_in_set B

abbrev pub valued_in : Formula → List Name
valued_in (Formula.Truth b) = []
valued_in (Formula.Data x) = []
valued_in (Formula.Named X) = []
valued_in (Formula.Not f) = valued_in f
valued_in (Formula.And f g) = valued_in f ++ valued_in g
valued_in (Formula.Or f g) = valued_in f ++ valued_in g
valued_in (Formula.Implies f g) = valued_in f ++ valued_in g
valued_in (Formula.Box A f) = valued_in_set A ++ valued_in f
valued_in (Formula.Diamond A f) = valued_in_set A ++ valued_in f
valued_in (Formula.Fixpoint sign X f) = valued_in f
valued_in (Formula.Quantified q xs f) = valued_in f

-- and in these properties
abbrev pub valued_by : List Property → List Name
valued_by properties = flat_map (λ (p : Property). valued_in p.formula) properties

-- ---- steps

-- where `valued` are named by values, and the step's own variables may have none of these names
abbrev pub stays_whole : List Name → List Name → Step → Bool
stays_whole others valued a =
    not (is_among valued a.name) && are_fresh others (names_of a.variables)
    && is_data (names_of a.variables) true a.guard
    && list_all (assigns_data (names_of a.variables)) a.assignments
