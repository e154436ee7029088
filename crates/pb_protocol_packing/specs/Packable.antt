-- What a model has to have to be packed, all of it said of the model alone.
use Rattle.std.specs.Prelude.{◌≡◌, suc, false, true, List, [], ◌++◌, length, flat_map}
use Rattle.pb_text_meaning.specs.Syntax.{Name, Variable, Term, Terms, SortDeclaration}
use Rattle.pb_model_meaning.specs.Syntax.{Assignment, Step, Formula, Property, Model}
use Rattle.pb_model_translation.specs.Apart.{HasNamesApart}
use Rattle.pb_protocol_packing.specs.Apart.{Each, is_among, AreAllApart, ends_within, term_count}
use Rattle.pb_protocol_packing.specs.Groups.{enumerators_in}

abbrev pub all_enumerators : Model → List Name
all_enumerators m = flat_map (λ (d : SortDeclaration). enumerators_in d.sort) m.sorts

-- ---- variables of quantifiers and steps

abbrev mutual
  pub bound_in : Term → List Variable
  bound_in (Term.Truth b) = []
  bound_in (Term.Number n) = []
  bound_in (Term.Named x) = []
  bound_in (Term.Not x) = bound_in x
  bound_in (Term.Negative x) = bound_in x
  bound_in (Term.Binary o x y) = bound_in x ++ bound_in y
  bound_in (Term.Apply f xs) = all_bound_in xs
  bound_in (Term.Quantified q xs x) = xs ++ bound_in x

  pub all_bound_in : Terms → List Variable
  all_bound_in Terms.NoTerms = []
  all_bound_in (Terms.Then x xs) = bound_in x ++ all_bound_in xs

abbrev pub bound_in_formula : Formula → List Variable
bound_in_formula (Formula.Truth b) = []
bound_in_formula (Formula.Data x) = bound_in x
bound_in_formula (Formula.Named X) = []
bound_in_formula (Formula.Not f) = bound_in_formula f
bound_in_formula (Formula.And f g) = bound_in_formula f ++ bound_in_formula g
bound_in_formula (Formula.Or f g) = bound_in_formula f ++ bound_in_formula g
bound_in_formula (Formula.Implies f g) = bound_in_formula f ++ bound_in_formula g
bound_in_formula (Formula.Box A f) = bound_in_formula f
bound_in_formula (Formula.Diamond A f) = bound_in_formula f
bound_in_formula (Formula.Fixpoint sign X f) = bound_in_formula f

abbrev pub bound_in_step : Step → List Variable
bound_in_step a =
    a.variables ++ (bound_in a.guard
    ++ flat_map (λ (b : Assignment). bound_in b.term) a.assignments)

-- all variables of a model
abbrev pub all_variables : Model → List Variable
all_variables m =
    m.variables ++ (flat_map bound_in_step m.steps ++ (all_bound_in m.initial
    ++ flat_map (λ (p : Property). bound_in_formula p.formula) m.properties))

pub record IsPackable (m : Model) : Type 0 where
  pub names : HasNamesApart m
  -- no two enumerators have one name, and no variable has an enumerator's
  pub enumerators : AreAllApart (all_enumerators m)
  pub variables :
      Each (λ (x : Variable). is_among (all_enumerators m) x.name ≡ false) (all_variables m)
  -- each chain of aliases has an end
  pub chains : (s : Name) → ends_within (suc (length m.sorts)) m s ≡ true
  -- an initial value for each variable
  pub count : term_count m.initial ≡ length m.variables
