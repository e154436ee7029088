-- A model that can be packed is packed by its groups.
use Rattle.std.proofs.Common.{◌≡◌, zero, suc, Bool, true, false, true≢false, not, List, [], ◌∷◌, ◌++◌, map, length, flat_map, refl, sym, ap, ◌∙◌, subst, arith}
use Rattle.std.specs.Prelude.{Contains}
use Rattle.std.specs.List.{list_all}
use Rattle.std.specs.Cmp.Lexicographic.{same_text}
use Rattle.std.proofs.lemmas.Bool.{and_from}
use Rattle.pb_text_meaning.specs.Syntax.{Name, same_name, Variable, Term, Terms, Sort, Struct, Alias, SortDeclaration}
use Rattle.pb_model_meaning.specs.Syntax.{Assignment, Step, Formula, Property, Model}
use Rattle.pb_model_translation.specs.Names as names
use Rattle.pb_model_translation.specs.Apart.{IsNew, AreApart, AreNew, StepsAreNew, HasNamesApart}
use Rattle.pb_model_translation.proofs.Answer.{translations_have_the_answer}
use Rattle.pb_protocol_packing.specs.Packing.{Member, Group, Alone, Joined, variable_of, packed_step}
use Rattle.pb_protocol_packing.specs.Apart.{Each, is_among, all_members, variables_of, group_variables, new_names, new_sorts, enumerators_of, used_enumerators, may_bind, is_apart, all_apart, is_apart_step, is_apart_formula, IsMember, AreAllApart, HasOldSort, HasOldTarget, is_old_target, IsPacking}
use Rattle.pb_protocol_packing.specs.Groups.{member_for, all_members_for, variable_names, term_names, all_term_names, formula_names, step_names, enumerators_in, targets_in, sort_names, names_in, groups_of, packed, said_formula}
use Rattle.pb_protocol_packing.specs.Sizes.{group_sizes, cut_into_groups}
use Rattle.pb_protocol_packing.specs.Packable.{all_enumerators, bound_in, all_bound_in, bound_in_formula, bound_in_step, all_variables, IsPackable}
use Rattle.pb_protocol_packing.specs.Laws.{PropertiesStay, PackedTranslationsHaveTheAnswer, HaveFewVariables, StatesStandForStates, PackedNamesAreApart, FixpointsKeepTheirNames}
use Rattle.pb_protocol_packing.proofs.Lists.{each-same, each-front, each-rest, each-join, each-flat, each-among, each-at}
use Rattle.pb_protocol_packing.proofs.Places.{place-is, place-enumerators}
use Rattle.pb_protocol_packing.proofs.Groups.{new-apart, sorts-are-names, new-all-apart, group_variables-are, each-place, is-new, after-apart, after-new, cut-all, few-groups, length-cut}
use Rattle.pb_protocol_packing.proofs.Sizes.{few-sizes, total-sizes}
use Rattle.pb_protocol_packing.proofs.Answer.{initial-same, packed_models_satisfy_the_same}
use Rattle.pb_protocol_packing.proofs.Successors.{steps-same}

not-from : (b : Bool) → b ≡ false → not b ≡ true
not-from true e = absurd (true≢false e)
not-from false e = refl

-- ---- terms

module _ (gs : List Group) where
  -- neither a new variable's name nor a new sort's
  abbrev IsOld : Name → Type 0
  IsOld y = (is_among (new_names gs) y ≡ false) × (is_among (new_sorts gs) y ≡ false)

  -- it hides no enumerator that terms are said by
  abbrev HidesNone : Variable → Type 0
  HidesNone x = is_among (used_enumerators gs) x.name ≡ false

  may-bind : (xs : List Variable) → Each IsOld (variable_names xs) → Each HidesNone xs → list_all (may_bind gs) xs ≡ true
  may-bind [] old hides = refl
  may-bind (x ∷ xs) old hides =
      and_from _ _ (and_from _ _ (and_from _ _ (not-from _ old.0.0) (not-from _ hides.0)) (not-from _ old.1.0.1)) (may-bind xs old.1.1 hides.1)

  mutual
    term-apart : (x : Term) → Each IsOld (term_names x) → Each HidesNone (bound_in x) → is_apart gs x ≡ true
    term-apart (Term.Truth b) old hides = refl
    term-apart (Term.Number n) old hides = refl
    term-apart (Term.Named x) old hides = not-from _ old.0.0
    term-apart (Term.Not x) old hides = term-apart x old hides
    term-apart (Term.Negative x) old hides = term-apart x old hides
    term-apart (Term.Binary o x y) old hides =
        and_from _ _ (term-apart x (each-front IsOld (term_names x) (term_names y) old) (each-front HidesNone (bound_in x) (bound_in y) hides))
        (term-apart y (each-rest IsOld (term_names x) (term_names y) old) (each-rest HidesNone (bound_in x) (bound_in y) hides))
    term-apart (Term.Apply f xs) old hides = terms-apart xs old hides
    term-apart (Term.Quantified q xs x) old hides =
        and_from _ _ (may-bind xs (each-front IsOld (variable_names xs) (term_names x) old) (each-front HidesNone xs (bound_in x) hides))
        (term-apart x (each-rest IsOld (variable_names xs) (term_names x) old) (each-rest HidesNone xs (bound_in x) hides))

    terms-apart : (xs : Terms) → Each IsOld (all_term_names xs) → Each HidesNone (all_bound_in xs) → all_apart gs xs ≡ true
    terms-apart Terms.NoTerms old hides = refl
    terms-apart (Terms.Then x xs) old hides =
        and_from _ _ (term-apart x (each-front IsOld (term_names x) (all_term_names xs) old) (each-front HidesNone (bound_in x) (all_bound_in xs) hides))
        (terms-apart xs (each-rest IsOld (term_names x) (all_term_names xs) old) (each-rest HidesNone (bound_in x) (all_bound_in xs) hides))

  formula-apart : (f : Formula) → Each IsOld (formula_names f) → Each HidesNone (bound_in_formula f) → is_apart_formula gs f ≡ true
  formula-apart (Formula.Truth b) old hides = refl
  formula-apart (Formula.Data x) old hides = term-apart x old hides
  formula-apart (Formula.Named X) old hides = refl
  formula-apart (Formula.Not f) old hides = formula-apart f old hides
  formula-apart (Formula.And f g) old hides =
      and_from _ _ (formula-apart f (each-front IsOld (formula_names f) (formula_names g) old) (each-front HidesNone (bound_in_formula f) (bound_in_formula g) hides))
      (formula-apart g (each-rest IsOld (formula_names f) (formula_names g) old) (each-rest HidesNone (bound_in_formula f) (bound_in_formula g) hides))
  formula-apart (Formula.Or f g) old hides =
      and_from _ _ (formula-apart f (each-front IsOld (formula_names f) (formula_names g) old) (each-front HidesNone (bound_in_formula f) (bound_in_formula g) hides))
      (formula-apart g (each-rest IsOld (formula_names f) (formula_names g) old) (each-rest HidesNone (bound_in_formula f) (bound_in_formula g) hides))
  formula-apart (Formula.Implies f g) old hides =
      and_from _ _ (formula-apart f (each-front IsOld (formula_names f) (formula_names g) old) (each-front HidesNone (bound_in_formula f) (bound_in_formula g) hides))
      (formula-apart g (each-rest IsOld (formula_names f) (formula_names g) old) (each-rest HidesNone (bound_in_formula f) (bound_in_formula g) hides))
  formula-apart (Formula.Box A f) old hides = formula-apart f old hides
  formula-apart (Formula.Diamond A f) old hides = formula-apart f old hides
  formula-apart (Formula.Fixpoint sign X f) old hides = formula-apart f old.1 hides

  fixpoints-apart : (f : Formula) → Each IsOld (formula_names f) → Each (λ (X : Name). is_among (new_names gs) X ≡ false) (names.variables_of f)
  fixpoints-apart (Formula.Truth b) old = tt
  fixpoints-apart (Formula.Data x) old = tt
  fixpoints-apart (Formula.Named X) old = tt
  fixpoints-apart (Formula.Not f) old = fixpoints-apart f old
  fixpoints-apart (Formula.And f g) old =
      each-join _ (names.variables_of f) _ (fixpoints-apart f (each-front IsOld (formula_names f) (formula_names g) old))
      (fixpoints-apart g (each-rest IsOld (formula_names f) (formula_names g) old))
  fixpoints-apart (Formula.Or f g) old =
      each-join _ (names.variables_of f) _ (fixpoints-apart f (each-front IsOld (formula_names f) (formula_names g) old))
      (fixpoints-apart g (each-rest IsOld (formula_names f) (formula_names g) old))
  fixpoints-apart (Formula.Implies f g) old =
      each-join _ (names.variables_of f) _ (fixpoints-apart f (each-front IsOld (formula_names f) (formula_names g) old))
      (fixpoints-apart g (each-rest IsOld (formula_names f) (formula_names g) old))
  fixpoints-apart (Formula.Box A f) old = fixpoints-apart f old
  fixpoints-apart (Formula.Diamond A f) old = fixpoints-apart f old
  fixpoints-apart (Formula.Fixpoint sign X f) old = (old.0.0, fixpoints-apart f old.1)

  assigned-apart : (L : List Assignment) → Each IsOld (flat_map (λ (b : Assignment). term_names b.term) L) → Each HidesNone (flat_map (λ (b : Assignment). bound_in b.term) L) →
      list_all (λ (b : Assignment). is_apart gs b.term) L ≡ true
  assigned-apart [] old hides = refl
  assigned-apart (b ∷ L) old hides =
      and_from _ _ (term-apart b.term (each-front IsOld (term_names b.term) _ old) (each-front HidesNone (bound_in b.term) _ hides))
      (assigned-apart L (each-rest IsOld (term_names b.term) _ old) (each-rest HidesNone (bound_in b.term) _ hides))

  step-apart : (a : Step) → Each IsOld (step_names a) → Each HidesNone (bound_in_step a) → is_apart_step gs a ≡ true
  step-apart a old hides =
      let names = each-rest IsOld (variable_names a.variables) _ old in
      let bound = each-rest HidesNone a.variables _ hides in
      and_from _ _ (and_from _ _ (may-bind a.variables (each-front IsOld (variable_names a.variables) _ old) (each-front HidesNone a.variables _ hides))
      (term-apart a.guard (each-front IsOld (term_names a.guard) _ names) (each-front HidesNone (bound_in a.guard) _ bound)))
      (assigned-apart a.assignments (each-rest IsOld (term_names a.guard) _ names) (each-rest HidesNone (bound_in a.guard) _ bound))

  steps-apart : (steps : List Step) → Each (λ (a : Step). Each IsOld (step_names a)) steps
      → Each (λ (a : Step). Each HidesNone (bound_in_step a)) steps → Each (λ (a : Step). is_apart_step gs a ≡ true) steps
  steps-apart [] old hides = tt
  steps-apart (a ∷ steps) old hides = (step-apart a old.0 hides.0, steps-apart steps old.1 hides.1)

  old-sorts : (hs : List Group) → Each IsOld (variable_names (flat_map group_variables hs)) → Each (HasOldSort gs) hs
  old-sorts [] old = tt
  old-sorts (Alone x ∷ hs) old = (old.1.0.1, old-sorts hs old.1.1)
  old-sorts (Joined x ps ∷ hs) old = (tt, old-sorts hs (behind (variables_of ps) (flat_map group_variables hs) old))
    where
      behind : (xs ys : List Variable) → Each IsOld (variable_names (xs ++ ys)) → Each IsOld (variable_names ys)
      behind [] ys old = old
      behind (x ∷ xs) ys old = behind xs ys old.1.1

  old-target : (d : SortDeclaration) → Each IsOld (sort_names d) → HasOldTarget gs d
  old-target d old = by d.sort (each-rest IsOld (enumerators_in d.sort) (targets_in d.sort) old.1)
    where
      by : (s : Sort) → Each IsOld (targets_in s) → is_old_target gs s ≡ true
      by (Struct es) old = refl
      by (Alias s) old = not-from _ old.0.1

-- ---- a model

places-variables : (m : Model) (xs : List Variable) → variables_of (map (member_for m) xs) ≡ xs
places-variables m [] = refl
places-variables m (x ∷ xs) = ap (λ (ys : List Variable). x ∷ ys) (places-variables m xs)

each-map : {A B : Type 0} (P : B → Type 0) (f : A → B) (xs : List A) → ((x : A) → P (f x)) → Each P (map f xs)
each-map P f [] h = tt
each-map P f (x ∷ xs) h = (h x, each-map P f xs h)

-- names of variables are among the names of the variables
variables-among : (xs : List Variable) (P : Name → Type 0) → Each P (variable_names xs) → Each (λ (x : Variable). P x.name) xs
variables-among [] P h = tt
variables-among (x ∷ xs) P h = (h.0, variables-among xs P h.1.1)

each-contains : {A : Type 0} (P : A → Type 0) (xs : List A) (x : A) → Contains xs x → Each P xs → P x
each-contains P [] x (k, below, at) each = absurd (omega (arith, below))
each-contains P (y ∷ xs) x (zero, below, at) each = subst P at each.0
each-contains P (y ∷ xs) x (suc k, below, at) each = each-contains P xs x (k, omega (arith, below), at) each.1

module _ (m : Model) (able : IsPackable m) where
  abbrev chunks : List (List Member)
  chunks = cut_into_groups (group_sizes (all_members_for m)) (all_members_for m)

  abbrev gs : List Group
  gs = groups_of m

  all-cut : flat_map (λ (c : List Member). c) chunks ≡ all_members_for m
  all-cut = cut-all (group_sizes (all_members_for m)) (all_members_for m) (omega (arith, total-sizes (all_members_for m)))

  variables-cut : variables_of (flat_map (λ (c : List Member). c) chunks) ≡ m.variables
  variables-cut = ap variables_of all-cut ∙ places-variables m m.variables

  -- a fact of all places is one of those in groups
  in-groups : (P : Member → Type 0) → Each P (all_members_for m) → Each P (all_members gs)
  in-groups P h = each-place P (names_in m) chunks (subst (Each P) (sym all-cut) h)

  old : Each (IsOld gs) (names_in m)
  old = each-same _ _ (names_in m) (λ y among.
      let new = new-apart (names_in m) chunks y among in (new, ap (λ (xs : List Name). is_among xs y) (sorts-are-names (names_in m) chunks) ∙ new)) (each-among (names_in m))

  used : Each (λ (e : Name). is_among (all_enumerators m) e ≡ true) (used_enumerators gs)
  used = flat (all_members gs)
      (in-groups (λ (p : Member). Each (λ (e : Name). is_among (all_enumerators m) e ≡ true) (enumerators_of p.kind))
      (each-map _ (member_for m) m.variables (place-enumerators m able.enumerators)))
    where
      flat : (ps : List Member)
          → Each (λ (p : Member). Each (λ (e : Name). is_among (all_enumerators m) e ≡ true) (enumerators_of p.kind)) ps
          → Each (λ (e : Name). is_among (all_enumerators m) e ≡ true) (flat_map (λ (p : Member). enumerators_of p.kind) ps)
      flat [] h = tt
      flat (p ∷ ps) h = each-join _ (enumerators_of p.kind) _ h.0 (flat ps h.1)

  hides-none : (x : Variable) → is_among (all_enumerators m) x.name ≡ false → HidesNone gs x
  hides-none x e = by (is_among (used_enumerators gs) x.name) refl
    where
      by : (b : Bool) → is_among (used_enumerators gs) x.name ≡ b → b ≡ false
      by true h = absurd (true≢false (sym (each-at (λ (e : Name). is_among (all_enumerators m) e ≡ true) (used_enumerators gs) x.name h used) ∙ e))
      by false h = refl

  hides : Each (HidesNone gs) (all_variables m)
  hides = each-same _ _ (all_variables m) hides-none able.variables

  -- the parts of both lists
  old_variables : Each (IsOld gs) (variable_names m.variables)
  old_variables = each-front (IsOld gs) (variable_names m.variables) _ old

  old_sorts : Each (IsOld gs) (flat_map sort_names m.sorts)
  old_sorts = each-front (IsOld gs) (flat_map sort_names m.sorts) _ (each-rest (IsOld gs) (variable_names m.variables) _ old)

  old_terms : Each (IsOld gs) (flat_map step_names m.steps ++ (all_term_names m.initial ++ flat_map (λ (p : Property). formula_names p.formula) m.properties))
  old_terms = each-rest (IsOld gs) (flat_map sort_names m.sorts) _ (each-rest (IsOld gs) (variable_names m.variables) _ old)

  hides_terms : Each (HidesNone gs) (flat_map bound_in_step m.steps ++ (all_bound_in m.initial ++ flat_map (λ (p : Property). bound_in_formula p.formula) m.properties))
  hides_terms = each-rest (HidesNone gs) m.variables _ hides

  variables-are : m.variables ≡ flat_map group_variables gs
  variables-are = sym variables-cut ∙ sym (group_variables-are (names_in m) chunks)

  taken-variables : Each (λ (x : Variable). is_among (names_in m) x.name ≡ true) m.variables
  taken-variables = variables-among m.variables (λ y. is_among (names_in m) y ≡ true) (each-front _ (variable_names m.variables) _ (each-among (names_in m)))

  enumerators-new : Each (λ (e : Name). IsNew e (map variable_of gs)) (used_enumerators gs)
  enumerators-new =
      each-same _ _ (used_enumerators gs)
      (λ e among. is-new (names_in m) chunks e
      (subst (λ (xs : List Variable). IsNew e xs) (sym variables-cut)
      (apart m.variables e among (each-front _ m.variables _ able.variables))) (new e among)) used
    where
      apart : (xs : List Variable) (e : Name) → is_among (all_enumerators m) e ≡ true → Each (λ (x : Variable). is_among (all_enumerators m) x.name ≡ false) xs → IsNew e xs
      apart [] e among h = tt
      apart (x ∷ xs) e among h = (by (same_name x.name e) refl, apart xs e among h.1)
        where
          by : (b : Bool) → same_name x.name e ≡ b → b ≡ false
          by true same = absurd (true≢false (sym among ∙ (ap (is_among (all_enumerators m)) (sym (same_text x.name e (sym same))) ∙ h.0)))
          by false same = refl

      new : (e : Name) → is_among (all_enumerators m) e ≡ true → is_among (new_names gs) e ≡ false
      new e among = (each-at (IsOld gs) (all_enumerators m) e among (enumerators-old m.sorts old_sorts)).0
        where
          enumerators-old : (ds : List SortDeclaration) → Each (IsOld gs) (flat_map sort_names ds) → Each (IsOld gs) (flat_map (λ (d : SortDeclaration). enumerators_in d.sort) ds)
          enumerators-old [] h = tt
          enumerators-old (d ∷ ds) h =
              each-join (IsOld gs) (enumerators_in d.sort) _
              (each-front (IsOld gs) (enumerators_in d.sort) (targets_in d.sort)
              (each-front (IsOld gs) (sort_names d) _ h).1) (enumerators-old ds (each-rest (IsOld gs) (sort_names d) _ h))

  pub is-packing : IsPacking m gs
  is-packing = record {
    variables = variables-are;
    places = in-groups (IsMember m) (each-map (IsMember m) (member_for m) m.variables (place-is m able.enumerators));
    before = able.names.variables;
    after = after-apart (names_in m) chunks (subst AreApart (sym variables-cut) able.names.variables)
        (subst (Each (λ (x : Variable). is_among (names_in m) x.name ≡ true)) (sym variables-cut) taken-variables);
    enumerators = enumerators-new;
    sorts = subst AreAllApart (sym (sorts-are-names (names_in m) chunks)) (new-all-apart (names_in m) chunks);
    old_sorts = old-sorts gs gs (subst (λ (xs : List Variable). Each (IsOld gs) (variable_names xs)) variables-are old_variables);
    old_targets = each-same _ _ m.sorts (old-target gs) (each-flat (IsOld gs) sort_names m.sorts old_sorts);
    chains = able.chains;
    steps = steps-apart gs m.steps
        (each-flat (IsOld gs) step_names m.steps (each-front (IsOld gs) (flat_map step_names m.steps) _ old_terms))
        (each-flat (HidesNone gs) bound_in_step m.steps (each-front (HidesNone gs) (flat_map bound_in_step m.steps) _ hides_terms));
    initial = terms-apart gs m.initial
        (each-front (IsOld gs) (all_term_names m.initial) _
        (each-rest (IsOld gs) (flat_map step_names m.steps) _ old_terms))
        (each-front (HidesNone gs) (all_bound_in m.initial) _ (each-rest (HidesNone gs) (flat_map bound_in_step m.steps) _ hides_terms));
    count = able.count;
  }

  old_formula : (p : Property) → Contains m.properties p → Each (IsOld gs) (formula_names p.formula)
  old_formula p h =
      each-contains _ m.properties p h
      (each-flat (IsOld gs) (λ (p : Property). formula_names p.formula) m.properties
      (each-rest (IsOld gs) (all_term_names m.initial) _ (each-rest (IsOld gs) (flat_map step_names m.steps) _ old_terms)))

  pub fixpoints-keep : (p : Property) → Contains m.properties p → Each (λ (X : Name). is_among (new_names gs) X ≡ false) (names.variables_of p.formula)
  fixpoints-keep p h = fixpoints-apart gs p.formula (old_formula p h)

  pub property-apart : (p : Property) → Contains m.properties p → is_apart_formula gs p.formula ≡ true
  property-apart p h =
      formula-apart gs p.formula (old_formula p h)
      (each-contains _ m.properties p h
      (each-flat (HidesNone gs) (λ (p : Property). bound_in_formula p.formula) m.properties
      (each-rest (HidesNone gs) (all_bound_in m.initial) _ (each-rest (HidesNone gs) (flat_map bound_in_step m.steps) _ hides_terms))))

  pub names-apart : HasNamesApart (packed m)
  names-apart =
      record {
        variables = is-packing.after;
        steps =
            all-new m.steps able.names.steps
            (each-flat _ step_names m.steps
            (each-front _ (flat_map step_names m.steps) _
            (each-rest _ (flat_map sort_names m.sorts) _ (each-rest _ (variable_names m.variables) _ (each-among (names_in m))))));
      }
    where
      all-new : (steps : List Step) → StepsAreNew m.variables steps
          → Each (λ (a : Step). Each (λ (y : Name). is_among (names_in m) y ≡ true) (step_names a)) steps
          → StepsAreNew (map variable_of gs) (map (packed_step gs) steps)
      all-new [] new among = tt
      all-new (a ∷ steps) new among = (
        after-new (names_in m) chunks a.variables
            (subst (λ (xs : List Variable). AreNew xs a.variables) (sym variables-cut) new.0)
            (variables-among a.variables (λ y. is_among (names_in m) y ≡ true) (each-front _ (variable_names a.variables) _ among.0)),
        all-new steps new.1 among.1,
      )

pub packed_names_are_apart : PackedNamesAreApart
packed_names_are_apart m able = names-apart m able

pub fixpoints_keep_their_names : FixpointsKeepTheirNames
fixpoints_keep_their_names m p able among = fixpoints-keep m able p among

pub properties_stay : PropertiesStay
properties_stay m p able among = packed_models_satisfy_the_same m (groups_of m) p.formula (is-packing m able) (property-apart m able p among)

pub packed_translations_have_the_answer : PackedTranslationsHaveTheAnswer
packed_translations_have_the_answer m p able among = translations_have_the_answer (packed m) (said_formula m p.formula) (names-apart m able) ∙ properties_stay m p able among

pub have_few_variables : HaveFewVariables
have_few_variables m =
    let ps = all_members_for m in
    let few = few-groups (names_in m) (cut_into_groups (group_sizes ps) ps) in
    omega (arith, few, length-cut (group_sizes ps) ps, few-sizes ps)

pub states_stand_for_states : StatesStandForStates
states_stand_for_states m able = (initial-same m (groups_of m) (is-packing m able), (λ A t e. steps-same m (groups_of m) (is-packing m able) A t e))
