-- Elements after assignments.
use Rattle.std.proofs.Common.{◌≡◌, Bool, true, false, ◌&&◌, if◌then◌else◌, List, [], ◌∷◌, ◌++◌, map, refl, ap, ◌∙◌}
use Rattle.std.proofs.lemmas.List.{map-append}
use Rattle.std.specs.Ordering.{int_eq}
use Rattle.pb_base_values.specs.Carrier.{of_bool}
use Rattle.pb_text_meaning.specs.Syntax.{same_name, Term, Terms, Spec}
use Rattle.pb_text_meaning.specs.Value as data_value
use Rattle.pb_text_meaning.specs.Value.{is_true, value, values}
use Rattle.pb_protocol_meaning.specs.Syntax.{Assignment}
use Rattle.pb_protocol_unfolding.specs.PutIn.{TermScope, Forms, put_in, all_put_in, choice}
use Rattle.pb_protocol_meaning.specs.Meaning.{Functions, same_values}
use Rattle.pb_protocol_meaning.specs.Steps.{Update, update_by, updates_by, updates, value_after}
use Rattle.pb_protocol_unfolding.specs.Unfolding.{Element, valued, is_index, Copy, copies_of, all_copies, after_copies, term_after}
use Rattle.pb_protocol_unfolding.specs.TermLaws.{Means, ElementsAreAssigned}
use Rattle.pb_text_meaning.proofs.Truths.{is_true-of_bool}
use Rattle.pb_protocol_unfolding.proofs.PutIn.{choice-value, copies-for_each, put_in-value, all_put_in-values}

is_index-value : (spec : Spec) (a : data_value.Assignment) (ts : Terms) (ks : List Term) →
    is_true (value spec a (is_index ts ks)) ≡ same_values (values spec a ts) (map (value spec a) ks)
is_index-value spec a Terms.NoTerms [] = refl
is_index-value spec a Terms.NoTerms (k ∷ ks) = refl
is_index-value spec a (Terms.Then t ts) [] = refl
is_index-value spec a (Terms.Then t ts) (k ∷ ks) =
    let here = int_eq (value spec a t) (value spec a k) in
    is_true-of_bool (is_true (of_bool here) && is_true (value spec a (is_index ts ks))) ∙
    (ap (λ b. b && is_true (value spec a (is_index ts ks))) (is_true-of_bool here) ∙
    ap (λ b. here && b) (is_index-value spec a ts ks))

module _ (spec : Spec) (a : data_value.Assignment) (forms : Forms) (functions : Functions)
    (means : Means spec a forms functions) where
  -- what a copy of an assignment does
  abbrev update_of : Copy → Update
  update_of c = update_by spec functions c.assignment (valued spec a c.scope)

  after_copies-value : (cs : List Copy) (e : Element) (before : Term) →
      value spec a (after_copies spec forms cs e before) ≡ value_after (map update_of cs) e.array (map (value spec a) e.index) (value spec a before)
  after_copies-value [] e before = refl
  after_copies-value (c ∷ others) e before =
      let b = c.assignment in
      let next = if same_name b.variable e.array then choice (is_index (all_put_in spec forms c.scope b.index) e.index) (put_in spec forms c.scope b.term) before else before in
      after_copies-value others e next ∙
      ap (value_after (map update_of others) e.array (map (value spec a) e.index)) (by (same_name b.variable e.array))
    where
      test-value : is_true (value spec a (is_index (all_put_in spec forms c.scope c.assignment.index) e.index)) ≡ same_values (update_of c).index (map (value spec a) e.index)
      test-value =
          is_index-value spec a (all_put_in spec forms c.scope c.assignment.index) e.index ∙
          ap (λ vs. same_values vs (map (value spec a) e.index)) (all_put_in-values spec a forms functions means c.assignment.index c.scope)

      by : (b : Bool) →
          value spec a (if b then choice (is_index (all_put_in spec forms c.scope c.assignment.index) e.index) (put_in spec forms c.scope c.assignment.term) before else before)
          ≡ (if b && same_values (update_of c).index (map (value spec a) e.index) then (update_of c).value else value spec a before)
      by false = refl
      by true =
          choice-value spec a (is_index (all_put_in spec forms c.scope c.assignment.index) e.index) (put_in spec forms c.scope c.assignment.term) before ∙
          (ap (λ t. if t then value spec a (put_in spec forms c.scope c.assignment.term) else value spec a before) test-value ∙
          ap (λ v. if same_values (update_of c).index (map (value spec a) e.index) then v else value spec a before)
          (put_in-value spec a forms functions means c.assignment.term c.scope))

  -- the copies of assignments do what these do
  copies-updates : (ρ : TermScope) (assignments : List Assignment) → map update_of (all_copies spec ρ assignments) ≡ updates spec functions (valued spec a ρ) assignments
  copies-updates ρ [] = refl
  copies-updates ρ (b ∷ others) =
      map-append update_of (copies_of spec ρ b) (all_copies spec ρ others) ∙
      (ap (λ us. us ++ map update_of (all_copies spec ρ others))
      (copies-for_each spec a means.written b.variables (λ σ. record { scope = σ; assignment = b }) update_of (update_by spec functions b) (λ σ. refl) ρ) ∙
      ap (λ us. updates_by spec functions (valued spec a ρ) b ++ us) (copies-updates ρ others))

  pub term_after-value : (ρ : TermScope) (assignments : List Assignment) (e : Element) (before : Term) →
      value spec a (term_after spec forms ρ assignments e before)
      ≡ value_after (updates spec functions (valued spec a ρ) assignments) e.array (map (value spec a) e.index) (value spec a before)
  term_after-value ρ assignments e before =
      after_copies-value (all_copies spec ρ assignments) e before ∙
      ap (λ us. value_after us e.array (map (value spec a) e.index) (value spec a before)) (copies-updates ρ assignments)

pub elements_are_assigned : ElementsAreAssigned
elements_are_assigned spec a forms functions means ρ assignments e before = term_after-value spec a forms functions means ρ assignments e before
