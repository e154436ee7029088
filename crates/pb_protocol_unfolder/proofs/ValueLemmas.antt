-- The values of terms that are written as one.
use Rattle.std.proofs.Common.{◌≡◌, ◌∙◌, ℕ, pos, neg_ℤ, refl, sym, ap, Bool, true, false, ◌&&◌, if◌then◌else◌, List, [], ◌∷◌, map, Option, Some, None}
use Rattle.std.specs.Prelude.{unwrap_or, Result, Ok, Err, IfOk}
use Rattle.std.specs.Result.{result_ok}
use Rattle.pb_base_values.specs.Carrier.{Value, of_bool}
use Rattle.pb_text_tree.specs.declared.sort.SortDeclaration.{SortDeclaration}
use Rattle.pb_text_tree.specs.Form.{sort_declaration_form}
use Rattle.pb_text_meaning.specs.Syntax.{Name, same_name, Variable, Term, Spec}
use Rattle.pb_text_meaning.specs.Syntax as syntax
use Rattle.pb_text_meaning.specs.Erase.{erased_declaration}
use Rattle.pb_text_meaning.specs.Sorts.{place_in}
use Rattle.pb_text_meaning.specs.Value.{Assignment, looked_up, value}
use Rattle.pb_text_meaning.specs.Meaning.{assigned}
use Rattle.pb_protocol_folding.specs.Folding.{is_small, small_value, place_value, written_value}
use Rattle.pb_protocol_folding.specs.View.{spec_of, declaration_of}
use Rattle.pb_protocol_meaning.specs.Syntax.{Definition}
use Rattle.pb_protocol_meaning.specs.Meaning.{Functions, are_as_many, meaning, named_meaning, no_functions, with_definitions}
use Rattle.pb_protocol_meaning.specs.Meaning as functions
use Rattle.pb_protocol_unfolding.specs.PutIn.{TermScope, term_of}
use Rattle.pb_protocol_unfolding.specs.Unfolding.{valued}
use Rattle.pb_protocol_unfolder.specs.Defined.{has_no_parameters, said_by, standing_by, stands_for, with_definition}

-- ---- by the sorts alone

sorts-said : (ds : List SortDeclaration) → map declaration_of ds ≡ map erased_declaration (map sort_declaration_form ds)
sorts-said [] = refl
sorts-said (d ∷ ds) = ap (λ v. declaration_of d ∷ v) (sorts-said ds)

by-sorts : (s r : Spec) → s.sorts ≡ r.sorts → (t : Term) → written_value s t ≡ written_value r t
by-sorts s r same (Term.Truth b) = refl
by-sorts s r same (Term.Number n) = refl
by-sorts s r same (Term.Negative (Term.Number n)) = refl
by-sorts s r same (Term.Named x) = ap (λ (ds : List syntax.SortDeclaration). place_value (place_in (λ e. same_name e.name x) ds)) same
by-sorts s r same t = refl

-- the value of a written term, by the declared sorts of a tree
pub written-by : (r : Spec) (ds : List SortDeclaration) (t : Term) → map erased_declaration (map sort_declaration_form ds) ≡ r.sorts → written_value (spec_of ds) t ≡ written_value r t
written-by r ds t same = by-sorts (spec_of ds) r (sorts-said ds ∙ same) t

-- ---- what a written term means

some-is : (v w : Value) → Some v ≡ Some w → v ≡ w
some-is v w e = cc

small-is : (v w : Value) → small_value v ≡ Some w → v ≡ w
small-is v w e = by (is_small v) e
  where
    by : (b : Bool) → (if b then Some v else None) ≡ Some w → v ≡ w
    by true h = some-is v w h
    by false h = absurd (cc)

-- whether no name is looked for
abbrev pub is_nameless : Term → Bool
is_nameless (Term.Named x) = false
is_nameless t = true

module _ (spec : Spec) where
  place-is : (o : Option ℕ) (v : Value) → place_value o ≡ Some v → pos (unwrap_or o 0) ≡ v
  place-is (Some n) v e = small-is (pos n) v e
  place-is None v e = absurd (cc)

  -- where nothing stands for names
  pub written-value : (t : Term) (v : Value) → written_value spec t ≡ Some v → v ≡ value spec [] t
  written-value (Term.Truth b) v e = sym (some-is (of_bool b) v e)
  written-value (Term.Number n) v e = sym (small-is (pos n) v e)
  written-value (Term.Negative (Term.Number n)) v e = sym (small-is (neg_ℤ (pos n)) v e)
  written-value (Term.Named x) v e = sym (place-is (place_in (λ e. same_name e.name x) spec.sorts) v e)
  written-value t v e = absurd (cc e)

  pub nameless-value : (F : Functions) (c : Assignment) (t : Term) (v : Value) → is_nameless t ≡ true → written_value spec t ≡ Some v → v ≡ meaning spec F c t
  nameless-value F c (Term.Truth b) v n e = sym (some-is (of_bool b) v e)
  nameless-value F c (Term.Number n) v m e = sym (small-is (pos n) v e)
  nameless-value F c (Term.Negative (Term.Number n)) v m e = sym (small-is (neg_ℤ (pos n)) v e)
  nameless-value F c (Term.Named x) v n e = absurd (cc n)
  nameless-value F c t v n e = absurd (cc e)

  abbrev valued_term : Option Term → Option Value
  valued_term None = None
  valued_term (Some t) = Some (value spec [] t)

  valued-up : (ρ : TermScope) (x : Name) → looked_up (valued spec [] ρ) x ≡ valued_term (term_of ρ x)
  valued-up [] x = refl
  valued-up ((y, t) ∷ ρ) x = by (same_name y x) (valued-up ρ x)
    where
      by : (b : Bool) → looked_up (valued spec [] ρ) x ≡ valued_term (term_of ρ x)
          → (if b then Some (value spec [] t) else looked_up (valued spec [] ρ) x) ≡ valued_term (if b then Some t else term_of ρ x)
      by true e = refl
      by false e = e

  -- where a name is bound, it means that
  pub bound-value : (F : Functions) (ρ : TermScope) (x : Name) (k : Term) (v : Value) → Some k ≡ term_of ρ x → v ≡ value spec [] k → v ≡ meaning spec F (valued spec [] ρ) (Term.Named x)
  bound-value F ρ x k v some e = e ∙ ap (λ (o : Option Value). named_meaning spec o (F x []) x) (sym (valued-up ρ x ∙ ap valued_term (sym some)))

  -- ---- definitions

  -- what a name stands for has the value that the name means
  abbrev Agree : (Name → Term) → Functions → Type 0
  Agree look F = (x : Name) (v : Value) → written_value spec (look x) ≡ Some v → v ≡ meaning spec F [] (Term.Named x)

  of-term : (look : Name → Term) (F : Functions) → Agree look F → (t : Term) (v : Value) → written_value spec (said_by look t) ≡ Some v → v ≡ meaning spec F [] t
  of-term look F agree (Term.Named x) v e = agree x v e
  of-term look F agree (Term.Truth b) v e = nameless-value F [] (Term.Truth b) v refl e
  of-term look F agree (Term.Number n) v e = nameless-value F [] (Term.Number n) v refl e
  of-term look F agree (Term.Not t) v e = nameless-value F [] (Term.Not t) v refl e
  of-term look F agree (Term.Negative t) v e = nameless-value F [] (Term.Negative t) v refl e
  of-term look F agree (Term.Binary o s t) v e = nameless-value F [] (Term.Binary o s t) v refl e
  of-term look F agree (Term.Apply f ts) v e = nameless-value F [] (Term.Apply f ts) v refl e
  of-term look F agree (Term.Quantified q xs t) v e = nameless-value F [] (Term.Quantified q xs t) v refl e

  of-definition : (look : Name → Term) (F : Functions) → Agree look F → (d : Definition) → Agree (with_definition look d) (functions.with_definition spec F d)
  of-definition look F agree d x v = by d.parameters (same_name d.name x)
    where
      by : (ys : List Variable) (b : Bool) → written_value spec (if b && has_no_parameters ys then said_by look d.term else look x) ≡ Some v
          → v ≡ named_meaning spec None (if b && are_as_many ys [] then Some (meaning spec F (assigned ys [] []) d.term) else F x []) x
      by [] true e = of-term look F agree d.term v e
      by [] false e = agree x v e
      by (y ∷ ys) true e = agree x v e
      by (y ∷ ys) false e = agree x v e

  of-definitions : (ds : List Definition) (look : Name → Term) (F : Functions) → Agree look F → Agree (standing_by look ds) (with_definitions spec F ds)
  of-definitions [] look F agree = agree
  of-definitions (d ∷ ds) look F agree = of-definitions ds (with_definition look d) (functions.with_definition spec F d) (of-definition look F agree d)

  -- where it isn't, what it stands for by definitions
  pub defined-value : (ds : List Definition) (ρ : TermScope) (x : Name) (v : Value) → None ≡ term_of ρ x → written_value spec (stands_for ds x) ≡ Some v
      → v ≡ meaning spec (with_definitions spec no_functions ds) (valued spec [] ρ) (Term.Named x)
  defined-value ds ρ x v none e =
      of-definitions ds (λ y. Term.Named y) no_functions (λ y w h. written-value (Term.Named y) w h) x v e
      ∙ ap (λ (o : Option Value). named_meaning spec o (with_definitions spec no_functions ds x []) x) (sym (valued-up ρ x ∙ ap valued_term (sym none)))

-- ---- what is there

pub from-ok : {E : Type 0} (r : Result Value E) (o w : Option Value) → o ≡ result_ok r → o ≡ w → IfOk r (λ v. w ≡ Some v)
from-ok (Ok v) o w e h = sym h ∙ e
from-ok (Err x) o w e h = tt
