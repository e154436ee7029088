-- A value that is written as a number has that number.
use Rattle.std.proofs.Common.{◌≡◌, Bool, true, false, ◌&&◌, if◌then◌else◌, List, [], map, refl, sym, ap, ◌∙◌, subst}
use Rattle.std.specs.Prelude.{ℤ, pos, neg_ℤ, Some, None}
use Rattle.pb_text_tree.specs.Form.{TermForm}
use Rattle.pb_text_meaning.specs.Syntax.{Term, SortDeclaration, Spec}
use Rattle.pb_text_meaning.specs.Erase.{erased_declaration, erased_term}
use Rattle.pb_text_meaning.specs.Value.{value}
use Rattle.pb_protocol_folding.specs.Folding.{folded, is_small, small_value}
use Rattle.pb_protocol_folding.specs.Names.{AreDistinct, enumerators_in}
use Rattle.pb_protocol_folding.proofs.FoldingLaws.{folding_keeps_values}
use Rattle.pb_protocol_tree.specs.Form.{ProtocolForm}
use Rattle.pb_protocol_meaning.specs.Syntax.{Protocol}
use Rattle.pb_protocol_meaning.specs.Erase.{erase}
use Rattle.pb_protocol_meaning.specs.Meaning.{meaning, no_functions}
use Rattle.pb_protocol_meaning.specs.Steps.{data_of, functions_at_start}
use Rattle.pb_protocol_unfolding.specs.PutIn.{no_forms, put_in}
use Rattle.pb_protocol_unfolding.specs.TermLaws.{Means}
use Rattle.pb_protocol_unfolding.specs.Unfolding.{forms_at_start}
use Rattle.pb_protocol_unfolding.proofs.PutIn.{terms_put_in}
use Rattle.pb_protocol_unfolding.proofs.Reading.{definitions_are_put_in}
use Rattle.pb_protocol_unfolding.proofs.WrittenLaws.{written_values_are_kept}
use Rattle.pb_protocol_constants.specs.Settled.{number_in, unfolded_value, value_of, HasFewBits, HasNoSorts, HasNumber}

-- ---- numbers as they are written

some-is : (v w : ℤ) → Some v ≡ Some w → v ≡ w
some-is v w e = cc

module _ (v w : ℤ) where
  by-size : (b : Bool) → is_small v ≡ b → (if b then Some v else None) ≡ Some w → (v ≡ w) × (is_small w ≡ true)
  by-size true small e = let same : v ≡ w = some-is v w e in (same, subst (λ u. is_small u ≡ true) same small)
  by-size false small e = absurd (cc e)

  small-is : small_value v ≡ Some w → (v ≡ w) × (is_small w ≡ true)
  small-is e = by-size (is_small v) refl e

number-is : (spec : Spec) (t : Term) (v : ℤ) → number_in t ≡ Some v → (value spec [] t ≡ v) × (is_small v ≡ true)
number-is spec (Term.Truth b) v e = absurd (cc e)
number-is spec (Term.Number n) v e = small-is (pos n) v e
number-is spec (Term.Negative (Term.Number n)) v e = small-is (neg_ℤ (pos n)) v e
number-is spec t v e = absurd (cc e)

both-true : (a b : Bool) → (a && b) ≡ true → (a ≡ true) × (b ≡ true)
both-true true true h = (refl, refl)
both-true true false h = absurd (cc h)
both-true false b h = absurd (cc h)

-- so that it has 32 bits
few-bits : (v : ℤ) → is_small v ≡ true → HasFewBits v
few-bits v h = both-true _ _ h

-- ---- what is unfolded

distinct : (ds : List SortDeclaration) → ds ≡ [] → AreDistinct (enumerators_in ds)
distinct ds e = subst (λ (xs : List SortDeclaration). AreDistinct (enumerators_in xs)) (sym e) tt

-- definitions alone mean what they are unfolded to
at-start : (m : Protocol) → m.sorts ≡ [] → Means (data_of m) [] (forms_at_start m) (functions_at_start m)
at-start m none =
    definitions_are_put_in (data_of m) [] no_forms no_functions (record {
      written = written_values_are_kept (data_of m) [] (distinct m.sorts none) (λ x n at. refl);
      enumerators = λ x n at. refl;
      named = λ x ts. tt;
    }) m.definitions

put-in-value : (m : Protocol) → m.sorts ≡ [] → (x : Term) → value (data_of m) [] (put_in (data_of m) (forms_at_start m) [] x) ≡ meaning (data_of m) (functions_at_start m) [] x
put-in-value m none x = terms_put_in (data_of m) [] (forms_at_start m) (functions_at_start m) (at-start m none) [] x

-- a number that is found is the value
pub value-is : (m : ProtocolForm) → HasNoSorts m → (x : TermForm) (v : ℤ) → number_in (unfolded_value m x) ≡ Some v → v ≡ value_of m x
value-is m none x v e =
    let p = erase m in
    let t = put_in (data_of p) (forms_at_start p) [] (erased_term x) in
    let kept : value (data_of p) [] (folded (data_of p) false t) ≡ value (data_of p) [] t = (folding_keeps_values (data_of p) [] (λ y n at. refl) t).1 in
    sym (number-is (data_of p) (unfolded_value m x) v e).0 ∙ (kept ∙ put-in-value p (ap (map erased_declaration) none) (erased_term x))

pub has-number : (m : ProtocolForm) → HasNoSorts m → (x : TermForm) (v : ℤ) → number_in (unfolded_value m x) ≡ Some v → HasNumber m x
has-number m none x v e = e ∙ ap Some (value-is m none x v e)

pub number-small : (m : ProtocolForm) (x : TermForm) → HasNumber m x → HasFewBits (value_of m x)
number-small m x e = few-bits (value_of m x) (number-is (data_of (erase m)) (unfolded_value m x) (value_of m x) e).1
