-- What stands for a term behind parts that are passed over: choices whose condition is false.
use Rattle.std.proofs.Common.{◌≡◌, ℕ, suc, ◌+◌, ◌≤◌, Bool, true, false, refl, sym, ◌∙◌, ap, arith, true≢false}
use Rattle.std.specs.Prelude.{codes}
use Rattle.pb_text_meaning.specs.Syntax.{Name, Term, Spec}
use Rattle.pb_protocol_folding.specs.Folding.{folded}
use Rattle.pb_base.specs.declared.or_memory.OrMemory.{OrMemory}
use Rattle.pb_protocol_unfolding.specs.PutIn.{choice}
use Rattle.pb_protocol_unfolder_terms.specs.declared.fault.UnfoldFault.{UnfoldFault}
use Rattle.pb_protocol_unfolder_terms.specs.declared.form.Form as declared_form
use Rattle.pb_protocol_unfolder_terms.specs.declared.form.Form.TheVariants as form
use Rattle.pb_protocol_unfolder_terms.specs.declared.unfolded.Unfolded.{Unfolded}
use Rattle.pb_protocol_unfolder_terms.specs.Behind.{HasPassed, IsBehind}
use Rattle.pb_protocol_unfolder_terms.specs.Forms.{HasForm, is_plain}
use Rattle.pb_protocol_unfolder_terms.specs.Unfolding.{IsRefusal, IsUnfolded, name_in, operator_count}
use Rattle.pb_protocol_unfolder_terms.proofs.ChainLemmas.{refusal-weaker}
use Rattle.pb_protocol_unfolder_terms.proofs.ChoiceLemmas.{chosen-term, if-named, sum-of}

-- nothing is passed over yet
pub nothing-passed : (S : Spec) (n : ℕ) (whole rest : Term) → rest ≡ whole → IsBehind S n whole rest false n
nothing-passed S n whole rest e = record {
  term = ap (folded S false) e;
  form = e;
  room = let size : operator_count rest ≡ operator_count whole = ap operator_count e in omega (arith, size);
}

pub passed-form : (passed : Bool) (whole rest : Term) → is_plain rest ≡ false → HasPassed passed whole rest → is_plain whole ≡ false
passed-form true whole rest plain h = h
passed-form false whole rest plain h = sym (ap is_plain h) ∙ plain

-- a choice whose condition is false is passed over
pub further-behind : (S : Spec) (n : ℕ) (whole c x rest : Term) (passed : Bool) (room inner left : ℕ) → room ≡ suc inner → inner ≤ left + operator_count c → folded S true c ≡ Term.Truth false
    → IsBehind S n whole (choice c x rest) passed room → IsBehind S n whole rest true left
further-behind S n whole c x rest passed room inner left one within decides l = record {
  term = chosen-term S (codes "if") c x rest false false if-named decides ∙ l.term;
  form = passed-form passed whole (choice c x rest) refl l.form;
  room = let size = sum-of (codes "if") c x rest in omega (arith, one, within, size, l.room);
}

-- of a choice that isn't the condition alone is unfolded
pub choice-behind : (S : Spec) (n : ℕ) (whole c x rest : Term) (passed : Bool) (room inner left : ℕ) → room ≡ suc inner → inner ≤ left + operator_count c
    → IsBehind S n whole (choice c x rest) passed room → IsBehind S n whole (choice c x rest) true (left + suc (operator_count c))
choice-behind S n whole c x rest passed room inner left one within l = record {
  term = l.term;
  form = passed-form passed whole (choice c x rest) refl l.form;
  room = omega (arith, one, within, l.room);
}

-- what is neither a name nor a value has one form
other-form : (f : declared_form.Form) (x : Name) (t u : Term) → is_plain t ≡ false → is_plain u ≡ false → HasForm f x t → HasForm f x u
other-form (form.Truth b) x t u p q h = absurd (true≢false (sym (ap is_plain h) ∙ p))
other-form (form.Number n) x t u p q h = absurd (true≢false (sym (ap is_plain h) ∙ p))
other-form (form.Negative n) x t u p q h = absurd (true≢false (sym (ap is_plain h) ∙ p))
other-form form.Name x t u p q h = absurd (true≢false (sym (ap is_plain h) ∙ p))
other-form form.Other x t u p q h = q

-- the rest unfolded is the whole unfolded
pub behind-unfolded : (S : Spec) (n : ℕ) (whole rest : Term) (left : ℕ) (u : Unfolded) → is_plain rest ≡ false
    → IsBehind S n whole rest true left → IsUnfolded S false left rest u → IsUnfolded S false n whole u
behind-unfolded S n whole rest left u plain l r = record {
  term = r.term ∙ l.term;
  form = other-form u.form (name_in u.term) rest whole plain l.form r.form;
  room = omega (arith, l.room, r.room);
}

-- and refused the whole refused
pub behind-refused : (S : Spec) (n : ℕ) (whole rest : Term) (passed : Bool) (left : ℕ) (e : OrMemory UnfoldFault) → IsBehind S n whole rest passed left → IsRefusal left rest e → IsRefusal n whole e
behind-refused S n whole rest passed left e l r = refusal-weaker n left rest whole e (λ h. omega (arith, l.room, h)) r
