-- Fixpoints and quantifiers are read rightly, where their bodies are.
use Rattle.std.proofs.Common.{◌≡◌, ℕ, suc, Bool, true, List, [], ◌∷◌, refl, inl, inr}
use Rattle.std.proofs.Math.Bool.{or-true}
use Rattle.pb_protocol_tree.specs.Form.{FormulaForm}
use Rattle.pb_text_lexer.specs.declared.fault.ReadingRule.TheVariants.{Limit}
use Rattle.pb_text_lexer.specs.declared.kind.Kind.{Kind}
use Rattle.pb_text_lexer.specs.declared.kind.Kind.TheVariants as k
use Rattle.pb_text_lexer.specs.Grammar.{State}
use Rattle.pb_text_lexer.specs.Steps.{Step, take_token, refuse}
use Rattle.pb_text_lexer.specs.Tokens.{Tok}
use Rattle.pb_text_lexer.proofs.Correct.{st, Family, Answering, Correct, Readable}
use Rattle.pb_text_lexer.proofs.CorrectFamilies.{deeper}
use Rattle.pb_text_lexer.proofs.CorrectSeries.{Passes}
use Rattle.pb_text_lexer.proofs.CorrectPlain.{Always}
use Rattle.pb_text_lexer.proofs.CorrectLeft.{choice-answers}
use Rattle.pb_text_terms.specs.Grammar.{Quantified, QuantifiedBy}
use Rattle.pb_text_terms.specs.Operators.{is_quantifier}
use Rattle.pb_text_terms.proofs.CorrectVariable.{quantified-correct, quantified-last}
use Rattle.pb_model_text.specs.Grammar.{FixpointBy, Fixpoint, Binder}
use Rattle.pb_model_text.specs.Reading.{is_fixpoint, is_binder, fixpoint_over, quantified_over, binder_over}
use Rattle.pb_model_text.proofs.CorrectFixpoint.{fixpoint-correct, fixpoint-last}

module _ (fam : List ℕ → Family FormulaForm) (inner : Family FormulaForm) (g : Kind → Bool) where
  abbrev pub fixpoints : Family FormulaForm
  fixpoints d = Fixpoint (λ name. deeper (fam name) d)

  abbrev pub quantifieds : Family FormulaForm
  quantifieds d = Quantified FormulaForm.quantified (deeper inner d)

  abbrev pub binders : Family FormulaForm
  binders d = Binder (λ name. deeper (fam name) d) (deeper inner d)

  fixpoint-starts : (d : ℕ) (s : State) (y : FormulaForm) (z : State) → fixpoints d s y z → Passes is_fixpoint s.tokens
  fixpoint-starts d s y z r = at s.tokens s.operators r
    where
      plain : (kind : Kind) (s : State) → FixpointBy (λ name. deeper (fam name) d) kind s y z → is_fixpoint kind ≡ true
      plain k.Mu s r = refl
      plain k.Nu s r = refl
      plain _ s r = absurd r

      at : (ts : List Tok) (n : ℕ) → fixpoints d (st ts n) y z → Passes is_fixpoint ts
      at [] n r = r
      at (t ∷ ts) n r = plain t.kind (st (t ∷ ts) n) r

  quantified-starts : (d : ℕ) (s : State) (y : FormulaForm) (z : State) → quantifieds d s y z → Passes is_quantifier s.tokens
  quantified-starts d s y z r = at s.tokens s.operators r
    where
      plain : (kind : Kind) (s : State) → QuantifiedBy FormulaForm.quantified (deeper inner d) kind s y z → is_quantifier kind ≡ true
      plain k.Forall s r = refl
      plain k.Exists s r = refl
      plain _ s r = absurd r

      at : (ts : List Tok) (n : ℕ) → quantifieds d (st ts n) y z → Passes is_quantifier ts
      at [] n r = r
      at (t ∷ ts) n r = plain t.kind (st (t ∷ ts) n) r

  apart : (kind : Kind) → is_fixpoint kind ≡ true → is_quantifier kind ≡ true → ⊥
  apart k.Mu e f = cc
  apart k.Nu e f = cc
  apart _ e f = cc

  -- one of them comes first
  pub binder-starts : (d : ℕ) (s : State) (y : FormulaForm) (z : State) → binders d s y z → Passes is_binder s.tokens
  binder-starts d s y z (inl r) = either-passes s.tokens (fixpoint-starts d s y z r)
    where
      either-passes : (ts : List Tok) → Passes is_fixpoint ts → Passes is_binder ts
      either-passes [] h = h
      either-passes (t ∷ ts) h = rw h refl
  binder-starts d s y z (inr r) = either-passes s.tokens (quantified-starts d s y z r)
    where
      either-passes : (ts : List Tok) → Passes is_quantifier ts → Passes is_binder ts
      either-passes [] h = h
      either-passes (t ∷ ts) h = rw h (or-true (is_fixpoint t.kind))

  -- over bodies that stand a level deeper
  pub binder-correct : (depth : ℕ) (p : List ℕ → Step FormulaForm) (q : Step FormulaForm) → ((name : List ℕ) → Correct Always (p name) (fam name) g depth) → Correct Always q inner g depth
      → Answering (Passes is_binder) (binder_over take_token p q) binders g (suc depth)
  binder-correct depth p q right-p right-q =
      choice-answers fixpoints quantifieds is_fixpoint is_quantifier g (suc depth) apart fixpoint-starts quantified-starts (fixpoint_over take_token p) (quantified_over take_token q)
      (fixpoint-correct fam g depth p right-p).answers (quantified-correct FormulaForm.quantified inner g depth q right-q).answers

  -- where no level may open
  pub binder-last : ((name : List ℕ) → Readable (fam name) 0) → Readable inner 0 → (p : List ℕ → Step FormulaForm) (q : Step FormulaForm)
      → Answering (Passes is_binder) (binder_over (refuse Limit) p q) binders g 0
  binder-last some other p q =
      choice-answers fixpoints quantifieds is_fixpoint is_quantifier g 0 apart fixpoint-starts quantified-starts (fixpoint_over (refuse Limit) p) (quantified_over (refuse Limit) q)
      (fixpoint-last fam g some p) (quantified-last FormulaForm.quantified inner g other q)
