-- What is read behind `fair`, part by part.
use Rattle.std.proofs.Common.{◌≡◌, ℕ, zero, suc, ◌-◌, ◌<◌, true, false, List, [], ◌∷◌, ◌++◌, map, refl, sym, ◌∙◌, ap, append_assoc, arith, Ok, Err, Option, Some, None}
use Rattle.std.specs.Prelude.{is_some}
use Rattle.std.proofs.lemmas.List.{map-append}
use Rattle.pb_text_tree.specs.declared.place.Place.{Place}
use Rattle.pb_protocol_tree.specs.declared.step_set.StepSet.{StepSet}
use Rattle.pb_protocol_tree.specs.declared.formula.Link.{Link}
use Rattle.pb_protocol_tree.specs.declared.formula.Formula.{Formula}
use Rattle.pb_protocol_tree.specs.Form.{StepSetForm, FormulaForm, step_set_form, formula_form}
use Rattle.pb_text_lexer.specs.declared.fault.ReadingRule.TheVariants.{Unexpected}
use Rattle.pb_text_lexer.specs.declared.fault.Refusal.{Refusal}
use Rattle.pb_text_lexer.specs.Grammar.{State}
use Rattle.pb_text_lexer.specs.Steps.{Step, Outcome, and_then, ◌>>=◌, pure, refusal, kind, take_token, enter}
use Rattle.pb_text_lexer.specs.Tokens.{Tok}
use Rattle.pb_text_terms.specs.Reading.{is_comma, is_open, below}
use Rattle.pb_text_terms.proofs.ReadLemmas.{below-is}
use Rattle.pb_protocol_tree.specs.Links.{link_form, link_forms}
use Rattle.pb_model_text.specs.Words.{fairly_of, unfair_to, unfair_to_others, fair}
use Rattle.pb_model_text.proofs.FormulaLemmas.{links-last}
use Rattle.pb_model_text.specs.Grammar.{FixpointNames, within_fair}
use Rattle.pb_model_text.specs.Reading.{step_set, wordless, other_sets, processes_behind, processes, fair_over, plain, behind_fair}

-- ---- sets behind commas

-- what is read behind sets that are read already
abbrev pub more_behind : List StepSetForm → Outcome (List StepSetForm) → Outcome (List StepSetForm)
more_behind xs (Ok r) = Ok (xs ++ r.0, r.1)
more_behind xs (Err bad) = Err bad

pub twice-behind : (xs ys : List StepSetForm) (o : Outcome (List StepSetForm)) → more_behind xs (more_behind ys o) ≡ more_behind (xs ++ ys) o
twice-behind xs ys (Ok r) = ap (λ v. Ok (v, r.1)) (sym (append_assoc xs ys r.0))
twice-behind xs ys (Err bad) = refl

pub sets-last : (xs : List StepSet) (x : StepSet) → map step_set_form (xs ++ x ∷ []) ≡ map step_set_form xs ++ step_set_form x ∷ []
sets-last xs x = map-append step_set_form xs (x ∷ [])

module _ (sets : Step StepSetForm) (s : State) where
  pub others-end : (n : ℕ) → is_comma (kind s) ≡ false → other_sets n sets s ≡ Ok ([], s)
  unfolding other_sets
  others-end zero other = rw other refl
  others-end (suc n) other = rw other refl

  -- one set too many
  pub others-full : is_comma (kind s) ≡ true → other_sets zero sets s ≡ Err (refusal Unexpected s.tokens)
  unfolding other_sets
  others-full on = rw on refl

  module _ (on : is_comma (kind s) ≡ true) (t : Tok) (s1 : State) (taken : take_token s ≡ Ok (t, s1)) where
    pub others-fail : (n : ℕ) → 0 < n → (bad : Refusal) → sets s1 ≡ Err bad → other_sets n sets s ≡ Err bad
    unfolding other_sets
    others-fail zero some bad fails = absurd (omega (arith, some))
    others-fail (suc n) some bad fails = rw on (rw taken (rw fails refl))

    more-is : (x : StepSetForm) (o : Outcome (List StepSetForm)) → and_then o (λ xs. pure (x ∷ xs)) ≡ more_behind (x ∷ []) o
    more-is x (Ok r) = refl
    more-is x (Err bad) = refl

    pub others-more : (n m : ℕ) → n ≡ suc m → (x : StepSetForm) (s2 : State) → sets s1 ≡ Ok (x, s2) → other_sets n sets s ≡ more_behind (x ∷ []) (other_sets m sets s2)
    unfolding other_sets
    others-more n m is x s2 reads = rw is (rw on (rw taken (rw reads (more-is x (other_sets m sets s2)))))

-- ---- the word behind the sets

pub some-unit : (o : Option (Unit {0})) → is_some o ≡ true → o ≡ Some tt
some-unit None on = cc
some-unit (Some u) on = refl

pub no-unit : (o : Option (Unit {0})) → is_some o ≡ false → o ≡ None
no-unit None other = refl
no-unit (Some u) other = cc

pub some-said : (text : List ℕ) → is_some (fairly_of text) ≡ true → fairly_of text ≡ Some tt
some-said text on = some-unit (fairly_of text) on

pub none-said : (text : List ℕ) → is_some (fairly_of text) ≡ false → fairly_of text ≡ None
none-said text other = no-unit (fairly_of text) other

-- ---- the formulas of all sets but the first

module _ (place : Place) (p : FormulaForm) (links : List Link) (made : Formula) where
  abbrev last : Link
  last = record { place = place; operand = made }

  pub unfair-last : (xs : List StepSet) (x : StepSet) → link_forms links ≡ unfair_to_others place p (map step_set_form xs) → formula_form made ≡ unfair_to place p (step_set_form x)
      → link_forms (links ++ last ∷ []) ≡ unfair_to_others place p (map step_set_form (xs ++ x ∷ []))
  unfair-last xs x before is =
      links-last links last ∙ ap (λ v. v ++ link_form last ∷ []) before ∙ ap (λ v. unfair_to_others place p (map step_set_form xs) ++ (place, v) ∷ []) is
      ∙ sym (map-append (λ A. (place, unfair_to place p A)) (map step_set_form xs) (step_set_form x ∷ []))
      ∙ ap (unfair_to_others place p) (sym (sets-last xs x))

-- ---- the bracket that opens

opened-is : (depth : ℕ) (s : State) → is_open (kind s) ≡ true → processes depth s ≡ (enter depth >>= (λ open_bracket. below (λ d. processes_behind (step_set d)) depth)) s
unfolding processes
opened-is zero s on = rw on refl
opened-is (suc depth) s on = rw on refl

pub bracket-missing : (depth : ℕ) (s : State) → is_open (kind s) ≡ false → processes depth s ≡ Err (refusal Unexpected s.tokens)
unfolding processes
bracket-missing zero s other = rw other refl
bracket-missing (suc depth) s other = rw other refl

pub bracket-fails : (depth : ℕ) (s : State) → is_open (kind s) ≡ true → (bad : Refusal) → enter depth s ≡ Err bad → processes depth s ≡ Err bad
bracket-fails depth s on bad fails = opened-is depth s on ∙ rw fails refl

pub bracket-opened : (depth : ℕ) (s : State) → is_open (kind s) ≡ true → (t : Tok) (s1 : State)
    → enter depth s ≡ Ok (t, s1) → 0 < depth → processes depth s ≡ processes_behind (step_set (depth - 1)) s1
bracket-opened depth s on t s1 entered some =
    opened-is depth s on ∙ rw entered (ap (λ p. p s1) (below-is (λ d. processes_behind (step_set d)) depth some))

-- ---- the sets and the operand

module _ (scope : FixpointNames) (depth : ℕ) (place : Place) (s : State) where
  abbrev operand_at : ℕ → Step FormulaForm
  operand_at d = wordless (plain (within_fair scope) d)

  fair-is : (depth : ℕ) → behind_fair scope depth place s ≡ fair_over (processes depth) (below operand_at depth) place s
  unfolding plain behind_fair
  fair-is zero = refl
  fair-is (suc depth) = refl

  pub fair-sets-fail : (bad : Refusal) → processes depth s ≡ Err bad → behind_fair scope depth place s ≡ Err bad
  fair-sets-fail bad fails = fair-is depth ∙ rw fails refl

  module _ (found : StepSetForm × List StepSetForm) (s1 : State) (reads : processes depth s ≡ Ok (found, s1)) (some : 0 < depth) where
    operand-is : below operand_at depth s1 ≡ wordless (plain (within_fair scope) (depth - 1)) s1
    operand-is = ap (λ p. p s1) (below-is operand_at depth some)

    pub fair-operand-fails : (bad : Refusal) → wordless (plain (within_fair scope) (depth - 1)) s1 ≡ Err bad → behind_fair scope depth place s ≡ Err bad
    fair-operand-fails bad fails = fair-is depth ∙ rw reads (rw (operand-is, fails) refl)

    pub fair-read : (x : FormulaForm) (z : State) → wordless (plain (within_fair scope) (depth - 1)) s1 ≡ Ok (x, z) → behind_fair scope depth place s ≡ Ok (fair place found.0 found.1 x, z)
    fair-read x z operand = fair-is depth ∙ rw reads (rw (operand-is, operand) refl)
