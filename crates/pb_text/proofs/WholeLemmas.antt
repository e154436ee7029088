-- From the tokens of a whole text to its bytes, in whichever language it is.
use Rattle.std.proofs.Common.{◌≡◌, ℕ, true, false, List, [], ◌++◌, refl, sym, ◌∙◌, ap, subst, arith, Result, Ok, Err}
use Rattle.std.proofs.lemmas.List.{append-nil}
use Rattle.pb_text_tree.specs.declared.place.Place.{Place}
use Rattle.pb_text_tree.specs.Form.{RangeForm}
use Rattle.pb_text_lexer.specs.declared.fault.ReadingRule.{ReadingRule}
use Rattle.pb_text_lexer.specs.declared.fault.ReadingRule.TheVariants.{Unexpected, Limit}
use Rattle.pb_text_lexer.specs.declared.fault.Refusal.{Refusal}
use Rattle.pb_base.specs.OrMemory.{IfFault}
use Rattle.pb_base.specs.declared.or_memory.OrMemory.{OrMemory}
use Rattle.pb_base.proofs.Faults.{if_fault}
use Rattle.pb_text_lexer.specs.declared.kind.Kind.{Kind}
use Rattle.pb_text_lexer.specs.declared.kind.Kind.TheVariants.{Unknown, LargeNumber, RangeLine}
use Rattle.pb_text_lexer.specs.Kinds.{is_defect, is_limited}
use Rattle.pb_text_lexer.specs.Lexing.{start, IsDefectIn}
use Rattle.pb_text_lexer.specs.Remaining.{tokens_from, ranges_from}
use Rattle.pb_text_lexer.specs.Grammar.{State, WithinLimits, going_on}
use Rattle.pb_text_lexer.specs.Steps.{Outcome, Gives}
use Rattle.pb_text_lexer.specs.Tokens.{Tok}
use Rattle.pb_text_lexer.proofs.Correct.{st}
use Rattle.pb_text_lexer.proofs.CutLemmas.{same-cut, stands, whole-cut}
use Rattle.pb_text_lexer.proofs.RemainingLemmas.{tokens-end}
use Rattle.pb_text.specs.declared.error.TextRule.{TextRule}
use Rattle.pb_text.specs.declared.error.TextRule.TheVariants as text_rule
use Rattle.pb_text.specs.declared.error.TextFault.{TextFault}
use Rattle.pb_text.specs.Parsing.{depth_limit, operator_limit, rule_of, fault_of}
use Rattle.pb_text.proofs.Raised.{Answers, Raised, ok-raised, err-raised}
use Rattle.pb_text.proofs.CorrectWhole.{TextSyntax, IsWhole, IsFault, IsRead, Reading, whole, whole-reads, with-ranges}

-- what is no token exceeds no limit
no-limit : (kind : Kind) → is_limited kind ≡ true → is_defect kind ≡ true → ⊥
no-limit Unknown h e = cc
no-limit LargeNumber h e = cc
no-limit RangeLine h e = cc
no-limit _ h e = cc

within-these : (rule : ReadingRule) (d n : ℕ) → WithinLimits rule d n d n
within-these Unexpected d n = tt
within-these Limit d n = (omega arith, omega arith)

abbrev GivesFault : Refusal → TextFault → Type 0
GivesFault bad fault = fault ≡ fault_of bad

module _ (G : TextSyntax) where
  abbrev pub all_tokens : List ℕ → List Tok
  all_tokens bytes = tokens_from G.language bytes 0 start

  abbrev pub all_ranges : List ℕ → List RangeForm
  all_ranges bytes = ranges_from G.language bytes 0 start

  abbrev pub IsReading : List ℕ → G.Form → Type 0
  IsReading bytes x = G.ReadingWithin depth_limit operator_limit bytes x

  -- of all that the bytes are cut into
  abbrev pub IsSaid : List ℕ → List RangeForm → G.Form → Type 0
  IsSaid bytes ranges x = IsRead G depth_limit operator_limit (all_tokens bytes) ranges x

  abbrev pub IsFaultOf : List ℕ → Refusal → Type 0
  IsFaultOf bytes bad = IsFault G depth_limit operator_limit (all_tokens bytes) bad

  pub is-reading : (bytes : List ℕ) (x : G.Form) → IsSaid bytes (all_ranges bytes) x → IsReading bytes x
  is-reading bytes x r = G.reading depth_limit operator_limit bytes x (all_tokens bytes) (all_ranges bytes) (whole-cut G.language bytes r.front r.end r.cut r.end_is) r.reads

  -- what the tokens and range lines of a cut say, those that the lexer gives say
  of-cut : (bytes : List ℕ) (d n : ℕ) (y : G.Form) → G.ReadingWithin d n bytes y → IsWhole G.Says d n (all_tokens bytes) (all_ranges bytes) y
  of-cut bytes d n y h =
      let c = G.cut_of d n bytes y h in
      let same = same-cut G.language bytes c.0 c.1 c.2 in
      subst (λ (v : List Tok). IsWhole G.Says d n v (all_ranges bytes) y) same.tokens (subst (λ (v : List RangeForm). IsWhole G.Says d n c.0 v y) same.ranges_too c.3)

  pub only-reading : (bytes : List ℕ) (x : G.Form) → IsSaid bytes (all_ranges bytes) x → (d n : ℕ) (y : G.Form) → G.ReadingWithin d n bytes y → y ≡ x
  only-reading bytes x r d n y h = r.only d n y (of-cut bytes d n y h)

  -- no text begins so within these limits
  none-within : (bytes : List ℕ) (d n : ℕ) (bad : Refusal) → IsFault G d n (all_tokens bytes) bad → (y : G.Form) → G.ReadingWithin d n bytes y → ⊥
  none-within bytes d n bad f y h =
      f.none d n f.more (all_ranges bytes) y (within-these bad.rule d n) (subst (λ (v : List Tok). IsWhole G.Says d n v (all_ranges bytes) y) f.cut (of-cut bytes d n y h))

  -- where some reading is within the limits, reading the tokens gives it, and there is no other
  pub at-most-one : (bytes : List ℕ) (d n e m : ℕ) (x y : G.Form) → G.ReadingWithin d n bytes x → G.ReadingWithin e m bytes y → x ≡ y
  at-most-one bytes d n e m x y hx hy = by (whole G (all_ranges bytes) d (st (all_tokens bytes) n)) (whole-reads G (all_ranges bytes) d (st (all_tokens bytes) n) (tokens-end G.language start bytes))
    where
      by : (o : Outcome G.Form) → Reading G (all_ranges bytes) d (st (all_tokens bytes) n) o → x ≡ y
      by (Ok r) a = a.only d n x (of-cut bytes d n x hx) ∙ sym (a.only e m y (of-cut bytes e m y hy))
      by (Err bad) f = absurd (none-within bytes d n bad f x hx)

  -- ---- the first fault

  abbrev FirstFaultBy : TextRule → List ℕ → Place → Type 0
  FirstFaultBy text_rule.UnknownByte bytes place = G.Broken bytes Unknown place
  FirstFaultBy text_rule.UnexpectedToken bytes place = G.Refused bytes Unexpected place
  FirstFaultBy text_rule.LargeNumber bytes place = G.Broken bytes LargeNumber place
  FirstFaultBy text_rule.LimitExceeded bytes place = G.Refused bytes Limit place
  FirstFaultBy text_rule.RangeLine bytes place = G.Broken bytes RangeLine place

  abbrev FirstFault : List ℕ → TextFault → Type 0
  FirstFault bytes fault = FirstFaultBy fault.rule bytes fault.place

  -- a refused token is no token, or it is refused by the grammar
  by-kind : (bytes : List ℕ) (rule : ReadingRule) (kind : Kind) (place : Place) → (is_defect kind ≡ true → G.Broken bytes kind place)
      → (is_defect kind ≡ false → G.Refused bytes rule place) → FirstFaultBy (rule_of rule kind) bytes place
  by-kind bytes rule Unknown place broken refused = broken refl
  by-kind bytes rule LargeNumber place broken refused = broken refl
  by-kind bytes rule RangeLine place broken refused = broken refl
  by-kind bytes Unexpected _ place broken refused = refused refl
  by-kind bytes Limit _ place broken refused = refused refl

  before : (d n : ℕ) (rule : ReadingRule) (front : List Tok) (next : Tok) → (rule ≡ Limit → is_limited next.kind ≡ true) → is_defect next.kind ≡ true
      → G.Begins d n (front ++ going_on rule next) → G.Begins d n front
  before d n Unexpected front next limited broken goes = subst (λ (v : List Tok). G.Begins d n v) (append-nil front) goes
  before d n Limit front next limited broken goes = absurd (no-limit next.kind (limited refl) broken)

  stands-by : (bytes : List ℕ) (bad : Refusal) → IsFaultOf bytes bad → FirstFault bytes (fault_of bad)
  stands-by bytes bad f =
      let s = stands G.language bytes f.front f.more f.next f.cut in
      by-kind bytes bad.rule bad.kind bad.place
      (λ h.
      let broken : is_defect f.next.kind ≡ true = ap is_defect (sym f.kind) ∙ h in
      G.broken bytes bad.kind bad.place f.front
      (subst (λ (v : Place). IsDefectIn G.language bytes f.front v bad.kind) (sym f.place) (subst (λ (v : Kind). IsDefectIn G.language bytes f.front f.next.place v) (sym f.kind) (s.defect broken)))
      (before _ _ bad.rule f.front f.next f.limited broken f.goes_on) f.first)
      (λ h. G.refused bytes bad.rule bad.place f.front f.next (s.sound (ap is_defect (sym f.kind) ∙ h)) (sym f.place) f.limited f.none f.goes_on f.first)

  -- ---- what reading the tokens of a text answers

  abbrev pub Answered : List ℕ → Result G.Tree (OrMemory Refusal) → Type 0
  Answered bytes result = Answers (λ (s : G.Tree). IsSaid bytes [] (G.form s)) (IsFaultOf bytes) result

  pub answered : (bytes : List ℕ) (s : State) (result : Result G.Tree (OrMemory Refusal)) (z : State)
      → s ≡ st (all_tokens bytes) operator_limit → Gives G.form (whole G [] depth_limit s) result z → Answered bytes result
  answered bytes s result z is h =
      by (whole G [] depth_limit (st (all_tokens bytes) operator_limit)) result (subst (λ (v : State). Gives G.form (whole G [] depth_limit v) result z) is h)
      (whole-reads G [] depth_limit (st (all_tokens bytes) operator_limit) (tokens-end G.language start bytes))
    where
      by : (o : Outcome G.Form) (result : Result G.Tree (OrMemory Refusal)) → Gives G.form o result z → Reading G [] depth_limit (st (all_tokens bytes) operator_limit) o → Answered bytes result
      by o (Ok t) is h = subst (λ (v : Outcome G.Form). Reading G [] depth_limit (st (all_tokens bytes) operator_limit) v) is h
      by o (Err error) is h = if_fault error (λ bad is. subst (λ (v : Outcome G.Form). Reading G [] depth_limit (st (all_tokens bytes) operator_limit) v) is h) is

  -- what a tree says whose ranges are put in is what the bytes say
  pub ranged : (bytes : List ℕ) (s t : G.Tree) {ranges : List RangeForm} → IsSaid bytes [] (G.form s) → ranges ≡ all_ranges bytes → G.form t ≡ G.put ranges (G.form s)
      → IsSaid bytes (all_ranges bytes) (G.form t)
  ranged bytes s t a same is =
      let e : G.put (all_ranges bytes) (G.form s) ≡ G.form t = ap (λ (v : List RangeForm). G.put v (G.form s)) (sym same) ∙ sym is in
      subst (λ (v : G.Form). IsSaid bytes (all_ranges bytes) v) e (with-ranges G (all_ranges bytes) depth_limit operator_limit (all_tokens bytes) (G.form s) a)

  -- of a tree that is read, and of a fault, where the error is that of the layer above
  module _ (bytes : List ℕ) (below : Result G.Tree (OrMemory Refusal)) (h : Answered bytes below) where
    pub said : (s : G.Tree) → Raised GivesFault below (Ok s) → IsSaid bytes [] (G.form s)
    said s is = ok-raised GivesFault (λ (s : G.Tree). IsSaid bytes [] (G.form s)) (IsFaultOf bytes) below s is h

    module _ (error : OrMemory TextFault) (is : Raised GivesFault below (Err error)) where
      pub refused-is : IfFault error (λ fault. (x : G.Form) → IsReading bytes x → ⊥)
      refused-is =
          err-raised GivesFault (λ (s : G.Tree). IsSaid bytes [] (G.form s)) (IsFaultOf bytes) (λ fault. (x : G.Form) → IsReading bytes x → ⊥) below error is
          (λ bad fault made f. none-within bytes depth_limit operator_limit bad f) h

      pub stands-is : IfFault error (FirstFault bytes)
      stands-is =
          err-raised GivesFault (λ (s : G.Tree). IsSaid bytes [] (G.form s)) (IsFaultOf bytes) (FirstFault bytes) below error is
          (λ bad fault made f. subst (λ (v : TextFault). FirstFault bytes v) (sym made) (stands-by bytes bad f)) h
