-- What a text says, and where the fault of one stands that says nothing.
use Rattle.std.specs.Prelude.{◌≡◌, ℕ, suc, true, List, [], ◌∷◌, ◌++◌}
use Rattle.pb_text_tree.specs.declared.place.Place.{Place}
use Rattle.pb_text_tree.specs.Form.{RangeForm, SpecForm}
use Rattle.pb_text_lexer.specs.declared.fault.ReadingRule.TheVariants as refused
use Rattle.pb_text_lexer.specs.declared.fault.ReadingRule as token_rule
use Rattle.pb_text_lexer.specs.declared.fault.Refusal.{Refusal}
use Rattle.pb_text_lexer.specs.declared.kind.Kind.{Kind}
use Rattle.pb_text_lexer.specs.declared.kind.Kind.TheVariants as k
use Rattle.pb_text_lexer.specs.Grammar.{WithinLimits, going_on}
use Rattle.pb_text_lexer.specs.Kinds.{is_limited}
use Rattle.pb_text_lexer.specs.Lexing.{IsCut, IsDefect, Begins}
use Rattle.pb_text_lexer.specs.Tokens.{Tok}
use Rattle.pb_text.specs.declared.error.TextRule.{TextRule}
use Rattle.pb_text.specs.declared.error.TextRule.TheVariants as rule
use Rattle.pb_text.specs.declared.error.TextFault.{TextFault}
use Rattle.pb_base.specs.declared.limits.TheConstants.{MAX_DEPTH, MAX_OPERATORS}
use Rattle.pb_text.specs.Grammar.{IsText}

-- P04: how many levels of brackets, negations, signs and quantifiers may open, and how many
-- operators with two operands an equation, and the initial instance, may have
abbrev pub depth_limit : ℕ
depth_limit = MAX_DEPTH

abbrev pub operator_limit : ℕ
operator_limit = MAX_OPERATORS

-- The bytes are this text: so many levels may open, and each equation, and the initial instance,
-- may have so many operators.
pub record IsReadingWithin (depth operators : ℕ) (bytes : List ℕ) (x : SpecForm) : Type 0 where
  pub tokens : List Tok
  pub ranges : List RangeForm
  pub cut : IsCut bytes tokens ranges
  pub says : IsText depth operators tokens ranges x

-- the bytes are this text, within the limits
abbrev pub IsReading : List ℕ → SpecForm → Type 0
IsReading bytes x = IsReadingWithin depth_limit operator_limit bytes x

-- bytes are at most one text, places included, whatever the limits
abbrev pub AtMostOneReading : Type 0
AtMostOneReading =
    (bytes : List ℕ) (d n e m : ℕ) (x y : SpecForm) → IsReadingWithin d n bytes x
    → IsReadingWithin e m bytes y → x ≡ y

-- some text begins with these tokens, where so many levels may open, and so many operators come
pub record BeginsText (depth operators : ℕ) (tokens : List Tok) : Type 0 where
  pub tail : List Tok
  pub ranges : List RangeForm
  pub text : SpecForm
  pub says : IsText depth operators (tokens ++ tail) ranges text

-- with one level and one operator more than the limits allow
abbrev pub BeginsNextText : List Tok → Type 0
BeginsNextText tokens = BeginsText (suc depth_limit) (suc operator_limit) tokens

-- Up to each of these tokens at which a limit can be exceeded, some text begins so, within so many
-- levels and operators: none of them is past a limit.
abbrev pub StaysWithin : ℕ → ℕ → List Tok → Type 0
StaysWithin depth operators tokens =
    (before behind : List Tok) (t : Tok) → tokens ≡ before ++ t ∷ behind → is_limited t.kind ≡ true
    → BeginsText depth operators (before ++ t ∷ [])

-- The bytes begin with tokens, the last of which stands at this place. No text begins so, within
-- the limits that the rule speaks of; some text begins with the tokens before that one, so it is
-- the first with which none goes on. None of those is past a limit: a fault behind a token past a
-- limit isn't named. Where the rule is a limit, it is a token at which a limit can be exceeded, so
-- the first that is past one; and with one level and one operator more some text begins with it
-- too, so no other fault stands before it.
pub record IsRefusal (bytes : List ℕ) (broken : token_rule.ReadingRule)
    (place : Place) : Type 0 where
  pub front : List Tok
  pub next : Tok
  pub begins : Begins bytes (front ++ next ∷ [])
  pub stands : next.place ≡ place
  pub limited : broken ≡ refused.Limit → is_limited next.kind ≡ true
  pub none : (d n : ℕ) (tail : List Tok) (ranges : List RangeForm) (x : SpecForm)
      → WithinLimits broken depth_limit operator_limit d n
      → IsText d n (front ++ next ∷ tail) ranges x
      → ⊥
  pub goes_on : BeginsNextText (front ++ going_on broken next)
  pub first : StaysWithin depth_limit operator_limit front

-- The bytes are cut into tokens up to this place, where no token stands, nor the end. Some text
-- begins with those tokens, none of which is past a limit.
pub record IsBroken (bytes : List ℕ) (kind : Kind) (place : Place) : Type 0 where
  pub front : List Tok
  pub defect : IsDefect bytes front place kind
  pub goes_on : BeginsNextText front
  pub first : StaysWithin depth_limit operator_limit front

-- what a refusal says of the bytes: no token stands at the place but a byte that begins none (P01),
-- a number above the largest (P03) or a range line that says nothing (P05); or a token stands there
-- with which no text goes on (P02), or that is past a limit (P04)
abbrev pub IsFirstFaultBy : TextRule → List ℕ → Place → Type 0
IsFirstFaultBy rule.UnknownByte bytes place = IsBroken bytes k.Unknown place
IsFirstFaultBy rule.UnexpectedToken bytes place = IsRefusal bytes refused.Unexpected place
IsFirstFaultBy rule.LargeNumber bytes place = IsBroken bytes k.LargeNumber place
IsFirstFaultBy rule.LimitExceeded bytes place = IsRefusal bytes refused.Limit place
IsFirstFaultBy rule.RangeLine bytes place = IsBroken bytes k.RangeLine place

-- the rule that a refused token breaks: its own, where it is no token
abbrev pub rule_of : token_rule.ReadingRule → Kind → TextRule
rule_of broken k.Unknown = rule.UnknownByte
rule_of broken k.LargeNumber = rule.LargeNumber
rule_of broken k.RangeLine = rule.RangeLine
rule_of refused.Unexpected kind = rule.UnexpectedToken
rule_of refused.Limit kind = rule.LimitExceeded

abbrev pub fault_of : Refusal → TextFault
fault_of refusal = record { rule = rule_of refusal.rule refusal.kind; place = refusal.place }

abbrev pub IsFirstFault : List ℕ → TextFault → Type 0
IsFirstFault bytes fault = IsFirstFaultBy fault.rule bytes fault.place

-- the bytes say nothing within the limits
abbrev pub NoReading : List ℕ → Type 0
NoReading bytes = (x : SpecForm) → IsReading bytes x → ⊥
