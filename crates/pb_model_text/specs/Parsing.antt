-- What the text of a model says, and where the fault of one stands that says nothing.
use Rattle.std.specs.Prelude.{◌≡◌, ℕ, suc, true, List, [], ◌∷◌, ◌++◌}
use Rattle.pb_text_tree.specs.declared.place.Place.{Place}
use Rattle.pb_text_tree.specs.Form.{RangeForm}
use Rattle.pb_protocol_tree.specs.Form.{ModelTextForm}
use Rattle.pb_text_lexer.specs.declared.fault.ReadingRule.TheVariants as refused
use Rattle.pb_text_lexer.specs.declared.fault.ReadingRule as token_rule
use Rattle.pb_text_lexer.specs.declared.kind.Kind.{Kind}
use Rattle.pb_text_lexer.specs.declared.kind.Kind.TheVariants as k
use Rattle.pb_text_lexer.specs.declared.language.Language.TheVariants.{Model}
use Rattle.pb_text_lexer.specs.Grammar.{WithinLimits, going_on}
use Rattle.pb_text_lexer.specs.Kinds.{is_limited}
use Rattle.pb_text_lexer.specs.Lexing.{IsCutIn, IsDefectIn, BeginsIn}
use Rattle.pb_text_lexer.specs.Tokens.{Tok}
use Rattle.pb_text.specs.declared.error.TextRule.{TextRule}
use Rattle.pb_text.specs.declared.error.TextRule.TheVariants as rule
use Rattle.pb_text.specs.declared.error.TextFault.{TextFault}
use Rattle.pb_text.specs.Parsing.{depth_limit, operator_limit}
use Rattle.pb_model_text.specs.Models.{IsModelText}

-- The bytes are this model: so many levels may open, and the constants, each sort, each definition,
-- each step, the initial state and each property may have so many operators.
pub record IsModelReadingWithin (depth operators : ℕ) (bytes : List ℕ)
    (x : ModelTextForm) : Type 0 where
  pub tokens : List Tok
  pub ranges : List RangeForm
  pub cut : IsCutIn Model bytes tokens ranges
  pub says : IsModelText depth operators tokens ranges x

-- the bytes are this model, within the limits of texts
abbrev pub IsModelReading : List ℕ → ModelTextForm → Type 0
IsModelReading bytes x = IsModelReadingWithin depth_limit operator_limit bytes x

-- bytes are at most one model, places included, whatever the limits
abbrev pub AtMostOneModelReading : Type 0
AtMostOneModelReading =
    (bytes : List ℕ) (d n e m : ℕ) (x y : ModelTextForm) → IsModelReadingWithin d n bytes x →
    IsModelReadingWithin e m bytes y → x ≡ y

-- some model begins with these tokens, where so many levels may open, and so many operators come
pub record BeginsModel (depth operators : ℕ) (tokens : List Tok) : Type 0 where
  pub tail : List Tok
  pub ranges : List RangeForm
  pub model : ModelTextForm
  pub says : IsModelText depth operators (tokens ++ tail) ranges model

-- with one level and one operator more than the limits allow
abbrev pub BeginsNextModel : List Tok → Type 0
BeginsNextModel tokens = BeginsModel (suc depth_limit) (suc operator_limit) tokens

-- Up to each of these tokens at which a limit can be exceeded, some model begins so, within so many
-- levels and operators: none of them is past a limit.
abbrev pub ModelStaysWithin : ℕ → ℕ → List Tok → Type 0
ModelStaysWithin depth operators tokens =
    (before behind : List Tok) (t : Tok) → tokens ≡ before ++ t ∷ behind →
    is_limited t.kind ≡ true → BeginsModel depth operators (before ++ t ∷ [])

-- The bytes begin with tokens, the last of which stands at this place. No model begins so, within
-- the limits that the rule speaks of; some model begins with the tokens before that one, so it is
-- the first with which none goes on. None of those is past a limit: a fault behind a token past a
-- limit isn't named. Where the rule is a limit, it is a token at which a limit can be exceeded, so
-- the first that is past one; and with one level and one operator more some model begins with it
-- too, so no other fault stands before it.
pub record IsModelRefusal
    (bytes : List ℕ) (broken : token_rule.ReadingRule) (place : Place) : Type 0 where
  pub front : List Tok
  pub next : Tok
  pub begins : BeginsIn Model bytes (front ++ next ∷ [])
  pub stands : next.place ≡ place
  pub limited : broken ≡ refused.Limit → is_limited next.kind ≡ true
  pub none :
      (d n : ℕ) (tail : List Tok) (ranges : List RangeForm) (x : ModelTextForm) →
      WithinLimits broken depth_limit operator_limit d n →
      IsModelText d n (front ++ next ∷ tail) ranges x → ⊥
  pub goes_on : BeginsNextModel (front ++ going_on broken next)
  pub first : ModelStaysWithin depth_limit operator_limit front

-- The bytes are cut into tokens up to this place, where no token stands, nor the end. Some model
-- begins with those tokens, none of which is past a limit.
pub record IsBrokenModel (bytes : List ℕ) (kind : Kind) (place : Place) : Type 0 where
  pub front : List Tok
  pub defect : IsDefectIn Model bytes front place kind
  pub goes_on : BeginsNextModel front
  pub first : ModelStaysWithin depth_limit operator_limit front

-- what a refusal says of the bytes
abbrev pub IsFirstModelFaultBy : TextRule → List ℕ → Place → Type 0
IsFirstModelFaultBy rule.UnknownByte bytes place = IsBrokenModel bytes k.Unknown place
IsFirstModelFaultBy rule.UnexpectedToken bytes place = IsModelRefusal bytes refused.Unexpected place
IsFirstModelFaultBy rule.LargeNumber bytes place = IsBrokenModel bytes k.LargeNumber place
IsFirstModelFaultBy rule.LimitExceeded bytes place = IsModelRefusal bytes refused.Limit place
IsFirstModelFaultBy rule.RangeLine bytes place = IsBrokenModel bytes k.RangeLine place

abbrev pub IsFirstModelFault : List ℕ → TextFault → Type 0
IsFirstModelFault bytes fault = IsFirstModelFaultBy fault.rule bytes fault.place

-- the bytes say no model within the limits
abbrev pub NoModelReading : List ℕ → Type 0
NoModelReading bytes = (x : ModelTextForm) → IsModelReading bytes x → ⊥
