-- What a function of the code does that reads by a step and takes tokens.
use Rattle.std.specs.Prelude.{◌≡◌, ℕ, true, ◌<◌, ◌≤◌, length, Result, Ok, OnOk}
use Rattle.pb_base.specs.declared.or_memory.OrMemory.{OrMemory}
use Rattle.pb_text_tree.specs.Form.{TermForm}
use Rattle.pb_text_lexer.specs.declared.fault.Refusal.{Refusal}
use Rattle.pb_text_lexer.specs.Grammar.{State}
use Rattle.pb_text_lexer.specs.Steps.{Step, Gives, GivesExactly}
use Rattle.pb_text_terms.specs.declared.level.Level.{Level}
use Rattle.pb_text_terms.specs.Levels.{may_quantify}
use Rattle.pb_text_terms.specs.Reading.{at}

-- where it asks for no memory: what the step gives, by at least one token
pub record ReadsSomeExactly {X Y : Type 0} (view : X → Y) (step : Step Y) (old : State)
    (result : Result X Refusal) (new : State) : Type 0 where
  pub reads : GivesExactly view (step old) result new
  pub fewer : OnOk result (length new.tokens < length old.tokens)

-- where it asks for memory: the same, unless memory ran out
pub record ReadsSome {X Y : Type 0} (view : X → Y) (step : Step Y) (old : State)
    (result : Result X (OrMemory Refusal)) (new : State) : Type 0 where
  pub reads : Gives view (step old) result new
  pub fewer : OnOk result (length new.tokens < length old.tokens)

-- the same by any number of tokens
pub record MayRead {X Y : Type 0} (view : X → Y) (step : Step Y) (old : State)
    (result : Result X (OrMemory Refusal)) (new : State) : Type 0 where
  pub reads : Gives view (step old) result new
  pub fewer : OnOk result (length new.tokens ≤ length old.tokens)

-- a step gave this, and took tokens for it
pub record HasRead {X : Type 0} (step : Step X) (read : X) (new old : State) : Type 0 where
  pub reads : step old ≡ Ok (read, new)
  pub fewer : length new.tokens < length old.tokens

-- the same of a term that begins one of a level; tokens were taken if that has quantifiers
pub record BeginsAt (part whole : Level) (depth : ℕ) (read : TermForm) (new old : State)
    : Type 0 where
  pub reads : at part depth old ≡ Ok (read, new)
  pub fewer : may_quantify whole ≡ true → length new.tokens < length old.tokens

-- from any state from which a part was read that begins it: what the step gives
pub record ReadsOn {X Y : Type 0} (view : X → Y) (step : Step Y) (begins : State → Type 0)
    (old : State) (result : Result X (OrMemory Refusal)) (new : State) : Type 0 where
  pub reads : (s : State) → begins s → Gives view (step s) result new
  pub fewer : OnOk result (length new.tokens ≤ length old.tokens)
