-- Accepted modules, and what is promised of them.
use Rattle.std.specs.Prelude.{◌≡◌, ℕ, ◌<◌, ◌≤◌, List, Some}
use Rattle.std.specs.List.{slice_get}
use Rattle.pb_sorts.specs.Layout.{count_of}
use Rattle.pb_sorts.specs.declared.carrier.Carrier.{Carrier}
use Rattle.pb_base.specs.declared.limits.TheConstants.{MAX_STEPS, MAX_TOKENS}
use Rattle.pb_bytecode_program.specs.Machine.{Program}
use Rattle.pb_bytecode_program.specs.Counts.{static_steps, static_tokens}
use Rattle.pb_bytecode_program.specs.Accepted.{Accepted, Table}
use Rattle.pb_bytecode_program.specs.Safety.{IsSafe}
use Rattle.pb_bytecode.specs.Contents.{EquationContents, Contents}
use Rattle.pb_bytecode.specs.Meaning.{initial_of, parameters, program_of}

-- a table of abstract states accepts the code, which states counts that are large enough and within
-- the limits
pub record HasTable (p : Program) : Type 0 where
  pub table : Table
  pub accepted : Accepted p table

-- the code of each equation is accepted
pub record IsAccepted (m : Contents) : Type 0 where
  pub codes : (k : ℕ) (e : EquationContents) → slice_get m.equations k ≡ Some e
      → HasTable (program_of m e)

-- the module is accepted, and the layout has the carriers of its equations' parameters
pub record IsVerified (m : Contents) (layout : List (List Carrier)) : Type 0 where
  pub accepted : IsAccepted m
  pub laid_out : layout ≡ parameters m

-- the number of the initial instance, which is one of the layout's
pub record IsInitialNumber (m : Contents) (number : ℕ) : Type 0 where
  pub same : number ≡ initial_of m
  pub inside : number < count_of (parameters m)

-- the steps and tokens are at least the static counts and within the limits
pub record StatesCounts (p : Program) (steps tokens : ℕ) : Type 0 where
  pub enough_steps : static_steps p ≤ steps
  pub few_steps : steps ≤ MAX_STEPS
  pub enough_tokens : static_tokens p ≤ tokens
  pub few_tokens : tokens ≤ MAX_TOKENS

-- on any arguments of the declared carriers a run never faults, and it ends within the steps and
-- tokens that are stated
pub record RunsSafely (p : Program) : Type 0 where
  pub safe : IsSafe p
  pub steps : static_steps p ≤ p.stated_steps
  pub tokens : static_tokens p ≤ p.stated_tokens
  pub few_steps : p.stated_steps ≤ MAX_STEPS
  pub few_tokens : p.stated_tokens ≤ MAX_TOKENS
