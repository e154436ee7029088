-- What the module of bytes is, and its answer.
use Rattle.std.specs.Prelude.{◌≡◌, ◌≤◌, ℕ, true, List}
use Rattle.pb_sorts.specs.Counting.{instance_limit}
use Rattle.pb_sorts.specs.declared.counting.Counting.{Counting}
use Rattle.pb_bytecode.specs.Contents.{Contents}
use Rattle.pb_bytecode.specs.Limits.{fits, instance_count}
use Rattle.pb_bytecode.specs.Spelling.{spelling}
use Rattle.pb_verifier.specs.Acceptance.{IsAccepted}
use Rattle.pb_report.specs.declared.answer.Answer.{Answer}
use Rattle.pb_command_solver.specs.Answers.{IsAnswerOf}

-- the bytes spell this module, and so no other; it keeps the limits of the format, and that of
-- instances by which of them count
pub record Spell (counting : Counting) (bytes : List ℕ) (m : Contents) : Type 0 where
  pub within_limits : fits m ≡ true
  pub few : instance_count m.equations ≤ instance_limit counting
  pub spelled : bytes ≡ spelling m

-- the module that bytes spell, with code that is accepted
pub record IsModuleOfCode (counting : Counting) (bytes : List ℕ) (m : Contents) : Type 0 where
  pub spell : Spell counting bytes m
  pub accepted : IsAccepted m

-- P holds of one module at most
abbrev pub HoldsOfOne : (Contents → Type 0) → Type 0
HoldsOfOne P = (m n : Contents) → P m → P n → m ≡ n

-- the answer to a module that bytes spell
pub record IsAnswerOfCode (counting : Counting) (bytes : List ℕ) (a : Answer) : Type 0 where
  pub contents : Contents
  pub of_code : IsModuleOfCode counting bytes contents
  pub answered : IsAnswerOf counting contents a
