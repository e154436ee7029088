-- What a decoder answers.
use Rattle.std.specs.Prelude.{◌≡◌, ℕ, ◌+◌, List, length, Result, Ok, Err}
use Rattle.pb_base.specs.OrMemory.{IfFault}
use Rattle.pb_base.specs.declared.or_memory.OrMemory.{OrMemory}
use Rattle.pb_sorts.specs.Counting.{instance_limit}
use Rattle.pb_sorts.specs.declared.counting.Counting.{Counting}
use Rattle.pb_sorts.specs.declared.counting.Counting.TheVariants.{Declared}
use Rattle.pb_bytecode.specs.declared.fault.ModuleFault.{ModuleFault}
use Rattle.pb_bytecode.specs.declared.module.Module.{Module}
use Rattle.pb_bytecode.specs.Contents.{Contents}
use Rattle.pb_bytecode.specs.Reading.{all_of}
use Rattle.pb_bytecode.specs.Views.{contents_of}

-- what a module says
abbrev pub module_contents : Module → Contents
module_contents m = contents_of m.version m.sorts.items m.equations.items m.initial

-- reading from the left meets this fault first, in the field that begins at its byte, by which
-- instances count
pub record IsFirstFieldFaultBy (counting : Counting) (bytes : List ℕ) (fault : ModuleFault) : Type 0
  where
    pub left : ℕ
    pub first : all_of (instance_limit counting) bytes
        ≡ Err (record { rule = fault.rule; left = left })
    pub place : fault.byte + left ≡ length bytes

-- the same where those that are declared count
abbrev pub IsFirstFieldFault : List ℕ → ModuleFault → Type 0
IsFirstFieldFault = IsFirstFieldFaultBy Declared

-- this module, or want of memory
abbrev pub IsModuleOf : Contents → Result Module (OrMemory ModuleFault) → Type 0
IsModuleOf m (Ok decoded) = module_contents decoded ≡ m
IsModuleOf m (Err error) = IfFault error (λ _. ⊥)
