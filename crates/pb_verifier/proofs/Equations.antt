-- From the parts of an equation's check to its acceptance.
use Rattle.std.proofs.Common.{◌≡◌, Bool, true, false}
use Rattle.std.specs.Prelude.{IsTrue}
use Rattle.pb_bytecode_program.specs.Machine.{Program}
use Rattle.pb_verifier_structure.specs.Structure.{IsStructured, IsProgramWithinLimits}
use Rattle.pb_verifier_structure.specs.Views.{IsProgramOf}
use Rattle.pb_verifier_structure.specs.declared.equation_code.EquationCode.{EquationCode}
use Rattle.pb_verifier.specs.Acceptance.{HasTable, StatesCounts}
use Rattle.pb_verifier.specs.Pass.{code_passes}
use Rattle.pb_verifier.proofs.Whole.{pass_sound, pass_complete}

-- what is accepted keeps the rules by position
pub structured : (p : Program) → HasTable p → IsStructured p
structured p t = record { placed = t.accepted.placed; sited = t.accepted.sited; all_closed = t.accepted.all_closed; closes = t.accepted.closes }

-- and states counts that are enough
pub states_counts : (p : Program) → HasTable p → StatesCounts p p.stated_steps p.stated_tokens
states_counts p t = record { enough_steps = t.accepted.steps_stated; few_steps = t.accepted.steps_limit; enough_tokens = t.accepted.tokens_stated; few_tokens = t.accepted.tokens_limit }

pub table_found : (p : Program) → IsStructured p → IsProgramWithinLimits p → StatesCounts p p.stated_steps p.stated_tokens → code_passes p ≡ true → HasTable p
table_found p s l c e = let t = pass_sound p s l c.enough_steps c.few_steps c.enough_tokens c.few_tokens e in record { table = t.0; accepted = t.1 }

pub no_table : (p : Program) → IsStructured p → IsProgramWithinLimits p → code_passes p ≡ false → HasTable p → ⊥
no_table p s l e t = pass_complete p t.table s l e t.accepted

pub broken_structure : (p : Program) (code : EquationCode) → IsProgramOf p code → ((q : Program) → IsProgramOf q code → IsStructured q → ⊥) → HasTable p → ⊥
broken_structure p code o h t = h p o (structured p t)

-- where the stated counts are not enough, nothing is accepted
pub not_enough : (p : Program) (b : Bool) → (StatesCounts p p.stated_steps p.stated_tokens → IsTrue b) → b ≡ false → HasTable p → ⊥
not_enough p b f e t = let yes = f (states_counts p t) in cc

pub enough : (p : Program) (b : Bool) → (IsTrue b → StatesCounts p p.stated_steps p.stated_tokens) → b ≡ true → StatesCounts p p.stated_steps p.stated_tokens
enough p b f e = f e
