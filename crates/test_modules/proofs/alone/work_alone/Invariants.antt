use Rattle.pb_sorts.specs.Layout.{count_of}
use Rattle.pb_bytecode.specs.Meaning.{parameters}
use Rattle.test_modules.proofs.alone.work_alone.Given as goal

abbrev pub ghosts-work_branded : goal.ghosts-work_branded
ghosts-work_branded a = record { limit = count_of (parameters a.verified.now) }
