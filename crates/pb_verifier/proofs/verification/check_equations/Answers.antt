use Rattle.std.proofs.Common.{◌≡◌, Some, refl, ◌∙◌, subst, inl, inr, arith}
use Rattle.std.specs.Prelude.{slice_get}
use Rattle.std.proofs.lemmas.Bool.{cases_lt}
use Rattle.std.proofs.lemmas.Option.{slice_get_read, slice_get_within, get_or_from_slice_get}
use Rattle.pb_base.proofs.Faults.{if_raised}
use Rattle.pb_verifier.specs.Acceptance.{HasTable}
use Rattle.pb_verifier.specs.Programs.{program_in}
use Rattle.pb_verifier.proofs.verification.check_equations.Goals as goal

pub returns-in-Err-clause-refused : goal.returns-in-Err-clause-refused
returns-in-Err-clause-refused c =
    if_raised c.in-Err.error c.in_equation.result c.in_equation.ensures
    (λ fault other made none tables.
    let read = slice_get_read _ _ _ _ refl c.loop-number-test.true c.index-equations-number.is in
    none (tables c.loop-number.number c.index-equations-number.result read))
    c.in-Err.ensures.refused

pub loop-number-preserved : goal.loop-number-preserved
loop-number-preserved c = λ k e lt there.
    elim (cases_lt k c.loop-number.number) [
      | inl below ↦ c.loop-number.invariant k e below there
      | inr last ↦
          let at : k ≡ c.loop-number.number = omega arith in
          let read = subst (λ n. slice_get c.args.equations.now n ≡ Some e) at there in
          let found = c.index-equations-number.result in
          let same = c.index-equations-number.is
          ∙ get_or_from_slice_get c.args.equations.now c.loop-number.number e found read in
          let callees = c.args.callees.now in
          subst (λ x. HasTable (program_in c.args.sorts.now callees x)) same c.in-Ok.ensures.accepted
    ]

pub returns-clause-accepted : goal.returns-clause-accepted
returns-clause-accepted c = λ k e there.
    let within = slice_get_within _ k e there in
    c.loop-number.invariant k e (omega (arith, within, c.loop-number-test.false)) there
