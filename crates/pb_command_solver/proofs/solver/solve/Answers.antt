use Rattle.std.proofs.Common.{◌∙◌, inl, inr, refl, rules, subst, sym}
use Rattle.pb_game.specs.Certificates.{IsCertificate}
use Rattle.pb_lifting.specs.Measures.{SomeHasTooManyRanks}
use Rattle.pb_command_solver.specs.Solving.{IsSolutionBy}
use Rattle.pb_command_solver.proofs.Results.{certified_by, solution_by}
use Rattle.pb_command_solver.proofs.solver.solve.Goals as goal

pub returns-in-Zielonka : goal.returns-in-Zielonka
returns-in-Zielonka g c =
    certified_by c.args.solver c.args.game.now (λ asked. absurd (cc (sym c.in-Zielonka.is ∙ asked))) c.solve_by_regions.result c.solve_by_regions.ensures

pub returns-in-Ok-certify : goal.returns-in-Ok-certify
returns-in-Ok-certify g c =
    subst (IsSolutionBy c.args.solver c.args.game.now) (sym c.in-Ok-certify.ensures.kept)
    (solution_by c.args.solver c.args.game.now c.in-Ok.solution (c.in-Ok-certify.ensures.certificate.0 refl) (λ _. inl c.in-Ok.ensures.solution))

pub returns-in-Ok : goal.returns-in-Ok
returns-in-Ok g c =
    let refused : ¬ IsCertificate c.args.game.now c.in-Ok.solution = search rules in
    certified_by c.args.solver c.args.game.now (λ _. inr (c.in-Ok.solution, c.in-Ok.ensures.solution, refused))
    c.solve_by_regions-in-Err.result c.solve_by_regions-in-Err.ensures

pub returns-in-Err-Refused : goal.returns-in-Err-Refused
returns-in-Err-Refused g c =
    let many : SomeHasTooManyRanks c.args.game.now = search rules in
    certified_by c.args.solver c.args.game.now (λ _. inl many) c.solve_by_regions-in-Err-Refused.result c.solve_by_regions-in-Err-Refused.ensures
