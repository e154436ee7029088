use Rattle.std.proofs.Common.{◌≡◌, List, length, sym, ap, subst, arith}
use Rattle.pb_bytecode_program.specs.declared.instruction.Op.{Op}
use Rattle.pb_verifier_structure.specs.Nesting.{IsNested}
use Rattle.pb_verifier_structure.proofs.Whole.{refused_same, structured_nests, all_structured}
use Rattle.pb_verifier_structure.proofs.check.check_structure.Goals as goal

pub returns-in_err-bodies-clause-refused : goal.returns-in_err-bodies-clause-refused
returns-in_err-bodies-clause-refused c =
    refused_same c.from_residual.result c.in_err-bodies.field-0.0 _ _ c.from_residual.ensures.1
    c.in_err-bodies.ensures.refused (λ f p e w. f (subst IsNested e.same_code (structured_nests p w)))

pub returns-clause-ok : goal.returns-clause-ok
returns-clause-ok c =
    λ p e. all_structured p (subst IsNested (sym e.same_code) c.in_ok-bodies.ensures.nested)
    (λ q i w at. c.loop-place.invariant p e q i
    (let l : length p.code ≡ length c.args.code.now.instructions.now =
    ap (λ (code : List Op). length code) e.same_code in let t = c.loop-place-test.false in omega arith) at)
