use Rattle.std.proofs.Common.{◌≡◌, ◌∙◌, refl}
use Rattle.std.proofs.lemmas.Bool.{and_from}
use Rattle.pb_text_tree.specs.Form.{equation_form}
use Rattle.pb_normal.specs.View.{formula_view}
use Rattle.pb_assembler_scheme.proofs.Limits.{within_limits}
use Rattle.pb_assembler_modules.proofs.Unique.{same_contents}
use Rattle.pb_assembler.specs.Compiled.{bare_program}
use Rattle.pb_assembler.proofs.Equations.{steps_exact, tokens_exact}
use Rattle.pb_assembler.proofs.equation.compile_equation.Goals as goal

pub equation_code-requires-clause-few : goal.equation_code-requires-clause-few
equation_code-requires-clause-few c =
    let X = c.args.measured.normal.now in
    (within_limits (bare_program c.args.layout.now c.args.parameters.now X) (formula_view X.right) c.requires.ready.kept).instructions

pub returns-clause-contents : goal.returns-clause-contents
returns-clause-contents c =
    let cs = c.args.layout.now in
    let ps = c.args.parameters.now in
    let t = equation_form c.args.text.now in
    let X = c.args.measured.normal.now in
    let m = c.args.measured.measures.now in
    let sign : c.args.text.now.sign ≡ c.args.text.now.sign = refl in
    same_contents _ _ _ _ _ _ _ _ _ _ _ _ _ _ sign
    (c.in_ok-name.ensures ∙ c.deref.ensures)
    c.in_ok-parameters.ensures.same
    c.in_ok-loops.ensures.same
    (steps_exact cs ps t X c.requires.ready m c.requires.measured)
    (tokens_exact cs ps t X c.requires.ready m c.requires.measured)
    c.in_ok-code.ensures

pub returns-clause-fields : goal.returns-clause-fields
returns-clause-fields c = and_from _ _ c.in_ok-parameters.ensures.fit c.in_ok-loops.ensures.fit
