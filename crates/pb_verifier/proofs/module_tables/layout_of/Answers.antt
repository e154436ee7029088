-- A module's limits are those of a layout.
use Rattle.std.proofs.Common.{◌≡◌, map, sym, ap, subst, ◌∙◌}
use Rattle.std.specs.Prelude.{vec_items}
use Rattle.std.proofs.lemmas.Result.{IfOk-weaker}
use Rattle.pb_bytecode.specs.Decoded.{module_contents}
use Rattle.pb_bytecode.specs.Meaning.{parameters}
use Rattle.pb_verifier.specs.Programs.{parameters_of}
use Rattle.pb_verifier.proofs.Limits.{HasLayout, has_layout}
use Rattle.pb_verifier.proofs.Modules.{few_each, few_lists, parameters_map}
use Rattle.pb_verifier.proofs.module_tables.layout_of.Goals as goal
use Rattle.pb_verifier.proofs.module_tables.layout_of.Goals.{After-deref-2}

-- the carriers that are read are those of the module's equations
read : (c : After-deref-2) → map vec_items c.deref-2.result.now ≡ parameters (module_contents c.args.module.now)
read c =
    ap (map vec_items) c.deref-2.ensures.value
    ∙ (c.in_ok-carriers.ensures ∙ (ap (map parameters_of) c.deref.ensures.value ∙ parameters_map c.args.module.now.equations.items))

fits : (c : After-deref-2) → HasLayout (map vec_items c.deref-2.result.now)
fits c = subst HasLayout (sym (read c)) (has_layout (module_contents c.args.module.now) c.args.module.now.within_limits)

pub layout_with-requires-clause-equations : goal.layout_with-requires-clause-equations
layout_with-requires-clause-equations c = few_lists c.deref-2.result.now (fits (goal.at.layout_with-requires-clause-equations c).After-deref-2).equations

pub layout_with-requires-clause-parameters : goal.layout_with-requires-clause-parameters
layout_with-requires-clause-parameters c = few_each c.deref-2.result.now (fits (goal.at.layout_with-requires-clause-parameters c).After-deref-2).parameters

pub layout_with-requires-clause-instances : goal.layout_with-requires-clause-instances
layout_with-requires-clause-instances c = (fits (goal.at.layout_with-requires-clause-instances c).After-deref-2).instances

pub returns : goal.returns
returns c =
    let same = read (goal.at.returns c).After-deref-2 in
    IfOk-weaker c.layout_with.result _ _ (λ layout is. is ∙ same) c.layout_with.ensures
