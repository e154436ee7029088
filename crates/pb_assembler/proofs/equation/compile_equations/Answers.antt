use Rattle.std.proofs.Common.{get_or, refl, arith}
use Rattle.std.proofs.lemmas.Option.{slice_get_read, slice_get-get_or}
use Rattle.pb_assembler_measures.specs.declared.measures.Measures.{Measures}
use Rattle.pb_assembler.proofs.Equations.{made_equations, made_more, parameters_there, ready_next, text_there}
use Rattle.pb_assembler.proofs.equation.compile_equations.Goals as goal

pub carriers-parameters-requires : goal.carriers-parameters-requires
carriers-parameters-requires c = parameters_there c.loop-place-test.true c.index-normals-place.is c.loop-place.invariant

pub bounds-texts-place : goal.bounds-texts-place
bounds-texts-place c = text_there c.loop-place-test.true c.index-normals-place.is c.loop-place.invariant

pub compile_equation-requires-clause-ready : goal.compile_equation-requires-clause-ready
compile_equation-requires-clause-ready c =
    ready_next c.loop-place-test.true c.index-normals-place.is c.loop-place.invariant c.carriers-parameters.ensures.list c.index-texts-place.is

pub bounds-measures-place : goal.bounds-measures-place
bounds-measures-place c = let l = c.requires.measured.long in omega (arith, l, c.loop-place-test.true)

pub compile_equation-requires-clause-measured : goal.compile_equation-requires-clause-measured
compile_equation-requires-clause-measured c =
    let l = c.requires.measured.long in
    let k = c.loop-place.place in
    let none : Measures = record { instructions = 0; operands = 0; brackets = 0; nesting = 0; slots = 0; steps = 0; tokens = 0 } in
    c.requires.measured.each k c.index-normals-place.result (get_or c.args.measures.now k none)
    (slice_get_read c.args.normals.now _ k _ refl c.loop-place-test.true c.index-normals-place.is)
    (slice_get-get_or c.args.measures.now k none (omega (arith, l, c.loop-place-test.true)))

pub loop-place-preserved : goal.loop-place-preserved
loop-place-preserved c =
    made_more c.loop-place-test.true c.index-normals-place.is c.loop-place.invariant c.carriers-parameters.ensures.list c.index-texts-place.is
    c.in_ok-equation.equation c.in_ok-push.ensures.items c.in_ok-equation.ensures.contents c.in_ok-equation.ensures.fields

pub returns-clause-contents : goal.returns-clause-contents
returns-clause-contents c = made_equations c.loop-place-test.false c.loop-place.invariant
