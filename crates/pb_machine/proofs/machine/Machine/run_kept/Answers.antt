use Rattle.std.proofs.Common.{◌≡◌, List, Some, refl, sym, ◌∙◌, ap, subst, arith}
use Rattle.std.specs.List.{slice_get}
use Rattle.std.proofs.lemmas.Option.{slice_get-get_or}
use Rattle.pb_sorts.specs.Instance.{Instance, instances}
use Rattle.pb_sorts.specs.Layout.{carriers_of}
use Rattle.pb_sorts.specs.declared.carrier.Carrier.{Carrier}
use Rattle.pb_bytecode_program.specs.declared.instruction.Op.{Op}
use Rattle.pb_bytecode.specs.Contents.{EquationContents}
use Rattle.pb_bytecode.specs.Meaning.{program_of}
use Rattle.pb_bytecode.specs.Views.{equation_contents}
use Rattle.pb_machine.proofs.ModuleInstances.{IsRunOf, equation_there, declared_at, values_within, can_run_at, meant}
use Rattle.pb_machine.specs.Output.{CanRun, IsOutput}
use Rattle.pb_machine.proofs.Runs.{few_written}
use Rattle.pb_machine.proofs.machine.Machine.run_kept.Goals as goal
use Rattle.pb_machine.proofs.machine.Machine.run_kept.Goals.{After-index-equation}

-- the instance that is loaded, and its equation
abbrev loaded : After-index-equation → Instance
loaded c = record { equation = c.in_ok-owner.owner; values = c.load.new.self.slots.items }

abbrev held : After-index-equation → EquationContents
held c = equation_contents c.index-equation.result.now

is_run : (c : After-index-equation) → IsRunOf c.args.verified.now c.args.number (loaded c) (held c)
is_run c =
    let k = c.in_ok-owner.owner in
    let at = subst (λ (x : List (List Carrier)). slice_get (instances (carriers_of x)) c.args.number ≡ Some (loaded c)) c.layout-layout.ensures c.in_ok-owner.ensures in
    let there = equation_there c.args.verified.now c.module.result.now c.args.number (loaded c) c.module.ensures at in
    record {
      numbered = at;
      declared = declared_at c.args.verified.now c.module.result.now k c.index-equation.result.now c.module.ensures
          (slice_get-get_or c.module.result.now.equations.items k c.index-equation.result.now there ∙ ap Some (sym c.index-equation.ensures));
    }

pub index-equation-requires : goal.index-equation-requires
index-equation-requires c =
    let i : Instance = record { equation = c.in_ok-owner.owner; values = c.load.new.self.slots.items } in
    let at = subst (λ (x : List (List Carrier)). slice_get (instances (carriers_of x)) c.args.number ≡ Some i) c.layout-layout.ensures c.in_ok-owner.ensures in
    let there = equation_there c.args.verified.now c.module.result.now c.args.number i c.module.ensures at in
    omega (arith, there, c.module.result.now.equations.ok.0)

-- so its code can be run
can_run : (c : After-index-equation) (code : List Op) (loops : List Carrier) → code ≡ (held c).code → loops ≡ (held c).loops
    → CanRun (program_of c.args.verified.now (held c)) c.layout-layout.result.now code loops (held c).steps (held c).tokens c.load.new.self.slots.items
can_run c code loops same_code same_loops =
    let h = is_run c in
    can_run_at c.args.verified.now c.args.number (loaded c) (held c) h.numbered h.declared c.layout-layout.result.now code loops c.load.new.self.slots.items
    c.layout-layout.ensures (c.runs_safely.ensures.safe c.in_ok-owner.owner (held c) h.declared) same_code same_loops refl

pub run_code-requires : goal.run_code-requires
run_code-requires c =
    let place = (goal.at.run_code-requires c).After-index-equation in
    (program_of c.args.verified.now (held place), can_run place c.deref.result.now c.deref-2.result.now c.deref.ensures.value c.deref-2.ensures.value)

pub returns : goal.returns
returns c =
    let m = c.args.verified.now in
    let tokens = c.deref-3.result.now in
    let place = (goal.at.returns c).After-index-equation in
    let i = loaded place in
    let e = held place in
    let h = is_run place in
    let can = can_run place c.deref.result.now c.deref-2.result.now c.deref.ensures.value c.deref-2.ensures.value in
    let output = subst (IsOutput (program_of m e) i.values) (sym c.deref-3.ensures.value) (c.in_ok-run_code.ensures (program_of m e) can) in
    record {
      output = record { instance = i; numbered = h.numbered; equation = e; declared = h.declared; output = output };
      few = (let short = few_written (program_of m e) i.values tokens can.runnable output in
          let stated = (c.runs_safely.ensures.safe i.equation e h.declared).few_tokens in omega arith);
      meaning = λ trees all. meant m c.args.number i e tokens trees h.numbered h.declared (values_within m c.args.number i e h.numbered h.declared) output all;
    }
