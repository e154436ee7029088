use Rattle.std.proofs.Common.{◌≡◌, ◌∙◌, ◌++◌, ap, sym, subst, rules}
use Rattle.pb_text_tree.specs.Form.{SpecForm, spec_form}
use Rattle.pb_text_meaning.specs.Erase.{erase}
use Rattle.pb_base.specs.declared.or_memory.OrMemory.{OrMemory}
use Rattle.pb_typing_declarations.specs.declared.fault.TypingFault.{TypingFault}
use Rattle.pb_typing_declarations.specs.Faults.{IsAmong}
use Rattle.pb_typing_rules.specs.Faults.{initial_faults, right_faults}
use Rattle.pb_typing_declarations.proofs.Parts.{among_left, among_right, no_whole}
use Rattle.pb_typing_tree.specs.InitialPlace.{IsInitial}
use Rattle.pb_typing.specs.Rights.{AreRights}
use Rattle.pb_typing.specs.Typed.{IsLayout}
use Rattle.pb_typing.proofs.spec.check_declared.Goals as goal

-- a text that another one equals has the same faults of right sides and of the initial instance
abbrev Told : SpecForm → OrMemory TypingFault → Type 0
Told t = IsAmong (right_faults (erase t) t.equations ++ initial_faults (erase t) t.initial)

rights_of : (u t : SpecForm) (e : OrMemory TypingFault) → u ≡ t → IsAmong (right_faults (erase u) t.equations) e → Told t e
rights_of u t e same h =
    among_left _ (initial_faults (erase t) t.initial) e (subst (λ (v : SpecForm). IsAmong (right_faults (erase v) t.equations) e) same h)

initial_of : (u t : SpecForm) (e : OrMemory TypingFault) → u ≡ t → IsAmong (initial_faults (erase u) t.initial) e → Told t e
initial_of u t e same h =
    among_right (right_faults (erase t) t.equations) _ e (subst (λ (v : SpecForm). IsAmong (initial_faults (erase v) t.initial) e) same h)

pub returns-in_err-equations : goal.returns-in_err-equations
returns-in_err-equations c =
    let h : Told (spec_form c.args.spec.now) c.in_err-equations.field-0.0 =
    rights_of _ (spec_form c.args.spec.now) c.in_err-equations.field-0.0 c.requires c.in_err-equations.ensures in
    search rules

pub returns-in_err-initial : goal.returns-in_err-initial
returns-in_err-initial c =
    let h : Told (spec_form c.args.spec.now) c.in_err-initial.field-0.0 =
    initial_of _ (spec_form c.args.spec.now) c.in_err-initial.field-0.0 c.requires c.in_err-initial.ensures in
    search rules

pub check_rights-requires : goal.check_rights-requires
check_rights-requires c = record { text = c.requires; layout = record { values = c.in_ok-layout.ensures.carriers; shapes = c.in_ok-layout.ensures.shapes } }

pub returns : goal.returns
returns c =
    let t = spec_form c.args.spec.now in
    let made = subst (λ (v : SpecForm). AreRights (erase v) t.equations c.in_ok-equations.equations.items) c.requires c.in_ok-equations.ensures.1 in (
      no_whole (right_faults (erase t) t.equations) _
          (ap (λ (v : SpecForm). right_faults (erase v) t.equations) (sym c.requires) ∙ c.in_ok-equations.ensures.0)
          (ap (λ (v : SpecForm). initial_faults (erase v) t.initial) (sym c.requires) ∙ c.in_ok-initial.ensures.0),
      record {
        laid_out = subst (λ (v : SpecForm). IsLayout (erase v) c.in_ok-layout.layout) c.requires
            (record { values = c.in_ok-layout.ensures.carriers; shapes = c.in_ok-layout.ensures.shapes });
        rights = made.rights;
        loops = made.loops;
        calls = made.calls;
        asked = subst (λ (v : SpecForm). IsInitial (erase v) c.in_ok-initial.initial.equation c.in_ok-initial.initial.values.items) c.requires c.in_ok-initial.ensures.1;
      },
    )
