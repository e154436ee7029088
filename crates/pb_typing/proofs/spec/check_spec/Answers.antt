use Rattle.std.proofs.Common.{◌≡◌, ◌++◌, List, [], rules, Result, Ok, Err}
use Rattle.std.specs.Prelude.{MatchResult}
use Rattle.pb_sorts.specs.Counting.{instance_limit}
use Rattle.pb_text_tree.specs.Form.{spec_form}
use Rattle.pb_base.specs.declared.or_memory.OrMemory.{OrMemory}
use Rattle.pb_typing_declarations.specs.declared.fault.TypingFault.{TypingFault}
use Rattle.pb_typing_declarations.specs.Declarations.{declaration_faults}
use Rattle.pb_typing_declarations.specs.Faults.{IsAmong}
use Rattle.pb_typing_rules.specs.Faults.{faults}
use Rattle.pb_typing_declarations.proofs.Parts.{among_left, among_right, no_whole}
use Rattle.pb_typing.specs.Checked.{IsChecked}
use Rattle.pb_typing.proofs.spec.check_spec.Goals as goal

-- behind a first part without faults, what is found of the rest is found of the whole
found_behind : {T : Type 0} (first rest : List TypingFault) (P : T → Type 0) (r : Result T (OrMemory TypingFault)) → first ≡ []
    → MatchResult r (λ x. (rest ≡ []) × P x) (IsAmong rest) → MatchResult r (λ x. (first ++ rest ≡ []) × P x) (IsAmong (first ++ rest))
found_behind first rest P (Ok x) none h = (no_whole first rest none h.0, h.1)
found_behind first rest P (Err e) none h = among_right first rest e h

pub returns-in_err-declarations : goal.returns-in_err-declarations
returns-in_err-declarations c =
    let h : IsAmong (faults (instance_limit c.args.counting) (spec_form c.args.spec.now)) c.in_err-declarations.field-0.0 =
    among_left (declaration_faults (instance_limit c.args.counting) (spec_form c.args.spec.now)) _ c.in_err-declarations.field-0.0 c.in_err-declarations.ensures.checked in
    search rules

pub returns : goal.returns
returns c =
    let t = spec_form c.args.spec.now in
    found_behind (declaration_faults (instance_limit c.args.counting) t) _ (IsChecked t) c.check_declared.result c.in_ok-declarations.ensures.checked c.check_declared.ensures
