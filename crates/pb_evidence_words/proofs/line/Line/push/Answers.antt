use Rattle.std.proofs.Common.{◌≡◌, ◌+◌, ◌++◌, ℕ, List, codes, decimal, string_bytes, ap, ◌∙◌, arith}
use Rattle.std.specs.Prelude.{Result, OnOk}
use Rattle.pb_sorts.specs.Instance.{Instance, instance_of}
use Rattle.pb_evidence_words.specs.Callers.{told_by}
use Rattle.pb_evidence_words.specs.WhyText.{Told, arrival_text, formula_text, line_instance, line_text, move_between}
use Rattle.pb_evidence_words.proofs.Pushed.{and_then, pushed}
use Rattle.pb_evidence_words.proofs.Told.{arrived-first, arrived-later, caller-at, move-said}
use Rattle.pb_evidence_words.proofs.line.Line.push.Goals as goal
use Rattle.pb_evidence_words.proofs.line.Line.push.Goals.{After-push_formula}

-- a line by its parts, once its formula stands there
line-said : {T E : Type 0} (c : After-push_formula) (r : Result T E) (s4 s5 : List ℕ)
    → string_bytes c.push_formula.new.text ≡ string_bytes c.push_str.new.self ++ formula_text (told_by c.args.self.now) (instance_of c.instance-instance.result)
    → s4 ≡ string_bytes c.push_formula.new.text ++ arrival_text (told_by c.args.self.now) c.args.self.now.number
    → OnOk r (s5 ≡ s4 ++ codes "\n") → OnOk r (s5 ≡ string_bytes c.args.text.now ++ line_text (told_by c.args.self.now) c.args.self.now.number)
line-said c r s4 s5 named arrived ended =
    let t = told_by c.args.self.now in
    let k = c.args.self.now.number in
    let s0 = string_bytes c.args.text.now in
    let s1 = string_bytes c.push_line_number.new.text in
    let s2 = string_bytes c.push_str.new.self in
    let s3 = string_bytes c.push_formula.new.text in
    let formula = formula_text t (line_instance t k) in
    let arrival = arrival_text t k in
    and_then r s0 s1 s5 (decimal (k + 1)) (codes " " ++ (formula ++ (arrival ++ codes "\n"))) c.in_ok-push_line_number.ensures
    (and_then r s1 s2 s5 (codes " ") (formula ++ (arrival ++ codes "\n")) c.in_ok-push_str.ensures.bytes
    (and_then r s2 s3 s5 formula (arrival ++ codes "\n") (named ∙ ap (λ (x : Instance). s2 ++ formula_text t x) c.instance-instance.ensures.value)
    (and_then r s3 s4 s5 arrival (codes "\n") arrived ended)))

pub returns-then-self-eq0 : goal.returns-then-self-eq0
returns-then-self-eq0 c =
    let state = string_bytes c.push_state.new.text in
    line-said (goal.at.returns-then-self-eq0 c).After-push_formula c.push_str-then-self-eq0-2.result state (string_bytes c.push_str-then-self-eq0-2.new.self) c.in_ok-push_formula.ensures
    (arrived-first (told_by c.args.self.now) c.args.self.now.number (instance_of c.instance-instance.result) c.instance-instance.ensures.value c.if-self-eq0.true
    _ _ state _ c.in_ok-push_str-2.ensures.bytes c.as_slice-state.ensures c.in_ok-push_state.ensures)
    (pushed c.push_str-then-self-eq0-2.result _ state (codes "\n") c.push_str-then-self-eq0-2.ensures.bytes)

pub returns : goal.returns
returns c =
    let parent = c.args.parent.now in
    let came = string_bytes c.push_move_to.new.text in
    let is = c.requires.parent (omega (arith, c.if-self-eq0.false)) in
    line-said (goal.at.returns c).After-push_formula c.push_str-3.result came (string_bytes c.push_str-3.new.self) c.in_ok-push_formula.ensures
    (arrived-later (told_by c.args.self.now) c.args.self.now.number (λ e. omega (arith, e, c.if-self-eq0.false))
    _ _ (string_bytes c.push_from.new.text) came c.in_ok-push_str-3.ensures.bytes c.in_ok-push_from.ensures
    (c.in_ok-push_move_to.ensures ∙ ap (λ (x : List ℕ). string_bytes c.push_from.new.text ++ x)
    (ap (λ (u : Told). move_between u (instance_of parent.instance) (instance_of c.instance-instance.result)) is.told
    ∙ move-said (told_by c.args.self.now) _ (instance_of parent.instance) parent.calls.items
    (caller-at (told_by parent.line) (told_by c.args.self.now) parent.line.number _ is.told is.place parent.made) (instance_of c.instance-instance.result) _ c.instance-instance.ensures.value)))
    (pushed c.push_str-3.result _ came (codes "\n") c.push_str-3.ensures.bytes)
