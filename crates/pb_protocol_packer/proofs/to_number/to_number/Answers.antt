use Rattle.std.proofs.Common.{◌≡◌, ◌∙◌, ap, sym, subst, IfOk}
use Rattle.pb_text_meaning.specs.Syntax.{Term}
use Rattle.pb_protocol_packing.specs.Numbers.{to_number}
use Rattle.pb_protocol_packer.specs.declared.member.Kind.{Kind}
use Rattle.pb_protocol_packer.specs.View.{term_of}
use Rattle.pb_protocol_packer.specs.Members.{kind_said}
use Rattle.pb_protocol_packer.proofs.SmallNumbers.{truth-from}
use Rattle.pb_protocol_packer.proofs.to_number.to_number.Goals as goal

pub returns-in-Boolean : goal.returns-in-Boolean
returns-in-Boolean c =
    let low = c.args.member.now.low in
    let x = term_of c.args.term in
    subst (λ (z : Term). IfOk c.truth_number.result (λ u. term_of u ≡ z))
    (truth-from low x ∙ ap (λ (k : Kind). to_number (kind_said k) low x) (sym c.in-Boolean.is))
    c.truth_number.ensures
