use Rattle.std.proofs.Common.{◌∙◌, Bool, ap, sym}
use Rattle.pb_protocol_packing.specs.Said.{digit_for}
use Rattle.pb_protocol_packer.specs.Scopes.{table_of}
use Rattle.pb_protocol_packer.proofs.HiddenNames.{digit-within, unless_hidden}
use Rattle.pb_protocol_packer.proofs.scope.digit_for.Goals as goal

pub returns-then-is_hidden : goal.returns-then-is_hidden
returns-then-is_hidden c =
    let σ = table_of c.args.packing.now.table.now in
    let x = c.args.name.now in
    sym (digit-within c.args.hiding.now σ x ∙ ap (λ (b : Bool). unless_hidden b (digit_for σ x)) (sym c.is_hidden.ensures ∙ c.if-is_hidden.true))

pub returns : goal.returns
returns c =
    let σ = table_of c.args.packing.now.table.now in
    let x = c.args.name.now in
    c.digit_in_table.ensures
    ∙ sym (digit-within c.args.hiding.now σ x ∙ ap (λ (b : Bool). unless_hidden b (digit_for σ x)) (sym c.is_hidden.ensures ∙ c.if-is_hidden.false))
