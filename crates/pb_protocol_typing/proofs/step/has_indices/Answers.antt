use Rattle.std.proofs.Common.{◌≡◌, ◌∙◌, ℕ, length, sym, ap, arith}
use Rattle.std.specs.Prelude.{◌==◌}
use Rattle.std.proofs.lemmas.List.{length-map}
use Rattle.pb_text_tree.specs.Form.{argument_forms}
use Rattle.pb_typing_declarations.specs.Entries.{carrier_shape}
use Rattle.pb_protocol_typing.specs.Terms.{kinds}
use Rattle.pb_protocol_typing.specs.View.{scope_of}
use Rattle.pb_protocol_typing.proofs.Rows.{length-kinds}
use Rattle.pb_protocol_typing.proofs.step.has_indices.Goals as goal

pub returns : goal.returns
returns c =
    let s = scope_of c.args.scope.now in
    let es = c.args.index.now in
    let ps = c.args.signature.now.parameters.items in
    let size : c.len.result ≡ length ps = omega (arith, c.len.ensures, c.args.signature.now.parameters.ok.0) in
    ap (λ (n : ℕ). n == c.len.result) (sym (length-kinds s es)) ∙ ap (λ (m : ℕ). length (kinds s (argument_forms es)) == m) (size ∙ sym (length-map ps carrier_shape))
