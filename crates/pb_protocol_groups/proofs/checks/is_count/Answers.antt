use Rattle.std.proofs.Common.{◌∙◌, ℕ, length, sym, ap}
use Rattle.std.specs.Prelude.{◌==◌}
use Rattle.std.proofs.lemmas.List.{length-map}
use Rattle.pb_protocol_packing.specs.Apart.{term_count}
use Rattle.pb_protocol_packer.specs.View.{terms_of}
use Rattle.pb_protocol_groups.specs.Variables.{variable_of_state}
use Rattle.pb_protocol_groups.proofs.Packable.{terms-many}
use Rattle.pb_protocol_groups.proofs.checks.is_count.Goals as goal

pub returns : goal.returns
returns c =
    let vs = c.args.values.now in
    let xs = c.args.state.now in
    ap (λ (n : ℕ). n == length xs) (sym (terms-many vs)) ∙ ap (λ (n : ℕ). term_count (terms_of vs) == n) (sym (length-map xs variable_of_state))
