-- The values that clap read are those in its rows.
use Rattle.std.proofs.Common.{◌≡◌, ◌∙◌, ℕ, List, [], ap, subst, map, unwrap_or, string_bytes, IfOk}
use Rattle.clap.specs.Matches.{found_of}
use Rattle.clap.proofs.WalkLemmas.{raw_values-rows}
use Rattle.pb_command_line.proofs.read.names_at.Goals as goal

pub returns-in-None : goal.returns-in-None
returns-in-None c =
    let rows = raw_values-rows (found_of c.args.options.now) c.args.id.now in
    ap (λ names. map string_bytes names) c.new.ensures.items ∙ ap (λ words. unwrap_or words []) (c.in-None.ensures ∙ rows)

pub returns-in-Some : goal.returns-in-Some
returns-in-Some c =
    let rows = raw_values-rows (found_of c.args.options.now) c.args.id.now in
    subst (λ (words : List (List ℕ)). IfOk c.names_of.result (λ names. map string_bytes names.items ≡ words))
    (ap (λ words. unwrap_or words []) (c.in-Some.ensures ∙ rows)) c.names_of.ensures
