use Rattle.std.proofs.Common.{◌≡◌, ◌++◌, ◌+◌, ◌∙◌, Bool, not, [], drop, sym, ap, rules}
use Rattle.pb_sorts.proofs.Places.{drop-at}
use Rattle.pb_text_tree.specs.Form.{named}
use Rattle.pb_text_meaning.specs.Syntax.{Name}
use Rattle.pb_typing_declarations.specs.declared.fault.TypingRule.TheVariants.{NameTwice}
use Rattle.pb_base.specs.declared.or_memory.OrMemory.TheVariants.{Refused}
use Rattle.pb_typing_declarations.specs.Faults.{unless, repeated}
use Rattle.pb_typing_declarations.proofs.Parts.{among_first, first_clear}
use Rattle.pb_typing_declarations.proofs.Filling.{Seen, seen_repeated, seen_too, repeated_after-seen}
use Rattle.pb_protocol_typing.specs.View.{names_in}
use Rattle.pb_protocol_typing.proofs.Seen.{in_set, none-in_set, put-in_set}
use Rattle.pb_protocol_typing.proofs.names.check_apart.Goals as goal
use Rattle.pb_protocol_typing.proofs.names.check_apart.Goals.{After-require}

pub loop-name-init : goal.loop-name-init
loop-name-init c =
    let all = names_in c.args.names.now in
    repeated_after-seen [] all ∙ ap (λ (seen : Seen). seen_repeated seen all) (sym (none-in_set c.new-seen.result c.new-seen.ensures.empty))

-- the fault of a name, and those of the names behind it
next : (c : After-require) →
    let old = c.loop-name.seen in
    let x = named c.name-item.result.now in
    repeated (names_in c.args.names.now)
    ≡ unless c.in_ok-is_new.is_new NameTwice x.place ++ seen_repeated (seen_too x.text (in_set old)) (names_in (drop (c.loop-name.name-index + 1) c.args.names.now))
next c =
    let names = c.args.names.now in
    let old = c.loop-name.seen in
    let k = c.loop-name.name-index in
    let x = named c.name-item.result.now in
    let rest = seen_repeated (seen_too x.text (in_set old)) (names_in (drop (k + 1) names)) in
    let test : c.in_ok-is_new.is_new ≡ not (in_set old x.text) = c.in_ok-is_new.ensures.added ∙ ap (λ (y : Name). not (in_set old y)) c.as_str.ensures.value in
    c.loop-name.invariant
    ∙ (ap (λ ns. seen_repeated (in_set old) (names_in ns)) (drop-at names k c.name-item.result c.loop-name-test.true c.name-item.is)
    ∙ ap (λ (b : Bool). unless b NameTwice x.place ++ rest) (sym test))

pub loop-name-preserved : goal.loop-name-preserved
loop-name-preserved c =
    let old = in_set c.loop-name.seen in
    let put : in_set c.insert.new.self ≡ seen_too (named c.name-item.result.now).text old =
    put-in_set c.loop-name.seen c.insert.new.self c.as_str.result c.in_ok-is_new.ensures.updates ∙ ap (λ (y : Name). seen_too y old) c.as_str.ensures.value in
    first_clear _ _ _ (next (goal.at.loop-name-preserved c).After-require) c.in_ok-require.ensures
    ∙ ap (λ (seen : Seen). seen_repeated seen (names_in (drop (c.loop-name.name-index + 1) c.args.names.now))) (sym put)

pub returns-in_err-require : goal.returns-in_err-require
returns-in_err-require c =
    let h = among_first _ _ _ (Refused c.in_err-require.field-0.0) (next (goal.at.returns-in_err-require c).After-require) c.in_err-require.ensures in
    search rules
