use Rattle.std.proofs.Common.{◌≡◌, ◌∙◌, List, Option, sym, ap}
use Rattle.pb_text_tree.specs.declared.place.Place.{Place}
use Rattle.pb_typing_declarations.specs.declared.fault.TypingFault.{TypingFault}
use Rattle.pb_model_properties.specs.declared.solved.ToldNames.{ToldNames}
use Rattle.pb_model_properties.specs.Refusals.{told_fault, told_place, told_places}
use Rattle.pb_model_properties.proofs.Made.{untold}
use Rattle.pb_model_properties.proofs.told.told_fault.Goals as goal

pub returns-in-None : goal.returns-in-None
returns-in-None c = untold c.args.fault ∙ ap (λ (names : Option ToldNames). told_fault (told_places names) c.args.fault) (sym c.in-None.is)

pub returns-in-Some : goal.returns-in-Some
returns-in-Some c =
    let at : c.told_place.result ≡ told_place (told_places c.args.names.now) c.args.fault.place =
    c.told_place.ensures
    ∙ (ap (λ (steps : List Place). told_place steps c.args.fault.place) c.deref.ensures.value
    ∙ ap (λ (names : Option ToldNames). told_place (told_places names) c.args.fault.place) (sym c.in-Some.is)) in
    ap (λ (p : Place). let x : TypingFault = record { rule = c.args.fault.rule; place = p } in x) at
