use Rattle.std.proofs.Common.{◌∙◌, ◌∷◌, [], ap, subst}
use Rattle.std.proofs.lemmas.List.{map-append}
use Rattle.pb_text_meaning.specs.Syntax.{Name}
use Rattle.pb_model_names.specs.declared.naming.Naming.{Naming}
use Rattle.pb_model_names.specs.Taken.{Adds}
use Rattle.pb_model_names.specs.View.{bytes_of, names_in}
use Rattle.pb_model_names.proofs.NamingLemmas.{name-given}
use Rattle.pb_model_names.proofs.naming.Naming.push.Goals as goal

pub returns : goal.returns
returns c =
    let old = c.args.self.now in
    let new : Naming = record { names = c.push-3.new.self; for_operands = c.push.new.self; for_fixpoints = c.push-2.new.self } in
    name-given old new (bytes_of c.args.name) (ap names_in c.in_ok-push-3.ensures.items ∙ map-append bytes_of old.names.items (c.args.name ∷ []))
    (subst (λ (x : Name). Adds old.for_operands.names new.for_operands.names (x ∷ [])) c.deref.ensures c.in_ok-push.ensures)
    (subst (λ (x : Name). Adds old.for_fixpoints.names new.for_fixpoints.names (x ∷ [])) c.deref-2.ensures c.in_ok-push-2.ensures)
