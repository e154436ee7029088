use Rattle.std.proofs.Common.{◌≡◌, List, Option, sym, ap, ◌∙◌, subst, true}
use Rattle.std.specs.List.{find}
use Rattle.std.proofs.Math.Logic.{∥∥₁_map}
use Rattle.pb_text_tree.specs.Form.{SpecForm}
use Rattle.pb_sorts.specs.Instance.{instance_of, is_instance}
use Rattle.pb_text_tree.specs.declared.place.Place.{Place}
use Rattle.pb_typing_calls.specs.Calls.{call_place}
use Rattle.pb_typing_calls.specs.MadeCallView.{call_views}
use Rattle.pb_typing_calls.specs.declared.made_call.MadeCall as declared_call
use Rattle.pb_evidence_words.specs.Callers.{told_by}
use Rattle.pb_evidence_words.specs.WhyText.{chosen_call, is_call_of}
use Rattle.pb_evidence_words.proofs.Told.{any-said, chosen-said, if-ok}
use Rattle.pb_evidence_words.proofs.caller.Caller.told_place.Goals as goal

pub place-requires : goal.place-requires
place-requires c =
    let self = c.args.self.now in
    subst (λ css. is_instance css (instance_of self.instance) ≡ true) (sym self.line.telling.now.ready.layout) self.known

pub returns-then-not-have_places : goal.returns-then-not-have_places
returns-then-not-have_places c =
    let self = c.args.self.now in
    let j = instance_of c.args.called.now in
    any-said (told_by self.line) self.line.number (instance_of self.instance) self.calls.items self.made j
    (subst (λ (cs : List declared_call.MadeCall). (o : Option Place) → chosen_call o (call_views cs) j ≡ find (is_call_of j) (call_views cs))
    c.deref.ensures.value (c.have_places.ensures c.if-not-have_places.true))

pub returns : goal.returns
returns c =
    let self = c.args.self.now in
    let i = instance_of self.instance in
    let j = instance_of c.args.called.now in
    if-ok c.place.result _ _ (λ place is. chosen-said (told_by self.line) self.line.number i self.calls.items self.made place j
    (∥∥₁_map self.line.telling.now.ready.text (λ text. is ∙ ap (λ (u : SpecForm). call_place u i j) text))) c.place.ensures
