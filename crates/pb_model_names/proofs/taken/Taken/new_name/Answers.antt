use Rattle.std.proofs.Common.{◌≡◌, ◌∙◌, ap, sym, true, false, List, ℕ, subst, arith}
use Rattle.std.specs.Prelude.{decimal}
use Rattle.std.specs.HashSet.{contains_text}
use Rattle.pb_base.specs.Names.{is_spelled}
use Rattle.pb_text_meaning.specs.Syntax.{Name}
use Rattle.pb_model_translation.specs.Names.{numbered, with_room}
use Rattle.pb_model_translation.proofs.NumberedNames.{decimal-is-name, primed-spelled, room-spelled}
use Rattle.pb_model_names.specs.Taken.{IsStart}
use Rattle.pb_model_names.proofs.Sets.{name-numbered}
use Rattle.pb_model_names.proofs.Starts.{starts-moved}
use Rattle.pb_model_names.proofs.taken.Taken.new_name.Goals as goal

pub invariant_of-self-2 : goal.invariant_of-self-2
invariant_of-self-2 c =
    let old = c.args.self.now in
    record {
      searched = starts-moved c.insert.result old.names old.starts c.insert.new.self c.in_ok-to_owned.field-0 c.with_room-name.result.now c.in_ok-text-2.field-0.number
          c.insert.ensures.updates c.insert.ensures.err c.in_ok-to_owned.ensures.ok c.in_ok-text-2.ensures.0 old.searched;
    }

pub invariant_of-result-2 : goal.invariant_of-result-2
invariant_of-result-2 c =
    let k = c.in_ok-text-2.field-0.number in
    let x = c.args.wanted.now in
    record {
      spelled = subst (λ (bs : List ℕ). is_spelled bs ≡ true) (sym (c.in_ok-text-2.ensures.2 ∙ ap (λ (y : Name). numbered y k) c.with_room-name.ensures))
          (primed-spelled (with_room x) (decimal k) (room-spelled x c.requires) (decimal-is-name k));
    }

pub returns-clause-name : goal.returns-clause-name
returns-clause-name c = λ names is_set.
    let set = c.args.self.now.names in
    let k = c.in_ok-text-2.field-0.number in
    let x = c.args.wanted.now in
    let room = c.with_room-name.ensures in
    c.in_ok-text-2.ensures.2 ∙ ap (λ (y : Name). numbered y k) room
    ∙ name-numbered set names is_set x k (sym c.contains.ensures ∙ c.if-not-contains.false) (omega arith)
    (subst (λ (y : Name). IsStart set y k) room c.in_ok-text-2.ensures.0)
    (subst (λ (y : Name). contains_text set (numbered y k) ≡ false) room c.in_ok-text-2.ensures.1)
