use Rattle.std.proofs.Common.{rules, ◌≡◌, ◌≢◌, false, length}
use Rattle.pb_text_tree.specs.Form.{named, argument_forms}
use Rattle.pb_model_text.specs.Grammar.{is_bound}
use Rattle.pb_model_text.specs.Reading.{names_of}
use Rattle.pb_model_text.proofs.AtomLemmas.{unbound-data, applied-data}
use Rattle.pb_model_text.proofs.atom.named_atom.Goals.{else-is_empty-via-then-is_empty+else-is_bound, else-is_empty-via-else-is_empty}
use Rattle.pb_model_text.proofs.atom.named_atom.Goals as goal

pub returns : goal.returns
returns c = rw c.applied-term.ensures (elim c.else-is_empty.branch [
  | else-is_empty-via-then-is_empty+else-is_bound w ↦
      let other : is_bound (names_of c.args.names.now) (named c.args.instance.name).text ≡ false = search rules in
      unbound-data (names_of c.args.names.now) c.args.place (named c.args.instance.name) (argument_forms c.args.instance.arguments.items) other
  | else-is_empty-via-else-is_empty w ↦
      let some : length c.args.instance.arguments.items ≢ 0 = search rules in
      applied-data (names_of c.args.names.now) c.args.place (named c.args.instance.name) c.args.instance.arguments.items some
])
