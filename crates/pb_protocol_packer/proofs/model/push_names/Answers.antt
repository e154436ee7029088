use Rattle.std.proofs.Common.{◌++◌, ◌∙◌, ap, sym, List}
use Rattle.pb_text_meaning.specs.Syntax.{Name}
use Rattle.pb_protocol_packer.specs.View.{texts_of}
use Rattle.pb_protocol_packer.specs.Initial.{names_by}
use Rattle.pb_protocol_packer.proofs.InitialRows.{group-names}
use Rattle.pb_protocol_packer.proofs.model.push_names.Goals as goal

pub loop-name-init : goal.loop-name-init
loop-name-init c =
    ap (λ (xs : List Name). names_by c.args.names.now.items ++ xs)
    (group-names c.args.group.now.names.items c.args.group.now.sort ∙ ap texts_of (sym c.deref-name-items.ensures.value))
