use Rattle.std.proofs.Common.{◌∙◌, sym, ap}
use Rattle.pb_text_tree.specs.Form.{named}
use Rattle.pb_text_meaning.specs.Functions.{named_function}
use Rattle.pb_typing_declarations.specs.View.{spec_of}
use Rattle.pb_typing_nodes.proofs.function.find_function.Goals as goal

pub returns-in-Some : goal.returns-in-Some
returns-in-Some c =
    c.of.ensures (spec_of c.args.declarations.now) (named c.args.name.now).text (ap named_function (sym c.deref.ensures) ∙ (sym c.named.ensures ∙ c.in-Some.is))
