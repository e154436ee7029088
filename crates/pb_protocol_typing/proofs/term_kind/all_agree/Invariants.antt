use Rattle.std.proofs.Common.{◌≡◌, drop}
use Rattle.pb_text_tree.specs.Form.{argument_forms}
use Rattle.pb_protocol_typing.specs.Functions.{all_agree}
use Rattle.pb_protocol_typing.specs.Terms.{kinds}
use Rattle.pb_protocol_typing.specs.View.{scope_of}
use Rattle.pb_protocol_typing.proofs.term_kind.all_agree.Given as goal

-- all agree where those that are left do
abbrev pub invariant-loop-argument : goal.invariant-loop-argument
invariant-loop-argument l =
    all_agree l.parameter (kinds (scope_of l.scope) (argument_forms l.arguments))
    ≡ all_agree l.parameter (kinds (scope_of l.scope) (argument_forms (drop l.argument-index l.arguments)))
