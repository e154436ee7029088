use Rattle.std.proofs.Common.{◌≡◌, length, min, arith}
use Rattle.pb_protocol_packer.specs.Groups.{group_of}
use Rattle.pb_model_words.specs.GroupLines.{variable_count}
use Rattle.pb_model_words.proofs.Summands.{said-behind}
use Rattle.pb_model_words.proofs.group_lines.behind.Goals as goal

pub returns : goal.returns
returns c =
    let n = variable_count (group_of c.args.group.now) in
    let cut : c.min.result ≡ min n (length c.args.variables.now) = omega arith in
    said-behind c.args.variables.now n c.min.result cut
