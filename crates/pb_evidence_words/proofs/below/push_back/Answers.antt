use Rattle.std.proofs.Common.{◌+◌, ◌++◌, codes, decimal, string_bytes}
use Rattle.pb_evidence_words.proofs.Pushed.{and_then, pushed}
use Rattle.pb_evidence_words.proofs.below.push_back.Goals as goal

pub returns : goal.returns
returns c =
    let s0 = string_bytes c.args.text.now in
    let s1 = string_bytes c.push_str.new.self in
    let s2 = string_bytes c.push_line_number.new.text in
    let s3 = string_bytes c.push_str-2.new.self in
    and_then c.push_str-2.result s0 s1 s3 (codes ", back to line ") (decimal (c.args.line + 1) ++ codes ", for ever\n") c.in_ok-push_str.ensures.bytes
    (and_then c.push_str-2.result s1 s2 s3 (decimal (c.args.line + 1)) (codes ", for ever\n") c.in_ok-push_line_number.ensures
    (pushed c.push_str-2.result s3 s2 (codes ", for ever\n") c.push_str-2.ensures.bytes))
