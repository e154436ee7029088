use Rattle.std.proofs.Common.{◌∙◌, ℕ, List, sym, ap, subst}
use Rattle.pb_text_tree.specs.Form.{spec_form}
use Rattle.pb_text_printer.specs.Printing.{ReadsAs}
use Rattle.pb_text_printer.proofs.PrintLemmas.{written-reads}
use Rattle.pb_text_printer.proofs.printing.print.Goals as goal

-- the bytes are those of the text, which are read back
pub returns-clause-read_back : goal.returns-clause-read_back
returns-clause-read_back c = λ bytes reading.
    subst (λ (v : List ℕ). ReadsAs v (spec_form c.args.spec.now))
    (sym (ap (λ v. v.items) c.into_bytes.ensures.value ∙ c.in_ok-write_text.ensures))
    (written-reads bytes (spec_form c.args.spec.now) reading)
