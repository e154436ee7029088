use Rattle.std.proofs.Common.{◌≡◌, ◌∙◌, sym, ap, string_bytes}
use Rattle.std.specs.Prelude.{Some}
use Rattle.pb_text_tree.specs.Form.{spec_form}
use Rattle.pb_text_meaning.specs.Erase.{erase}
use Rattle.pb_typing_declarations.specs.Shapes.{End, Shaped, end_of, end_shape, is_sort}
use Rattle.pb_typing_declarations.specs.Entries.{carrier_shape, end_shown}
use Rattle.pb_typing_declarations.specs.Declarations.{end_faults}
use Rattle.pb_typing_declarations.proofs.ShapeLaws.{carrier_is}
use Rattle.pb_typing_declarations.proofs.tables.Tables.variable_carrier.Goals as goal

pub returns-in-Carrier : goal.returns-in-Carrier
returns-in-Carrier c =
    let S = erase (spec_form c.args.self.now.spec.now) in
    let sort = c.args.sort.now in
    let is : Shaped (carrier_shape (Some c.in-Carrier.carrier)) ≡ end_of S (string_bytes sort.text) =
    ap end_shown (sym c.in-Carrier.is) ∙ (c.end.ensures ∙ ap (end_of S) c.deref.ensures) in
    record {
      clear = ap (λ (e : End). end_faults (is_sort S (string_bytes sort.text)) e sort.place) (sym is);
      values = carrier_is S (string_bytes sort.text) c.in-Carrier.carrier is;
      shape = ap end_shape is;
    }
