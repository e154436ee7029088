use Rattle.std.proofs.Common.{◌≡◌, List, ◌++◌, length, subst}
use Rattle.std.specs.List.{flat_map}
use Rattle.pb_sorts.specs.declared.carrier.Carrier.{Carrier}
use Rattle.pb_bytecode_program.specs.declared.instruction.Op.{Op}
use Rattle.pb_bytecode.specs.Spelling
use Rattle.pb_bytecode.specs.Views.{text_of}
use Rattle.pb_bytecode.proofs.Appending.{append_both}
use Rattle.pb_bytecode.proofs.encode.put_equation.Goals as goal

pub returns : goal.returns
returns c =
    let e = c.args.equation.now in
    append_both c.args.out.now.items c.put_sign.new.out.items c.put_code.new.out.items (Spelling.sign_bytes e.sign) _ c.in_ok-put_sign.ensures
    (append_both c.put_sign.new.out.items c.put_name.new.out.items c.put_code.new.out.items (Spelling.name_bytes (text_of e.name)) _ c.in_ok-put_name.ensures
    (append_both c.put_name.new.out.items c.put_carriers.new.out.items c.put_code.new.out.items
    (Spelling.counted Spelling.carrier_bytes e.parameters.items) _
    (subst (λ (x : List Carrier). c.put_carriers.new.out.items
    ≡ c.put_name.new.out.items ++ Spelling.counted Spelling.carrier_bytes x) c.deref.ensures.value c.in_ok-put_carriers.ensures)
    (append_both c.put_carriers.new.out.items c.put_carriers-2.new.out.items c.put_code.new.out.items
    (Spelling.counted Spelling.carrier_bytes e.loops.items) _
    (subst (λ (x : List Carrier). c.put_carriers-2.new.out.items
    ≡ c.put_carriers.new.out.items ++ Spelling.counted Spelling.carrier_bytes x) c.deref-2.ensures.value c.in_ok-put_carriers-2.ensures)
    (append_both c.put_carriers-2.new.out.items c.put_u32.new.out.items c.put_code.new.out.items (Spelling.u32 e.steps) _ c.in_ok-put_u32.ensures
    (append_both c.put_u32.new.out.items c.put_u32-2.new.out.items c.put_code.new.out.items (Spelling.u32 e.tokens) _
    c.in_ok-put_u32-2.ensures
    (subst (λ (x : List Op). c.put_code.new.out.items
    ≡ c.put_u32-2.new.out.items ++ (Spelling.u16 (length x) ++ flat_map Spelling.op_bytes x))
    c.deref-3.ensures.value c.in_ok-put_code.ensures))))))
