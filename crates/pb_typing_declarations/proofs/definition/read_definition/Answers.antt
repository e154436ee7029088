use Rattle.std.proofs.Common.{rules, arith}
use Rattle.pb_base.specs.declared.or_memory.OrMemory.TheVariants.{Refused}
use Rattle.pb_typing_declarations.proofs.Structs.{struct_read, in_count, in_limit, in_enumerators, IsStruct}
use Rattle.pb_typing_declarations.proofs.definition.read_definition.Goals as goal
use Rattle.pb_typing_declarations.proofs.definition.read_definition.Goals.{After-require}

read_struct : (c : After-require) → IsStruct c.args.number c.args.declaration.now.name.place c.args.declaration.now.sort c.len-count.result c.in-Struct.enumerators.items
read_struct c =
    let E = c.in-Struct.enumerators in
    struct_read c.args.number c.args.declaration.now.name.place c.args.declaration.now.sort E c.len-count.result c.requires c.in-Struct.is (omega (arith, c.len-count.ensures, E.ok.0))

pub returns-in_err-require-in-Struct-2 : goal.returns-in_err-require-in-Struct-2
returns-in_err-require-in-Struct-2 c =
    let read = read_struct (goal.at.returns-in_err-require-in-Struct-2 c).After-require in
    let h = in_count read (Refused c.in_err-require-in-Struct-2.field-0.0) c.in_err-require-in-Struct-2.ensures in
    search rules

pub returns-in_err-check_count-in-Struct : goal.returns-in_err-check_count-in-Struct
returns-in_err-check_count-in-Struct c =
    let read = read_struct (goal.at.returns-in_err-check_count-in-Struct c).After-require in
    let h = in_limit read (Refused c.in_err-check_count-in-Struct.field-0.0) c.deref.ensures.value c.in_err-check_count-in-Struct.ensures in
    search rules

pub returns-in_err-push_enumerators-in-Struct : goal.returns-in_err-push_enumerators-in-Struct
returns-in_err-push_enumerators-in-Struct c =
    let read = read_struct (goal.at.returns-in_err-push_enumerators-in-Struct c).After-require in
    let h = in_enumerators read c.in_err-push_enumerators-in-Struct.field-0.0 c.deref-in-Struct.ensures.value c.in_err-push_enumerators-in-Struct.ensures in
    search rules
