use Rattle.std.proofs.Common.{◌≡◌, ◌∙◌, get_or, arith}
use Rattle.std.proofs.lemmas.List.{get_or_past}
use Rattle.pb_bytecode.proofs.Carriers.{enum_read, enum_none, count_is}
use Rattle.pb_bytecode.proofs.reading.carriers.enum_at.Goals as goal
use Rattle.pb_bytecode.proofs.reading.carriers.enum_at.Goals.{else-sort-sizes-via-then-sort-sizes+else-sizes-sort-gt0, else-sort-sizes-via-else-sort-sizes}

pub returns-then-sizes-sort-gt0 : goal.returns-then-sizes-sort-gt0
returns-then-sizes-sort-gt0 c = enum_read _ c.args.sizes.now c.args.bytes.now c.in_ok-sort.rest.now c.in_ok-sort.ensures (count_is c.args.sizes.now c.in_ok-sort.sort)

pub returns-else-sort-sizes : goal.returns-else-sort-sizes
returns-else-sort-sizes c =
    let none : get_or c.args.sizes.now c.in_ok-sort.sort 0 ≡ 0 =
    elim c.else-sort-sizes.branch [
      | else-sort-sizes-via-then-sort-sizes+else-sizes-sort-gt0 w ↦ omega (arith, w.if-sizes-sort-gt0.false)
      | else-sort-sizes-via-else-sort-sizes w ↦ get_or_past c.args.sizes.now c.in_ok-sort.sort 0 (omega (arith, w.if-sort-sizes.false))
    ] in
    rw (c.fault.ensures) (enum_none c.args.sizes.now c.args.bytes.now c.in_ok-sort.sort c.in_ok-sort.rest.now c.in_ok-sort.ensures (count_is c.args.sizes.now c.in_ok-sort.sort ∙ none))
