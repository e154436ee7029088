use Rattle.std.proofs.Common.{◌≡◌, ◌-◌, ◌∙◌, sym, ap, arith, rules}
use Rattle.std.specs.Prelude.{Some}
use Rattle.std.specs.Option.{option_copied}
use Rattle.pb_typing_declarations.specs.Entries.{range_in, definition_in}
use Rattle.pb_typing_declarations.proofs.ChainLemmas.{no_step, one_more, ended, all_used, lengthened}
use Rattle.pb_typing_declarations.specs.Tables.{entry_of}
use Rattle.pb_typing_declarations.proofs.ends.find_chain.Goals as goal

pub loop-kept-init : goal.loop-kept-init
loop-kept-init c =
    record {
      utf8 = c.utf8.sort;
      below = omega arith;
      behind = no_step (range_in c.args.ranges.now) (definition_in c.args.definitions.now) c.args.limit c.args.sort.now;
    }

pub returns-in-Some : goal.returns-in-Some
returns-in-Some c =
    let found : entry_of c.args.chains.now c.loop-kept.sort.now ≡ Some c.in-Some.kept.now = sym c.get.ensures.value ∙ ap option_copied c.in-Some.is in
    lengthened (range_in c.args.ranges.now) (definition_in c.args.definitions.now) c.args.limit c.loop-kept.left c.args.sort.now c.loop-kept.sort.now c.in-Some.kept.now
    c.loop-kept.invariant.below c.loop-kept.invariant.behind (c.requires c.loop-kept.sort.now c.in-Some.kept.now found) c.lengthen.result c.lengthen.ensures

pub returns-in-Ends : goal.returns-in-Ends
returns-in-Ends c = (
  ended (range_in c.args.ranges.now) (definition_in c.args.definitions.now) (c.args.limit - c.loop-kept.left) c.args.sort.now c.loop-kept.sort.now c.in-Ends.end
      c.loop-kept.invariant.behind c.in-Ends.ensures,
  omega arith,
)

pub returns-then-left-eq0 : goal.returns-then-left-eq0
returns-then-left-eq0 c =
    all_used (range_in c.args.ranges.now) (definition_in c.args.definitions.now) c.args.limit c.loop-kept.left c.args.sort.now c.loop-kept.sort.now c.in-GoesOn.target.now
    (omega arith) c.loop-kept.invariant.behind c.in-GoesOn.ensures

pub loop-kept-preserved : goal.loop-kept-preserved
loop-kept-preserved c = record {
  utf8 = search rules;
  below = omega arith;
  behind = one_more (range_in c.args.ranges.now) (definition_in c.args.definitions.now) c.args.limit c.loop-kept.left c.args.sort.now c.loop-kept.sort.now c.in-GoesOn.target.now
      c.loop-kept.invariant.below (omega arith) c.loop-kept.invariant.behind c.in-GoesOn.ensures;
}
