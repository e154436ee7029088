use Rattle.std.proofs.Common.{◌≡◌, false, true, true≢false, refl, sym, subst, arith}
use Rattle.pb_verifier_structure.proofs.Walk.{IsFrom, from_here, home_within, found, outwards, nearer, not_found}
use Rattle.pb_verifier_structure.proofs.bodies.Bodies.is_around.Goals as goal

pub loop-around-init : goal.loop-around-init
loop-around-init c = from_here c.args.code.now c.args.self.now.innermost.items c.args.place c.args.slot c.index-around.result.now c.requires.table c.requires.within c.index-around.ensures

pub bounds-code-home : goal.bounds-code-home
bounds-code-home c =
    home_within c.args.code.now c.args.self.now.innermost.items c.args.place c.args.slot c.in-Some.home c.requires.table
    (subst (IsFrom c.args.code.now c.args.place c.args.slot) c.in-Some.is c.loop-around.invariant)

pub returns-then-is_loop_of : goal.returns-then-is_loop_of
returns-then-is_loop_of c = (
  λ _. found c.args.code.now c.args.self.now.innermost.items c.args.place c.args.slot c.in-Some.home c.requires.table
      (subst (IsFrom c.args.code.now c.args.place c.args.slot) c.in-Some.is c.loop-around.invariant)
      (c.if-is_loop_of.ensures.0 refl),
  λ _. refl,
)

pub index-around-requires-in-Some : goal.index-around-requires-in-Some
index-around-requires-in-Some c =
    let w = home_within c.args.code.now c.args.self.now.innermost.items c.args.place c.args.slot c.in-Some.home
    c.requires.table (subst (IsFrom c.args.code.now c.args.place c.args.slot) c.in-Some.is c.loop-around.invariant) in
    let l = c.requires.table.long in
    omega (arith, c.args.self.now.innermost.ok.0)

pub loop-around-smaller : goal.loop-around-smaller
loop-around-smaller c =
    let less =
    nearer c.args.code.now c.args.self.now.innermost.items c.args.place c.args.slot c.in-Some.home c.requires.table
    (subst (IsFrom c.args.code.now c.args.place c.args.slot) c.in-Some.is c.loop-around.invariant)
    c.index-around-in-Some.result.now c.index-around-in-Some.ensures in
    rw (c.in-Some.is) less

pub loop-around-preserved : goal.loop-around-preserved
loop-around-preserved c =
    outwards c.args.code.now c.args.self.now.innermost.items c.args.place c.args.slot c.in-Some.home c.requires.table
    (subst (IsFrom c.args.code.now c.args.place c.args.slot) c.in-Some.is c.loop-around.invariant)
    (λ e. true≢false (sym (c.if-is_loop_of.ensures.1 e))) c.index-around-in-Some.result.now c.index-around-in-Some.ensures

pub returns : goal.returns
returns c = (
  λ (e : false ≡ true). absurd (true≢false (sym e)),
  λ h. absurd
      (not_found c.args.code.now c.args.place c.args.slot
      (subst (IsFrom c.args.code.now c.args.place c.args.slot) c.in_default.is c.loop-around.invariant) h),
)
