use Rattle.std.proofs.Common.{List, ℕ, ◌+◌, ◌^◌, ◌<◌, length, get_or, map, drop, ◌++◌, ap, ◌∙◌, length-append, arith}
use Rattle.pb_game_of_trees.proofs.Appending.{sums_fit, appended}
use Rattle.pb_game_of_trees.proofs.draft.Draft.append.Goals as goal

pub append_sums-requires : goal.append_sums-requires
append_sums-requires c = λ k d l.
    let x = c.args.before in
    let y = c.args.self.now in
    let same = c.deref.ensures.value in
    let both = ap length c.in_ok-append.ensures.items in
    let few : length y.successors.items + length x.successors.items < 2 ^ 64 =
    omega (arith, both, length-append y.successors.items x.successors.items, c.append.new.self.ok.0, c.append.new.self.small) in
    let at = ap (λ (ns : List ℕ). get_or ns k d) same in
    omega (arith, at, c.len-behind.ensures, y.successors.ok.0, few, sums_fit c.requires.0 x c.requires.1 k d (omega (arith, l, ap length same)))

pub returns : goal.returns
returns c = λ vs ws are is.
    appended vs ws c.args.before c.args.self.now is are c.len-behind.result (omega (arith, c.len-behind.ensures, c.args.self.now.successors.ok.0)) _ c.in_ok-append-3.ensures.items
    c.in_ok-append-2.ensures.items (c.in_ok-append_sums.ensures ∙ ap (λ (ns : List ℕ). c.args.self.now.edges.items ++ map (λ m. c.len-behind.result + m) (drop 1 ns)) c.deref.ensures.value)
    c.in_ok-append.ensures.items
