use Rattle.std.proofs.Common.{ℕ, leb, subst, sym, List, rules, ◌≡◌, true, false}
use Rattle.std.specs.List.Sorted.{IsPartitionPoint}
use Rattle.std.proofs.lemmas.List.Sorted.{IsPartitionPoint-from_clause}
use Rattle.pb_sorts.specs.Layout.{IsNumbered}
use Rattle.pb_sorts.proofs.Layouts.{numbered_view, firsts_rise, IsOwner, owner_found}
use Rattle.pb_sorts.proofs.layout.Layout.equation_of.Goals as goal

owner : (c : goal.After-partition_point) → IsOwner c.args.self.now c.args.number c.partition_point.result
owner c =
    let firsts = c.deref.result.now in
    let n = c.args.number in
    let numbered = numbered_view c.self.inside.carriers.items c.self.inside.firsts.items c.args.self.now c.self.view_is c.self.invariant in
    let read : IsNumbered c.args.self.now firsts = subst (λ (xs : List ℕ). IsNumbered c.args.self.now xs) (sym c.deref.ensures.value) numbered in
    let point : IsPartitionPoint (λ (y : ℕ). leb y n ≡ true) (λ (y : ℕ). leb y n ≡ false) firsts c.partition_point.result =
    IsPartitionPoint-from_clause (λ (y : ℕ). leb y n) firsts c.partition_point.result c.partition_point.ensures.partitioned (firsts_rise c.args.self.now firsts n read) (λ a r q k. search rules) in
    owner_found c.args.self.now firsts n c.partition_point.result read c.requires c.partition_point.ensures.bound point

pub overflow_sub-result : goal.overflow_sub-result
overflow_sub-result c = (owner c).some

pub returns-clause-known : goal.returns-clause-known
returns-clause-known c = (owner c).known

pub returns-clause-owner : goal.returns-clause-owner
returns-clause-owner c = (owner c).owner
