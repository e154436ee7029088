-- Sequences of exchanges are symmetries, and carry each instance to those that may be called for it.
use Rattle.std.proofs.Common.{◌≡◌, ◌∙◌, ◌<◌, ℕ, true, List, Option, map, nat_lt, ap, sym, subst}
use Rattle.std.specs.Prelude.{IfSome}
use Rattle.std.proofs.lemmas.Bool.{lt-ltb, ltb-true}
use Rattle.pb_fixpoint_trees.specs.Equations.{numbered}
use Rattle.pb_fixpoint_symmetry.specs.Trees.{MayBeCalledFor}
use Rattle.pb_sorts.specs.Layout.{count_of}
use Rattle.pb_protocol_meaning.specs.Erase.{protocol_of}
use Rattle.pb_protocol_scalar_sets.specs.declared.scalar_set.ScalarSet.{ScalarSet}
use Rattle.pb_protocol_representatives.specs.declared.exchanges.Exchanges.{Exchanges}
use Rattle.pb_protocol_representatives.specs.Exchanges.{family_of, neighbours_exchanged}
use Rattle.pb_bytecode.specs.Contents.{Contents}
use Rattle.pb_bytecode.specs.Meaning.{parameters, signature_of}
use Rattle.pb_exploration_orbits.specs.Laws.{is_declared}
use Rattle.pb_property_symmetry.proofs.truth.truth_by_exchanges.Goals as goal

-- what may be called for an instance is that to which a sequence carries it
carried : (m : Contents) (set : ScalarSet) (x : Exchanges) → x.set ≡ set → x.count ≡ count_of (parameters m) → (n k : ℕ)
    → MayBeCalledFor (λ i. nat_lt i x.count) (family_of x.set) n k → MayBeCalledFor (is_declared m) (family_of set) n k
carried m set x same count n k may =
    subst (λ (c : ℕ). MayBeCalledFor (λ i. nat_lt i c) (family_of set) n k) count
    (subst (λ (s : ScalarSet). MayBeCalledFor (λ i. nat_lt i x.count) (family_of s) n k) same may)

-- exchanges stay among the numbers
declared_still : (m : Contents) (exchange : ℕ → ℕ → ℕ) (count : ℕ) → count ≡ count_of (parameters m) → ((k n : ℕ) → n < count → exchange k n < count)
    → (k n : ℕ) → is_declared m n ≡ true → is_declared m (exchange k n) ≡ true
declared_still m exchange count same stays k n inside =
    let most = count_of (parameters m) in
    lt-ltb (exchange k n) most (subst (λ (c : ℕ). exchange k n < c) same (stays k n (subst (λ (c : ℕ). n < c) (sym same) (ltb-true n most inside))))

pub returns-in-Ok : goal.returns-in-Ok
returns-in-Ok g c trees ends closed symmetric =
    let set = c.args.set.now in
    let m = c.args.verified.now in
    let x = c.in-Some.exchanges in
    let exchange = neighbours_exchanged (protocol_of set.protocol.now) set.sort.now set.moved.now in
    let number = c.count.result in
    let count : number ≡ count_of (parameters m) = c.count.ensures.count ∙ ap count_of c.layout.ensures in
    let stays = subst (λ (o : Option Exchanges). IfSome o (λ _. (k n : ℕ) → n < number → exchange k n < number)) c.in-Some.is c.in_ok-exchanges.ensures.stays in
    let same = subst (λ (o : Option Exchanges). IfSome o (λ (y : Exchanges). y.set ≡ set)) c.in-Some.is c.in_ok-exchanges.ensures.set in
    let counted = subst (λ (o : Option Exchanges). IfSome o (λ (y : Exchanges). y.count ≡ number)) c.in-Some.is c.in_ok-exchanges.ensures.count in
    c.in-Ok.ensures.truth trees ends (λ (s : List ℕ) (n : ℕ). family_of set s n)
    (λ s. c.sequences_are_symmetries.ensures (is_declared m) (numbered 0 (map signature_of m.equations) trees) closed exchange
    (declared_still m exchange number count stays) symmetric s)
    (carried m set x same (counted ∙ count))
