-- What an instruction does in any program, in those with the same sorts and callees.
use Rattle.std.proofs.Common.{◌≡◌, ℕ, ◌<◌, List, Option, Some, None, sym, ◌∙◌}
use Rattle.std.specs.Prelude.{Result, Ok, Err, IfOk, OnOk, slice_get, ℤ}
use Rattle.std.proofs.lemmas.Bool.{cond-true, lt-ltb}
use Rattle.pb_bytecode_program.specs.Machine.{Program}
use Rattle.pb_bytecode_program.specs.Transfer.{AbstractState, Flow, transfer, to_next_place, abstract_push}
use Rattle.pb_bytecode_program.specs.declared.domain.AbstractValue.TheVariants as abstract
use Rattle.pb_sorts.specs.declared.carrier.Carrier.{Carrier}
use Rattle.pb_bytecode_program.specs.declared.instruction.Op.{Op}
use Rattle.pb_bytecode_program.specs.declared.instruction.Op.TheVariants as op
use Rattle.pb_verifier_flow.specs.Edges.{edges_of}
use Rattle.pb_verifier_flow.specs.Flows.{GoesOn, Fails, FlowsTo}
use Rattle.pb_verifier_states.specs.NamedRule.{IsNamed, named_rule}
use Rattle.pb_base.specs.OrMemory.{OnRefused, IfRefused}
use Rattle.pb_verifier_states.specs.declared.rule.AcceptanceRule.{AcceptanceRule}
use Rattle.pb_verifier_flow.specs.declared.edges.Edges.{Edges}
use Rattle.pb_base.specs.declared.or_memory.OrMemory.{OrMemory}
use Rattle.pb_base.specs.declared.or_memory.OrMemory.TheVariants.{Refused, Memory}

-- in programs with these sorts and callees the instruction does this
abbrev pub Does : List ℕ → List (List Carrier) → Op → AbstractState → (ℕ → Flow) → Type 0
Does ss cs j k F = (p : Program) (home : Option AbstractState) (q : ℕ) → p.sorts ≡ ss → p.callees ≡ cs → transfer p home q j k ≡ F q

module _ (ss : List ℕ) (cs : List (List Carrier)) (k : AbstractState) where
  pub goes : (i j : Op) (m : AbstractState) (r : Result (Unit {0}) (OrMemory AcceptanceRule)) → j ≡ i → OnOk r (GoesOn i k m) → OnOk r (Does ss cs j k (λ q. to_next_place q m))
  goes i j m (Ok x) e h = λ p home q a b. rw e (h p home q)
  goes i j m (Err x) e h = h

  pub goes_int : (z : ℤ) (j : Op) (m : AbstractState) (r : Result (Unit {0}) (OrMemory AcceptanceRule)) → j ≡ op.PushInt z
      → OnOk r ((q : ℕ) → abstract_push q k k.operands (abstract.Int z z) ≡ to_next_place q m) → OnOk r (Does ss cs j k (λ q. to_next_place q m))
  goes_int z j m (Ok x) e h = λ p home q a b. rw e (h q)
  goes_int z j m (Err x) e h = h

  pub fails_int : (z : ℤ) (j : Op) (r : Result (Unit {0}) (OrMemory AcceptanceRule)) → j ≡ op.PushInt z
      → OnRefused r ((q : ℕ) → abstract_push q k k.operands (abstract.Int z z) ≡ None) → OnRefused r (Does ss cs j k (λ q. None))
  fails_int z j (Ok x) e h = tt
  fails_int z j (Err (Refused x)) e h = λ p home q a b. rw e (h q)
  fails_int z j (Err Memory) e h = tt

  pub fails : {A : Type 0} → (i j : Op) (r : Result A (OrMemory AcceptanceRule)) → j ≡ i → OnRefused r (Fails i k) → OnRefused r (Does ss cs j k (λ q. None))
  fails i j (Ok m) e h = tt
  fails i j (Err (Refused x)) e h = λ p home q a b. rw e (h p home q)
  fails i j (Err Memory) e h = tt

  pub flows_to : (i j : Op) (r : Result Edges (OrMemory AcceptanceRule)) → j ≡ i → IfOk r (λ e. FlowsTo i k e.next e.jump) → IfOk r (λ e. Does ss cs j k (λ q. Some (edges_of q e.next e.jump)))
  flows_to i j (Ok m) e h = λ p home q a b. rw e (h p home q)
  flows_to i j (Err x) e h = h

  pub goes_enum : (s x : ℕ) (j : Op) (m : AbstractState) (r : Result (Unit {0}) (OrMemory AcceptanceRule)) → j ≡ op.PushEnum s x
      → OnOk r ((p : Program) (home : Option AbstractState) (q : ℕ) → p.sorts ≡ ss
      → transfer p home q (op.PushEnum s x) k ≡ to_next_place q m) → OnOk r (Does ss cs j k (λ q. to_next_place q m))
  goes_enum s x j m (Ok y) e h = λ p home q a b. rw e (h p home q a)
  goes_enum s x j m (Err y) e h = h

  pub fails_enum : (s x : ℕ) (j : Op) (r : Result (Unit {0}) (OrMemory AcceptanceRule)) → j ≡ op.PushEnum s x
      → OnRefused r
      ((p : Program) (home : Option AbstractState) (q : ℕ) → p.sorts ≡ ss
      → transfer p home q (op.PushEnum s x) k ≡ None) → OnRefused r (Does ss cs j k (λ q. None))
  fails_enum s x j (Ok m) e h = tt
  fails_enum s x j (Err (Refused y)) e h = λ p home q a b. rw e (h p home q a)
  fails_enum s x j (Err Memory) e h = tt

  -- the same, where a function takes no memory
  pub goes_on : (i j : Op) (m : AbstractState) → j ≡ i → GoesOn i k m → Does ss cs j k (λ q. to_next_place q m)
  goes_on i j m e h = λ p home q a b. rw e (h p home q)

  pub fails_on : (i j : Op) → j ≡ i → Fails i k → Does ss cs j k (λ q. None)
  fails_on i j e h = λ p home q a b. rw e (h p home q)

  -- an enumerator that the sort has
  enum_pushed : (s x n : ℕ) (F : ℕ → Flow) → Some n ≡ slice_get ss s → x < n
      → ((q : ℕ) → abstract_push q k k.operands (abstract.Enum s n) ≡ F q)
      → (p : Program) (home : Option AbstractState) (q : ℕ) → p.sorts ≡ ss → transfer p home q (op.PushEnum s x) k ≡ F q
  enum_pushed s x n F e l h = λ p home q a. rw (a, sym e) (cond-true _ _ _ (lt-ltb x n l) ∙ h q)

  pub enum_goes : (s x n : ℕ) (m : AbstractState) (r : Result (Unit {0}) (OrMemory AcceptanceRule)) → Some n ≡ slice_get ss s → x < n
      → OnOk r ((q : ℕ) → abstract_push q k k.operands (abstract.Enum s n) ≡ to_next_place q m)
      → OnOk r ((p : Program) (home : Option AbstractState) (q : ℕ) → p.sorts ≡ ss
      → transfer p home q (op.PushEnum s x) k ≡ to_next_place q m)
  enum_goes s x n m (Ok y) e l h = enum_pushed s x n (λ q. to_next_place q m) e l h
  enum_goes s x n m (Err y) e l h = h

  pub enum_fails : (s x n : ℕ) (r : Result (Unit {0}) (OrMemory AcceptanceRule)) → Some n ≡ slice_get ss s → x < n
      → OnRefused r ((q : ℕ) → abstract_push q k k.operands (abstract.Enum s n) ≡ None)
      → OnRefused r ((p : Program) (home : Option AbstractState) (q : ℕ) → p.sorts ≡ ss → transfer p home q (op.PushEnum s x) k ≡ None)
  enum_fails s x n (Ok m) e l h = tt
  enum_fails s x n (Err (Refused y)) e l h = enum_pushed s x n (λ q. None) e l h
  enum_fails s x n (Err Memory) e l h = tt

  -- the rule that is named
  pub named : {A : Type 0} → (i j : Op) (r : Result A (OrMemory AcceptanceRule)) → j ≡ i → IfRefused r (IsNamed i k) → IfRefused r (λ x. x ≡ named_rule ss cs j k)
  named i j (Ok m) e h = tt
  named i j (Err (Refused x)) e h = rw e (h ss cs)
  named i j (Err Memory) e h = tt

  pub named_enum : {A : Type 0} → (s x : ℕ) (j : Op) (r : Result A (OrMemory AcceptanceRule)) → j ≡ op.PushEnum s x
      → IfRefused r (λ y. (callees : List (List Carrier)) → y ≡ named_rule ss callees (op.PushEnum s x) k)
      → IfRefused r (λ y. y ≡ named_rule ss cs j k)
  named_enum s x j (Ok m) e h = tt
  named_enum s x j (Err (Refused y)) e h = rw e (h cs)
  named_enum s x j (Err Memory) e h = tt

  pub named_on : (i j : Op) (x : AcceptanceRule) → j ≡ i → IsNamed i k x → x ≡ named_rule ss cs j k
  named_on i j x e h = rw e (h ss cs)
