-- What a reader gives, where its result is known.
use Rattle.std.proofs.Common.{◌≡◌, Result, Ok, Err, OnOk, subst}
use Rattle.pb_base.specs.OrMemory.{IfFault}
use Rattle.pb_base.specs.declared.or_memory.OrMemory.{OrMemory}
use Rattle.pb_text_lexer.specs.declared.fault.Refusal.{Refusal}
use Rattle.pb_text_lexer.specs.Grammar.{State}
use Rattle.pb_text_lexer.specs.Steps.{Outcome, Gives, GivesExactly}

module _ {X Y : Type 0} (view : X → Y) (read : Outcome Y) (r : Result X (OrMemory Refusal)) (new : State) where
  pub fails-where : (fault : OrMemory Refusal) → r ≡ Err fault → Gives view read r new → IfFault fault (λ refused. read ≡ Err refused)
  fails-where fault is gives = subst (λ (v : Result X (OrMemory Refusal)). Gives view read v new) is gives

  pub reads-where : (x : X) → r ≡ Ok x → Gives view read r new → read ≡ Ok (view x, new)
  reads-where x is gives = subst (λ (v : Result X (OrMemory Refusal)). Gives view read v new) is gives

pub on-ok-where : {X E : Type 0} (r : Result X E) (x : X) (P : Type 0) → r ≡ Ok x → OnOk r P → P
on-ok-where {X} {E} r x P is h = subst (λ (v : Result X E). OnOk v P) is h

pub known-exactly : {X Y : Type 0} (view : X → Y) (read : Outcome Y) (new : State) {r known : Result X Refusal} → r ≡ known → GivesExactly view read r new → GivesExactly view read known new
known-exactly {X} view read new is gives = subst (λ (v : Result X Refusal). GivesExactly view read v new) is gives
