-- What a reader gives that hands on what another gave, or an error that another met.
use Rattle.std.proofs.Common.{◌≡◌, ℕ, ◌<◌, ◌≤◌, ◌∙◌, sym, ap, subst, length, arith, OnOk, Result, Ok, Err}
use Rattle.std.specs.Prelude.{IsErrAnd}
use Rattle.pb_base.specs.OrMemory.{IfFault}
use Rattle.pb_base.specs.declared.or_memory.OrMemory.{OrMemory}
use Rattle.pb_base.specs.declared.or_memory.OrMemory.TheVariants.{Refused}
use Rattle.pb_base.proofs.Faults.{if_fault}
use Rattle.pb_text_lexer.specs.declared.fault.Refusal.{Refusal}
use Rattle.pb_text_lexer.specs.Grammar.{State}
use Rattle.pb_text_lexer.specs.Steps.{Step, Outcome, Gives}
use Rattle.pb_text_terms.specs.Readers.{ReadsSome, ReadsSomeExactly, MayRead, ReadsOn, HasRead}
use Rattle.pb_text_terms.proofs.ReadLemmas.{on-fewer}

-- what a `?` gives at an error
pub error-is : {A E : Type 0} (r : Result A E) (error : E) → IsErrAnd r (λ (y : E). y ≡ error) → r ≡ Err error
error-is (Ok x) error h = absurd h
error-is (Err y) error h = ap Err h

-- fewer tokens are left than were before
fewer-on : {X E : Type 0} (r : Result X E) (a b c : ℕ) → OnOk r (a < b) → b ≤ c → OnOk r (a < c)
fewer-on (Ok x) a b c lt le = omega arith
fewer-on (Err e) a b c lt le = tt

-- ---- errors

module _ {X Y : Type 0} {view : X → Y} {step : Step Y} {old new : State} (r : Result X (OrMemory Refusal)) where
  -- a token that isn't as expected
  pub refuses : {bad : Refusal} → IsErrAnd r (λ y. y ≡ Refused bad) → step old ≡ Err bad → ReadsSome view step old r new
  refuses {bad} is fails = rw (error-is r (Refused bad) is) (record { reads = fails; fewer = tt })

  -- a part that isn't read
  pub fails-on : {Z W : Type 0} {part : Step W} {form : Z → W} {s z : State} {error : OrMemory Refusal} → IsErrAnd r (λ y. y ≡ error) → ReadsSome form part s (Err error) z
      → ((bad : Refusal) → part s ≡ Err bad → step old ≡ Err bad) → ReadsSome view step old r new
  fails-on {error = error} is part fails = rw (error-is r error is) (record { reads = if_fault error fails part.reads; fewer = tt })

-- where the reader itself refuses a token
pub refused : {X Y : Type 0} {view : X → Y} {step : Step Y} {old new : State} {bad : Refusal} → step old ≡ Err bad → ReadsSome view step old (Err (Refused bad)) new
refused fails = record { reads = fails; fewer = tt }

-- the same where a part that begins it was read before
pub error-on : {X Y : Type 0} {view : X → Y} {step : Step Y} {begins : State → Type 0} {old new : State} (r : Result X (OrMemory Refusal)) (error : OrMemory Refusal)
    → IsErrAnd r (λ y. y ≡ error) → ((s : State) → begins s → IfFault error (λ bad. step s ≡ Err bad)) → ReadsOn view step begins old r new
error-on r error is fails = rw (error-is r error is) (record { reads = fails; fewer = tt })

-- ---- what another reader gives

-- what is read is what another step gives
pub as-read : {X Y : Type 0} {view : X → Y} {step part : Step Y} {old new : State} {x : X} → step old ≡ part old → ReadsSomeExactly view part old (Ok x) new → ReadsSome view step old (Ok x) new
as-read same read = record { reads = same ∙ read.reads; fewer = read.fewer }

given : {X Y : Type 0} (view : X → Y) (r : Result X (OrMemory Refusal)) (new : State) {o o' : Outcome Y} → o ≡ o' → Gives view o' r new → Gives view o r new
given {Y = Y} view r new same gives = subst (λ (o : Outcome Y). Gives view o r new) (sym same) gives

module _ {X Y : Type 0} {view : X → Y} {step part : Step Y} {old s new : State} {r : Result X (OrMemory Refusal)} where
  pub read-as : step old ≡ part s → length s.tokens ≤ length old.tokens → ReadsSome view part s r new → ReadsSome view step old r new
  read-as same room read = record { reads = given view r new same read.reads; fewer = fewer-on r (length new.tokens) (length s.tokens) (length old.tokens) read.fewer room }

  -- behind a token
  pub may-read-as : step old ≡ part s → length s.tokens < length old.tokens → MayRead view part s r new → ReadsSome view step old r new
  may-read-as same less read = record { reads = given view r new same read.reads; fewer = on-fewer r (length new.tokens) (length s.tokens) (length old.tokens) read.fewer less }

  -- behind a part that begins it
  pub reads-on-as : {begins : State → Type 0} → ReadsOn view part begins s r new → step old ≡ part old → begins old → length s.tokens < length old.tokens → ReadsSome view step old r new
  reads-on-as on same begins less =
      record { reads = given view r new same (on.reads old begins); fewer = on-fewer r (length new.tokens) (length s.tokens) (length old.tokens) on.fewer less }

-- what is known of the result
pub known : {X Y : Type 0} {view : X → Y} {step : Step Y} {old new : State} {r known : Result X (OrMemory Refusal)} → r ≡ known → ReadsSome view step old r new → ReadsSome view step old known new
known {view = view} {step} {old} {new} is read = subst (λ v. ReadsSome view step old v new) is read

-- ---- what is read on

module _ {X Y W : Type 0} {view : X → Y} {step : Step Y} {part : Step W} {w : W} {s old new : State} where
  pub reads-on : {r : Result X (OrMemory Refusal)} → ReadsOn view step (HasRead part w old) old r new → HasRead part w old s → ReadsSome view step s r new
  reads-on {r} on h = record { reads = on.reads s h; fewer = on-fewer r (length new.tokens) (length old.tokens) (length s.tokens) on.fewer h.fewer }

  -- the part that is read on from there
  pub goes-on : {x : X} → HasRead part w old s → ReadsOn view step (HasRead part w old) old (Ok x) new → HasRead step (view x) new s
  goes-on h on = record { reads = on.reads s h; fewer = let le : length new.tokens ≤ length old.tokens = on.fewer in let less : length old.tokens < length s.tokens = h.fewer in omega arith }

pub has-read : {X Y : Type 0} {view : X → Y} {step : Step Y} {old new : State} {x : X} → ReadsSome view step old (Ok x) new → HasRead step (view x) new old
has-read read = record { reads = read.reads; fewer = read.fewer }
