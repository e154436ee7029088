-- Texts that are sent piece by piece: of the whole one a part was sent, and the rest is to come.
use Rattle.std.proofs.Common.{◌≡◌, ℕ, List, [], ◌++◌, Result, Ok, Err, refl, sym, ap, ◌∙◌, append_assoc, append-nil}
use Rattle.std.specs.Prelude.{IsErr}
use Rattle.pb_sorts.specs.declared.sink.E02.{E02}
use Rattle.pb_sorts.specs.declared.sink.Sink.{Ghosts}
use Rattle.pb_report.specs.declared.buffer.TextWriter.{TextWriter}
use Rattle.pb_report.specs.Sending.{Sends}
use Rattle.pb_report.proofs.Sending.{sends_nothing, sends_ok, sends_then, sends_err, sends_as}

pub record IsUnderway {S : Type 0} (members : Ghosts S) (old new : TextWriter S) (whole rest : List ℕ) : Type 0 where
  pub done : List ℕ
  pub sent : Sends {T = ℕ} done (Ok 0) members old new
  pub split : done ++ rest ≡ whole

module _ {S : Type 0} {members : Ghosts S} where
  pub begun : {a : TextWriter S} {whole : List ℕ} → IsUnderway members a a whole whole
  begun {a} {whole} = record { done = []; sent = sends_nothing 0 a; split = refl }

  -- a piece of the rest was sent
  pub went_on : {U : Type 0} {u : U} {a b c : TextWriter S} {whole rest A more : List ℕ} → rest ≡ A ++ more → IsUnderway members a b whole rest
      → Sends A (Ok u) members b c → IsUnderway members a c whole more
  went_on {U} {u} {a} {b} {c} {whole} {rest} {A} {more} e way h = record {
    done = way.done ++ A;
    sent = sends_ok (sends_then way.sent h);
    split = append_assoc way.done A more ∙ (ap (λ (xs : List ℕ). way.done ++ xs) (sym e) ∙ way.split);
  }

  -- a piece of the rest was not sent
  pub gave_up : {T U : Type 0} {e : E02} {r : Result T E02} {a b c : TextWriter S} {whole rest A : List ℕ} (more : List ℕ) → rest ≡ A ++ more → IsUnderway members a b whole rest
      → IsErr r → Sends {T = U} A (Err e) members b c → Sends whole r members a c
  gave_up {T} {U} {e} {r} {a} {b} {c} {whole} {rest} {A} more step way err h =
      sends_as (ap (λ (xs : List ℕ). way.done ++ xs) (sym step) ∙ way.split) (sends_then way.sent (sends_err more err h))

  -- all that is to come is sent
  pub ended_by : {T : Type 0} {r : Result T E02} {a b c : TextWriter S} {whole rest A : List ℕ} → rest ≡ A → IsUnderway members a b whole rest → Sends A r members b c → Sends whole r members a c
  ended_by e way h = sends_as (ap (λ (xs : List ℕ). way.done ++ xs) (sym e) ∙ way.split) (sends_then way.sent h)

  -- nothing is to come
  pub ended : {U : Type 0} {u : U} {a b : TextWriter S} {whole rest : List ℕ} → rest ≡ [] → IsUnderway members a b whole rest → Sends whole (Ok u) members a b
  ended {U} {u} {a} {b} {whole} {rest} e way =
      sends_as (sym (append-nil way.done) ∙ (ap (λ (xs : List ℕ). way.done ++ xs) (sym e) ∙ way.split)) (sends_ok way.sent)
