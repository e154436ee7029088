-- Lists that a loop reads: what it has, and what one turn more makes of it.
use Rattle.std.proofs.Common.{◌≡◌, ℕ, suc, ◌+◌, ◌-◌, ◌<◌, ◌≤◌, Bool, true, false, List, [], ◌∷◌, ◌++◌, length, arith, ◌∙◌, Ok, Err}
use Rattle.pb_text_lexer.specs.declared.fault.Refusal.{Refusal}
use Rattle.pb_text_lexer.specs.declared.kind.Kind.{Kind}
use Rattle.pb_text_lexer.specs.Grammar.{State}
use Rattle.pb_text_lexer.specs.Steps.{Step, Outcome, kind, listed}
use Rattle.pb_text_lexer.proofs.LoopLemmas.{gathered, gathered-none, gathered-more, gathered-end, gathered-item-fails}

-- some items are read, each by a token at least; what is read of the others is what the whole gives
pub record IsListed {X T : Type 0} (item : Step X) (test : Kind → Bool) (between : Step T) (whole : Outcome (List X)) (xs : List X) (count tokens : ℕ) (s : State) : Type 0 where
  pub reads : whole ≡ gathered item test between xs (suc tokens - count) s
  pub room : count + length s.tokens ≤ tokens

pub listed-none : {X T : Type 0} (item : Step X) (test : Kind → Bool) (between : Step T) (s : State)
    → IsListed item test between (listed item test between (suc (length s.tokens)) s) [] 0 (length s.tokens) s
listed-none item test between s = record { reads = gathered-none item test between (suc (length s.tokens)) s; room = omega arith }

module _ {X T : Type 0} {item : Step X} {test : Kind → Bool} {between : Step T} {whole : Outcome (List X)} {xs : List X} {count tokens : ℕ} {s : State}
    (g : IsListed item test between whole xs count tokens s) where
  left : suc tokens - count ≡ suc (tokens - count)
  left = omega (arith, g.room)

  pub listed-fails : (bad : Refusal) → item s ≡ Err bad → whole ≡ Err bad
  listed-fails bad fails = g.reads ∙ gathered-item-fails item test between xs (suc tokens - count) (tokens - count) s bad left fails

  pub listed-ends : {x : X} {s1 : State} → item s ≡ Ok (x, s1) → test (kind s1) ≡ false → whole ≡ Ok (xs ++ x ∷ [], s1)
  listed-ends {x} {s1} reads stops = g.reads ∙ gathered-end item test between xs (suc tokens - count) (tokens - count) s s1 x left reads stops

  pub listed-goes-on : {x : X} {s1 s2 : State} {t : T} {more : ℕ} → item s ≡ Ok (x, s1) → test (kind s1) ≡ true → between s1 ≡ Ok (t, s2)
      → more ≡ count + 1 → length s2.tokens < length s.tokens → IsListed item test between whole (xs ++ x ∷ []) more tokens s2
  listed-goes-on {x} {s1} {s2} {t} {more} reads goes stands one fewer =
      let left-more : suc tokens - count ≡ suc (suc tokens - more) = omega (arith, g.room, one, fewer) in
      record {
        reads = g.reads ∙ gathered-more item test between xs (suc tokens - count) (suc tokens - more) s s1 s2 x t left-more reads goes stands;
        room = omega (arith, g.room, one, fewer);
      }
