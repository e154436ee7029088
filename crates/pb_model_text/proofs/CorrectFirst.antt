-- What is read right is so where more is asked of the first token, and where the first token tells it from what else may stand there.
use Rattle.std.proofs.Common.{◌≡◌, ℕ, suc, Bool, true, List, [], ◌∷◌, ◌++◌, sym, ◌∙◌, ap, subst, append_assoc, Ok, Err}
use Rattle.pb_text_lexer.specs.declared.fault.ReadingRule.{ReadingRule}
use Rattle.pb_text_lexer.specs.declared.fault.ReadingRule.TheVariants.{Unexpected, Limit}
use Rattle.pb_text_lexer.specs.declared.fault.Refusal.{Refusal}
use Rattle.pb_text_lexer.specs.declared.kind.Kind.{Kind}
use Rattle.pb_text_lexer.specs.Grammar.{State, going_on}
use Rattle.pb_text_lexer.specs.Steps.{Step, Outcome}
use Rattle.pb_text_lexer.specs.Tokens.{Tok}
use Rattle.pb_text_lexer.proofs.Correct.{st, Family, Readable, GoesOn, goes-free, goes-to, reaches-to, Took, Refused, Answers, Answering}
use Rattle.pb_text_lexer.proofs.CorrectSeries.{Passes}
use Rattle.pb_text_lexer.proofs.CorrectPlain.{Always}

-- what H says of a first token, P says whatever follows it
module _ (H P : List Tok → Type 0) (keeps : (f : Tok) (a b : List Tok) → H (f ∷ a) → P (f ∷ b)) where
  front-keeps : (front a b ts : List Tok) → ts ≡ front ++ a → Passes (λ kind. true) (front ++ []) → H ts → P (front ++ b)
  front-keeps [] a b ts e some h = absurd some
  front-keeps (f ∷ fs) a b ts e some h = keeps f (fs ++ a) (fs ++ b) (subst (λ (v : List Tok). H v) e h)

  next-keeps : (front : List Tok) (next : Tok) (a b ts : List Tok) → ts ≡ front ++ next ∷ a → H ts → P (front ++ next ∷ b)
  next-keeps [] next a b ts e h = keeps next a b (subst (λ (v : List Tok). H v) e h)
  next-keeps (f ∷ fs) next a b ts e h = keeps f (fs ++ next ∷ a) (fs ++ next ∷ b) (subst (λ (v : List Tok). H v) e h)

  last-keeps : (front : List Tok) (next : Tok) (a b ts : List Tok) → ts ≡ front ++ next ∷ a → H ts → P ((front ++ next ∷ []) ++ b)
  last-keeps front next a b ts e h = subst (λ (v : List Tok). P v) (sym (append_assoc front (next ∷ []) b)) (next-keeps front next a b ts e h)

  -- ---- where P is asked

  module _ {X : Type 0} (fam : Family X) (g : Kind → Bool) (depth : ℕ) (starts : (d : ℕ) (s : State) (y : X) (z : State) → fam d s y z → Passes (λ kind. true) s.tokens)
      (some : Readable (λ d s y z. P s.tokens × fam d s y z) (suc depth)) where
    abbrev asked : Family X
    asked d s y z = P s.tokens × fam d s y z

    took : (s : State) (x : X) (z : State) → H s.tokens → Took fam g depth s x z → Took asked g depth s x z
    took s x z h a = record {
      front = a.front;
      used = a.used;
      tokens = a.tokens;
      operators = a.operators;
      stops = a.stops;
      ended = a.ended;
      reads = λ after. (heads after, a.reads after);
      only = λ d n after y w stop r over. a.only d n after y w stop r.1 over;
      one_more = λ after. (heads after, a.one_more after);
    }
      where
        heads : (after : List Tok) → P (a.front ++ after)
        heads after = front-keeps a.front z.tokens after s.tokens a.tokens (starts depth _ x _ (a.reads [])) h

    -- with such a first token, what goes on goes on so
    goes-with : (level n : ℕ) (ts : List Tok) → ((b : List Tok) → P (ts ++ b)) → GoesOn fam level n ts → GoesOn asked level n ts
    goes-with level n ts heads c = record {
      tail = c.tail;
      value = c.value;
      left = c.left;
      reads = λ after. (subst (λ (v : List Tok). P v) (sym (append_assoc ts c.tail after)) (heads (c.tail ++ after)), c.reads after);
    }

    goes : (rule : ReadingRule) (front : List Tok) (next : Tok) (n : ℕ) (more ts : List Tok) → ts ≡ front ++ next ∷ more → H ts
        → GoesOn fam (suc depth) n (front ++ going_on rule next) → GoesOn asked (suc depth) n (front ++ going_on rule next)
    goes Unexpected [] next n more ts e h c = goes-free asked (suc depth) n [] some
    goes Unexpected (f ∷ fs) next n more ts e h c =
        goes-with (suc depth) n (f ∷ fs ++ []) (λ b. keeps f (fs ++ next ∷ more) ((fs ++ []) ++ b) (subst (λ (v : List Tok). H v) e h)) c
    goes Limit front next n more ts e h c = goes-with (suc depth) n (front ++ next ∷ []) (λ b. last-keeps front next more b ts e h) c

    refused : (s : State) (bad : Refusal) → H s.tokens → Refused fam g depth s bad → Refused asked g depth s bad
    refused s bad h a = record {
      front = a.front;
      next = a.next;
      more = a.more;
      tokens = a.tokens;
      kind = a.kind;
      place = a.place;
      limited = a.limited;
      none = λ d n tail y w within r over. a.none d n tail y w within r.1 over;
      goes_on = goes bad.rule a.front a.next (suc s.operators) a.more s.tokens a.tokens h a.goes_on;
      first = λ before behind t e lim.
          goes-with depth s.operators (before ++ t ∷ []) (λ b. last-keeps before t (behind ++ a.next ∷ a.more) b s.tokens
          (a.tokens ∙ ap (λ v. v ++ a.next ∷ a.more) e ∙ append_assoc before (t ∷ behind) (a.next ∷ a.more)) h) (a.first before behind t e lim);
    }

    pub asked-answers : (p : Step X) → Answering Always p fam g depth → Answering H p asked g depth
    asked-answers p right s end h = went (p s) (right s end tt)
      where
        went : (o : Outcome X) → Answers fam g depth s o → Answers asked g depth s o
        went (Ok r) a = took s r.0 r.1 h a
        went (Err bad) a = refused s bad h a

-- ---- where the first token tells it from the rest of what is read

module _ {X : Type 0} (fam whole : Family X) (g : Kind → Bool) (depth : ℕ) (H : List Tok → Type 0) (keeps : (f : Tok) (a b : List Tok) → H (f ∷ a) → H (f ∷ b))
    (starts : (d : ℕ) (s : State) (y : X) (z : State) → fam d s y z → H s.tokens)
    (into : (d : ℕ) (s : State) (y : X) (z : State) → fam d s y z → whole d s y z)
    (from : (d : ℕ) (s : State) (y : X) (z : State) → H s.tokens → whole d s y z → fam d s y z) where
  pub told-answers : (s : State) (o : Outcome X) → H s.tokens → Answers fam g depth s o → Answers whole g depth s o
  told-answers s (Ok (x, z)) h a = record {
    front = a.front;
    used = a.used;
    tokens = a.tokens;
    operators = a.operators;
    stops = a.stops;
    ended = a.ended;
    reads = λ after. into depth _ x _ (a.reads after);
    only = λ d n after y w stop r over. a.only d n after y w stop (from d _ y w (starts depth (st (a.front ++ after) s.operators) x (st after z.operators) (a.reads after)) r) over;
    one_more = λ after. into (suc depth) _ x _ (a.one_more after);
  }
  told-answers s (Err bad) h a = record {
    front = a.front;
    next = a.next;
    more = a.more;
    tokens = a.tokens;
    kind = a.kind;
    place = a.place;
    limited = a.limited;
    none = λ d n tail y w within r over. a.none d n tail y w within (from d _ y w (next-keeps H H keeps a.front a.next a.more tail s.tokens a.tokens h) r) over;
    goes_on = goes-to fam whole (λ v. v) (suc depth) (suc depth) (suc s.operators) (into (suc depth)) (a.front ++ going_on bad.rule a.next) a.goes_on;
    first = reaches-to fam whole (λ v. v) depth depth s.operators (into depth) a.front a.first;
  }
