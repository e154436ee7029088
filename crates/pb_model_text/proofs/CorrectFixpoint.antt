-- Fixpoints are read rightly, where their bodies are.
use Rattle.std.proofs.Common.{◌≡◌, ℕ, zero, suc, ◌≤◌, Bool, List, [], ◌∷◌, refl, ◌∙◌, arith, ◌⊎◌, inl, inr}
use Rattle.pb_fixpoint.specs.declared.Sign.{Sign}
use Rattle.pb_fixpoint.specs.declared.Sign.TheVariants as sign
use Rattle.pb_text_tree.specs.declared.place.Place.{Place}
use Rattle.pb_text_tree.specs.Form.{Named}
use Rattle.pb_protocol_tree.specs.Form.{FormulaForm}
use Rattle.pb_text_lexer.specs.declared.fault.ReadingRule.TheVariants.{Limit}
use Rattle.pb_text_lexer.specs.declared.kind.Kind.{Kind}
use Rattle.pb_text_lexer.specs.declared.kind.Kind.TheVariants as k
use Rattle.pb_text_lexer.specs.Grammar.{State, Reads, Is, One}
use Rattle.pb_text_lexer.specs.Grammar as grammar
use Rattle.pb_text_lexer.specs.Steps.{Step, take_token, expect, refuse}
use Rattle.pb_text_lexer.specs.Tokens.{Tok}
use Rattle.pb_text_lexer.proofs.Correct.{st, Family, readable-is, readable-one, Answering, Correct, HeadIs, take-correct, expect-correct, refused-here, Free, Readable, goes-free, readable-free, free-then, free-one, some-token}
use Rattle.pb_text_lexer.proofs.CorrectFamilies.{readable-first, readable-deeper, Nowhere, first-answers, first-correct, deeper, deeper-correct}
use Rattle.pb_text_lexer.proofs.CorrectSeries.{Passes, head-at}
use Rattle.pb_text_lexer.proofs.CorrectPlain.{Always, anywhere, then-plain, nothing-correct}
use Rattle.pb_text_terms.specs.Grammar.{Name}
use Rattle.pb_text_terms.specs.Reading.{name}
use Rattle.pb_text_terms.proofs.CorrectVariable.{head-kind-is, head-limited, name-correct, said-correct}
use Rattle.pb_model_text.specs.Grammar.{Binding, FixpointBy, Fixpoint}
use Rattle.pb_model_text.specs.Reading.{is_fixpoint, sign_of, binding, fixpoint_by, fixpoint_over}

module _ (fam : List ℕ → Family FormulaForm) (g : Kind → Bool) where
  abbrev inside : ℕ → List ℕ → Reads FormulaForm
  inside d name = deeper (fam name) d

  abbrev pub kinds : ℕ → Kind → Reads FormulaForm
  kinds d kind = FixpointBy (inside d) kind

  starts : (d : ℕ) (kind : Kind) (s : State) (y : FormulaForm) (z : State) → kinds d kind s y z → HeadIs kind s.tokens
  starts d k.Mu s y z r = head-at k.Mu s.tokens r.1.tokens r.0 r.2.0 r.2.1
  starts d k.Nu s y z r = head-at k.Nu s.tokens r.1.tokens r.0 r.2.0 r.2.1
  starts d _ s y z r = absurd r

  -- a period and a body
  abbrev bodies : Sign → Place → Named → Family FormulaForm
  bodies sign place found d = grammar.◌>>=◌ (One k.Period) (λ period. grammar.◌>>=◌ (inside d found.text) (λ body. Is (FormulaForm.fixpoint sign place found body)))

  binding-correct : (sign : Sign) (place : Place) (depth : ℕ) (p : List ℕ → Step FormulaForm) → ((name : List ℕ) → Correct Always (p name) (fam name) g depth)
      → Correct Always (binding sign place p) (λ d. Binding sign place (inside d)) g (suc depth)
  binding-correct sign place depth p right =
      then-plain (λ d. Name) (bodies sign place) g (suc depth) Always name _ (name-correct (suc depth)) (λ found.
      then-plain (λ d. One k.Period) (λ period d. grammar.◌>>=◌ (inside d found.text) (λ body. Is (FormulaForm.fixpoint sign place found body))) g (suc depth)
      Always (expect k.Period) _ (expect-correct k.Period (suc depth) refl) (λ period.
      said-correct (deeper (fam found.text)) (λ body. FormulaForm.fixpoint sign place found body) g (suc depth) Always (p found.text)
      (deeper-correct Always (p found.text) (fam found.text) g depth (right found.text))))

  mu-correct : (depth : ℕ) (p : List ℕ → Step FormulaForm) → ((name : List ℕ) → Correct Always (p name) (fam name) g depth)
      → Correct (HeadIs k.Mu) (fixpoint_by take_token p (sign_of k.Mu)) (λ d. kinds d k.Mu) g (suc depth)
  mu-correct depth p right =
      then-plain (λ d. One k.Mu) (λ word d. Binding sign.Mu word.place (inside d)) g (suc depth) (HeadIs k.Mu) take_token (λ word. binding sign.Mu word.place p)
      (take-correct k.Mu (suc depth) refl) (λ word. binding-correct sign.Mu word.place depth p right)

  nu-correct : (depth : ℕ) (p : List ℕ → Step FormulaForm) → ((name : List ℕ) → Correct Always (p name) (fam name) g depth)
      → Correct (HeadIs k.Nu) (fixpoint_by take_token p (sign_of k.Nu)) (λ d. kinds d k.Nu) g (suc depth)
  nu-correct depth p right =
      then-plain (λ d. One k.Nu) (λ word d. Binding sign.Nu word.place (inside d)) g (suc depth) (HeadIs k.Nu) take_token (λ word. binding sign.Nu word.place p)
      (take-correct k.Nu (suc depth) refl) (λ word. binding-correct sign.Nu word.place depth p right)

  at-each : (depth : ℕ) (p : List ℕ → Step FormulaForm) → ((name : List ℕ) → Correct Always (p name) (fam name) g depth)
      → (kind : Kind) → Answering (HeadIs kind) (fixpoint_by take_token p (sign_of kind)) (λ d. kinds d kind) g (suc depth) ⊎ Nowhere (fixpoint_by take_token p (sign_of kind)) (λ d. kinds d kind)
  at-each depth p right k.Mu = inl (mu-correct depth p right).answers
  at-each depth p right k.Nu = inl (nu-correct depth p right).answers
  at-each depth p right kind = inr nothing-correct

  -- a fixpoint over a body that stands a level deeper
  pub fixpoint-correct : (depth : ℕ) (p : List ℕ → Step FormulaForm) → ((name : List ℕ) → Correct Always (p name) (fam name) g depth)
      → Correct (Passes is_fixpoint) (fixpoint_over take_token p) (λ d. Fixpoint (inside d)) g (suc depth)
  fixpoint-correct depth p right =
      anywhere (Passes is_fixpoint) (fixpoint_over take_token p) (λ d. Fixpoint (inside d)) g (suc depth)
      (first-correct kinds g (suc depth) starts (λ kind. fixpoint_by take_token p (sign_of kind)) (at-each depth p right) k.Mu
      (mu-correct depth p right).here (mu-correct depth p right).some)

  -- where no level may open
  no-level-mu : (d : ℕ) (s : State) (y : FormulaForm) (w : State) → d ≤ 0 → kinds d k.Mu s y w → ⊥
  no-level-mu zero s y w le r = r.3.3.3.2
  no-level-mu (suc d) s y w le r = omega arith

  no-level-nu : (d : ℕ) (s : State) (y : FormulaForm) (w : State) → d ≤ 0 → kinds d k.Nu s y w → ⊥
  no-level-nu zero s y w le r = r.3.3.3.2
  no-level-nu (suc d) s y w le r = omega arith

  -- where a level may open, a body goes on behind a name
  readable-binding : (sign : Sign) (place : Place) → ((name : List ℕ) → Readable (fam name) 0) → Readable (λ d. Binding sign place (inside d)) 1
  readable-binding sign place some =
      free-then (λ d. Name) (bodies sign place) 1 [] (name-correct 0).some
      (λ found. free-then (λ d. One k.Period) (λ period d. grammar.◌>>=◌ (inside d found.text) (λ body. Is (FormulaForm.fixpoint sign place found body))) 1 [] (readable-one k.Period 1)
      (λ period. free-then (deeper (fam found.text)) (λ body d. Is (FormulaForm.fixpoint sign place found body)) 1 [] (readable-deeper (fam found.text) 0 (some found.text))
      (λ body. readable-is (FormulaForm.fixpoint sign place found body) 1)))

  free-mu : ((name : List ℕ) → Readable (fam name) 0) → (t : Tok) → t.kind ≡ k.Mu → Free (λ d. kinds d k.Mu) 1 (t ∷ [])
  free-mu some t is =
      free-then (λ d. One k.Mu) (λ word d. Binding sign.Mu word.place (inside d)) 1 (t ∷ []) (free-one k.Mu 1 t is) (λ word. readable-binding sign.Mu word.place some)

  free-nu : ((name : List ℕ) → Readable (fam name) 0) → (t : Tok) → t.kind ≡ k.Nu → Free (λ d. kinds d k.Nu) 1 (t ∷ [])
  free-nu some t is =
      free-then (λ d. One k.Nu) (λ word d. Binding sign.Nu word.place (inside d)) 1 (t ∷ []) (free-one k.Nu 1 t is) (λ word. readable-binding sign.Nu word.place some)

  readable-mu : ((name : List ℕ) → Readable (fam name) 0) → Readable (λ d. kinds d k.Mu) 1
  readable-mu some = readable-free (λ d. kinds d k.Mu) 1 (some-token k.Mu ∷ []) (free-mu some (some-token k.Mu) refl)

  at-last : ((name : List ℕ) → Readable (fam name) 0) → (p : List ℕ → Step FormulaForm) (kind : Kind)
      → Answering (HeadIs kind) (fixpoint_by (refuse Limit) p (sign_of kind)) (λ d. kinds d kind) g 0 ⊎ Nowhere (fixpoint_by (refuse Limit) p (sign_of kind)) (λ d. kinds d kind)
  at-last some p k.Mu =
      inl (λ s end h. refused-here (λ d. kinds d k.Mu) g 0 s Limit end (λ q. head-limited k.Mu s.tokens h refl)
      (λ d n t tail y w head within r over. no-level-mu d (st (t ∷ tail) n) y w within.0 r)
      (λ t is. goes-free (λ d. kinds d k.Mu) 1 (suc s.operators) (t ∷ []) (free-mu some t (is ∙ head-kind-is k.Mu s.tokens h))))
  at-last some p k.Nu =
      inl (λ s end h. refused-here (λ d. kinds d k.Nu) g 0 s Limit end (λ q. head-limited k.Nu s.tokens h refl)
      (λ d n t tail y w head within r over. no-level-nu d (st (t ∷ tail) n) y w within.0 r)
      (λ t is. goes-free (λ d. kinds d k.Nu) 1 (suc s.operators) (t ∷ []) (free-nu some t (is ∙ head-kind-is k.Nu s.tokens h))))
  at-last some p kind = inr nothing-correct

  pub fixpoint-last : ((name : List ℕ) → Readable (fam name) 0) → (p : List ℕ → Step FormulaForm) → Answering (Passes is_fixpoint) (fixpoint_over (refuse Limit) p) (λ d. Fixpoint (inside d)) g 0
  fixpoint-last some p s end head =
      first-answers kinds g 0 starts (λ kind. fixpoint_by (refuse Limit) p (sign_of kind)) (at-last some p)
      (readable-first kinds g 0 starts k.Mu 1 (readable-mu some)) s end
