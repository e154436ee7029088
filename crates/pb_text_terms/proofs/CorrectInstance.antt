-- Reading names with arguments is right, where reading a term is.
use Rattle.std.proofs.Common.{◌≡◌, ℕ, zero, suc, ◌+◌, ◌≤◌, Bool, true, List, [], ◌∷◌, ◌++◌, refl, sym, ap, ◌∙◌, subst, arith, Ok, Err}
use Rattle.pb_text_tree.specs.declared.place.Place.{Place}
use Rattle.pb_text_tree.specs.Form.{TermForm, InstanceForm, no_arguments}
use Rattle.pb_text_lexer.specs.declared.fault.ReadingRule.TheVariants.{Limit}
use Rattle.pb_text_lexer.specs.declared.kind.Kind.{Kind}
use Rattle.pb_text_lexer.specs.declared.kind.Kind.TheVariants as k
use Rattle.pb_text_lexer.specs.Grammar.{State, going_on, Is, Nothing, One}
use Rattle.pb_text_lexer.specs.Grammar as grammar
use Rattle.pb_text_lexer.specs.LeftGrammar.{Listed}
use Rattle.pb_text_lexer.specs.Steps.{head_place, Step, Outcome, and_then, pure, take_token, expect, refuse, unless_next, place}
use Rattle.pb_text_lexer.specs.Steps as step
use Rattle.pb_text_lexer.specs.Tokens.{Tok}
use Rattle.pb_text_lexer.proofs.Correct.{st, Family, Stops, never, readable-is, readable-one, Took, Answers, Answering, Correct, then-correct, HeadIs, take-correct, expect-correct, refused-here, Free, Readable, GoesOn, goes-free, free-then, free-one}
use Rattle.pb_text_lexer.proofs.CorrectFamilies.{readable-deeper, deeper, deeper-correct, weaker-correct}
use Rattle.pb_text_lexer.proofs.CorrectSeries.{Passes, readable-series}
use Rattle.pb_text_lexer.proofs.CorrectPlain.{Always, anywhere, then-plain, is-correct}
use Rattle.pb_text_lexer.proofs.CorrectLeft.{unless_next-answers, extended-correct}
use Rattle.pb_text_lexer.proofs.CorrectChained.{is-symbol-at, head-of-passes}
use Rattle.pb_text_terms.specs.Grammar.{Name, Placed, arguments_of, Arguments, Instance, IsTerm}
use Rattle.pb_text_terms.specs.Reading.{name, is_open, with_place, argument_list, arguments, instance, term}
use Rattle.pb_text_terms.proofs.CorrectVariable.{head-kind-is, head-limited, name-correct, said-correct, listed-correct, stops-at-kind}
use Rattle.pb_text_terms.proofs.CorrectOperators.{comma-apart, list-closes, list_goes, term_goes, unary_goes}
use Rattle.pb_text_terms.proofs.TermStarts.{deeper-some, readable-term}

-- ---- the place of the first token

head-of : (front : List Tok) (a b : List Tok) → Passes (λ kind. true) (front ++ []) → head_place (front ++ a) ≡ head_place (front ++ b)
head-of [] a b some = absurd some
head-of (f ∷ fs) a b some = refl

readable-placed : {X : Type 0} (fam : Family X) (level : ℕ) → ((d : ℕ) (s : State) (y : X) (z : State) → fam d s y z → Passes (λ kind. true) s.tokens)
    → Readable fam level → Readable (λ d. Placed (fam d)) level
readable-placed fam level some a = record {
  tail = a.tail;
  value = (head_place (a.tail ++ []), a.value);
  reads = λ n after. (a.reads n after, head-of a.tail [] after (some level _ a.value _ (a.reads n [])));
}

goes-placed : {X : Type 0} (fam : Family X) (level n : ℕ) → ((d : ℕ) (s : State) (y : X) (z : State) → fam d s y z → Passes (λ kind. true) s.tokens)
    → (ts : List Tok) → GoesOn fam level n ts → GoesOn (λ d. Placed (fam d)) level n ts
goes-placed fam level n some ts c = record {
  tail = c.tail;
  value = (head_place ((ts ++ c.tail) ++ []), c.value);
  left = c.left;
  reads = λ after. (c.reads after, head-of (ts ++ c.tail) [] after (some level _ c.value _ (c.reads [])));
}

pub placed-correct : {X : Type 0} (fam : Family X) (g : Kind → Bool) (depth : ℕ) → ((d : ℕ) (s : State) (y : X) (z : State) → fam d s y z → Passes (λ kind. true) s.tokens)
    → (p : Step X) → Correct Always p fam g depth → Correct Always (with_place p) (λ d. Placed (fam d)) g depth
placed-correct {X} fam g depth some p right = record {
  answers = λ s end u. went s (p s) (right.answers s end u);
  here = readable-placed fam depth some right.here;
  some = readable-placed fam (suc depth) some right.some;
}
  where
    took : (s : State) (x : X) (z : State) → Took fam g depth s x z → Took (λ d. Placed (fam d)) g depth s (place s, x) z
    took s x z a = record {
      front = a.front;
      used = a.used;
      tokens = a.tokens;
      operators = a.operators;
      stops = a.stops;
      ended = a.ended;
      reads = λ after. (a.reads after, stands after);
      only = λ d n after y w stop r over. only d n after y w stop r over;
      one_more = λ after. (a.one_more after, stands after);
    }
      where
        stands : (after : List Tok) → place s ≡ head_place (a.front ++ after)
        stands after = ap head_place a.tokens ∙ head-of a.front z.tokens after (some depth _ x _ (a.reads []))

        only : (d n : ℕ) (after : List Tok) (y : Place × X) (w : State) → Stops g after → Placed (fam d) (st (a.front ++ after) n) y w → Stops g w.tokens
            → (y ≡ (place s, x)) × (w.tokens ≡ after) × (n ≡ a.used + w.operators)
        only d n after y w stop r over =
            let found = a.only d n after y.1 w stop r.0 over in
            (ap (λ v. (y.0, v)) found.0 ∙ ap (λ v. (v, x)) (r.1 ∙ sym (stands after)), found.1, found.2)

    went : (s : State) (o : Outcome X) → Answers fam g depth s o → Answers (λ d. Placed (fam d)) g depth s (and_then o (λ x. pure (place s, x)))
    went s (Ok r) a = took s r.0 r.1 a
    went s (Err bad) a = record {
      front = a.front;
      next = a.next;
      more = a.more;
      tokens = a.tokens;
      kind = a.kind;
      place = a.place;
      limited = a.limited;
      none = λ d n tail y w within r over. a.none d n tail y.1 w within r.0 over;
      goes_on = goes-placed fam (suc depth) (suc s.operators) some (a.front ++ going_on bad.rule a.next) a.goes_on;
      first = λ before behind t e lim. goes-placed fam depth s.operators some (before ++ t ∷ []) (a.first before behind t e lim);
    }

-- ---- names with arguments

-- a closing bracket, and then a value
closing : {X : Type 0} (g : Kind → Bool) (x : X) (depth : ℕ) → Correct (Stops g) (step.◌>>=◌ (expect k.Close) (λ t. pure x)) (λ d. grammar.◌>>=◌ (One k.Close) (λ t. Is x)) never depth
closing g x depth =
    anywhere (Stops g) _ (λ d. grammar.◌>>=◌ (One k.Close) (λ t. Is x)) never depth
    (then-plain (λ d. One k.Close) (λ t d. Is x) never depth Always (expect k.Close) (λ t. pure x) (expect-correct k.Close depth refl) (λ t. is-correct x depth))

abbrev alone : Family InstanceForm
alone d = grammar.◌>>=◌ Name (λ found. Is (record { name = found; arguments = no_arguments }))

abbrev beyond : InstanceForm → Family InstanceForm
beyond i d = grammar.◌>>=◌ (Arguments (deeper IsTerm d)) (λ found. Is (record { name = i.name; arguments = found }))

abbrev pub instances : Family InstanceForm
instances d = Instance (deeper IsTerm d)

beyond-starts : (d : ℕ) (i : InstanceForm) (m : State) (y : InstanceForm) (z : State) → beyond i d m y z → Passes is_open m.tokens
beyond-starts d i m y z r = at m.tokens r.2.0 r.2.1.tokens r.2.2.0 r.2.2.1
  where
    at : (ts : List Tok) (t : Tok) (us : List Tok) → ts ≡ t ∷ us → t.kind ≡ k.Open → Passes is_open ts
    at ts t us e is = subst (λ (v : List Tok). Passes is_open v) (sym e) (is-symbol-at k.Open t.kind is)

-- a name without arguments
alone-correct : (depth : ℕ) → Correct Always (step.◌>>=◌ name (λ found. pure (record { name = found; arguments = no_arguments }))) alone never depth
alone-correct depth = said-correct (λ d. Name) (λ found. record { name = found; arguments = no_arguments }) never depth Always name (name-correct depth)

-- names and what may follow them, whose correctness is shown for one number of levels
module _ (depth : ℕ) (q : InstanceForm → Step InstanceForm) (right-q : (i : InstanceForm) → Answering (Passes is_open) (q i) (beyond i) unary_goes depth) where
  named-correct : Correct Always (step.extended is_open (step.◌>>=◌ name (λ found. pure (record { name = found; arguments = no_arguments }))) q) instances unary_goes depth
  named-correct =
      extended-correct alone beyond never is_open depth (λ kind h. refl) beyond-starts Always (step.◌>>=◌ name (λ found. pure (record { name = found; arguments = no_arguments })))
      (alone-correct depth) q right-q

-- where no level may open
no-arguments : (i : InstanceForm) (d : ℕ) (s : State) (y : InstanceForm) (w : State) → d ≤ 0 → beyond i d s y w → ⊥
no-arguments i zero s y w le r = none r.2.3.0 r.2.1 r.2.3.1 r.2.3.2
  where
    none : (xs : List (Place × TermForm)) (s z : State) → Listed (Placed Nothing) (One k.Comma) s xs z → ⊥
    none xs s z (grammar.last r) = r.0
    none xs s z (grammar.more r b rest) = r.0
no-arguments i (suc d) s y w le r = omega arith

-- where a level may open, arguments go on
free-arguments : (i : InstanceForm) (t : Tok) → t.kind ≡ k.Open → Free (beyond i) 1 (t ∷ [])
free-arguments i t is =
    free-then (λ d. Arguments (deeper IsTerm d)) (λ found d. Is (record { name = i.name; arguments = found })) 1 (t ∷ [])
    (free-then (λ d. One k.Open)
    (λ open_bracket d. grammar.◌>>=◌ (Listed (Placed (deeper IsTerm d)) (One k.Comma))
    (λ found. grammar.◌>>=◌ (One k.Close) (λ close_bracket. Is (arguments_of found)))) 1 (t ∷ [])
    (free-one k.Open 1 t is) (λ open_bracket.
    free-then (λ d. Listed (Placed (deeper IsTerm d)) (One k.Comma)) (λ found d. grammar.◌>>=◌ (One k.Close) (λ close_bracket. Is (arguments_of found))) 1 []
    (readable-series (λ d. Placed (deeper IsTerm d)) (λ d. One k.Comma) (λ x. x ∷ []) (λ x u xs. x ∷ xs) 1
    (readable-placed (deeper IsTerm) 1 deeper-some (readable-deeper IsTerm 0 (readable-term 0)))) (λ found.
    free-then (λ d. One k.Close) (λ close_bracket d. Is (arguments_of found)) 1 [] (readable-one k.Close 1) (λ close_bracket. readable-is (arguments_of found) 1))))
    (λ found. readable-is (record { name = i.name; arguments = found }) 1)

pub instance-last : Correct Always (instance 0) instances unary_goes 0
instance-last =
    named-correct 0 (λ i. unless_next is_open (step.◌>>=◌ (arguments (refuse Limit) (refuse Limit)) (λ found. pure (record { name = i.name; arguments = found }))))
    (λ i s end h. refused-here (beyond i) unary_goes 0 s Limit end (λ q. head-limited k.Open s.tokens (head-of-passes k.Open s.tokens h) refl)
    (λ d n t tail y w head within r over. no-arguments i d (st (t ∷ tail) n) y w within.0 r)
    (λ t is. goes-free (beyond i) 1 (suc s.operators) (t ∷ []) (free-arguments i t (is ∙ head-kind-is k.Open s.tokens (head-of-passes k.Open s.tokens h)))))

module _ (depth : ℕ) (right-term : Correct Always (term depth) IsTerm term_goes depth) where
  pub inner-term : Correct Always (term depth) (deeper IsTerm) term_goes (suc depth)
  inner-term = deeper-correct Always (term depth) IsTerm term_goes depth right-term

  lists : Correct Always (argument_list (term depth)) (λ d. Listed (Placed (deeper IsTerm d)) (One k.Comma)) list_goes (suc depth)
  lists = listed-correct (λ d. Placed (deeper IsTerm d)) term_goes (suc depth) comma-apart (with_place (term depth))
      (placed-correct (deeper IsTerm) term_goes (suc depth) deeper-some (term depth) inner-term)

  arguments-correct : Correct (Passes is_open) (arguments take_token (term depth)) (λ d. Arguments (deeper IsTerm d)) never (suc depth)
  arguments-correct =
      then-plain (λ d. One k.Open)
      (λ open_bracket d. grammar.◌>>=◌ (Listed (Placed (deeper IsTerm d)) (One k.Comma))
      (λ found. grammar.◌>>=◌ (One k.Close) (λ close_bracket. Is (arguments_of found)))) never (suc depth)
      (Passes is_open) take_token _
      (weaker-correct (HeadIs k.Open) (Passes is_open) take_token (λ d. One k.Open) never (suc depth)
      (head-of-passes k.Open) (take-correct k.Open (suc depth) refl)) (λ open_bracket.
      then-correct (λ d. Listed (Placed (deeper IsTerm d)) (One k.Comma)) (λ found d. grammar.◌>>=◌ (One k.Close) (λ close_bracket. Is (arguments_of found))) list_goes never (suc depth)
      (λ d x m y z r over. stops-at-kind list_goes k.Close list-closes m.tokens r.1.tokens r.0 r.2.0 r.2.1) Always
      (argument_list (term depth)) _ lists (λ found. closing list_goes (arguments_of found) (suc depth)))

  pub instance-over : Correct Always (instance (suc depth)) instances unary_goes (suc depth)
  instance-over =
      named-correct (suc depth) (λ i. unless_next is_open (step.◌>>=◌ (arguments take_token (term depth)) (λ found. pure (record { name = i.name; arguments = found }))))
      (λ i. unless_next-answers (beyond i) never is_open (suc depth) (Passes is_open) (step.◌>>=◌ (arguments take_token (term depth)) (λ found. pure (record { name = i.name; arguments = found })))
      (said-correct (λ d. Arguments (deeper IsTerm d)) (λ found. record { name = i.name; arguments = found }) never
      (suc depth) (Passes is_open) (arguments take_token (term depth)) arguments-correct).answers)
