-- Declarations of sorts are read rightly.
use Rattle.std.proofs.Common.{◌≡◌, ℕ, suc, ◌<◌, Bool, true, false, List, [], ◌∷◌, ◌++◌, length, refl, sym, subst, arith, Some, None, ◌⊎◌, inl, inr}
use Rattle.pb_text_tree.specs.Form.{EnumeratorForm, SortForm, SortDeclarationForm, struct, alias}
use Rattle.pb_text_lexer.specs.declared.kind.Kind.{Kind}
use Rattle.pb_text_lexer.specs.declared.kind.Kind.TheVariants as k
use Rattle.pb_text_lexer.specs.Kinds.{same_kind, is_last}
use Rattle.pb_text_lexer.specs.Grammar.{State, Is, One, First, Series, last, more}
use Rattle.pb_text_lexer.specs.Grammar as grammar
use Rattle.pb_text_lexer.specs.LeftGrammar.{Listed}
use Rattle.pb_text_lexer.specs.Steps.{ends, Step, pure, take_token, expect, unless_next, nothing_between}
use Rattle.pb_text_lexer.specs.Steps as step
use Rattle.pb_text_lexer.specs.Tokens.{Tok}
use Rattle.pb_text_lexer.proofs.TokenLemmas.{kind-same, same-kind}
use Rattle.pb_text_lexer.proofs.Correct.{st, Family, Stops, never, Took, Answers, Answering, Correct, then-correct, pure-correct, HeadIs, take-correct, expect-correct}
use Rattle.pb_text_lexer.proofs.CorrectFamilies.{Nowhere, first-correct, weaker-correct}
use Rattle.pb_text_lexer.proofs.CorrectSeries.{going, Passes, head-at, passes-at, shorter, no-longer, readable-series, series-correct}
use Rattle.pb_text_lexer.proofs.CorrectPlain.{Always, anywhere, then-plain, is-correct, nothing-correct, unlimited-token, unlimited-nothing}
use Rattle.pb_text_lexer.proofs.CorrectLeft.{unless_next-correct, extended-correct}
use Rattle.pb_text_terms.specs.Grammar.{Name}
use Rattle.pb_text_terms.specs.Reading.{name}
use Rattle.pb_text_formulas.specs.Grammar.{Plain, Recognised, Enumerator, SortBy, SortDecl, SortPart, SortParts}
use Rattle.pb_text_formulas.specs.Reading.{is_question, is_bar, is_name_kind, is_sort, plain, with_recogniser, enumerator, enumerators, sort_by, sort, declaration, declarations, sort_part, some_sort_parts, sort_parts}
use Rattle.pb_text_terms.proofs.CorrectVariable.{name-correct}

-- ---- tokens that begin something

-- a token of a kind passes the test on that kind
pub passes-kind : (kind : Kind) (ts us : List Tok) (t : Tok) → ts ≡ t ∷ us → t.kind ≡ kind → Passes (λ k. same_kind k kind) ts
passes-kind kind ts us t e is = passes-at (λ k. same_kind k kind) ts us t e (subst (λ (v : Kind). same_kind v kind ≡ true) (sym is) (same-kind kind))

pub head-of : (kind : Kind) (ts : List Tok) → Passes (λ k. same_kind k kind) ts → HeadIs kind ts
head-of kind [] h = h
head-of kind (t ∷ ts) h = kind-same t.kind kind h

-- what passes a test takes a token
pub some-taken : (test : Kind → Bool) (ts front us : List Tok) → ts ≡ front ++ us → Passes test (front ++ []) → length us < length ts
some-taken test ts [] us e h = absurd h
some-taken test ts (f ∷ fs) us e h = shorter ts (f ∷ fs) us (fs ++ []) f e refl

-- a token of another kind doesn't go on
pub other-stops : (g : Kind → Bool) (kind : Kind) (ts us : List Tok) (t : Tok) → g kind ≡ false → ts ≡ t ∷ us → t.kind ≡ kind → Stops g ts
other-stops g kind ts us t off e is = subst (λ (v : List Tok). Stops g v) (sym e) (subst (λ (v : Kind). g v ≡ false) (sym is) off)

-- ---- items that follow each other at once, as a list

module _ {X : Type 0} (item : Family X) (g test : Kind → Bool) (depth : ℕ) (apart : (k : Kind) → test k ≡ true → g k ≡ false)
    (starts : (d : ℕ) (s : State) (x : X) (z : State) → item d s x z → Passes test s.tokens) where
  pub many-start : {Y : Type 0} (end : X → Y) (join : X → Unit {0} → Y → Y) (d : ℕ) (s : State) (y : Y) (z : State)
      → Series (item d) (Is {X = Unit {0}} tt) end join s y z → Passes test s.tokens
  many-start end join d s y z (last {z = m} {x = x} r) = starts d s x m r
  many-start end join d s y z (more {m = m} {x = x} r op rest) = starts d s x m r

  many-answers : {Y : Type 0} (end : X → Y) (join : X → Unit {0} → Y → Y) (p : Step X) → Correct Always p item g depth → (s : State) → ends s.tokens ≡ true
      → Answers (λ d. Series (item d) (Is {X = Unit {0}} tt) end join) (going g test) depth s (step.series p test nothing_between end join (suc (length s.tokens)) s)
  many-answers end join p right s ended =
      series-correct item (λ d. Is {X = Unit {0}} tt) end join g test depth apart
      (λ d m t o y z between rest. subst (λ (v : State). Passes test v.tokens) between.1 (many-start end join d o y z rest))
      p right.answers nothing_between (anywhere (Passes test) nothing_between (λ d. Is {X = Unit {0}} tt) never depth (is-correct tt depth)).answers
      (λ m bad is. (right.here, right.some))
      (λ m t z a. unlimited-nothing depth m t z a)
      (λ s0 s1 s2 x t a b. fewer s0 s1 s2 x t a b) (suc (length s.tokens)) s (omega arith) ended
    where
      fewer : (s0 s1 s2 : State) (x : X) (t : Unit {0}) → Took item g depth s0 x s1 → Took (λ d. Is {X = Unit {0}} tt) never depth s1 t s2 → length s2.tokens < length s0.tokens
      fewer s0 s1 s2 x t a b =
          let p = some-taken test s0.tokens a.front s1.tokens a.tokens (starts depth (st (a.front ++ []) s0.operators) x (st [] s1.operators) (a.reads [])) in
          let q = no-longer s1.tokens b.front s2.tokens b.tokens in omega arith

  pub many-correct : {Y : Type 0} (end : X → Y) (join : X → Unit {0} → Y → Y) (p : Step X) → Correct Always p item g depth
      → Correct Always (λ s. step.series p test nothing_between end join (suc (length s.tokens)) s) (λ d. Series (item d) (Is {X = Unit {0}} tt) end join) (going g test) depth
  many-correct end join p right = record {
    answers = λ s ended u. many-answers end join p right s ended;
    here = readable-series item (λ d. Is {X = Unit {0}} tt) end join depth right.here;
    some = readable-series item (λ d. Is {X = Unit {0}} tt) end join (suc depth) right.some;
  }

-- ---- enumerators

plain-correct : (depth : ℕ) → Correct Always plain (λ d. Plain) never depth
plain-correct depth =
    then-plain (λ d. Name) (λ n d. Is (record { name = n; recogniser = None })) never depth Always name (λ n. pure (record { name = n; recogniser = None }))
    (name-correct depth) (λ n. is-correct (record { name = n; recogniser = None }) depth)

recognised-starts : (d : ℕ) (x : EnumeratorForm) (s : State) (y : EnumeratorForm) (z : State) → Recognised x s y z → Passes is_question s.tokens
recognised-starts d x s y z r = passes-kind k.Question s.tokens r.1.tokens r.0 r.2.0 r.2.1

recognised-correct : (depth : ℕ) (x : EnumeratorForm) → Correct (Passes is_question) (with_recogniser x) (λ d. Recognised x) (going never is_question) depth
recognised-correct depth x =
    unless_next-correct (λ d. Recognised x) never is_question depth (Passes is_question)
    (step.◌>>=◌ take_token (λ question. step.◌>>=◌ name (λ found. pure (record { name = x.name; recogniser = Some found }))))
    (weaker-correct (HeadIs k.Question) (Passes is_question) (step.◌>>=◌ take_token (λ question. step.◌>>=◌ name (λ found. pure (record { name = x.name; recogniser = Some found }))))
    (λ d. Recognised x) never depth (head-of k.Question)
    (then-plain (λ d. One k.Question) (λ question d. grammar.◌>>=◌ Name (λ found. Is (record { name = x.name; recogniser = Some found }))) never depth
    (HeadIs k.Question) take_token _ (take-correct k.Question depth refl) (λ question.
    then-plain (λ d. Name) (λ found d. Is (record { name = x.name; recogniser = Some found })) never depth
    Always name _ (name-correct depth) (λ found. is-correct (record { name = x.name; recogniser = Some found }) depth))))

enumerator-correct : (depth : ℕ) → Correct Always enumerator (λ d. Enumerator) (going never is_question) depth
unfolding enumerator
enumerator-correct depth =
    extended-correct (λ d. Plain) (λ x d. Recognised x) never is_question depth (λ k h. refl) recognised-starts
    Always plain (plain-correct depth) with_recogniser (λ x. (recognised-correct depth x).answers)

bar-apart : (kind : Kind) → is_bar kind ≡ true → going never is_question kind ≡ false
unfolding same_kind
bar-apart kind h = subst (λ (v : Kind). going never is_question v ≡ false) (sym (kind-same kind k.Bar h)) refl

pub enumerators-correct : (depth : ℕ) → Correct Always enumerators (λ d. Listed Enumerator (One k.Bar)) (going (going never is_question) is_bar) depth
enumerators-correct depth = record {
  answers = λ s ended u.
      series-correct (λ d. Enumerator) (λ d. One k.Bar) (λ x. x ∷ []) (λ x t xs. x ∷ xs) (going never is_question) is_bar depth bar-apart
      (λ d m t o y z between rest. passes-kind k.Bar m.tokens o.tokens t between.0 between.1)
      enumerator (enumerator-correct depth).answers take_token
      (weaker-correct (HeadIs k.Bar) (Passes is_bar) take_token (λ d. One k.Bar) never depth (head-of k.Bar)
      (take-correct k.Bar depth refl)).answers
      (λ m bad is. ((enumerator-correct depth).here, (enumerator-correct depth).some))
      (λ m t z a. unlimited-token k.Bar depth refl m t z a)
      (λ s0 s1 s2 x t a b. less s0.tokens s1.tokens s2.tokens a.front b.front t a.tokens b.tokens (b.reads []).0) (suc (length s.tokens)) s (omega arith) ended;
  here = readable-series (λ d. Enumerator) (λ d. One k.Bar) (λ x. x ∷ []) (λ x t xs. x ∷ xs) depth (enumerator-correct depth).here;
  some = readable-series (λ d. Enumerator) (λ d. One k.Bar) (λ x. x ∷ []) (λ x t xs. x ∷ xs) (suc depth) (enumerator-correct depth).some;
}
  where
    less : (ts us vs front behind_front : List Tok) (t : Tok) → ts ≡ front ++ us → us ≡ behind_front ++ vs → behind_front ++ [] ≡ t ∷ [] → length vs < length ts
    less ts us vs front behind_front t p q r =
        let a = no-longer ts front us p in let b = shorter us behind_front vs [] t q r in omega arith

-- ---- declarations

sort-starts : (kind : Kind) (s : State) (y : SortForm) (z : State) → SortBy kind s y z → HeadIs kind s.tokens
sort-starts k.Struct s y z r = head-at k.Struct s.tokens r.1.tokens r.0 r.2.0 r.2.1
sort-starts k.Name s y z r = head-at k.Name s.tokens r.2.1.tokens r.2.0 r.2.2.0 r.2.2.1
sort-starts _ s y z r = absurd r

abbrev struct_goes : Kind → Bool
struct_goes = going (going never is_question) is_bar

semicolon-off : struct_goes k.Semicolon ≡ false
unfolding same_kind
semicolon-off = refl

-- a token, and then a value
pub token-correct : {X : Type 0} (kind : Kind) (depth : ℕ) (x : X) → is_last kind ≡ false
    → Correct Always (step.◌>>=◌ (expect kind) (λ t. pure x)) (λ d. grammar.◌>>=◌ (One kind) (λ t. Is x)) never depth
token-correct kind depth x ne =
    then-plain (λ d. One kind) (λ t d. Is x) never depth Always (expect kind) (λ t. pure x) (expect-correct kind depth ne) (λ t. is-correct x depth)

struct-correct : (depth : ℕ) → Correct (HeadIs k.Struct) (sort_by k.Struct) (λ d. SortBy k.Struct) never depth
struct-correct depth =
    then-plain (λ d. One k.Struct) (λ word d. grammar.◌>>=◌ (Listed Enumerator (One k.Bar)) (λ found. grammar.◌>>=◌ (One k.Semicolon) (λ semicolon. Is (struct found)))) never depth
    (HeadIs k.Struct) take_token _ (take-correct k.Struct depth refl) (λ word.
    then-correct (λ d. Listed Enumerator (One k.Bar)) (λ found d. grammar.◌>>=◌ (One k.Semicolon) (λ semicolon. Is (struct found))) struct_goes never depth
    (λ d x m y z r over. other-stops struct_goes k.Semicolon m.tokens r.1.tokens r.0 semicolon-off r.2.0 r.2.1) Always enumerators _ (enumerators-correct depth)
    (λ found. anywhere (Stops struct_goes) _ _ never depth (token-correct k.Semicolon depth (struct found) refl)))

alias-correct : (depth : ℕ) → Correct (HeadIs k.Name) (sort_by k.Name) (λ d. SortBy k.Name) never depth
alias-correct depth =
    then-plain (λ d. Name) (λ target d. grammar.◌>>=◌ (One k.Semicolon) (λ semicolon. Is (alias target))) never depth
    (HeadIs k.Name) name _ (anywhere (HeadIs k.Name) name (λ d. Name) never depth (name-correct depth)) (λ target. token-correct k.Semicolon depth (alias target) refl)

at-sort : (depth : ℕ) (kind : Kind) → Answering (HeadIs kind) (sort_by kind) (λ d. SortBy kind) never depth ⊎ Nowhere (sort_by kind) (λ d. SortBy kind)
at-sort depth k.Struct = inl (struct-correct depth).answers
at-sort depth k.Name = inl (alias-correct depth).answers
at-sort depth kind = inr nothing-correct

sort-correct : (depth : ℕ) → Correct Always sort (λ d. First SortBy) never depth
unfolding sort
sort-correct depth = first-correct (λ d. SortBy) never depth (λ d. sort-starts) sort_by (at-sort depth) k.Name (alias-correct depth).here (alias-correct depth).some

declaration-correct : (depth : ℕ) → Correct Always declaration (λ d. SortDecl) never depth
unfolding declaration
declaration-correct depth =
    then-plain (λ d. Name) (λ n d. grammar.◌>>=◌ (One k.Is) (λ equals. grammar.◌>>=◌ (First SortBy) (λ sort. Is (record { name = n; sort = sort })))) never depth
    Always name _ (name-correct depth) (λ n.
    then-plain (λ d. One k.Is) (λ equals d. grammar.◌>>=◌ (First SortBy) (λ sort. Is (record { name = n; sort = sort }))) never depth
    Always (expect k.Is) _ (expect-correct k.Is depth refl) (λ equals.
    then-plain (λ d. First SortBy) (λ sort d. Is (record { name = n; sort = sort })) never depth
    Always sort _ (sort-correct depth) (λ sort. is-correct (record { name = n; sort = sort }) depth)))

declaration-starts : (d : ℕ) (s : State) (x : SortDeclarationForm) (z : State) → SortDecl s x z → Passes is_name_kind s.tokens
declaration-starts d s x z r = passes-kind k.Name s.tokens r.2.1.tokens r.2.0 r.2.2.0 r.2.2.1

declarations-correct : (depth : ℕ) → Correct Always declarations (λ d. Listed SortDecl (Is {X = Unit {0}} tt)) (going never is_name_kind) depth
declarations-correct depth = many-correct (λ d. SortDecl) never is_name_kind depth (λ k h. refl) declaration-starts (λ x. x ∷ []) (λ x u xs. x ∷ xs) declaration (declaration-correct depth)

sort_part-correct : (depth : ℕ) → Correct Always sort_part (λ d. SortPart) (going never is_name_kind) depth
unfolding sort_part
sort_part-correct depth =
    then-plain (λ d. One k.Sort) (λ word d. grammar.◌>>=◌ (Listed SortDecl (Is {X = Unit {0}} tt)) (λ found. Is found)) (going never is_name_kind) depth
    Always (expect k.Sort) _ (expect-correct k.Sort depth refl) (λ word.
    then-correct (λ d. Listed SortDecl (Is {X = Unit {0}} tt)) (λ found d. Is found) (going never is_name_kind) (going never is_name_kind) depth
    (λ d x m y z h over. subst (λ (v : State). Stops (going never is_name_kind) v.tokens) h.1 over) Always declarations (λ found. pure found) (declarations-correct depth)
    (λ found. pure-correct found (going never is_name_kind) depth))

part-starts : (d : ℕ) (s : State) (x : List SortDeclarationForm) (z : State) → SortPart s x z → Passes is_sort s.tokens
part-starts d s x z r = passes-kind k.Sort s.tokens r.1.tokens r.0 r.2.0 r.2.1

pub sort-apart : (kind : Kind) → is_sort kind ≡ true → going never is_name_kind kind ≡ false
unfolding same_kind
sort-apart kind h = subst (λ (v : Kind). going never is_name_kind v ≡ false) (sym (kind-same kind k.Sort h)) refl

abbrev pub parts_go : Kind → Bool
parts_go = going (going never is_name_kind) is_sort

abbrev some_parts : Family (List SortDeclarationForm)
some_parts d = Series SortPart (Is {X = Unit {0}} tt) (λ sorts. sorts) (λ sorts u rest. sorts ++ rest)

some-parts-correct : (depth : ℕ) → Correct Always some_sort_parts some_parts parts_go depth
some-parts-correct depth =
    many-correct (λ d. SortPart) (going never is_name_kind) is_sort depth sort-apart part-starts (λ sorts. sorts) (λ sorts u rest. sorts ++ rest) sort_part (sort_part-correct depth)

pub sort_parts-correct : (depth : ℕ) → Correct Always sort_parts (λ d. SortParts) parts_go depth
sort_parts-correct depth =
    extended-correct (λ d. Is []) (λ none d. some_parts d) (going never is_name_kind) is_sort depth sort-apart
    (λ d none s y z r. many-start (λ d. SortPart) (going never is_name_kind) is_sort depth sort-apart part-starts (λ sorts. sorts) (λ sorts u rest. sorts ++ rest) d s y z r)
    Always (unless_next is_name_kind (pure [])) (unless_next-correct (λ d. Is []) never is_name_kind depth Always (pure []) (is-correct [] depth))
    (λ none. some_sort_parts) (λ none. (anywhere (Passes is_sort) some_sort_parts some_parts parts_go depth (some-parts-correct depth)).answers)
