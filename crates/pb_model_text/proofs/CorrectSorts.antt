-- Declarations of sorts are read rightly.
use Rattle.std.proofs.Common.{◌≡◌, ℕ, suc, Bool, true, false, List, [], ◌∷◌, ◌++◌, refl, ◌⊎◌, inl, inr}
use Rattle.pb_text_tree.specs.declared.place.Place.{Place}
use Rattle.pb_text_tree.specs.Form.{Named, TermForm, struct, alias}
use Rattle.pb_text_lexer.specs.declared.kind.Kind.{Kind}
use Rattle.pb_text_lexer.specs.declared.kind.Kind.TheVariants as k
use Rattle.pb_text_lexer.specs.Kinds.{same_kind, is_last}
use Rattle.pb_text_lexer.specs.Lexing.{start}
use Rattle.pb_text_lexer.specs.Tokens.{Tok}
use Rattle.pb_text_lexer.specs.Grammar.{State, Reads, Is, One, First, Series, CountedApart}
use Rattle.pb_text_lexer.specs.Grammar as grammar
use Rattle.pb_text_lexer.specs.LeftGrammar.{Listed}
use Rattle.pb_text_lexer.specs.Steps.{Step, pure, peek, take_token, expect, unless_next}
use Rattle.pb_text_lexer.specs.Steps as step
use Rattle.pb_text_lexer.proofs.Correct.{st, Family, Free, Readable, readable-is, readable-one, free-one, free-then, some-token, Stops, never, Answering, Correct, HeadIs, then-answers, then-correct, take-correct, expect-correct}
use Rattle.pb_text_lexer.proofs.CorrectFamilies.{Nowhere, first-correct, own-correct, readable-deeper, deeper}
use Rattle.pb_text_lexer.proofs.CorrectSeries.{going, Passes, head-at}
use Rattle.pb_text_lexer.proofs.CorrectPlain.{Always, anywhere, then-plain, is-correct, nothing-correct}
use Rattle.pb_text_lexer.proofs.CorrectLeft.{unless_next-correct, extended-correct}
use Rattle.pb_text_terms.specs.Grammar.{Name, Equated, IsUnary, IsTerm}
use Rattle.pb_text_terms.specs.Reading.{name, equated, unary}
use Rattle.pb_text_terms.proofs.CorrectVariable.{name-correct, said-correct, stops-at-kind}
use Rattle.pb_text_terms.proofs.CorrectOperators.{equated_goes, equateds}
use Rattle.pb_text_terms.proofs.CorrectInstance.{placed-correct}
use Rattle.pb_text_terms.proofs.CorrectTerm.{unary-correct}
use Rattle.pb_text_terms.proofs.TermStarts.{readable-term}
use Rattle.pb_text_formulas.specs.Grammar.{Enumerator}
use Rattle.pb_text_formulas.specs.Reading.{is_question, is_bar, is_name_kind, is_sort, enumerators}
use Rattle.pb_text_formulas.proofs.CorrectSorts.{passes-kind, token-correct, many-start, many-correct, enumerators-correct, sort-apart}
use Rattle.pb_model_text.specs.Grammar.{Beginning}
use Rattle.pb_model_text.specs.Models.{DeclaredSort, declared_as, declared_within, IsBound, Greatest, UpTo, SortNamed, SortBehind, SortWithin, SortBy, IsSort, SortPart, Sorts}
use Rattle.pb_model_text.specs.ModelReading.{bound, greatest, up_to, sort_named, sort_behind, sort_within, sort_by, sort_parts, sort, sort_list, sort_part, some_sorts, sorts}
use Rattle.pb_model_text.proofs.CorrectBeginning.{begins, beginning-answers}
use Rattle.pb_model_text.proofs.CorrectFormula.{equated-some, unary-with, free-name, free-number, free-minus}

-- ---- bounds

bound-correct : (depth : ℕ) → Correct Always (bound depth) IsBound equated_goes depth
unfolding bound
bound-correct depth =
    placed-correct (λ d. Equated (IsUnary d)) equated_goes depth equated-some (equated (unary depth)) (equateds (unary depth) IsUnary depth (unary-correct depth))

bound-some : (d : ℕ) (s : State) (y : Place × TermForm) (z : State) → IsBound d s y z → Passes (λ kind. true) s.tokens
bound-some d s y z r = equated-some d s y.1 z r.0

free-open : (level : ℕ) (t : Tok) → t.kind ≡ k.Open → Free IsUnary (suc level) (t ∷ [])
free-open level t is =
    unary-with k.Open (suc level) t (
    free-then (λ d. One k.Open) (λ open_bracket d. grammar.◌>>=◌ (deeper IsTerm d) (λ inner. grammar.◌>>=◌ (One k.Close) (λ close_bracket. Is inner))) (suc level) (t ∷ []) (free-one k.Open
    (suc level) t is)
    (λ open_bracket. free-then (deeper IsTerm) (λ inner d. grammar.◌>>=◌ (One k.Close) (λ close_bracket. Is inner)) (suc level) [] (readable-deeper IsTerm level (readable-term level))
    (λ inner. free-then (λ d. One k.Close) (λ close_bracket d. Is inner) (suc level) [] (readable-one k.Close (suc level)) (λ close_bracket. readable-is inner (suc level)))))

-- a bound may begin with a token with which an operand may
readable-bound : (kind : Kind) (level : ℕ) → Free IsUnary level (some-token kind ∷ []) → Readable (λ d. Beginning kind (IsBound d)) level
readable-bound kind level a = record {
  tail = some-token kind ∷ a.tail;
  value = (start, a.value);
  reads = λ n after. (refl, (inl (inl (inl (inl (a.reads n after)))), refl));
}

beginning-bound : (kind : Kind) (depth : ℕ) → Free IsUnary (suc depth) (some-token kind ∷ []) → Answering (HeadIs kind) (bound depth) (λ d. Beginning kind (IsBound d)) equated_goes depth
beginning-bound kind depth a = beginning-answers IsBound equated_goes depth kind bound-some (readable-bound kind (suc depth) a) (bound depth) (bound-correct depth).answers

semicolon-ends : equated_goes k.Semicolon ≡ false
unfolding same_kind
semicolon-ends = refl

period-ends : equated_goes k.Period ≡ false
unfolding same_kind
period-ends = refl

greatest-correct : (depth : ℕ) → Correct Always (greatest depth) Greatest never depth
unfolding greatest
greatest-correct depth =
    then-plain (λ d. One k.Period) _ never depth Always (expect k.Period) _ (expect-correct k.Period depth refl) (λ first.
    then-plain (λ d. One k.Period) _ never depth Always (expect k.Period) _ (expect-correct k.Period depth refl) (λ second.
    then-correct IsBound _ equated_goes never depth
    (λ d x m y z r over. stops-at-kind equated_goes k.Semicolon semicolon-ends m.tokens r.1.tokens r.0 r.2.0 r.2.1) Always (bound depth) _ (bound-correct depth)
    (λ high. anywhere (Stops equated_goes) _ _ never depth (token-correct k.Semicolon depth high refl))))

-- ---- what a sort is declared to be

abbrev struct_goes : Kind → Bool
struct_goes = going (going never is_question) is_bar

struct-ends : struct_goes k.Semicolon ≡ false
unfolding same_kind
struct-ends = refl

module _ (found : Named) where
  up_to-correct : (depth : ℕ) (low : Place × TermForm) → Correct Always (up_to depth found low) (λ d. UpTo d found low) never depth
  unfolding up_to
  up_to-correct depth low = said-correct Greatest (λ high. declared_within found low high) never depth Always (greatest depth) (greatest-correct depth)

  up_to-starts : (d : ℕ) (low : Place × TermForm) (s : State) (y : DeclaredSort) (z : State) → UpTo d found low s y z → HeadIs k.Period s.tokens
  up_to-starts d low s y z r = let q = r.2 in head-at k.Period s.tokens q.1.tokens q.0 q.2.0 q.2.1

  named-each : (depth : ℕ) (x : TermForm)
      → Answering (HeadIs k.Semicolon) (sort_named found x) (λ d. SortNamed found x) never depth ⊎ Nowhere (sort_named found x) (λ d. SortNamed found x)
  named-each depth (TermForm.name target) = inl (
      then-plain (λ d. One k.Semicolon) (λ semicolon d. Is (declared_as found (alias target))) never depth (HeadIs k.Semicolon) take_token _ (take-correct k.Semicolon depth refl)
      (λ semicolon. is-correct (declared_as found (alias target)) depth)).answers
  named-each depth x = inr nothing-correct

  named-starts : (x : TermForm) (s : State) (y : DeclaredSort) (z : State) → SortNamed found x s y z → HeadIs k.Semicolon s.tokens
  named-starts (TermForm.name target) s y z r = head-at k.Semicolon s.tokens r.1.tokens r.0 r.2.0 r.2.1
  named-starts x s y z r = absurd r

  module _ (low : Place × TermForm) where
    behind-starts : (d : ℕ) (kind : Kind) (s : State) (y : DeclaredSort) (z : State) → SortBehind d found low kind s y z → HeadIs kind s.tokens
    behind-starts d k.Semicolon s y z r = named-starts low.1 s y z r
    behind-starts d k.Period s y z r = up_to-starts d low s y z r
    behind-starts d _ s y z r = absurd r

    behind-each : (depth : ℕ) (kind : Kind)
        → Answering (HeadIs kind) (sort_behind depth found low kind) (λ d. SortBehind d found low kind) never depth ⊎ Nowhere (sort_behind depth found low kind) (λ d. SortBehind d found low kind)
    behind-each depth k.Semicolon = named-each depth low.1
    behind-each depth k.Period = inl (anywhere (HeadIs k.Period) (up_to depth found low) (λ d. UpTo d found low) never depth (up_to-correct depth low)).answers
    behind-each depth kind = inr nothing-correct

    behind-correct : (depth : ℕ) → Correct Always (step.◌>>=◌ peek (sort_behind depth found low)) (λ d. First (SortBehind d found low)) never depth
    behind-correct depth =
        first-correct (λ d. SortBehind d found low) never depth behind-starts (sort_behind depth found low) (behind-each depth) k.Period
        (up_to-correct depth low).here (up_to-correct depth low).some

    -- nothing that stands there goes on with the bound
    behind-stops : (d : ℕ) (s : State) (y : DeclaredSort) (z : State) → First (SortBehind d found low) s y z → Stops equated_goes s.tokens
    unfolding same_kind
    behind-stops d s y z r = at s.tokens s.operators r
      where
        plain : (kind : Kind) (s : State) → SortBehind d found low kind s y z → equated_goes kind ≡ false
        plain k.Semicolon s r = refl
        plain k.Period s r = refl
        plain _ s r = absurd r

        at : (ts : List Tok) (n : ℕ) → First (SortBehind d found low) (st ts n) y z → Stops equated_goes ts
        at [] n r = refl
        at (t ∷ ts) n r = plain t.kind (st (t ∷ ts) n) r

  abbrev kinds : ℕ → Kind → Reads DeclaredSort
  kinds d kind = SortBy d found kind

  within-starts : (d : ℕ) (kind : Kind) (s : State) (y : DeclaredSort) (z : State) → is_last kind ≡ false → SortWithin d found kind s y z → HeadIs kind s.tokens
  within-starts d kind s y z other r = begins kind s.tokens other r.2.0

  sort-starts : (d : ℕ) (kind : Kind) (s : State) (y : DeclaredSort) (z : State) → kinds d kind s y z → HeadIs kind s.tokens
  sort-starts d k.Struct s y z r = head-at k.Struct s.tokens r.1.tokens r.0 r.2.0 r.2.1
  sort-starts d k.Name s y z r = begins k.Name s.tokens refl r.2.0
  sort-starts d k.Number s y z r = within-starts d k.Number s y z refl r
  sort-starts d k.Minus s y z r = within-starts d k.Minus s y z refl r
  sort-starts d k.Open s y z r = within-starts d k.Open s y z refl r
  sort-starts d _ s y z r = absurd r

  module _ (depth : ℕ) where
    struct-correct : Correct (HeadIs k.Struct) (sort_by depth found k.Struct) (λ d. kinds d k.Struct) never depth
    struct-correct =
        then-plain (λ d. One k.Struct) _ never depth (HeadIs k.Struct) take_token _ (take-correct k.Struct depth refl) (λ word.
        then-correct (λ d. Listed Enumerator (One k.Bar)) _ struct_goes never depth
        (λ d x m y z r over. stops-at-kind struct_goes k.Semicolon struct-ends m.tokens r.1.tokens r.0 r.2.0 r.2.1) Always enumerators _ (enumerators-correct depth)
        (λ its. anywhere (Stops struct_goes) _ _ never depth (token-correct k.Semicolon depth (declared_as found (struct its)) refl)))

    within-answers : (kind : Kind) → Free IsUnary (suc depth) (some-token kind ∷ []) → Answering (HeadIs kind) (sort_within depth found) (λ d. SortWithin d found kind) never depth
    within-answers kind a =
        then-answers (λ d. Beginning kind (IsBound d)) (λ low d. UpTo d found low) equated_goes never depth
        (λ d x m y z r over. let q = r.2 in stops-at-kind equated_goes k.Period period-ends m.tokens q.1.tokens q.0 q.2.0 q.2.1) (HeadIs kind) (bound depth) (up_to depth found)
        (beginning-bound kind depth a) (λ low. anywhere (Stops equated_goes) (up_to depth found low) (λ d. UpTo d found low) never depth (up_to-correct depth low))

    named-answers : Answering (HeadIs k.Name) (sort_by depth found k.Name) (λ d. kinds d k.Name) never depth
    named-answers =
        then-answers (λ d. Beginning k.Name (IsBound d)) (λ first d. First (SortBehind d found first)) equated_goes never depth
        (λ d x m y z r over. behind-stops x d m y z r) (HeadIs k.Name) (bound depth) (λ first. step.◌>>=◌ peek (sort_behind depth found first))
        (beginning-bound k.Name depth (free-name (suc depth) (some-token k.Name) refl))
        (λ first. anywhere (Stops equated_goes) _ (λ d. First (SortBehind d found first)) never depth (behind-correct first depth))

    sort-each : (kind : Kind) → Answering (HeadIs kind) (sort_by depth found kind) (λ d. kinds d kind) never depth ⊎ Nowhere (sort_by depth found kind) (λ d. kinds d kind)
    sort-each k.Struct = inl struct-correct.answers
    sort-each k.Name = inl named-answers
    sort-each k.Number = inl (within-answers k.Number (free-number (suc depth) (some-token k.Number) refl))
    sort-each k.Minus = inl (within-answers k.Minus (free-minus depth (some-token k.Minus) refl))
    sort-each k.Open = inl (within-answers k.Open (free-open depth (some-token k.Open) refl))
    sort-each kind = inr nothing-correct

    sort_by-correct : Correct Always (step.◌>>=◌ peek (sort_by depth found)) (λ d. First (SortBy d found)) never depth
    sort_by-correct = first-correct kinds never depth sort-starts (sort_by depth found) sort-each k.Struct struct-correct.here struct-correct.some

-- ---- declarations

sort_parts-correct : (depth : ℕ) → Correct Always (sort_parts depth) IsSort never depth
unfolding sort_parts
sort_parts-correct depth =
    then-plain (λ d. Name) _ never depth Always name _ (name-correct depth) (λ found.
    then-plain (λ d. One k.Is) (λ is d. First (SortBy d found)) never depth Always (expect k.Is) _ (expect-correct k.Is depth refl) (λ is. sort_by-correct found depth))

sort-correct : (depth : ℕ) → Correct Always (sort depth) (λ d. CountedApart (IsSort d)) never depth
unfolding sort
sort-correct depth = own-correct Always (sort_parts depth) IsSort never depth (sort_parts-correct depth)

declaration-starts : (d : ℕ) (s : State) (x : DeclaredSort) (z : State) → CountedApart (IsSort d) s x z → Passes is_name_kind s.tokens
declaration-starts d s x z r = let q = r.1 in passes-kind k.Name s.tokens q.2.1.tokens q.2.0 q.2.2.0 q.2.2.1

sort_list-correct : (depth : ℕ) → Correct Always (sort_list depth) (λ d. Listed (CountedApart (IsSort d)) (Is {X = Unit {0}} tt)) (going never is_name_kind) depth
sort_list-correct depth =
    many-correct (λ d. CountedApart (IsSort d)) never is_name_kind depth (λ kind h. refl) declaration-starts (λ x. x ∷ []) (λ x u xs. x ∷ xs) (sort depth) (sort-correct depth)

sort_part-correct : (depth : ℕ) → Correct Always (sort_part depth) SortPart (going never is_name_kind) depth
unfolding sort_part
sort_part-correct depth =
    then-plain (λ d. One k.Sort) _ (going never is_name_kind) depth Always (expect k.Sort) _ (expect-correct k.Sort depth refl) (λ word.
    said-correct (λ d. Listed (CountedApart (IsSort d)) (Is {X = Unit {0}} tt)) (λ found. found) (going never is_name_kind) depth Always (sort_list depth) (sort_list-correct depth))

part-starts : (d : ℕ) (s : State) (x : List DeclaredSort) (z : State) → SortPart d s x z → Passes is_sort s.tokens
part-starts d s x z r = passes-kind k.Sort s.tokens r.1.tokens r.0 r.2.0 r.2.1

-- what goes on with sorts: another declaration, or another part
abbrev pub sorts_go : Kind → Bool
sorts_go = going (going never is_name_kind) is_sort

abbrev some_parts : Family (List DeclaredSort)
some_parts d = Series (SortPart d) (Is {X = Unit {0}} tt) (λ sorts. sorts) (λ sorts u rest. sorts ++ rest)

pub parts-start : (d : ℕ) (s : State) (y : List DeclaredSort) (z : State) → some_parts d s y z → Passes is_sort s.tokens
parts-start d s y z r = many-start SortPart (going never is_name_kind) is_sort d sort-apart part-starts (λ sorts. sorts) (λ sorts u rest. sorts ++ rest) d s y z r

some_sorts-correct : (depth : ℕ) → Correct Always (some_sorts depth) some_parts sorts_go depth
some_sorts-correct depth =
    many-correct SortPart (going never is_name_kind) is_sort depth sort-apart part-starts (λ sorts. sorts) (λ sorts u rest. sorts ++ rest) (sort_part depth) (sort_part-correct depth)

pub sorts-correct : (depth : ℕ) → Correct Always (sorts depth) Sorts sorts_go depth
sorts-correct depth =
    extended-correct (λ d. Is []) (λ none d. some_parts d) (going never is_name_kind) is_sort depth sort-apart (λ d none s y z r. parts-start d s y z r)
    Always (unless_next is_name_kind (pure [])) (unless_next-correct (λ d. Is []) never is_name_kind depth Always (pure []) (is-correct [] depth))
    (λ none. some_sorts depth) (λ none. (anywhere (Passes is_sort) (some_sorts depth) some_parts sorts_go depth (some_sorts-correct depth)).answers)
