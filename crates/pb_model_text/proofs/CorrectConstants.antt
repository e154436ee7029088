-- Constants are read rightly.
use Rattle.std.proofs.Common.{ℕ, Bool, List, [], refl, codes}
use Rattle.pb_protocol_tree.specs.Form.{ConstantForm}
use Rattle.pb_text_lexer.specs.declared.kind.Kind.{Kind}
use Rattle.pb_text_lexer.specs.declared.kind.Kind.TheVariants as k
use Rattle.pb_text_lexer.specs.Grammar.{State, Is, One, CountedApart}
use Rattle.pb_text_lexer.specs.LeftGrammar.{Listed}
use Rattle.pb_text_lexer.specs.Steps.{pure, expect, unless_next}
use Rattle.pb_text_lexer.proofs.Correct.{Stops, never, Correct, then-correct, expect-correct}
use Rattle.pb_text_lexer.proofs.CorrectFamilies.{own-correct}
use Rattle.pb_text_lexer.proofs.CorrectSeries.{going, Passes}
use Rattle.pb_text_lexer.proofs.CorrectPlain.{Always, anywhere, then-plain, is-correct}
use Rattle.pb_text_lexer.proofs.CorrectLeft.{unless_next-correct, extended-correct}
use Rattle.pb_text_terms.specs.Grammar.{Name, Placed, IsTerm}
use Rattle.pb_text_terms.specs.Reading.{name, with_place, term}
use Rattle.pb_text_terms.proofs.CorrectVariable.{name-correct, listed-correct, stops-at-kind, said-correct}
use Rattle.pb_text_terms.proofs.CorrectOperators.{term_goes, comma-apart, list_goes}
use Rattle.pb_text_formulas.specs.Reading.{is_name_kind}
use Rattle.pb_text_formulas.proofs.CorrectSorts.{passes-kind, token-correct}
use Rattle.pb_model_text.specs.Grammar.{Word}
use Rattle.pb_model_text.specs.Models.{const_of, IsConstant, ConstantPart, Constants}
use Rattle.pb_model_text.specs.ModelReading.{constant, constant_list, constant_parts, constant_part, constants}
use Rattle.pb_model_text.specs.Reading.{take_word}
use Rattle.pb_model_text.proofs.CorrectWords.{HasWord, word-correct}
use Rattle.pb_model_text.proofs.CorrectAssigned.{placed_term-correct, semicolon-stops}

constant-correct : (depth : ℕ) → Correct Always (constant depth) IsConstant term_goes depth
unfolding constant
constant-correct depth =
    then-plain (λ d. Name) _ term_goes depth Always name _ (name-correct depth) (λ found.
    then-plain (λ d. One k.Is) _ term_goes depth Always (expect k.Is) _ (expect-correct k.Is depth refl) (λ is.
    said-correct (λ d. Placed (IsTerm d)) (λ value. record { name = found; place = value.0; value = value.1 }) term_goes depth Always
    (with_place (term depth)) (placed_term-correct depth)))

constant_list-correct : (depth : ℕ) → Correct Always (constant_list depth) (λ d. Listed (IsConstant d) (One k.Comma)) list_goes depth
constant_list-correct depth = listed-correct IsConstant term_goes depth comma-apart (constant depth) (constant-correct depth)

const-word : HasWord const_of
const-word = record { text = codes "const"; word = tt; tells = refl }

constant_parts-correct : (depth : ℕ) → Correct Always (constant_parts depth) ConstantPart never depth
unfolding constant_parts
constant_parts-correct depth =
    then-plain (λ d. Word const_of) _ never depth Always (take_word const_of) _ (word-correct const_of const-word depth) (λ word.
    then-correct (λ d. Listed (IsConstant d) (One k.Comma)) _ list_goes never depth
    (λ d x m y z r over. stops-at-kind list_goes k.Semicolon semicolon-stops m.tokens r.1.tokens r.0 r.2.0 r.2.1) Always (constant_list depth) _ (constant_list-correct depth)
    (λ found. anywhere (Stops list_goes) _ _ never depth (token-correct k.Semicolon depth found refl)))

constant_part-correct : (depth : ℕ) → Correct Always (constant_part depth) (λ d. CountedApart (ConstantPart d)) never depth
unfolding constant_part
constant_part-correct depth = own-correct Always (constant_parts depth) ConstantPart never depth (constant_parts-correct depth)

part-starts : (d : ℕ) (none : List ConstantForm) (s : State) (x : List ConstantForm) (z : State) → CountedApart (ConstantPart d) s x z → Passes is_name_kind s.tokens
part-starts d none s x z r = let q = r.1 in passes-kind k.Name s.tokens q.1.tokens q.2.0 q.2.1.0 q.2.1.1

-- what goes on with constants, where there are none
abbrev pub constants_go : Kind → Bool
constants_go = going never is_name_kind

pub constants-correct : (depth : ℕ) → Correct Always (constants depth) Constants constants_go depth
unfolding constants
constants-correct depth =
    extended-correct (λ d. Is []) (λ none d. CountedApart (ConstantPart d)) never is_name_kind depth (λ kind h. refl) part-starts Always (pure []) (is-correct [] depth)
    (λ none. unless_next is_name_kind (constant_part depth)) (λ none. (unless_next-correct (λ d. CountedApart (ConstantPart d)) never is_name_kind depth (Passes is_name_kind) (constant_part depth)
    (anywhere (Passes is_name_kind) (constant_part depth) (λ d. CountedApart (ConstantPart d)) never depth (constant_part-correct depth))).answers)
