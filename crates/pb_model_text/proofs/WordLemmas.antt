-- What is read from a name on that may be a word.
use Rattle.std.proofs.Common.{◌≡◌, ◌≢◌, ℕ, Bool, true, false, cond, List, [], ◌∷◌, refl, sym, ◌∙◌, ap, subst, Ok, Err, Option, Some, None}
use Rattle.pb_text_tree.specs.declared.place.Place.{Place}
use Rattle.pb_protocol_tree.specs.Form.{FormulaForm}
use Rattle.pb_text_lexer.specs.declared.fault.ReadingRule.TheVariants.{Unexpected}
use Rattle.pb_text_lexer.specs.declared.fault.Refusal.{Refusal}
use Rattle.pb_text_lexer.specs.declared.kind.Kind.{Kind}
use Rattle.pb_text_lexer.specs.declared.kind.Kind.TheVariants as k
use Rattle.pb_text_lexer.specs.Grammar.{State}
use Rattle.pb_text_lexer.specs.Kinds.{same_kind}
use Rattle.pb_text_lexer.specs.Steps.{Step, Outcome, and_then, ◌>>=◌, pure, peek, refuse, refusal, kind, take_token, take_from, expect, unless_next}
use Rattle.pb_text_lexer.specs.Steps as steps
use Rattle.pb_text_lexer.specs.Tokens.{Tok, token_at}
use Rattle.pb_text_lexer.proofs.TokenLemmas.{same-kind}
use Rattle.pb_text_terms.specs.Reading.{name}
use Rattle.pb_text_formulas.specs.Reading.{is_name_kind}
use Rattle.pb_model_text.specs.declared.word.Leading.{Leading}
use Rattle.pb_model_text.specs.declared.word.Infix.{Infix}
use Rattle.pb_model_text.specs.Words.{infix_of, is_word, infixed}
use Rattle.pb_model_text.specs.Grammar.{FixpointNames, atom_of, leading_within, begins_word}
use Rattle.pb_model_text.specs.Reading.{atom, data_operand, word_taken, take_word, wordless, led_by, joined_by, plain, behind_fair, node, item}
use Rattle.pb_model_text.proofs.FormulaLemmas.{plain-at}

pub not-name : (kind : Kind) → is_name_kind kind ≡ false → kind ≢ k.Name
not-name kind other is = let on : is_name_kind kind ≡ true = ap is_name_kind is ∙ same-kind k.Name in let no : true ≡ false = sym on ∙ other in cc

-- the token that is taken stands first
abbrev Before : Tok → State → State
Before t s1 = record { tokens = t ∷ s1.tokens; operators = s1.operators }

-- of what is taken, the state before
abbrev before_taken : Outcome Tok → State
before_taken (Ok r) = Before r.0 r.1
before_taken (Err bad) = record { tokens = []; operators = 0 }

pub taken-first : (s s1 : State) (t : Tok) → expect k.Name s ≡ Ok (t, s1) → s ≡ Before t s1
unfolding expect take_token
taken-first s s1 t taken = at s.tokens s.operators (same_kind (kind s) k.Name) taken
  where
    at : (ts : List Tok) (n : ℕ) (b : Bool) → cond b (take_from ts n) (refuse Unexpected (record { tokens = ts; operators = n })) ≡ Ok (t, s1) → record { tokens = ts; operators = n } ≡ Before t s1
    at ts n false e = cc
    at [] n true e = cc
    at (u ∷ ts) n true e = ap before_taken e

-- what is no name is no word
pub word-refused : {W : Type 0} (of : List ℕ → Option W) (s : State) (bad : Refusal) → expect k.Name s ≡ Err bad → take_word of s ≡ Err bad
unfolding expect take_token
word-refused of s bad fails = at s.tokens s.operators fails
  where
    by : (t : Tok) (ts : List Tok) (n : ℕ) (b : Bool) → cond b (take_from (t ∷ ts) n) (refuse Unexpected (record { tokens = t ∷ ts; operators = n })) ≡ Err bad
        → word_taken (cond b (of t.text) None) (record { tokens = t ∷ ts; operators = n }) ≡ Err bad
    by t ts n true e = cc
    by t ts n false e = let same : refusal Unexpected (t ∷ ts) ≡ bad = cc in ap Err same

    none : (n : ℕ) (b : Bool) → cond b (take_from [] n) (refuse Unexpected (record { tokens = []; operators = n })) ≡ Err bad → refusal Unexpected [] ≡ bad
    none n true e = cc
    none n false e = cc

    at : (ts : List Tok) (n : ℕ) → expect k.Name (record { tokens = ts; operators = n }) ≡ Err bad → take_word of (record { tokens = ts; operators = n }) ≡ Err bad
    at [] n e = ap Err (none n (same_kind k.End k.Name) e)
    at (t ∷ ts) n e = by t ts n (same_kind t.kind k.Name) e

-- a name is read, at a place
module _ (place : Place) (text : List ℕ) (s1 : State) where
  abbrev first : State
  first = Before (token_at place k.Name text) s1

  abbrev unexpected : Refusal
  unexpected = record { rule = Unexpected; kind = k.Name; place = place }

  word-first : begins_word first.tokens ≡ is_word text
  word-first = rw (same-kind k.Name) refl

  taking : {W : Type 0} (of : List ℕ → Option W) → take_word of first ≡ word_taken (of text) first
  taking of = rw (same-kind k.Name) refl

  module _ (scope : FixpointNames) (depth : ℕ) where
    pub plain-first : plain scope depth first ≡ atom (atom_of scope) (data_operand depth) first
    plain-first = plain-at scope depth first k.Name refl

    pub node-atom : is_word text ≡ false → node scope depth first ≡ atom (atom_of scope) (data_operand depth) first
    node-atom other = rw (word-first, other) plain-first

    pub wordless-atom : is_word text ≡ false → wordless (plain scope depth) first ≡ atom (atom_of scope) (data_operand depth) first
    wordless-atom other = rw (word-first, other) plain-first

    pub wordless-fails : is_word text ≡ true → wordless (plain scope depth) first ≡ Err unexpected
    wordless-fails on = rw (word-first, on) refl

    pub node-led : (word : Leading) → is_word text ≡ true → leading_within scope text ≡ Some word
        → node scope depth first ≡ led_by (behind_fair scope depth) (wordless (plain scope depth)) word place s1
    unfolding take_token
    node-led word on tells = rw (word-first, on) (rw (taking (leading_within scope), tells) refl)

    pub node-fails : is_word text ≡ true → leading_within scope text ≡ None → node scope depth first ≡ Err unexpected
    node-fails on tells = rw (word-first, on) (rw (taking (leading_within scope), tells) refl)

  module _ (operand : Step FormulaForm) (x : FormulaForm) where
    abbrev behind : Step FormulaForm
    behind = unless_next is_name_kind (joined_by operand x)

    pub joined-word-fails : infix_of text ≡ None → behind first ≡ Err unexpected
    joined-word-fails tells = rw (taking infix_of, tells) refl

    module _ (word : Infix) (tells : infix_of text ≡ Some word) where
      pub joined-operand-fails : (bad : Refusal) → operand s1 ≡ Err bad → behind first ≡ Err bad
      unfolding take_token
      joined-operand-fails bad fails = rw (taking infix_of, tells) (rw fails refl)

      pub joined-again : (y : FormulaForm) (z : State) → operand s1 ≡ Ok (y, z) → is_name_kind (kind z) ≡ true → behind first ≡ Err (refusal Unexpected z.tokens)
      unfolding take_token
      joined-again y z reads again = rw (taking infix_of, tells) (rw reads (rw again refl))

      pub joined-read : (y : FormulaForm) (z : State) → operand s1 ≡ Ok (y, z) → is_name_kind (kind z) ≡ false → behind first ≡ Ok (infixed word place x y, z)
      unfolding take_token
      joined-read y z reads other = rw (taking infix_of, tells) (rw reads (rw other refl))

-- what begins with no name
pub node-nameless : (scope : FixpointNames) (depth : ℕ) (s : State) → is_name_kind (kind s) ≡ false → node scope depth s ≡ plain scope depth s
node-nameless scope depth s other = rw (no-word s.tokens other) refl
  where
    no-word : (ts : List Tok) → is_name_kind (kind (record { tokens = ts; operators = 0 })) ≡ false → begins_word ts ≡ false
    no-word [] other = refl
    no-word (t ∷ ts) other = rw other refl

pub wordless-nameless : (scope : FixpointNames) (depth : ℕ) (s : State) → is_name_kind (kind s) ≡ false → wordless (plain scope depth) s ≡ plain scope depth s
wordless-nameless scope depth s other = rw (no-word s.tokens other) refl
  where
    no-word : (ts : List Tok) → is_name_kind (kind (record { tokens = ts; operators = 0 })) ≡ false → begins_word ts ≡ false
    no-word [] other = refl
    no-word (t ∷ ts) other = rw other refl

-- an operand behind which no word stands, or one does
pub item-fails : (scope : FixpointNames) (depth : ℕ) (s : State) (bad : Refusal) → node scope depth s ≡ Err bad → item scope depth s ≡ Err bad
item-fails scope depth s bad fails = rw fails refl

pub item-alone : (scope : FixpointNames) (depth : ℕ) (s z : State) (x : FormulaForm) → node scope depth s ≡ Ok (x, z) → is_name_kind (kind z) ≡ false → item scope depth s ≡ Ok (x, z)
item-alone scope depth s z x reads other = rw reads (rw other refl)

pub item-joined : (scope : FixpointNames) (depth : ℕ) (s s1 : State) (x : FormulaForm) → node scope depth s ≡ Ok (x, s1) → is_name_kind (kind s1) ≡ true
    → item scope depth s ≡ unless_next is_name_kind (joined_by (node scope depth) x) s1
item-joined scope depth s s1 x reads on = rw reads (rw on refl)

-- a name that is read is a name
pub name-read : (s s1 : State) (place : Place) (text : List ℕ) → expect k.Name s ≡ Ok (token_at place k.Name text, s1) → name s ≡ Ok (record { place = place; text = text }, s1)
unfolding name
name-read s s1 place text taken = rw taken refl

-- ---- the same of a state from which a name is taken

no-name-at-end : same_kind k.End k.Name ≡ true → ⊥
unfolding same_kind
no-name-at-end e = cc

pub named-state : (s : State) → is_name_kind (kind s) ≡ true → (bad : Refusal) → expect k.Name s ≡ Err bad → ⊥
unfolding expect take_token
named-state s is bad fails = at s.tokens s.operators is fails
  where
    at : (ts : List Tok) (n : ℕ) → same_kind (kind (record { tokens = ts; operators = n })) k.Name ≡ true
        → cond (same_kind (kind (record { tokens = ts; operators = n })) k.Name) (take_from ts n) (refuse Unexpected (record { tokens = ts; operators = n })) ≡ Err bad → ⊥
    at [] n is fails = no-name-at-end is
    at (t ∷ ts) n is fails = let e : Ok (t, record { tokens = ts; operators = n }) ≡ Err bad =
        sym (ap (λ b. cond b (take_from (t ∷ ts) n) (refuse Unexpected (record { tokens = t ∷ ts; operators = n }))) is) ∙ fails in cc

module _ (s : State) {s1 : State} {place : Place} {text : List ℕ} (taken : expect k.Name s ≡ Ok (token_at place k.Name text, s1)) where
  stands : s ≡ Before (token_at place k.Name text) s1
  stands = taken-first s s1 (token_at place k.Name text) taken

  pub named-kind : kind s ≡ k.Name
  named-kind = ap kind stands

  pub place-at : place ≡ steps.place s
  place-at = sym (ap steps.place stands)

  module _ (scope : FixpointNames) (depth : ℕ) where
    pub node-atom-at : is_word text ≡ false → node scope depth s ≡ atom (atom_of scope) (data_operand depth) s
    node-atom-at other = subst (λ (v : State). node scope depth v ≡ atom (atom_of scope) (data_operand depth) v) (sym stands) (node-atom place text s1 scope depth other)

    pub wordless-atom-at : is_word text ≡ false → wordless (plain scope depth) s ≡ atom (atom_of scope) (data_operand depth) s
    wordless-atom-at other = subst (λ (v : State). wordless (plain scope depth) v ≡ atom (atom_of scope) (data_operand depth) v) (sym stands) (wordless-atom place text s1 scope depth other)

    pub wordless-fails-at : is_word text ≡ true → wordless (plain scope depth) s ≡ Err (unexpected place text s1)
    wordless-fails-at on = subst (λ (v : State). wordless (plain scope depth) v ≡ Err (unexpected place text s1)) (sym stands) (wordless-fails place text s1 scope depth on)

    pub node-led-at : (word : Leading) → is_word text ≡ true → leading_within scope text ≡ Some word
        → node scope depth s ≡ led_by (behind_fair scope depth) (wordless (plain scope depth)) word place s1
    node-led-at word on tells =
        subst (λ (v : State). node scope depth v
        ≡ led_by (behind_fair scope depth) (wordless (plain scope depth)) word place s1) (sym stands)
        (node-led place text s1 scope depth word on tells)

    pub node-fails-at : is_word text ≡ true → leading_within scope text ≡ None → node scope depth s ≡ Err (unexpected place text s1)
    node-fails-at on tells = subst (λ (v : State). node scope depth v ≡ Err (unexpected place text s1)) (sym stands) (node-fails place text s1 scope depth on tells)

  module _ {W : Type 0} (of : List ℕ → Option W) where
    pub word-fails-at : of text ≡ None → take_word of s ≡ Err (unexpected place text s1)
    word-fails-at tells = subst (λ (v : State). take_word of v ≡ Err (unexpected place text s1)) (sym stands) (rw (taking place text s1 of, tells) refl)

    pub word-taken-at : (word : W) → of text ≡ Some word → take_word of s ≡ Ok ((word, place), s1)
    unfolding take_token
    word-taken-at word tells = subst (λ (v : State). take_word of v ≡ Ok ((word, place), s1)) (sym stands) (rw (taking place text s1 of, tells) refl)

  module _ (operand : Step FormulaForm) (x : FormulaForm) where
    pub joined-word-fails-at : infix_of text ≡ None → unless_next is_name_kind (joined_by operand x) s ≡ Err (unexpected place text s1)
    joined-word-fails-at tells = subst (λ (v : State). unless_next is_name_kind (joined_by operand x) v ≡ Err (unexpected place text s1)) (sym stands) (joined-word-fails place text s1 operand x tells)

    module _ (word : Infix) (tells : infix_of text ≡ Some word) where
      pub joined-operand-fails-at : (bad : Refusal) → operand s1 ≡ Err bad → unless_next is_name_kind (joined_by operand x) s ≡ Err bad
      joined-operand-fails-at bad fails =
          subst (λ (v : State). unless_next is_name_kind (joined_by operand x) v ≡ Err bad) (sym stands)
          (joined-operand-fails place text s1 operand x word tells bad fails)

      pub joined-again-at : (y : FormulaForm) (z : State) → operand s1 ≡ Ok (y, z) → is_name_kind (kind z) ≡ true → unless_next is_name_kind (joined_by operand x) s ≡ Err (refusal Unexpected z.tokens)
      joined-again-at y z reads again =
          subst (λ (v : State). unless_next is_name_kind (joined_by operand x) v ≡ Err (refusal Unexpected z.tokens))
          (sym stands) (joined-again place text s1 operand x word tells y z reads again)

      pub joined-read-at : (y : FormulaForm) (z : State) → operand s1 ≡ Ok (y, z) → is_name_kind (kind z) ≡ false → unless_next is_name_kind (joined_by operand x) s ≡ Ok (infixed word place x y, z)
      joined-read-at y z reads other =
          subst (λ (v : State). unless_next is_name_kind (joined_by operand x) v ≡ Ok (infixed word place x y, z))
          (sym stands) (joined-read place text s1 operand x word tells y z reads other)

-- its text is owned
pub name-owned : (s : State) {s1 : State} {place : Place} {text owned : List ℕ} → expect k.Name s ≡ Ok (token_at place k.Name text, s1) → owned ≡ text
    → name s ≡ Ok (record { place = place; text = owned }, s1)
name-owned s {s1} {place} {text} {owned} taken same = name-read s s1 place text taken ∙ ap (λ (v : List ℕ). Ok (record { place = place; text = v }, s1)) (sym same)
