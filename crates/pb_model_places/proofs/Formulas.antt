-- Where formulas go on in the same state: those are places of tokens.
use Rattle.std.proofs.Common.{◌≡◌, ◌⊎◌, ℕ, zero, suc, Bool, true, false, if◌then◌else◌, List, [], ◌∷◌, ◌++◌, subst, inl, inr, Option}
use Rattle.std.specs.Prelude.{Contains}
use Rattle.pb_text_tree.specs.declared.place.Place.{Place}
use Rattle.pb_text_tree.specs.Form.{TermForm, chained}
use Rattle.pb_text_tree.specs.declared.operator.Connective.TheVariants as connective
use Rattle.pb_text_lexer.specs.declared.kind.Kind.{Kind}
use Rattle.pb_text_lexer.specs.declared.kind.Kind.TheVariants as k
use Rattle.pb_text_lexer.specs.Grammar.{Reads, Is, Nothing, One, First}
use Rattle.pb_text_lexer.specs.Tokens.{Tok}
use Rattle.pb_text_terms.specs.Operators.{connected_by}
use Rattle.pb_text_terms.specs.Grammar.{Placed, Instance, QuantifiedBy, Quantified, Equated, IsUnary, IsTerm}
use Rattle.pb_text_terms.specs.Grammar as terms
use Rattle.pb_fixpoint.specs.declared.Sign.{Sign}
use Rattle.pb_fixpoint.specs.declared.Sign.TheVariants as sign
use Rattle.pb_model_tree.specs.declared.formula.Modality.{Modality}
use Rattle.pb_model_tree.specs.declared.formula.Modality.TheVariants as modality
use Rattle.pb_text_tree.specs.declared.operator.Quantifier.{Quantifier}
use Rattle.pb_text_tree.specs.declared.operator.Quantifier.TheVariants.{Forall, Exists}
use Rattle.pb_protocol_tree.specs.Form.{StepSetForm, FormulaForm}
use Rattle.pb_model_text.specs.declared.word.Prefix.{Prefix}
use Rattle.pb_model_text.specs.declared.word.Prefix.TheVariants as prefix
use Rattle.pb_model_text.specs.declared.word.Leading.{Leading}
use Rattle.pb_model_text.specs.declared.word.Leading.TheVariants as leading
use Rattle.pb_model_text.specs.declared.word.Infix.{Infix}
use Rattle.pb_model_text.specs.declared.word.Infix.TheVariants as between
use Rattle.pb_model_text.specs.Words.{fairly_of, infix_of, no_deadlock, fair, unfair_to, unfair_to_others, prefixed, infixed}
use Rattle.pb_model_text.specs.Grammar.{IsInstance, SetBegun, united_by, Union, IsSet, IsStepSet, FixpointNames, is_bound, atom_of, Beginning, Atom, Modal, Begun, Binding, FixpointBy, Fixpoint, Binder, Connections, Word, leading_within, Wordless, LedBy, Led, Worded, Joined, Others, most_others, IsProcesses, Fair, within, within_fair, IsPlain, IsFair, IsFormula}
use Rattle.pb_model_places.specs.Apart.{formula_places}
use Rattle.pb_model_runs.proofs.Elements.{either_of, first_of, in-left, in-right, in-either}
use Rattle.pb_model_places.proofs.Keeping.{Keeps, Skips, no-place, keeps-nothing, keeps-is, skips-is, keeps-one, keeps-bind, skips-of, skip, skips-one, keeps-first, keeps-either, keeps-chained, keeps-placed, keeps-connected, keeps-extended}
use Rattle.pb_model_places.proofs.Terms.{name_places, instance_at, skips-name, skips-variables, skips-term, keeps-instance, keeps-unary, keeps-equated}

-- ---- sets of steps

abbrev pub no_places : {X : Type 0} → X → List Place
no_places x = []

pub skips-instance : (depth : ℕ) → Skips (IsInstance depth)
skips-instance zero = skips-of (Instance Nothing) instance_at (keeps-instance Nothing (keeps-nothing [] no_places))
skips-instance (suc depth) = skips-of (Instance (IsTerm depth)) instance_at (keeps-instance (IsTerm depth) (skips-term depth))

skips-set-begun : (Set Sets : Reads StepSetForm) (depth : ℕ) → Skips Set → Skips Sets → (kind : Kind) → Skips (SetBegun Set Sets (IsInstance depth) kind)
skips-set-begun Set Sets depth set sets k.True = skip _ _ [] no_places (skips-one k.True) (λ word. skips-is _)
skips-set-begun Set Sets depth set sets k.Name = skip _ _ [] no_places (skips-instance depth) (λ name. skips-is _)
skips-set-begun Set Sets depth set sets k.Not = skip _ _ [] no_places (skips-one k.Not) (λ sign. skip _ _ [] no_places set (λ operand. skips-is _))
skips-set-begun Set Sets depth set sets k.Open =
    skip _ _ [] no_places (skips-one k.Open) (λ open_bracket. skip _ _ [] no_places sets (λ inner. skip _ _ [] no_places (skips-one k.Close) (λ close_bracket. skips-is inner)))
skips-set-begun Set Sets depth set sets _ = keeps-nothing [] no_places

skips-union : (Set : Reads StepSetForm) → Skips Set → Skips (Union Set)
skips-union Set set = keeps-chained k.Or united_by Set Set no_places (λ x t y p e. e) set set

mutual
  skips-set : (depth : ℕ) → Skips (IsSet depth)
  skips-set zero = keeps-first [] no_places (SetBegun Nothing Nothing (IsInstance zero)) (skips-set-begun Nothing Nothing zero (keeps-nothing [] no_places) (keeps-nothing [] no_places))
  skips-set (suc depth) =
      keeps-first [] no_places (SetBegun (IsSet depth) (IsStepSet depth) (IsInstance (suc depth)))
      (skips-set-begun (IsSet depth) (IsStepSet depth) (suc depth) (skips-set depth) (skips-step-set depth))

  skips-step-set : (depth : ℕ) → Skips (IsStepSet depth)
  skips-step-set zero =
      skips-union (First (SetBegun Nothing Nothing (IsInstance zero)))
      (keeps-first [] no_places (SetBegun Nothing Nothing (IsInstance zero)) (skips-set-begun Nothing Nothing zero (keeps-nothing [] no_places) (keeps-nothing [] no_places)))
  skips-step-set (suc depth) =
      skips-union (First (SetBegun (IsSet depth) (IsStepSet depth) (IsInstance (suc depth))))
      (keeps-first [] no_places (SetBegun (IsSet depth) (IsStepSet depth) (IsInstance (suc depth)))
      (skips-set-begun (IsSet depth) (IsStepSet depth) (suc depth) (skips-set depth) (skips-step-set depth)))

-- ---- formulas

atom-places : (scope : FixpointNames) (q : Place) (x : TermForm) (p : Place) → Contains (formula_places (atom_of scope q x)) p → Contains (name_places x ++ []) p
atom-places scope q (TermForm.name x) p e = by (is_bound scope x.text) e
  where
    by : (b : Bool) → Contains (formula_places (if b then FormulaForm.variable x else FormulaForm.«data» q (TermForm.name x))) p → Contains (x.place ∷ []) p
    by true e = e
    by false e = no-place p e
atom-places scope q x p e = no-place p e

keeps-beginning : (kind : Kind) (R : Reads FormulaForm) → Keeps [] formula_places R → Keeps [] formula_places (Beginning kind R)
keeps-beginning kind R r s y z h = r s y z h.1

module _ (scope : FixpointNames) (Node Formula : Reads FormulaForm) (Unary : Reads TermForm) (Sets : Reads StepSetForm)
    (node : Keeps [] formula_places Node) (formula : Keeps [] formula_places Formula) (unary : Keeps [] name_places Unary) (sets : Skips Sets) where
  keeps-modal : (modality : Modality) (close : Kind) (t : Tok) → Keeps [] formula_places (Modal modality close Node Sets t)
  keeps-modal modality close t =
      skip _ _ [] formula_places sets (λ steps. skip _ _ [] formula_places (skips-one close) (λ close_bracket.
      keeps-bind Node _ [] formula_places formula_places node (λ f. keeps-is _ formula_places _ (λ p e. in-left (formula_places f) [] p e))))

  keeps-data : Keeps [] formula_places (Atom FormulaForm.«data» Unary)
  keeps-data = skip _ _ [] formula_places (keeps-placed no_places (Equated Unary) (skips-of (Equated Unary) name_places (keeps-equated Unary unary))) (λ found. keeps-is [] formula_places _ (λ p e. e))

  keeps-begun : (kind : Kind) → Keeps [] formula_places (Begun scope Node Formula Unary Sets kind)
  keeps-begun k.Not =
      skip _ _ [] formula_places (skips-one k.Not) (λ sign. keeps-bind Node _ [] formula_places formula_places node (λ f. keeps-is _ formula_places _ (λ p e. in-left (formula_places f) [] p e)))
  keeps-begun k.Open =
      skip _ _ [] formula_places (skips-one k.Open) (λ open_bracket. keeps-bind Formula _ [] formula_places formula_places formula (λ f.
      skip _ _ (formula_places f ++ []) formula_places (skips-one k.Close) (λ close_bracket. keeps-is _ formula_places f (λ p e. in-left (formula_places f) [] p e))))
  keeps-begun k.OpenSquare = skip _ _ [] formula_places (skips-one k.OpenSquare) (λ t. keeps-modal modality.Box k.CloseSquare t)
  keeps-begun k.Less = skip _ _ [] formula_places (skips-one k.Less) (λ t. keeps-modal modality.Diamond k.Greater t)
  keeps-begun k.True = skip _ _ [] formula_places (skips-one k.True) (λ word. keeps-is [] formula_places _ (λ p e. e))
  keeps-begun k.False = skip _ _ [] formula_places (skips-one k.False) (λ word. keeps-is [] formula_places _ (λ p e. e))
  keeps-begun k.Val =
      skip _ _ [] formula_places (skips-one k.Val) (λ word. skip _ _ [] formula_places (skips-of Unary name_places unary) (λ x. keeps-is [] formula_places _ (λ p e. e)))
  keeps-begun k.Name =
      keeps-beginning k.Name (Atom (atom_of scope) Unary)
      (keeps-bind (Placed (Equated Unary)) (λ found. Is (atom_of scope found.0 found.1)) [] (λ (found : Place × TermForm). name_places found.1) formula_places
      (keeps-placed name_places (Equated Unary) (keeps-equated Unary unary)) (λ found. keeps-is _ formula_places _ (λ p e. atom-places scope found.0 found.1 p e)))
  keeps-begun k.Number = keeps-beginning k.Number (Atom FormulaForm.«data» Unary) keeps-data
  keeps-begun k.Minus = keeps-beginning k.Minus (Atom FormulaForm.«data» Unary) keeps-data
  keeps-begun _ = keeps-nothing [] formula_places

module _ (Body : List ℕ → Reads FormulaForm) (body : (x : List ℕ) → Keeps [] formula_places (Body x)) where
  keeps-binding : (sign : Sign) (q : Place) → Keeps (q ∷ []) formula_places (Binding sign q Body)
  keeps-binding sign q =
      skip _ _ (q ∷ []) formula_places skips-name (λ name. skip _ _ (q ∷ []) formula_places (skips-one k.Period) (λ period.
      keeps-bind (Body name.text) _ (q ∷ []) formula_places formula_places (body name.text) (λ f. keeps-is _ formula_places _ (λ p e. elim (either_of q (formula_places f) p e) [
        | inl same ↦ in-right (formula_places f) (q ∷ []) p (subst (λ r. Contains (q ∷ []) r) same (first_of q []))
        | inr later ↦ in-left (formula_places f) (q ∷ []) p later
      ]))))

  keeps-fixpoint-by : (kind : Kind) → Keeps [] formula_places (FixpointBy Body kind)
  keeps-fixpoint-by k.Mu = keeps-bind (One k.Mu) _ [] (λ (t : Tok). t.place ∷ []) formula_places (keeps-one k.Mu) (λ word. keeps-binding sign.Mu word.place)
  keeps-fixpoint-by k.Nu = keeps-bind (One k.Nu) _ [] (λ (t : Tok). t.place ∷ []) formula_places (keeps-one k.Nu) (λ word. keeps-binding sign.Nu word.place)
  keeps-fixpoint-by _ = keeps-nothing [] formula_places

module _ (Formula : Reads FormulaForm) (formula : Keeps [] formula_places Formula) where
  keeps-quantifier : (q : Quantifier) (at : Place) → Keeps [] formula_places (terms.Binding (FormulaForm.quantified q at) Formula)
  keeps-quantifier q at =
      skip _ _ [] formula_places skips-variables (λ variables. skip _ _ [] formula_places (skips-one k.Period) (λ period.
      keeps-bind Formula _ [] formula_places formula_places formula (λ f. keeps-is _ formula_places _ (λ p e. in-left (formula_places f) [] p e))))

  keeps-quantified-by : (kind : Kind) → Keeps [] formula_places (QuantifiedBy FormulaForm.quantified Formula kind)
  keeps-quantified-by k.Forall = skip _ _ [] formula_places (skips-one k.Forall) (λ word. keeps-quantifier Forall word.place)
  keeps-quantified-by k.Exists = skip _ _ [] formula_places (skips-one k.Exists) (λ word. keeps-quantifier Exists word.place)
  keeps-quantified-by _ = keeps-nothing [] formula_places

keeps-binder : (Body : List ℕ → Reads FormulaForm) (Formula : Reads FormulaForm)
    → ((x : List ℕ) → Keeps [] formula_places (Body x)) → Keeps [] formula_places Formula → Keeps [] formula_places (Binder Body Formula)
keeps-binder Body Formula body formula =
    keeps-either [] formula_places (Fixpoint Body) (Quantified FormulaForm.quantified Formula)
    (keeps-first [] formula_places (FixpointBy Body) (keeps-fixpoint-by Body body)) (keeps-first [] formula_places (QuantifiedBy FormulaForm.quantified Formula) (keeps-quantified-by Formula formula))

keeps-connections : (Node Bound : Reads FormulaForm) → Keeps [] formula_places Node → Keeps [] formula_places Bound → Keeps [] formula_places (Connections Node Bound)
keeps-connections Node Bound node bound = keeps-connected (connected_by FormulaForm.connected) Node Bound formula_places (λ kind x t y p e. e) node bound

-- ---- words

pub keeps-word : {W : Type 0} (of : List ℕ → Option W) → Keeps [] (λ (word : W × Place). word.1 ∷ []) (Word of)
keeps-word of s word z h =
    let a = keeps-one k.Name s h.0 z h.1 in
    record { front = a.front; tokens = a.tokens; among = λ p e. a.among p (subst (λ q. Contains (q ∷ []) p) h.3 e) }

-- places that are a word's, again and again, or an operand's
within-word : (q : Place) (f : FormulaForm) (p : Place) → Contains (q ∷ formula_places f ++ q ∷ []) p → Contains (formula_places f ++ q ∷ []) p
within-word q f p e = elim (either_of q (formula_places f ++ q ∷ []) p e) [
  | inl same ↦ in-right (formula_places f) (q ∷ []) p (subst (λ r. Contains (q ∷ []) r) same (first_of q []))
  | inr later ↦ later
]

prefixed-places : (word : Prefix) (q : Place) (f : FormulaForm) (p : Place) → Contains (formula_places (prefixed word q f)) p → Contains (formula_places f ++ q ∷ []) p
prefixed-places prefix.Always q f p e = within-word q f p e
prefixed-places prefix.Possibly q f p e = within-word q f p e
prefixed-places prefix.Inevitably q f p e = within-word q f p e

no-deadlock-places : (q p : Place) → Contains (formula_places (no_deadlock q)) p → Contains (q ∷ []) p
no-deadlock-places q p e = elim (either_of q (q ∷ []) p e) [
  | inl same ↦ subst (λ r. Contains (q ∷ []) r) same (first_of q [])
  | inr later ↦ later
]

-- among the places of two operands and that of the word
among-three : (q : Place) (f g : FormulaForm) (p : Place) → ((q ≡ p) ⊎ Contains (formula_places f) p ⊎ Contains (formula_places g) p) → Contains (formula_places g ++ (formula_places f ++ (q ∷ []))) p
among-three q f g p (inl same) = in-right (formula_places g) (formula_places f ++ q ∷ []) p (in-right (formula_places f) (q ∷ []) p (subst (λ r. Contains (q ∷ []) r) same (first_of q [])))
among-three q f g p (inr (inl e)) = in-right (formula_places g) (formula_places f ++ q ∷ []) p (in-left (formula_places f) (q ∷ []) p e)
among-three q f g p (inr (inr e)) = in-left (formula_places g) (formula_places f ++ q ∷ []) p e

abbrev OneOf : Place → FormulaForm → FormulaForm → Place → Type 0
OneOf q f g p = (q ≡ p) ⊎ Contains (formula_places f) p ⊎ Contains (formula_places g) p

alone : (q : Place) (f g : FormulaForm) (p : Place) → Contains (q ∷ []) p → OneOf q f g p
alone q f g p e = elim (either_of q [] p e) [ inl same ↦ inl same | inr none ↦ no-place p none ]

infixed-places : (word : Infix) (q : Place) (f g : FormulaForm) (p : Place) → Contains (formula_places (infixed word q f g)) p → Contains (formula_places g ++ (formula_places f ++ (q ∷ []))) p
infixed-places between.Until q f g p e = among-three q f g p (elim (either_of q (formula_places g ++ (formula_places f ++ (q ∷ []))) p e) [
  | inl same ↦ inl same
  | inr later ↦ elim (in-either (formula_places g) (formula_places f ++ q ∷ []) p later) [
    | inl second ↦ inr (inr second)
    | inr rest ↦ elim (in-either (formula_places f) (q ∷ []) p rest) [
      | inl first ↦ inr (inl first)
      | inr word ↦ alone q f g p word
    ]
  ]
])
infixed-places between.LeadsTo q f g p e = among-three q f g p (elim (either_of q (q ∷ (formula_places f ++ (q ∷ (formula_places g ++ (q ∷ []))))) p e) [
  | inl same ↦ inl same
  | inr later ↦ elim (either_of q (formula_places f ++ (q ∷ (formula_places g ++ (q ∷ [])))) p later) [
    | inl same ↦ inl same
    | inr rest ↦ elim (in-either (formula_places f) (q ∷ (formula_places g ++ (q ∷ []))) p rest) [
      | inl first ↦ inr (inl first)
      | inr answer ↦ elim (either_of q (formula_places g ++ q ∷ []) p answer) [
        | inl same ↦ inl same
        | inr last ↦ elim (in-either (formula_places g) (q ∷ []) p last) [
          | inl second ↦ inr (inr second)
          | inr word ↦ alone q f g p word
        ]
      ]
    ]
  ]
])

-- of `fair`: the place of the word, or a place of its operand
module _ (q : Place) (f : FormulaForm) (p : Place) where
  abbrev OfFair : Type 0
  OfFair = (q ≡ p) ⊎ Contains (formula_places f) p

  of-word : Contains (q ∷ q ∷ q ∷ []) p → q ≡ p
  of-word e = elim (either_of q (q ∷ q ∷ []) p e) [
    | inl same ↦ same
    | inr two ↦ elim (either_of q (q ∷ []) p two) [
      | inl same ↦ same
      | inr one ↦ elim (either_of q [] p one) [ inl same ↦ same | inr none ↦ no-place p none ]
    ]
  ]

  of-set : (A : StepSetForm) → Contains (formula_places (unfair_to q f A)) p → OfFair
  of-set A e = elim (either_of q (formula_places f ++ q ∷ q ∷ q ∷ []) p e) [
    | inl same ↦ inl same
    | inr later ↦ elim (in-either (formula_places f) (q ∷ q ∷ q ∷ []) p later) [ inl first ↦ inr first | inr rest ↦ inl (of-word rest) ]
  ]

  of-sets : (A : StepSetForm) (others : List StepSetForm)
      → Contains (formula_places (chained (FormulaForm.connected connective.Or) (unfair_to q f A) (unfair_to_others q f others))) p → OfFair
  of-sets A [] e = of-set A e
  of-sets A (B ∷ others) e =
      elim (in-either (formula_places (unfair_to q f A)) (formula_places (chained (FormulaForm.connected connective.Or) (unfair_to q f B) (unfair_to_others q f others))) p e) [
        | inl first ↦ of-set A first
        | inr rest ↦ of-sets B others rest
      ]

  fair-places : (A : StepSetForm) (others : List StepSetForm) → Contains (formula_places (fair q A others f)) p → Contains (formula_places f ++ q ∷ []) p
  fair-places A others e = among (elim (either_of q (formula_places (chained (FormulaForm.connected connective.Or) (unfair_to q f A) (unfair_to_others q f others))) p e) [
    | inl same ↦ inl same
    | inr later ↦ of-sets A others later
  ])
    where
      among : OfFair → Contains (formula_places f ++ q ∷ []) p
      among (inl same) = in-right (formula_places f) (q ∷ []) p (subst (λ r. Contains (q ∷ []) r) same (first_of q []))
      among (inr first) = in-left (formula_places f) (q ∷ []) p first

-- the sets of `fair` have none

skips-others : (more : ℕ) (Set : Reads StepSetForm) → Skips Set → Skips (Others more Set)
skips-others zero Set set = skips-is []
skips-others (suc more) Set set =
    keeps-extended [] no_places (Is []) _ (skips-is [])
    (skip _ _ [] no_places (skips-is []) (λ none. skip _ _ [] no_places (skips-one k.Comma) (λ comma. skip _ _ [] no_places set (λ first.
    skip _ _ [] no_places (skips-others more Set set) (λ others. skips-is _)))))

skips-processes : (depth : ℕ) → Skips (IsProcesses depth)
skips-processes zero = keeps-nothing [] no_places
skips-processes (suc depth) =
    skip _ _ [] no_places (skips-one k.Open) (λ open_bracket. skip _ _ [] no_places (skips-step-set depth) (λ first.
    skip _ _ [] no_places (skips-others most_others (IsStepSet depth) (skips-step-set depth)) (λ others. skip _ _ [] no_places (skips-one k.Close) (λ close_bracket.
    skip _ _ [] no_places (skips-of (Word fairly_of) (λ word. word.1 ∷ []) (keeps-word fairly_of)) (λ word. skips-is _)))))

keeps-fair : (Sets : Reads (StepSetForm × List StepSetForm)) (Operand : Reads FormulaForm) → Skips Sets
    → Keeps [] formula_places Operand → (q : Place) → Keeps (q ∷ []) formula_places (Fair Sets Operand q)
keeps-fair Sets Operand sets operand q =
    skip _ _ (q ∷ []) formula_places sets (λ found. keeps-bind Operand _ (q ∷ []) formula_places formula_places operand (λ f.
    keeps-is (formula_places f ++ q ∷ []) formula_places (fair q found.0 found.1 f) (λ p e. fair-places q f p found.0 found.1 e)))

keeps-wordless : (R : Reads FormulaForm) → Keeps [] formula_places R → Keeps [] formula_places (Wordless R)
keeps-wordless R r s y z h = r s y z h.1

module _ (scope : FixpointNames) (Behind : Place → Reads FormulaForm) (behind : (q : Place) → Keeps (q ∷ []) formula_places (Behind q)) where
  keeps-led-by : (Operand : Reads FormulaForm) → Keeps [] formula_places Operand → (word : Leading) (q : Place) → Keeps (q ∷ []) formula_places (LedBy Behind Operand word q)
  keeps-led-by Operand operand leading.NoDeadlock q = keeps-is (q ∷ []) formula_places (no_deadlock q) (no-deadlock-places q)
  keeps-led-by Operand operand leading.Fair q = behind q
  keeps-led-by Operand operand (leading.Before word) q =
      keeps-bind Operand _ (q ∷ []) formula_places formula_places operand (λ f. keeps-is (formula_places f ++ q ∷ []) formula_places (prefixed word q f) (prefixed-places word q f))

  keeps-worded : (Plain : Reads FormulaForm) → Keeps [] formula_places Plain → Keeps [] formula_places (Worded scope Behind Plain)
  keeps-worded Plain plain =
      keeps-either [] formula_places (Wordless Plain) (Led scope Behind (Wordless Plain)) (keeps-wordless Plain plain)
      (keeps-bind (Word (leading_within scope)) _ [] (λ (word : Leading × Place). word.1 ∷ []) formula_places (keeps-word (leading_within scope))
      (λ word. keeps-led-by (Wordless Plain) (keeps-wordless Plain plain) word.0 word.1))

keeps-joined : (Node : Reads FormulaForm) → Keeps [] formula_places Node → Keeps [] formula_places (Joined Node)
keeps-joined Node node =
    keeps-extended [] formula_places Node _ node
    (keeps-bind Node _ [] formula_places formula_places node (λ f.
    keeps-bind (Word infix_of) _ (formula_places f ++ []) (λ (word : Infix × Place). word.1 ∷ []) formula_places (keeps-word infix_of) (λ word.
    keeps-bind Node _ (word.1 ∷ (formula_places f ++ [])) formula_places formula_places node (λ g.
    keeps-is (formula_places g ++ (word.1 ∷ (formula_places f ++ []))) formula_places (infixed word.0 word.1 f g) (λ p e.
    reordered word.1 f g p (infixed-places word.0 word.1 f g p e))))))
  where
    reordered : (q : Place) (f g : FormulaForm) (p : Place) → Contains (formula_places g ++ (formula_places f ++ (q ∷ []))) p → Contains (formula_places g ++ (q ∷ (formula_places f ++ []))) p
    reordered q f g p e = elim (in-either (formula_places g) (formula_places f ++ q ∷ []) p e) [
      | inl second ↦ in-left (formula_places g) (q ∷ (formula_places f ++ [])) p second
      | inr rest ↦ in-right (formula_places g) (q ∷ (formula_places f ++ [])) p (elim (in-either (formula_places f) (q ∷ []) p rest) [
        | inl first ↦ in-right (q ∷ []) (formula_places f ++ []) p (in-left (formula_places f) [] p first)
        | inr word ↦ in-left (q ∷ []) (formula_places f ++ []) p word
      ])
    ]

mutual
  keeps-plain : (scope : FixpointNames) (depth : ℕ) → Keeps [] formula_places (IsPlain scope depth)
  keeps-plain scope zero =
      keeps-first [] formula_places _
      (keeps-begun scope Nothing Nothing (IsUnary zero) Nothing (keeps-nothing [] formula_places) (keeps-nothing [] formula_places) (keeps-unary zero) (keeps-nothing [] no_places))
  keeps-plain scope (suc depth) =
      keeps-first [] formula_places _
      (keeps-begun scope (Worded scope (IsFair scope depth) (IsPlain scope depth)) (IsFormula scope depth) (IsUnary (suc depth)) (IsStepSet depth)
      (keeps-worded scope (IsFair scope depth) (keeps-behind-fair scope depth) (IsPlain scope depth)
      (keeps-plain scope depth)) (keeps-formula scope depth) (keeps-unary (suc depth)) (skips-step-set depth))

  keeps-behind-fair : (scope : FixpointNames) (depth : ℕ) (q : Place) → Keeps (q ∷ []) formula_places (IsFair scope depth q)
  keeps-behind-fair scope zero q = keeps-nothing (q ∷ []) formula_places
  keeps-behind-fair scope (suc depth) q =
      keeps-fair (IsProcesses (suc depth)) (Wordless (IsPlain (within_fair scope) depth)) (skips-processes (suc depth))
      (keeps-wordless (IsPlain (within_fair scope) depth) (keeps-plain (within_fair scope) depth)) q

  pub keeps-formula : (scope : FixpointNames) (depth : ℕ) → Keeps [] formula_places (IsFormula scope depth)
  keeps-formula scope zero =
      keeps-connections _ _
      (keeps-joined _ (keeps-worded scope (λ q. Nothing) (λ q. keeps-nothing (q ∷ []) formula_places) _ (keeps-first [] formula_places _
      (keeps-begun scope Nothing Nothing (IsUnary zero) Nothing (keeps-nothing [] formula_places) (keeps-nothing [] formula_places) (keeps-unary zero) (keeps-nothing [] no_places)))))
      (keeps-binder (λ name. Nothing) Nothing (λ name. keeps-nothing [] formula_places) (keeps-nothing [] formula_places))
  keeps-formula scope (suc depth) =
      keeps-connections _ _
      (keeps-joined _ (keeps-worded scope (Fair (IsProcesses (suc depth)) (Wordless (IsPlain (within_fair scope) depth)))
      (keeps-fair (IsProcesses (suc depth)) (Wordless (IsPlain (within_fair scope) depth)) (skips-processes (suc depth))
      (keeps-wordless (IsPlain (within_fair scope) depth) (keeps-plain (within_fair scope) depth))) _ (keeps-first [] formula_places _
      (keeps-begun scope (Worded scope (IsFair scope depth) (IsPlain scope depth)) (IsFormula scope depth) (IsUnary (suc depth)) (IsStepSet depth)
      (keeps-worded scope (IsFair scope depth) (keeps-behind-fair scope depth) (IsPlain scope depth)
      (keeps-plain scope depth)) (keeps-formula scope depth) (keeps-unary (suc depth)) (skips-step-set depth)))))
      (keeps-binder (λ name. IsFormula (within scope name) depth) (IsFormula scope depth) (λ name. keeps-formula (within scope name) depth) (keeps-formula scope depth))
