-- A protocol that was read has words.
use Rattle.std.proofs.Common.{◌≡◌, ℕ, zero, suc, Bool, true, false, List, [], ◌∷◌, map, flat_map, Option, Some, refl, sym, subst, inl}
use Rattle.std.specs.Prelude.{codes, if◌then◌else◌}
use Rattle.pb_text_lexer.specs.Bytes.{word_kind}
use Rattle.pb_text_lexer.specs.Kinds.{same_kind}
use Rattle.std.specs.List.{slice_get}
use Rattle.pb_text_tree.specs.declared.place.Place.{Place}
use Rattle.pb_text_tree.specs.declared.operator.Quantifier.{Quantifier}
use Rattle.pb_text_tree.specs.declared.operator.Quantifier.TheVariants.{Forall, Exists}
use Rattle.pb_text_tree.specs.Form.{Named, RangeForm, TermForm, ArgumentForms, InstanceForm, VariableForm, chained}
use Rattle.pb_text_tree.specs.declared.operator.Connective.TheVariants as connective
use Rattle.pb_fixpoint.specs.declared.Sign.{Sign}
use Rattle.pb_fixpoint.specs.declared.Sign.TheVariants as sign
use Rattle.pb_text_lexer.specs.declared.kind.Kind.{Kind}
use Rattle.pb_text_lexer.specs.declared.kind.Kind.TheVariants as k
use Rattle.pb_text_lexer.specs.Grammar.{State, Reads, Is, Nothing, One, First, last, more}
use Rattle.pb_text_lexer.specs.LeftGrammar.{Extended, Listed}
use Rattle.pb_text_lexer.specs.OpenGrammar.{Chained, last as last_operand, Either, Conjunction, Disjunction}
use Rattle.pb_text_lexer.specs.Tokens.{Tok}
use Rattle.pb_text_terms.specs.Operators.{connected_by}
use Rattle.pb_text_terms.specs.Grammar.{Placed, arguments_of, Arguments, Instance, Variables, QuantifiedBy, Quantified, IsUnary, IsTerm, Equated}
use Rattle.pb_text_terms.specs.Grammar as terms
use Rattle.pb_text.specs.Grammar.{Declared}
use Rattle.pb_text.specs.Parsing.{depth_limit}
use Rattle.pb_text_meaning.specs.Erase.{erased_term, erased_arguments, erased_variables, erased_declaration}
use Rattle.pb_text_printer.specs.Sayable.{Each, EachOf, operators, AreVariables, IsSayable, RangeSayable}
use Rattle.pb_text_printer.proofs.SaidLemmas.{each-of}
use Rattle.pb_model_tree.specs.declared.formula.Modality.{Modality}
use Rattle.pb_model_tree.specs.declared.formula.Modality.TheVariants as modality
use Rattle.pb_model_tree.specs.Form.{InitialForm}
use Rattle.pb_protocol_tree.specs.Form.{ConstantForm, CopiesForm, ModelTextForm, StepSetForm, FormulaForm, StateVariableForm, DefinitionForm, AssignmentForm, StepForm, PropertyForm, ProtocolForm}
use Rattle.pb_protocol_meaning.specs.Erase.{erased_formula, erased_state_variable, erased_definition, erased_assignment, erased_step, erased_property, erase}
use Rattle.pb_model_text.specs.declared.word.Prefix.{Prefix}
use Rattle.pb_model_text.specs.declared.word.Prefix.TheVariants as prefix
use Rattle.pb_model_text.specs.declared.word.Leading.{Leading}
use Rattle.pb_model_text.specs.declared.word.Leading.TheVariants as leading
use Rattle.pb_model_text.specs.declared.word.Infix.{Infix}
use Rattle.pb_model_text.specs.declared.word.Infix.TheVariants as between
use Rattle.pb_model_text.specs.Words.{fairly_of, infix_of, fair, unfair_to, unfair_to_others, prefixed, infixed}
use Rattle.pb_model_text.specs.Grammar.{IsInstance, SetBegun, united_by, IsSet, IsStepSet, atom_of, FixpointNames, is_bound, Beginning, Atom, Modal, Begun, Binding, FixpointBy, Fixpoint, Binder, Connections, Word, leading_within, Wordless, LedBy, Led, Worded, Joined, Others, most_others, IsProcesses, Fair, within, within_fair, IsPlain, IsFair, IsFormula}
use Rattle.pb_model_text.specs.Models.{const_of, IsConstant, ConstantPart, Constants, DeclaredSort, declaration_in, bounds_in, IsAssigned, IsCopies, AssignmentBy, SomeAssigned}
use Rattle.pb_model_text.specs.Models.{Indexed, of_sort, StateGroup, StateVariables, IsDefinition, DefinedBy, Definitions, IsAssignment, AssignedBy, Assigned, IsStep, Steps, IsInitialState, IsProperty, Properties, IsModel}
use Rattle.pb_model_spelling.specs.Writable.{IsWord, VariableWritable, DeclarationWritable}
use Rattle.pb_model_spelling.specs.Protocols.{ConstantWritable, BoundsWritable, ModelTextWritable, AllDataWritable, FormulaWritable, PropertyWritable, StateVariableWritable, DefinitionWritable, AssignmentWritable, StepWritable, ProtocolWritable}
use Rattle.pb_model_spelling.specs.Laws.{ReadModelsAreWritable, ReadModelsHaveProperties}
use Rattle.pb_model_spelling.proofs.Gives.{AreLexical, Gives, Any, gives_as, gives_is, gives_nothing, gives_then, gives_one, gives_behind, gives_name, gives_first, gives_listed, gives_own, gives_either, gives_extended, gives_placed, gives_chained, gives_beginning}
use Rattle.pb_model_spelling.proofs.DataWords.{HasData, term_given, unary_given, equated_given, variables_given, arguments_writable, InstanceHasWords, instance_over}
use Rattle.pb_model_spelling.proofs.OfSayable.{ranges_writable}
use Rattle.pb_model_spelling.proofs.Ranges.{ranges_of_models_are_said}
use Rattle.pb_model_spelling.proofs.SortWords.{SortHasWords, each_kept, each_kept-append, each_more, sorts_given}
use Rattle.pb_model_spelling.proofs.Tokens.{tokens_of_models_are_lexical}

abbrev HasWords : FormulaForm → Type 0
HasWords f = FormulaWritable (erased_formula f)

-- ---- instances

instance_given : (depth : ℕ) → Gives InstanceHasWords (IsInstance depth)
instance_given zero = instance_over Nothing (gives_nothing HasData)
instance_given (suc depth) = instance_over (IsTerm depth) (term_given depth)

-- ---- sets of steps

instance_skipped : (depth : ℕ) → Gives Any (IsInstance depth)
instance_skipped depth = gives_as InstanceHasWords Any (IsInstance depth) (λ i h. tt) (instance_given depth)

set_begun : (Set Sets : Reads StepSetForm) (depth : ℕ) → Gives Any Set → Gives Any Sets → (kind : Kind) → Gives Any (SetBegun Set Sets (IsInstance depth) kind)
set_begun Set Sets depth set sets k.True = gives_behind k.True Any _ (λ w. gives_is Any _ tt)
set_begun Set Sets depth set sets k.Name = gives_then Any Any _ _ (instance_skipped depth) (λ n u. gives_is Any _ tt)
set_begun Set Sets depth set sets k.Not = gives_behind k.Not Any _ (λ s. gives_then Any Any _ _ set (λ x u. gives_is Any _ tt))
set_begun Set Sets depth set sets k.Open = gives_behind k.Open Any _ (λ o. gives_then Any Any _ _ sets (λ x u. gives_behind k.Close Any _ (λ c. gives_is Any _ tt)))
set_begun Set Sets depth set sets _ = gives_nothing Any

first_set : (Set Sets : Reads StepSetForm) (depth : ℕ) → Gives Any Set → Gives Any Sets → Gives Any (First (SetBegun Set Sets (IsInstance depth)))
first_set Set Sets depth set sets = gives_first Any (SetBegun Set Sets (IsInstance depth)) (set_begun Set Sets depth set sets)

union_given : (Set : Reads StepSetForm) → Gives Any Set → Gives Any (Chained k.Or united_by Set Set)
union_given Set set = gives_chained Any k.Or united_by Set Set (λ x t y u v. tt) set set

mutual
  set_given : (depth : ℕ) → Gives Any (IsSet depth)
  set_given zero = first_set Nothing Nothing zero (gives_nothing Any) (gives_nothing Any)
  set_given (suc depth) = first_set (IsSet depth) (IsStepSet depth) (suc depth) (set_given depth) (steps_given depth)

  steps_given : (depth : ℕ) → Gives Any (IsStepSet depth)
  steps_given zero = union_given (First (SetBegun Nothing Nothing (IsInstance zero))) (first_set Nothing Nothing zero (gives_nothing Any) (gives_nothing Any))
  steps_given (suc depth) =
      union_given (First (SetBegun (IsSet depth) (IsStepSet depth) (IsInstance (suc depth)))) (first_set (IsSet depth) (IsStepSet depth) (suc depth) (set_given depth) (steps_given depth))

atom_given : (made : Place → TermForm → FormulaForm) (Unary : Reads TermForm) → ((p : Place) (x : TermForm) → HasData x → HasWords (made p x)) → Gives HasData (Equated Unary)
    → Gives HasWords (Atom made Unary)
atom_given made Unary words equated =
    gives_then _ HasWords _ _ (gives_placed HasData (Equated Unary) equated) (λ found h. gives_is HasWords _ (words found.0 found.1 h))

variable_or_data : (b : Bool) (f g : FormulaForm) → HasWords f → HasWords g → HasWords (if b then f else g)
variable_or_data true f g h i = h
variable_or_data false f g h i = i

atom_words : (scope : FixpointNames) (p : Place) (x : TermForm) → HasData x → HasWords (atom_of scope p x)
atom_words scope p (TermForm.name n) h = variable_or_data (is_bound scope n.text) (FormulaForm.variable n) (FormulaForm.«data» p (TermForm.name n)) tt h
atom_words scope p (TermForm.constant q b) h = h
atom_words scope p (TermForm.number q n) h = h
atom_words scope p (TermForm.not q x) h = h
atom_words scope p (TermForm.negative q x) h = h
atom_words scope p (TermForm.connected c q x y) h = h
atom_words scope p (TermForm.compared c q x y) h = h
atom_words scope p (TermForm.computed o q x y) h = h
atom_words scope p (TermForm.application f xs) h = h
atom_words scope p (TermForm.quantified q r vars x) h = h

-- ---- formulas

modal_words : (kind : Modality) (p : Place) (A : StepSetForm) (f : FormulaForm) → HasWords f → HasWords (FormulaForm.modal kind p A f)
modal_words modality.Box p A f h = h
modal_words modality.Diamond p A f h = h

modal_given : (kind : Modality) (close : Kind) (Node : Reads FormulaForm) (Sets : Reads StepSetForm) (t : Tok) → Gives HasWords Node → Gives Any Sets → Gives HasWords (Modal kind close Node Sets t)
modal_given kind close Node Sets t node sets =
    gives_then Any HasWords _ _ sets (λ A u. gives_behind close HasWords _ (λ c. gives_then HasWords HasWords _ _ node (λ f h. gives_is HasWords _ (modal_words kind t.place A f h))))

module _ (scope : FixpointNames) (Node Formula : Reads FormulaForm) (Unary : Reads TermForm) (Sets : Reads StepSetForm)
    (node : Gives HasWords Node) (formula : Gives HasWords Formula) (unary : Gives HasData Unary) (equated : Gives HasData (Equated Unary)) (sets : Gives Any Sets) where
  begun_given : (kind : Kind) → Gives HasWords (Begun scope Node Formula Unary Sets kind)
  begun_given k.Not = gives_behind k.Not HasWords _ (λ s. gives_then HasWords HasWords _ _ node (λ f h. gives_is HasWords _ h))
  begun_given k.Open = gives_behind k.Open HasWords _ (λ o. gives_then HasWords HasWords _ _ formula (λ f h. gives_behind k.Close HasWords _ (λ c. gives_is HasWords _ h)))
  begun_given k.OpenSquare = gives_behind k.OpenSquare HasWords _ (λ o. modal_given modality.Box k.CloseSquare Node Sets o node sets)
  begun_given k.Less = gives_behind k.Less HasWords _ (λ o. modal_given modality.Diamond k.Greater Node Sets o node sets)
  begun_given k.True = gives_behind k.True HasWords _ (λ w. gives_is HasWords _ tt)
  begun_given k.False = gives_behind k.False HasWords _ (λ w. gives_is HasWords _ tt)
  begun_given k.Val = gives_behind k.Val HasWords _ (λ w. gives_then HasData HasWords _ _ unary (λ x h. gives_is HasWords _ h))
  begun_given k.Name = gives_beginning k.Name HasWords _ (atom_given (atom_of scope) Unary (atom_words scope) equated)
  begun_given k.Number = gives_beginning k.Number HasWords _ (atom_given FormulaForm.«data» Unary (λ p x h. h) equated)
  begun_given k.Minus = gives_beginning k.Minus HasWords _ (atom_given FormulaForm.«data» Unary (λ p x h. h) equated)
  begun_given _ = gives_nothing HasWords

  first_formula : Gives HasWords (First (Begun scope Node Formula Unary Sets))
  first_formula = gives_first HasWords (Begun scope Node Formula Unary Sets) begun_given

binding_given : (s : Sign) (p : Place) (Body : List ℕ → Reads FormulaForm) → ((name : List ℕ) → Gives HasWords (Body name)) → Gives HasWords (Binding s p Body)
binding_given s p Body body =
    gives_then _ HasWords _ _ gives_name (λ n h. gives_behind k.Period HasWords _ (λ d. gives_then HasWords HasWords _ _ (body n.text) (λ f g. gives_is HasWords _ (h, g))))

fixpoint_by : (Body : List ℕ → Reads FormulaForm) → ((name : List ℕ) → Gives HasWords (Body name)) → (kind : Kind) → Gives HasWords (FixpointBy Body kind)
fixpoint_by Body body k.Mu = gives_behind k.Mu HasWords _ (λ w. binding_given sign.Mu w.place Body body)
fixpoint_by Body body k.Nu = gives_behind k.Nu HasWords _ (λ w. binding_given sign.Nu w.place Body body)
fixpoint_by Body body _ = gives_nothing HasWords

abbrev QuantifierHasWords : List VariableForm → Type 0
QuantifierHasWords vs = EachOf VariableWritable (erased_variables vs)

quantifier_given : (q : Quantifier) (p : Place) (Formula : Reads FormulaForm) → Gives HasWords Formula → Gives HasWords (terms.Binding (FormulaForm.quantified q p) Formula)
quantifier_given q p Formula formula =
    gives_then QuantifierHasWords HasWords _ _ variables_given (λ vs h. gives_behind k.Period HasWords _ (λ d. gives_then HasWords HasWords _ _ formula (λ f g. gives_is HasWords _ (h, g))))

quantified_by : (Formula : Reads FormulaForm) → Gives HasWords Formula → (kind : Kind) → Gives HasWords (QuantifiedBy FormulaForm.quantified Formula kind)
quantified_by Formula formula k.Forall = gives_behind k.Forall HasWords _ (λ w. quantifier_given Forall w.place Formula formula)
quantified_by Formula formula k.Exists = gives_behind k.Exists HasWords _ (λ w. quantifier_given Exists w.place Formula formula)
quantified_by Formula formula _ = gives_nothing HasWords

binder_given : (Body : List ℕ → Reads FormulaForm) (Formula : Reads FormulaForm) → ((name : List ℕ) → Gives HasWords (Body name)) → Gives HasWords Formula → Gives HasWords (Binder Body Formula)
binder_given Body Formula body formula =
    gives_either HasWords (Fixpoint Body) (Quantified FormulaForm.quantified Formula) (gives_first HasWords (FixpointBy Body) (fixpoint_by Body body))
    (gives_first HasWords (QuantifiedBy FormulaForm.quantified Formula) (quantified_by Formula formula))

connections_given : (Node Bound : Reads FormulaForm) → Gives HasWords Node → Gives HasWords Bound → Gives HasWords (Connections Node Bound)
connections_given Node Bound node bound =
    let join = connected_by FormulaForm.connected in
    let Open = Either Node Bound in
    let open_end = gives_either HasWords Node Bound node bound in
    let conjunction = gives_chained HasWords k.And (join k.And) Node Node (λ x t y h i. (h, i)) node node in
    let conjunction_end = gives_chained HasWords k.And (join k.And) Node Open (λ x t y h i. (h, i)) node open_end in
    let disjunction = gives_chained HasWords k.Or (join k.Or) (Conjunction join Node Node) (Conjunction join Node Node) (λ x t y h i. (h, i)) conjunction conjunction in
    let disjunction_end = gives_chained HasWords k.Or (join k.Or) (Conjunction join Node Node) (Conjunction join Node Open) (λ x t y h i. (h, i)) conjunction conjunction_end in
    gives_chained HasWords k.Implies (join k.Implies) (Disjunction join Node Node) (Disjunction join Node Open) (λ x t y h i. (h, i)) disjunction disjunction_end

-- ---- words

word_given : {W : Type 0} (of : List ℕ → Option W) → Gives Any (Word of)
word_given of s x z r h = gives_one k.Name s r.0 z r.1 h

always_word : IsWord (codes "always")
unfolding word_kind same_kind
always_word = refl

possibly_word : IsWord (codes "possibly")
unfolding word_kind same_kind
possibly_word = refl

inevitably_word : IsWord (codes "inevitably")
unfolding word_kind same_kind
inevitably_word = refl

no_deadlock_word : IsWord (codes "no_deadlock")
unfolding word_kind same_kind
no_deadlock_word = refl

until_word : IsWord (codes "until")
unfolding word_kind same_kind
until_word = refl

leads_to_word : IsWord (codes "leads_to")
unfolding word_kind same_kind
leads_to_word = refl

fair_word : IsWord (codes "fair")
unfolding word_kind same_kind
fair_word = refl

prefixed_words : (word : Prefix) (p : Place) (f : FormulaForm) → HasWords f → HasWords (prefixed word p f)
prefixed_words prefix.Always p f h = (always_word, (h, tt))
prefixed_words prefix.Possibly p f h = (possibly_word, (h, tt))
prefixed_words prefix.Inevitably p f h = (inevitably_word, (h, (tt, tt)))

infixed_words : (word : Infix) (p : Place) (f g : FormulaForm) → HasWords f → HasWords g → HasWords (infixed word p f g)
infixed_words between.Until p f g h i = (until_word, (i, (h, (tt, tt))))
infixed_words between.LeadsTo p f g h i = (leads_to_word, (tt, (h, (inevitably_word, (i, (tt, tt))))))

wordless_given : (R : Reads FormulaForm) → Gives HasWords R → Gives HasWords (Wordless R)
wordless_given R gives s x z r h = gives s x z r.1 h

fair_words : (p : Place) (A : StepSetForm) (others : List StepSetForm) (f : FormulaForm) → HasWords f → HasWords (fair p A others f)
fair_words p A others f h = (fair_word, all A others)
  where
    all : (A : StepSetForm) (others : List StepSetForm) → HasWords (chained (FormulaForm.connected connective.Or) (unfair_to p f A) (unfair_to_others p f others))
    all A [] = (inevitably_word, (h, (tt, (tt, ((tt, tt), tt)))))
    all A (B ∷ others) = ((inevitably_word, (h, (tt, (tt, ((tt, tt), tt))))), all B others)

others_given : (n : ℕ) (Set : Reads StepSetForm) → Gives Any Set → Gives Any (Others n Set)
others_given zero Set set = gives_is Any _ tt
others_given (suc n) Set set =
    gives_extended Any (Is []) _ (gives_is Any _ tt) (λ none u. gives_behind k.Comma Any _ (λ c. gives_then Any Any _ _ set (λ first v.
    gives_then Any Any _ _ (others_given n Set set) (λ others w. gives_is Any _ tt))))

processes_given : (depth : ℕ) → Gives Any (IsProcesses depth)
processes_given zero = gives_nothing Any
processes_given (suc depth) =
    gives_behind k.Open Any _ (λ o. gives_then Any Any _ _ (steps_given depth) (λ first u. gives_then Any Any _ _ (others_given most_others (IsStepSet depth) (steps_given depth)) (λ others v.
    gives_behind k.Close Any _ (λ c. gives_then Any Any _ _ (word_given fairly_of) (λ w x. gives_is Any _ tt)))))

fair_given : (Sets : Reads (StepSetForm × List StepSetForm)) (Operand : Reads FormulaForm) → Gives Any Sets → Gives HasWords Operand → (p : Place) → Gives HasWords (Fair Sets Operand p)
fair_given Sets Operand sets operand p =
    gives_then Any HasWords _ _ sets (λ found u. gives_then HasWords HasWords _ _ operand (λ f h. gives_is HasWords _ (fair_words p found.0 found.1 f h)))

module _ (scope : FixpointNames) (Behind : Place → Reads FormulaForm) (behind : (p : Place) → Gives HasWords (Behind p)) where
  led_by_given : (Operand : Reads FormulaForm) → Gives HasWords Operand → (word : Leading) (p : Place) → Gives HasWords (LedBy Behind Operand word p)
  led_by_given Operand operand leading.NoDeadlock p = gives_is HasWords _ (no_deadlock_word, (tt, tt))
  led_by_given Operand operand leading.Fair p = behind p
  led_by_given Operand operand (leading.Before word) p = gives_then HasWords HasWords _ _ operand (λ f h. gives_is HasWords _ (prefixed_words word p f h))

  worded_given : (Plain : Reads FormulaForm) → Gives HasWords Plain → Gives HasWords (Worded scope Behind Plain)
  worded_given Plain plain =
      gives_either HasWords (Wordless Plain) (Led scope Behind (Wordless Plain)) (wordless_given Plain plain)
      (gives_then Any HasWords _ _ (word_given (leading_within scope)) (λ word u. led_by_given (Wordless Plain) (wordless_given Plain plain) word.0 word.1))

joined_given : (Node : Reads FormulaForm) → Gives HasWords Node → Gives HasWords (Joined Node)
joined_given Node node =
    gives_extended HasWords Node _ node (λ f h. gives_then Any HasWords _ _ (word_given infix_of) (λ word u.
    gives_then HasWords HasWords _ _ node (λ g i. gives_is HasWords _ (infixed_words word.0 word.1 f g h i))))

mutual
  plain_given : (scope : FixpointNames) (depth : ℕ) → Gives HasWords (IsPlain scope depth)
  plain_given scope zero = first_formula scope Nothing Nothing (IsUnary zero) Nothing (gives_nothing HasWords) (gives_nothing HasWords) (unary_given zero) (equated_given zero) (gives_nothing Any)
  plain_given scope (suc depth) =
      first_formula scope (Worded scope (IsFair scope depth) (IsPlain scope depth)) (IsFormula scope depth) (IsUnary (suc depth)) (IsStepSet depth)
      (worded_given scope (IsFair scope depth) (behind_fair_given scope depth) (IsPlain scope depth) (plain_given scope depth)) (formula_given scope depth)
      (unary_given (suc depth)) (equated_given (suc depth)) (steps_given depth)

  behind_fair_given : (scope : FixpointNames) (depth : ℕ) (p : Place) → Gives HasWords (IsFair scope depth p)
  behind_fair_given scope zero p = gives_nothing HasWords
  behind_fair_given scope (suc depth) p =
      fair_given (IsProcesses (suc depth)) (Wordless (IsPlain (within_fair scope) depth)) (processes_given (suc depth))
      (wordless_given (IsPlain (within_fair scope) depth) (plain_given (within_fair scope) depth)) p

  formula_given : (scope : FixpointNames) (depth : ℕ) → Gives HasWords (IsFormula scope depth)
  formula_given scope zero =
      connections_given (Joined (Worded scope (λ p. Nothing) (First (Begun scope Nothing Nothing (IsUnary zero) Nothing)))) (Binder (λ name. Nothing) Nothing)
      (joined_given _ (worded_given scope (λ p. Nothing) (λ p. gives_nothing HasWords) _
      (first_formula scope Nothing Nothing (IsUnary zero) Nothing (gives_nothing HasWords) (gives_nothing HasWords) (unary_given zero) (equated_given zero) (gives_nothing Any))))
      (binder_given (λ name. Nothing) Nothing (λ name. gives_nothing HasWords) (gives_nothing HasWords))
  formula_given scope (suc depth) =
      let Behind = Fair (IsProcesses (suc depth)) (Wordless (IsPlain (within_fair scope) depth)) in
      connections_given (Joined (Worded scope Behind (First (Begun scope (Worded scope (IsFair scope depth) (IsPlain scope depth)) (IsFormula scope depth) (IsUnary (suc depth)) (IsStepSet depth)))))
      (Binder (λ name. IsFormula (within scope name) depth) (IsFormula scope depth))
      (joined_given _ (worded_given scope Behind
      (fair_given (IsProcesses (suc depth)) (Wordless (IsPlain (within_fair scope) depth)) (processes_given (suc depth))
      (wordless_given (IsPlain (within_fair scope) depth) (plain_given (within_fair scope) depth))) _
      (first_formula scope (Worded scope (IsFair scope depth) (IsPlain scope depth)) (IsFormula scope depth) (IsUnary (suc depth)) (IsStepSet depth)
      (worded_given scope (IsFair scope depth) (behind_fair_given scope depth) (IsPlain scope depth) (plain_given scope depth)) (formula_given scope depth)
      (unary_given (suc depth)) (equated_given (suc depth)) (steps_given depth))))
      (binder_given (λ name. IsFormula (within scope name) depth) (IsFormula scope depth) (λ name. formula_given (within scope name) depth) (formula_given scope depth))

-- ---- steps, the initial state, properties

declared_given : (depth : ℕ) → Gives (λ vs. EachOf VariableWritable (erased_variables vs)) (Declared depth)
declared_given zero = gives_nothing _
declared_given (suc depth) = gives_behind k.Open _ _ (λ o. gives_then _ _ _ _ variables_given (λ vs h. gives_behind k.Close _ _ (λ c. gives_is _ vs h)))

abbrev OwnVariables : List VariableForm → Type 0
OwnVariables vs = Each VariableWritable (erased_variables vs)

own_given : (depth : ℕ) → Gives OwnVariables (Extended (Is []) (λ none. Declared depth))
own_given depth =
    gives_extended OwnVariables (Is []) (λ none. Declared depth) (gives_is OwnVariables [] tt)
    (λ none u. gives_as _ OwnVariables (Declared depth) (λ vs. each-of VariableWritable (erased_variables vs)) (declared_given depth))

-- the state

abbrev IndexedHasWords : Named × List VariableForm → Type 0
IndexedHasWords x = IsWord x.0.text × OwnVariables x.1

indexed_given : (depth : ℕ) → Gives IndexedHasWords (Indexed depth)
indexed_given depth =
    gives_then _ IndexedHasWords _ _ gives_name (λ n h. gives_then OwnVariables IndexedHasWords _ _ (own_given depth) (λ vs own. gives_is IndexedHasWords _ (h, own)))

abbrev StateHasWords : List StateVariableForm → Type 0
StateHasWords xs = Each StateVariableWritable (map erased_state_variable xs)

of_sort_words : (sort : Named) → IsWord sort.text → (xs : List (Named × List VariableForm)) → Each IndexedHasWords xs → StateHasWords (map (of_sort sort) xs)
of_sort_words sort w [] h = tt
of_sort_words sort w (x ∷ xs) h = ((h.0.0, h.0.1, w), of_sort_words sort w xs h.1)

group_given : (depth : ℕ) → Gives StateHasWords (StateGroup depth)
group_given depth =
    gives_then _ StateHasWords _ _ (gives_listed IndexedHasWords (Indexed depth) (One k.Comma) (indexed_given depth) (gives_one k.Comma)) (λ xs h.
    gives_behind k.Colon StateHasWords _ (λ c. gives_then _ StateHasWords _ _ gives_name (λ sort w.
    gives_is StateHasWords _ (of_sort_words sort w xs (each-of IndexedHasWords xs h)))))

groups_words : (gs : List (List StateVariableForm)) → Each StateHasWords gs → StateHasWords (flat_map (λ g. g) gs)
groups_words [] h = tt
groups_words (g ∷ gs) h = each_kept-append erased_state_variable StateVariableWritable g (flat_map (λ v. v) gs) h.0 (groups_words gs h.1)

state_given : (depth : ℕ) → Gives StateHasWords (StateVariables depth)
state_given depth =
    gives_then _ StateHasWords _ _ (gives_listed StateHasWords (StateGroup depth) (One k.Comma) (group_given depth) (gives_one k.Comma)) (λ gs h.
    gives_is StateHasWords _ (groups_words gs (each-of StateHasWords gs h)))

-- definitions

abbrev DefinitionHasWords : DefinitionForm → Type 0
DefinitionHasWords d = DefinitionWritable (erased_definition d)

definition_given : (depth : ℕ) → Gives DefinitionHasWords (IsDefinition depth)
definition_given depth =
    gives_then _ DefinitionHasWords _ _ gives_name (λ n w. gives_then OwnVariables DefinitionHasWords _ _ (own_given depth) (λ vs own.
    gives_behind k.Is DefinitionHasWords _ (λ i. gives_then HasData DefinitionHasWords _ _ (term_given depth) (λ x h.
    gives_behind k.Semicolon DefinitionHasWords _ (λ s. gives_is DefinitionHasWords _ (w, own, h))))))

abbrev DefinitionsHaveWords : List DefinitionForm → Type 0
DefinitionsHaveWords ds = Each DefinitionWritable (map erased_definition ds)

defined_by : (depth : ℕ) (kind : Kind) → Gives DefinitionsHaveWords (DefinedBy depth kind)
defined_by depth k.Step = gives_behind k.Step DefinitionsHaveWords _ (λ s. gives_is DefinitionsHaveWords [] tt)
defined_by depth k.Define =
    gives_behind k.Define DefinitionsHaveWords _ (λ d.
    gives_then (EachOf DefinitionHasWords) DefinitionsHaveWords _ _
    (gives_listed DefinitionHasWords _ (Is {X = Unit {0}} tt) (gives_own DefinitionHasWords (IsDefinition depth) (definition_given depth)) (gives_is Any tt tt)) (λ ds h.
    gives_behind k.Step DefinitionsHaveWords _ (λ s. gives_is DefinitionsHaveWords ds (each_kept erased_definition DefinitionWritable ds (each-of DefinitionHasWords ds h)))))
defined_by depth _ = gives_nothing DefinitionsHaveWords

definitions_given : (depth : ℕ) → Gives DefinitionsHaveWords (Definitions depth)
definitions_given depth = gives_first DefinitionsHaveWords (DefinedBy depth) (defined_by depth)

-- steps

abbrev AssignmentHasWords : AssignmentForm → Type 0
AssignmentHasWords a = AssignmentWritable (erased_assignment a)

-- an assignment alone, and one for all values of variables
assigned_given-alone : (depth : ℕ) → Gives AssignmentHasWords (IsAssigned depth)
assigned_given-alone depth =
    gives_then InstanceHasWords AssignmentHasWords _ _ (instance_given depth) (λ i g. gives_behind k.Assign AssignmentHasWords _ (λ t.
    gives_then _ AssignmentHasWords _ _ (gives_placed HasData (IsTerm depth) (term_given depth)) (λ x h. gives_is AssignmentHasWords _ (tt, g.0, g.1, h))))

abbrev CopiesHaveWords : CopiesForm → Type 0
CopiesHaveWords c = Each VariableWritable (erased_variables c.variables)

copies_given : Gives CopiesHaveWords IsCopies
copies_given =
    gives_behind k.Forall CopiesHaveWords _ (λ w. gives_then _ CopiesHaveWords _ _ variables_given (λ vs h.
    gives_behind k.Period CopiesHaveWords _ (λ p. gives_is CopiesHaveWords _ (each-of VariableWritable (erased_variables vs) h))))

assignment_by : (depth : ℕ) (kind : Kind) → Gives AssignmentHasWords (AssignmentBy depth kind)
assignment_by depth k.Name = assigned_given-alone depth
assignment_by depth k.Forall =
    gives_then CopiesHaveWords AssignmentHasWords _ _ copies_given (λ c words.
    gives_then AssignmentHasWords AssignmentHasWords _ _ (assigned_given-alone depth) (λ a h. gives_is AssignmentHasWords _ (words, h.1, h.2, h.3)))
assignment_by depth _ = gives_nothing AssignmentHasWords

assignment_given : (depth : ℕ) → Gives AssignmentHasWords (IsAssignment depth)
assignment_given depth = gives_first AssignmentHasWords (AssignmentBy depth) (assignment_by depth)

abbrev AssignmentsHaveWords : List AssignmentForm → Type 0
AssignmentsHaveWords bs = Each AssignmentWritable (map erased_assignment bs)

some_assigned : (depth : ℕ) → Gives AssignmentsHaveWords (SomeAssigned depth)
some_assigned depth =
    gives_then (EachOf AssignmentHasWords) AssignmentsHaveWords _ _ (gives_listed AssignmentHasWords (IsAssignment depth) (One k.Comma) (assignment_given depth) (gives_one k.Comma)) (λ bs h.
    gives_behind k.Semicolon AssignmentsHaveWords _ (λ s. gives_is AssignmentsHaveWords bs (each_kept erased_assignment AssignmentWritable bs (each-of AssignmentHasWords bs h))))

assigned_by : (depth : ℕ) (kind : Kind) → Gives AssignmentsHaveWords (AssignedBy depth kind)
assigned_by depth k.Skip = gives_behind k.Skip AssignmentsHaveWords _ (λ w. gives_behind k.Semicolon AssignmentsHaveWords _ (λ s. gives_is AssignmentsHaveWords [] tt))
assigned_by depth k.Name = gives_beginning k.Name AssignmentsHaveWords _ (some_assigned depth)
assigned_by depth k.Forall = gives_beginning k.Forall AssignmentsHaveWords _ (some_assigned depth)
assigned_by depth _ = gives_nothing AssignmentsHaveWords

assigned_given : (depth : ℕ) → Gives AssignmentsHaveWords (Assigned depth)
assigned_given depth = gives_first AssignmentsHaveWords (AssignedBy depth) (assigned_by depth)

abbrev StepHasWords : StepForm → Type 0
StepHasWords a = StepWritable (erased_step a)

step_given : (depth : ℕ) → Gives StepHasWords (IsStep depth)
step_given depth =
    gives_then _ StepHasWords _ _ gives_name (λ n w. gives_then OwnVariables StepHasWords _ _ (own_given depth) (λ vs own.
    gives_behind k.Colon StepHasWords _ (λ c. gives_then HasData StepHasWords _ _ (term_given depth) (λ guard g. gives_behind k.Arrow StepHasWords _ (λ t.
    gives_then AssignmentsHaveWords StepHasWords _ _ (assigned_given depth) (λ bs h. gives_is StepHasWords _ (w, own, g, h)))))))

steps_of_model : (depth : ℕ) → Gives (EachOf StepHasWords) (Steps depth)
steps_of_model depth = gives_listed StepHasWords _ (Is {X = Unit {0}} tt) (gives_own StepHasWords (IsStep depth) (step_given depth)) (gives_is Any tt tt)

abbrev InitialHasWords : InitialForm → Type 0
InitialHasWords i = AllDataWritable (erased_arguments i.values)

initial_given : (depth : ℕ) → Gives InitialHasWords (IsInitialState depth)
initial_given depth =
    gives_behind k.Init InitialHasWords _ (λ w.
    gives_then _ InitialHasWords _ _
    (gives_listed (λ (a : Place × TermForm). HasData a.1) (Placed (IsTerm depth)) (One k.Comma) (gives_placed HasData (IsTerm depth) (term_given depth)) (gives_one k.Comma)) (λ vs h.
    gives_behind k.Semicolon InitialHasWords _ (λ s. gives_is InitialHasWords _ (arguments_writable vs (each-of (λ (a : Place × TermForm). HasData a.1) vs h)))))

abbrev PropertyHasWords : PropertyForm → Type 0
PropertyHasWords p = PropertyWritable (erased_property p)

property_given : (depth : ℕ) → Gives PropertyHasWords (IsProperty depth)
property_given depth =
    gives_behind k.Property PropertyHasWords _ (λ w. gives_then _ PropertyHasWords _ _ gives_name (λ n w. gives_behind k.Is PropertyHasWords _ (λ i.
    gives_then HasWords PropertyHasWords _ _ (formula_given [] depth) (λ f h. gives_behind k.Semicolon PropertyHasWords _ (λ s. gives_is PropertyHasWords _ (w, h))))))

properties_given : (depth : ℕ) → Gives (EachOf PropertyHasWords) (Properties depth)
properties_given depth = gives_listed PropertyHasWords _ (Is {X = Unit {0}} tt) (gives_own PropertyHasWords (IsProperty depth) (property_given depth)) (gives_is Any tt tt)

-- ---- constants and sorts

constant_given : (depth : ℕ) → Gives ConstantWritable (IsConstant depth)
constant_given depth =
    gives_then _ ConstantWritable _ _ gives_name (λ n w. gives_behind k.Is ConstantWritable _ (λ i.
    gives_then _ ConstantWritable _ _ (gives_placed HasData (IsTerm depth) (term_given depth)) (λ x h. gives_is ConstantWritable _ w)))

abbrev ConstantsHaveWords : List ConstantForm → Type 0
ConstantsHaveWords cs = Each ConstantWritable cs

constants_given : (depth : ℕ) → Gives ConstantsHaveWords (Constants depth)
constants_given depth =
    gives_extended ConstantsHaveWords (Is []) _ (gives_is ConstantsHaveWords [] tt) (λ none u.
    gives_own ConstantsHaveWords (ConstantPart depth) (gives_then Any ConstantsHaveWords _ _ (word_given const_of) (λ w v.
    gives_then (EachOf ConstantWritable) ConstantsHaveWords _ _ (gives_listed ConstantWritable (IsConstant depth) (One k.Comma) (constant_given depth) (gives_one k.Comma)) (λ cs h.
    gives_behind k.Semicolon ConstantsHaveWords _ (λ s. gives_is ConstantsHaveWords cs (each-of ConstantWritable cs h))))))

declarations_have_words : (ds : List DeclaredSort) → Each SortHasWords ds → Each DeclarationWritable (map erased_declaration (map declaration_in ds))
declarations_have_words [] h = tt
declarations_have_words (d ∷ ds) h = (h.0.0, declarations_have_words ds h.1)

bounds_have_words : (ds : List DeclaredSort) → Each SortHasWords ds → Each BoundsWritable (flat_map bounds_in ds)
bounds_have_words [] h = tt
bounds_have_words (d ∷ ds) h = each_more BoundsWritable (bounds_in d) (flat_map bounds_in ds) h.0.1 (bounds_have_words ds h.1)

-- ---- whole texts of models

model_words : (ranges : List RangeForm) (depth : ℕ) (s z : State) (model : ModelTextForm) → Each RangeSayable ranges → IsModel ranges depth s model z → AreLexical s.tokens
    → ModelTextWritable model
model_words ranges depth s z model bounds
    (constants, k0, u, (sorts, a, r, (w, b, q, (state, c, t, (vs, d, v, (semicolon, e, p, (defined, f, o, (steps, g, n, (initial, i, m, (properties, j, l, is)))))))))) h =
    let zero = constants_given depth s constants k0 u h in
    let one = sorts_given depth k0 sorts a r zero.1 in
    let two = gives_one k.Model a w b q one.1 in
    let three = gives_one k.State b state c t two.1 in
    let four = state_given depth c vs d v three.1 in
    let five = gives_one k.Semicolon d semicolon e p four.1 in
    let six = definitions_given depth e defined f o five.1 in
    let seven = steps_of_model depth f steps g n six.1 in
    let eight = gives_own InitialHasWords (IsInitialState depth) (initial_given depth) g initial i m seven.1 in
    let nine = properties_given depth i properties j l eight.1 in
    subst ModelTextWritable (sym is.0) (record {
      constants = zero.0;
      bounds = bounds_have_words sorts one.0;
      protocol = record {
        sorts = declarations_have_words sorts one.0;
        ranges = ranges_writable ranges bounds;
        variables = four.0;
        definitions = six.0;
        steps = each_kept erased_step StepWritable steps (each-of StepHasWords steps seven.0);
        initial = eight.0;
        properties = each_kept erased_property PropertyWritable properties (each-of PropertyHasWords properties nine.0);
      };
    })

pub reading_words : ReadModelsAreWritable
reading_words bytes model is =
    model_words is.ranges depth_limit _ _ model (ranges_of_models_are_said bytes is.tokens is.ranges is.cut) is.says.2 (tokens_of_models_are_lexical bytes is.tokens is.ranges is.cut)

-- ---- there is a property

first_of_series : {X T : Type 0} (Item : Reads X) (Between : Reads T) (s z : State) (xs : List X) → Listed Item Between s xs z → (x : X) × (slice_get xs 0 ≡ Some x)
first_of_series Item Between s z xs (last {x = x} r) = (x, refl)
first_of_series Item Between s z xs (more {x = x} r b rest) = (x, refl)

abbrev HasProperty : ModelTextForm → Type 0
HasProperty model = (p : PropertyForm) × (slice_get model.protocol.properties 0 ≡ Some p)

model_has_property : (ranges : List RangeForm) (depth : ℕ) (s z : State) (model : ModelTextForm) → IsModel ranges depth s model z → HasProperty model
model_has_property ranges depth s z model
    (constants, k0, u, (sorts, a, r, (w, b, q, (state, c, t, (vs, d, v, (semicolon, e, p, (defined, f, o, (steps, g, n, (initial, i, m, (properties, j, l, is)))))))))) =
    subst HasProperty (sym is.0) (first_of_series _ _ i j properties l)

pub has_property : ReadModelsHaveProperties
has_property bytes model is = model_has_property is.ranges depth_limit _ _ model is.says.2
