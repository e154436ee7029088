-- A data term of a model that was read has words, where it counts too.
use Rattle.std.proofs.Common.{◌≡◌, ℕ, zero, suc, Bool, true, List, [], ◌∷◌, ◌++◌, map, flat_map, refl, inl, inr}
use Rattle.std.specs.Str.Parse.{digits_value}
use Rattle.pb_text_tree.specs.declared.place.Place.{Place}
use Rattle.pb_text_tree.specs.declared.operator.Quantifier.{Quantifier}
use Rattle.pb_text_tree.specs.declared.operator.Quantifier.TheVariants.{Forall, Exists}
use Rattle.pb_text_tree.specs.Form.{Named, TermForm, ArgumentForms, no_arguments, argument, InstanceForm, VariableForm}
use Rattle.pb_text_counting.specs.Counting.{counted}
use Rattle.pb_text_lexer.specs.declared.kind.Kind.{Kind}
use Rattle.pb_text_lexer.specs.declared.kind.Kind.TheVariants as k
use Rattle.pb_text_lexer.specs.Grammar.{Reads, Is, Nothing, One, First}
use Rattle.pb_text_lexer.specs.LeftGrammar.{Listed}
use Rattle.pb_text_lexer.specs.OpenGrammar.{Either, Conjunction, Disjunction}
use Rattle.pb_text_lexer.specs.Tokens.{Tok}
use Rattle.pb_text_terms.specs.Operators.{connected_by, compared_by, computed_by, is_additive, is_times, is_division, is_order, is_equality}
use Rattle.pb_text_terms.specs.Grammar.{Name, Group, Variables, Binding, Placed, arguments_of, Arguments, Instance, applied, Begun, Product, Sum, Ordered, Equated, BoundBy, Bound, Connections, IsUnary, IsTerm}
use Rattle.pb_text_meaning.specs.Erase.{erased_term, erased_arguments, erased_variables}
use Rattle.pb_text_printer.specs.Sayable.{Each, EachOf, IsName}
use Rattle.pb_text_printer.proofs.SaidLemmas.{each-of}
use Rattle.pb_model_spelling.specs.Writable.{IsWord, VariableWritable}
use Rattle.pb_model_spelling.specs.Protocols.{DataWritable, AllDataWritable}
use Rattle.pb_model_spelling.proofs.Gives.{Gives, Any, gives_is, gives_nothing, gives_then, gives_one, gives_behind, gives_name, gives_first, gives_listed, gives_either, gives_extended, gives_placed, gives_chained}
use Rattle.pb_model_spelling.proofs.Gives.{gives_left, gives_unmixed, gives_comparison, lexical_behind}

abbrev pub HasData : TermForm → Type 0
HasData x = DataWritable (erased_term x)

-- ---- variables

abbrev pub VariablesHaveWords : List VariableForm → Type 0
VariablesHaveWords vs = EachOf VariableWritable (erased_variables vs)

group_each : (names : List Named) (sort : Named) → Each IsName names → IsName sort → Each VariableWritable (erased_variables (map (λ n. record { name = n; sort = sort }) names))
group_each [] sort h s = tt
group_each (n ∷ names) sort h s = ((h.0, s), group_each names sort h.1 s)

group_has : (names : List Named) (sort : Named) → EachOf IsName names → IsName sort → VariablesHaveWords (map (λ n. record { name = n; sort = sort }) names)
group_has [] sort h s = absurd h
group_has (n ∷ names) sort h s = ((h.0, s), group_each names sort h.1 s)

group_given : Gives VariablesHaveWords Group
group_given =
    gives_then (EachOf IsName) VariablesHaveWords _ _ (gives_listed IsName Name (One k.Comma) gives_name (gives_one k.Comma)) (λ names h.
    gives_behind k.Colon VariablesHaveWords _ (λ c. gives_then IsName VariablesHaveWords _ _ gives_name (λ sort s. gives_is VariablesHaveWords _ (group_has names sort h s))))

each_behind : (xs ys : List VariableForm) → Each VariableWritable (erased_variables xs) → Each VariableWritable (erased_variables ys) → Each VariableWritable (erased_variables (xs ++ ys))
each_behind [] ys h g = g
each_behind (x ∷ xs) ys h g = (h.0, each_behind xs ys h.1 g)

all_groups : (groups : List (List VariableForm)) → Each VariablesHaveWords groups → Each VariableWritable (erased_variables (flat_map (λ g. g) groups))
all_groups [] h = tt
all_groups (g ∷ groups) h = each_behind g (flat_map (λ g. g) groups) (each-of VariableWritable (erased_variables g) h.0) (all_groups groups h.1)

some_groups : (groups : List (List VariableForm)) → EachOf VariablesHaveWords groups → VariablesHaveWords (flat_map (λ g. g) groups)
some_groups [] h = absurd h
some_groups ([] ∷ groups) h = absurd h.0
some_groups ((v ∷ vs) ∷ groups) h = (h.0.0, each_behind vs (flat_map (λ g. g) groups) h.0.1 (all_groups groups h.1))

pub variables_given : Gives VariablesHaveWords Variables
variables_given =
    gives_then (EachOf VariablesHaveWords) VariablesHaveWords _ _ (gives_listed VariablesHaveWords Group (One k.Comma) group_given (gives_one k.Comma))
    (λ groups h. gives_is VariablesHaveWords _ (some_groups groups h))

-- ---- names with arguments

pub arguments_writable : (values : List (Place × TermForm)) → Each (λ (a : Place × TermForm). HasData a.1) values → AllDataWritable (erased_arguments (arguments_of values))
arguments_writable [] h = tt
arguments_writable (a ∷ values) h = (h.0, arguments_writable values h.1)

abbrev ArgumentsHaveWords : ArgumentForms → Type 0
ArgumentsHaveWords xs = AllDataWritable (erased_arguments xs)

arguments_given : (Term : Reads TermForm) → Gives HasData Term → Gives ArgumentsHaveWords (Arguments Term)
arguments_given Term term =
    gives_behind k.Open ArgumentsHaveWords _ (λ o.
    gives_then _ ArgumentsHaveWords _ _ (gives_listed (λ (a : Place × TermForm). HasData a.1) (Placed Term) (One k.Comma) (gives_placed HasData Term term) (gives_one k.Comma)) (λ xs h.
    gives_behind k.Close ArgumentsHaveWords _ (λ c. gives_is ArgumentsHaveWords _ (arguments_writable xs (each-of (λ (a : Place × TermForm). HasData a.1) xs h)))))

abbrev pub InstanceHasWords : InstanceForm → Type 0
InstanceHasWords i = IsWord i.name.text × AllDataWritable (erased_arguments i.arguments)

pub instance_over : (Term : Reads TermForm) → Gives HasData Term → Gives InstanceHasWords (Instance Term)
instance_over Term term =
    gives_extended InstanceHasWords _ _ (gives_then _ InstanceHasWords _ _ gives_name (λ n h. gives_is InstanceHasWords _ (h, tt)))
    (λ i h. gives_then ArgumentsHaveWords InstanceHasWords _ _ (arguments_given Term term) (λ xs g. gives_is InstanceHasWords _ (h.0, g)))

applied_has : (n : Named) (xs : ArgumentForms) → IsWord n.text → AllDataWritable (erased_arguments xs) → HasData (applied n xs)
applied_has n no_arguments w h = w
applied_has n (argument p x xs) w h = (inl w, h)

-- ---- terms

number_given : (Unary Term : Reads TermForm) → Gives HasData (Begun Unary Term k.Number)
number_given Unary Term s x z (t, m, r, is) h =
    let lexical = lexical_behind s.tokens m.tokens t r.0 h in
    gives_is HasData (TermForm.number t.place (digits_value 10 t.text)) (lexical.0.number r.1).small m x z is lexical.1

begun_given : (Unary Term : Reads TermForm) → Gives HasData Unary → Gives HasData Term → (kind : Kind) → Gives HasData (Begun Unary Term kind)
begun_given Unary Term unary term k.Not = gives_behind k.Not HasData _ (λ t. gives_then HasData HasData _ _ unary (λ x h. gives_is HasData _ h))
begun_given Unary Term unary term k.Minus = gives_behind k.Minus HasData _ (λ t. gives_then HasData HasData _ _ unary (λ x h. gives_is HasData _ h))
begun_given Unary Term unary term k.Open =
    gives_behind k.Open HasData _ (λ t. gives_then HasData HasData _ _ term (λ x h. gives_behind k.Close HasData _ (λ c. gives_is HasData x h)))
begun_given Unary Term unary term k.Number = number_given Unary Term
begun_given Unary Term unary term k.True = gives_behind k.True HasData _ (λ t. gives_is HasData _ tt)
begun_given Unary Term unary term k.False = gives_behind k.False HasData _ (λ t. gives_is HasData _ tt)
begun_given Unary Term unary term k.Name =
    gives_then InstanceHasWords HasData _ _ (instance_over Term term) (λ i h. gives_is HasData _ (applied_has i.name i.arguments h.0 h.1))
begun_given Unary Term unary term _ = gives_nothing HasData

equated_over : (Unary : Reads TermForm) → Gives HasData Unary → Gives HasData (Equated Unary)
equated_over Unary unary =
    gives_comparison HasData is_equality compared_by (Ordered Unary) (λ x t y h g. (h, g))
    (gives_comparison HasData is_order compared_by (Sum Unary) (λ x t y h g. (h, g))
    (gives_left HasData is_additive computed_by (Product Unary) (λ x t y h g. (h, g))
    (gives_unmixed HasData is_times is_division computed_by Unary (λ x t y h g. (h, g)) unary)))

-- what variables are bound in
binding_given : (made : List VariableForm → TermForm → TermForm) (Body : Reads TermForm) → ((vs : List VariableForm) (x : TermForm) → VariablesHaveWords vs → HasData x → HasData (made vs x))
    → Gives HasData Body → Gives HasData (Binding made Body)
binding_given made Body makes body =
    gives_then VariablesHaveWords HasData _ _ variables_given (λ vs h.
    gives_behind k.Period HasData _ (λ d. gives_then HasData HasData _ _ body (λ x g. gives_is HasData (made vs x) (makes vs x h g))))

bound_by_given : (Body : Reads TermForm) → Gives HasData Body → (kind : Kind) → Gives HasData (BoundBy Body kind)
bound_by_given Body body k.Count = gives_behind k.Count HasData _ (λ w. binding_given (counted w.place) Body (λ vs x h g. (inr refl, ((h, g), tt))) body)
bound_by_given Body body k.Forall = gives_behind k.Forall HasData _ (λ w. binding_given (TermForm.quantified Forall w.place) Body (λ vs x h g. (h, g)) body)
bound_by_given Body body k.Exists = gives_behind k.Exists HasData _ (λ w. binding_given (TermForm.quantified Exists w.place) Body (λ vs x h g. (h, g)) body)
bound_by_given Body body _ = gives_nothing HasData

connections_over : (Unary Body : Reads TermForm) → Gives HasData Unary → Gives HasData Body → Gives HasData (Connections Unary Body)
connections_over Unary Body unary body =
    let join = connected_by TermForm.connected in
    let Node = Equated Unary in
    let Open = Either Node (Bound Body) in
    let node = equated_over Unary unary in
    let open_end = gives_either HasData Node (Bound Body) node (gives_first HasData (BoundBy Body) (bound_by_given Body body)) in
    let conjunction = gives_chained HasData k.And (join k.And) Node Node (λ x t y h i. (h, i)) node node in
    let conjunction_end = gives_chained HasData k.And (join k.And) Node Open (λ x t y h i. (h, i)) node open_end in
    let disjunction = gives_chained HasData k.Or (join k.Or) (Conjunction join Node Node) (Conjunction join Node Node) (λ x t y h i. (h, i)) conjunction conjunction in
    let disjunction_end = gives_chained HasData k.Or (join k.Or) (Conjunction join Node Node) (Conjunction join Node Open) (λ x t y h i. (h, i)) conjunction conjunction_end in
    gives_chained HasData k.Implies (join k.Implies) (Disjunction join Node Node) (Disjunction join Node Open) (λ x t y h i. (h, i)) disjunction disjunction_end

first_over : (Unary Term : Reads TermForm) → Gives HasData Unary → Gives HasData Term → Gives HasData (First (Begun Unary Term))
first_over Unary Term unary term = gives_first HasData (Begun Unary Term) (begun_given Unary Term unary term)

mutual
  pub unary_given : (depth : ℕ) → Gives HasData (IsUnary depth)
  unary_given zero = first_over Nothing Nothing (gives_nothing HasData) (gives_nothing HasData)
  unary_given (suc depth) = first_over (IsUnary depth) (IsTerm depth) (unary_given depth) (term_given depth)

  pub term_given : (depth : ℕ) → Gives HasData (IsTerm depth)
  term_given zero =
      connections_over (First (Begun Nothing Nothing)) Nothing (first_over Nothing Nothing (gives_nothing HasData) (gives_nothing HasData)) (gives_nothing HasData)
  term_given (suc depth) =
      connections_over (First (Begun (IsUnary depth) (IsTerm depth))) (IsTerm depth) (first_over (IsUnary depth) (IsTerm depth) (unary_given depth) (term_given depth)) (term_given depth)

pub equated_given : (depth : ℕ) → Gives HasData (Equated (IsUnary depth))
equated_given depth = equated_over (IsUnary depth) (unary_given depth)
