-- The sorts of a model that was read have words.
use Rattle.std.proofs.Common.{◌≡◌, ℕ, List, [], ◌∷◌, ◌++◌, map, refl}
use Rattle.std.specs.Prelude.{codes}
use Rattle.pb_text_tree.specs.declared.place.Place.{Place}
use Rattle.pb_text_tree.specs.Form.{EnumeratorForm, Named, TermForm, struct}
use Rattle.pb_text_lexer.specs.Bytes.{word_kind}
use Rattle.pb_text_lexer.specs.Kinds.{same_kind}
use Rattle.pb_text_lexer.specs.declared.kind.Kind.{Kind}
use Rattle.pb_text_lexer.specs.declared.kind.Kind.TheVariants as k
use Rattle.pb_text_lexer.specs.Grammar.{Is, One, Series, last, more}
use Rattle.pb_text_terms.specs.Grammar.{Equated, IsUnary}
use Rattle.pb_text_formulas.specs.Grammar.{Plain, Recognised, Enumerator}
use Rattle.pb_model_text.specs.Models.{DeclaredSort, IsBound, Greatest, UpTo, SortNamed, SortBehind, SortWithin, SortBy, IsSort, SortPart, Sorts, listed_bounds}
use Rattle.pb_text_meaning.specs.Erase.{erased_enumerator, erased_sort, erased_declaration}
use Rattle.pb_text_printer.specs.Sayable.{Each, EachOf}
use Rattle.pb_text_printer.proofs.SaidLemmas.{each-of}
use Rattle.pb_model_spelling.specs.Writable.{IsWord, EnumeratorWritable, SortWritable, DeclarationWritable}
use Rattle.pb_model_spelling.specs.Protocols.{BoundsWritable}
use Rattle.pb_model_spelling.proofs.Gives.{Gives, Any, gives_is, gives_nothing, gives_then, gives_one, gives_behind, gives_name, gives_first, gives_listed, gives_own, gives_extended, gives_placed, gives_beginning}
use Rattle.pb_model_spelling.proofs.DataWords.{HasData, equated_given}

-- ---- what is kept of each

pub each_kept : {X Y : Type 0} (f : X → Y) (P : Y → Type 0) (xs : List X) → Each (λ x. P (f x)) xs → Each P (map f xs)
each_kept f P [] h = tt
each_kept f P (x ∷ xs) h = (h.0, each_kept f P xs h.1)

enumerators_kept : (es : List EnumeratorForm) → EachOf (λ e. EnumeratorWritable (erased_enumerator e)) es → SortWritable (erased_sort (struct es))
enumerators_kept [] h = absurd h
enumerators_kept (e ∷ es) h = (h.0, each_kept erased_enumerator EnumeratorWritable es h.1)

pub each_kept-append : {X Y : Type 0} (f : X → Y) (P : Y → Type 0) (xs ys : List X) → Each P (map f xs) → Each P (map f ys) → Each P (map f (xs ++ ys))
each_kept-append f P [] ys h g = g
each_kept-append f P (x ∷ xs) ys h g = (h.0, each_kept-append f P xs ys h.1 g)

-- ---- sorts

abbrev EnumeratorHasWords : EnumeratorForm → Type 0
EnumeratorHasWords e = EnumeratorWritable (erased_enumerator e)

enumerator_given : Gives EnumeratorHasWords Enumerator
enumerator_given =
    gives_extended EnumeratorHasWords Plain Recognised (gives_then _ _ _ _ gives_name (λ n h. gives_is EnumeratorHasWords _ (h, tt)))
    (λ e h. gives_behind k.Question EnumeratorHasWords _ (λ q. gives_then _ _ _ _ gives_name (λ n g. gives_is EnumeratorHasWords _ (h.0, g))))

-- a declaration has words, and its bounds
abbrev pub SortHasWords : DeclaredSort → Type 0
SortHasWords d = DeclarationWritable (erased_declaration d.declaration) × Each BoundsWritable (listed_bounds d.bounds)

abbrev BoundHasData : (Place × TermForm) → Type 0
BoundHasData b = HasData b.1

int_word : IsWord (codes "Int")
unfolding word_kind same_kind
int_word = refl

bound_given : (depth : ℕ) → Gives BoundHasData (IsBound depth)
bound_given depth = gives_placed HasData (Equated (IsUnary depth)) (equated_given depth)

greatest_given : (depth : ℕ) → Gives Any (Greatest depth)
greatest_given depth =
    gives_behind k.Period Any _ (λ p. gives_behind k.Period Any _ (λ q. gives_then BoundHasData Any _ _ (bound_given depth) (λ high h.
    gives_behind k.Semicolon Any _ (λ s. gives_is Any _ tt))))

up_to : (depth : ℕ) (name : Named) (low : Place × TermForm) → IsWord name.text → Gives SortHasWords (UpTo depth name low)
up_to depth name low w = gives_then Any SortHasWords _ _ (greatest_given depth) (λ high u. gives_is SortHasWords _ ((w, int_word), (w, tt)))

named_sort : (name : Named) (x : TermForm) → IsWord name.text → HasData x → Gives SortHasWords (SortNamed name x)
named_sort name (TermForm.name target) w h = gives_behind k.Semicolon SortHasWords _ (λ s. gives_is SortHasWords _ ((w, h), tt))
named_sort name _ w h = gives_nothing SortHasWords

sort_behind : (depth : ℕ) (name : Named) (low : Place × TermForm) → IsWord name.text → HasData low.1 → (kind : Kind) → Gives SortHasWords (SortBehind depth name low kind)
sort_behind depth name low w h k.Semicolon = named_sort name low.1 w h
sort_behind depth name low w h k.Period = up_to depth name low w
sort_behind depth name low w h _ = gives_nothing SortHasWords

sort_within : (depth : ℕ) (name : Named) → IsWord name.text → (kind : Kind) → Gives SortHasWords (SortWithin depth name kind)
sort_within depth name w kind =
    gives_then BoundHasData SortHasWords _ _ (gives_beginning kind BoundHasData (IsBound depth) (bound_given depth)) (λ low h. up_to depth name low w)

sort_by : (depth : ℕ) (name : Named) → IsWord name.text → (kind : Kind) → Gives SortHasWords (SortBy depth name kind)
sort_by depth name w k.Struct =
    gives_behind k.Struct SortHasWords _
    (λ t. gives_then (EachOf EnumeratorHasWords) SortHasWords _ _
    (gives_listed EnumeratorHasWords Enumerator (One k.Bar) enumerator_given (gives_one k.Bar)) (λ es h.
    gives_behind k.Semicolon SortHasWords _ (λ s. gives_is SortHasWords _ ((w, enumerators_kept es h), tt))))
sort_by depth name w k.Name =
    gives_then BoundHasData SortHasWords _ _ (gives_beginning k.Name BoundHasData (IsBound depth) (bound_given depth))
    (λ first h. gives_first SortHasWords (SortBehind depth name first) (sort_behind depth name first w h))
sort_by depth name w k.Number = sort_within depth name w k.Number
sort_by depth name w k.Minus = sort_within depth name w k.Minus
sort_by depth name w k.Open = sort_within depth name w k.Open
sort_by depth name w _ = gives_nothing SortHasWords

sort_given : (depth : ℕ) → Gives SortHasWords (IsSort depth)
sort_given depth =
    gives_then _ SortHasWords _ _ gives_name (λ n w. gives_behind k.Is SortHasWords _ (λ i. gives_first SortHasWords (SortBy depth n) (sort_by depth n w)))

abbrev pub SortsHaveWords : List DeclaredSort → Type 0
SortsHaveWords ds = Each SortHasWords ds

part_given : (depth : ℕ) → Gives SortsHaveWords (SortPart depth)
part_given depth =
    gives_behind k.Sort SortsHaveWords _ (λ w.
    gives_then _ SortsHaveWords _ _ (gives_listed SortHasWords _ (Is {X = Unit {0}} tt) (gives_own SortHasWords (IsSort depth) (sort_given depth)) (gives_is Any tt tt)) (λ ds h.
    gives_is SortsHaveWords ds (each-of SortHasWords ds h)))

pub each_more : {X : Type 0} (P : X → Type 0) (xs ys : List X) → Each P xs → Each P ys → Each P (xs ++ ys)
each_more P [] ys h g = g
each_more P (x ∷ xs) ys h g = (h.0, each_more P xs ys h.1 g)

some_parts : (depth : ℕ) → Gives SortsHaveWords (Series (SortPart depth) (Is {X = Unit {0}} tt) (λ sorts. sorts) (λ sorts u rest. sorts ++ rest))
some_parts depth s x z (last {x = ds} r) h = part_given depth s ds z r h
some_parts depth s x z (more {m = m} {o = o} {x = ds} {t = t} {y = es} r b rest) h =
    let one = part_given depth s ds m r h in
    let two = gives_is Any tt tt m t o b one.1 in
    let three = some_parts depth o es z rest two.1 in
    (each_more SortHasWords ds es one.0 three.0, three.1)

pub sorts_given : (depth : ℕ) → Gives SortsHaveWords (Sorts depth)
sorts_given depth = gives_extended SortsHaveWords (Is []) _ (gives_is SortsHaveWords [] tt) (λ none u. some_parts depth)
