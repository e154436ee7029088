-- The parts of a protocol's faults and the whole.
use Rattle.std.proofs.Common.{◌≡◌, List, [], ◌∷◌, ◌++◌, refl, sym, ◌∙◌, ap, subst, rules, Option, Some, None, Result, Ok, Err, MatchResult, OnOk}
use Rattle.std.specs.Prelude.{Contains}
use Rattle.pb_typing_declarations.specs.declared.fault.TypingFault.{TypingFault}
use Rattle.pb_base.specs.declared.or_memory.OrMemory.{OrMemory}
use Rattle.pb_base.specs.declared.or_memory.OrMemory.TheVariants.{Refused, Memory}
use Rattle.pb_base.specs.OrMemory.{IfFault, IfRefused, OnRefused}
use Rattle.pb_text_tree.specs.Form.{SpecForm}
use Rattle.pb_text_meaning.specs.Erase as texts
use Rattle.pb_typing_declarations.specs.Declarations.{declaration_faults}
use Rattle.pb_sorts.specs.Counting.{instance_limit}
use Rattle.pb_sorts.specs.declared.counting.Counting.TheVariants.{Reached}
use Rattle.pb_protocol_tree.specs.Form.{ProtocolForm}
use Rattle.pb_text_meaning.specs.Syntax.{Spec}
use Rattle.pb_protocol_typing.specs.Faults.{data_faults, data_form, lists_faults, names_faults, protocol_own_faults, parts_fault, protocol_faults, signatures_of, state_of}
use Rattle.pb_protocol_typing.specs.Scopes.{Signatures}
use Rattle.pb_protocol_typing.specs.Steps.{definitions_fault}
use Rattle.pb_typing_declarations.specs.Faults.{IsAmong}
use Rattle.pb_typing_declarations.proofs.Parts.{among_left, among_right}
use Rattle.pb_protocol_typing.specs.Fault.{listed}

alone : (fault : TypingFault) → Contains (fault ∷ []) fault
alone fault = search rules

contains_listed : (o : Option TypingFault) (fault : TypingFault) → o ≡ Some fault → Contains (listed o) fault
contains_listed o fault is = subst (λ (p : Option TypingFault). Contains (listed p) fault) (sym is) (alone fault)

listed_among : (o : Option TypingFault) (e : OrMemory TypingFault) → IfFault e (λ fault. o ≡ Some fault) → IsAmong (listed o) e
listed_among o Memory h = h
listed_among o (Refused fault) h = contains_listed o fault h

second_among : (all names ds rest : List TypingFault) (e : OrMemory TypingFault) → all ≡ names ++ (ds ++ rest) → IsAmong ds e → IsAmong all e
second_among all names ds rest e is h = subst (λ (zs : List TypingFault). IsAmong zs e) (sym is) (among_right names (ds ++ rest) e (among_left ds rest e h))

third_among : (all names ds lists rest : List TypingFault) (e : OrMemory TypingFault) → all ≡ names ++ (ds ++ (lists ++ rest)) → IsAmong lists e → IsAmong all e
third_among all names ds lists rest e is h =
    subst (λ (zs : List TypingFault). IsAmong zs e) (sym is) (among_right names (ds ++ (lists ++ rest)) e (among_right ds (lists ++ rest) e (among_left lists rest e h)))

listed_checks : (o : Option TypingFault) (r : Result (Unit {0}) (OrMemory TypingFault)) → MatchResult r (λ _. o ≡ None) (λ e. IfFault e (λ fault. o ≡ Some fault))
    → MatchResult r (λ _. listed o ≡ []) (IsAmong (listed o))
listed_checks o (Ok u) h = ap listed h
listed_checks o (Err e) h = listed_among o e h

last_checks : (all names ds lists : List TypingFault) (o : Option TypingFault) (r : Result (Unit {0}) (OrMemory TypingFault)) → all ≡ names ++ (ds ++ (lists ++ listed o))
    → names ≡ [] → ds ≡ [] → lists ≡ [] → MatchResult r (λ _. o ≡ None) (λ e. IfFault e (λ fault. o ≡ Some fault))
    → MatchResult r (λ _. all ≡ []) (IsAmong all)
last_checks all names ds lists o r is a b c h =
    let same : all ≡ listed o =
    is ∙ (ap (λ (zs : List TypingFault). zs ++ (ds ++ (lists ++ listed o))) a
    ∙ (ap (λ (zs : List TypingFault). zs ++ (lists ++ listed o)) b ∙ ap (λ (zs : List TypingFault). zs ++ listed o) c)) in
    subst (λ (us : List TypingFault). MatchResult r (λ _. us ≡ []) (IsAmong us)) (sym same) (listed_checks o r h)

-- the rules beside those of sorts and ranges, part by part
module _ (spec : Spec) (text : ProtocolForm) where
  abbrev state_fault : Option TypingFault
  state_fault = definitions_fault spec (state_of spec text) text.definitions

  pub names_among : (e : OrMemory TypingFault) → IsAmong (names_faults text) e → IsAmong (protocol_own_faults spec text) e
  names_among e h = among_left (names_faults text) _ e h

  pub definitions_among : (e : OrMemory TypingFault) → IfFault e (λ fault. state_fault ≡ Some fault) → IsAmong (protocol_own_faults spec text) e
  definitions_among e h = second_among (protocol_own_faults spec text) (names_faults text) (listed state_fault) _ e refl (listed_among state_fault e h)

  pub lists_among : (e : OrMemory TypingFault) (known : Signatures) → known ≡ signatures_of spec text → IsAmong (lists_faults spec known text) e → IsAmong (protocol_own_faults spec text) e
  lists_among e known is h =
      third_among (protocol_own_faults spec text) (names_faults text) (listed state_fault) (lists_faults spec (signatures_of spec text) text) _ e refl
      (subst (λ (k : Signatures). IsAmong (lists_faults spec k text) e) is h)

  pub own_checks : (known : Signatures) (r : Result (Unit {0}) (OrMemory TypingFault)) → known ≡ signatures_of spec text
      → names_faults text ≡ [] → state_fault ≡ None → lists_faults spec known text ≡ []
      → MatchResult r (λ _. parts_fault spec known text ≡ None) (λ e. IfFault e (λ fault. parts_fault spec known text ≡ Some fault))
      → MatchResult r (λ _. protocol_own_faults spec text ≡ []) (IsAmong (protocol_own_faults spec text))
  own_checks known r is names state lists parts =
      last_checks (protocol_own_faults spec text) (names_faults text) (listed state_fault) (lists_faults spec known text) (parts_fault spec known text) r
      (ap (λ (k : Signatures). names_faults text ++ (listed state_fault ++ (lists_faults spec k text ++ listed (parts_fault spec k text)))) (sym is))
      names (ap listed state) lists parts

-- ---- sorts and ranges, and the rest

abbrev reached_faults : SpecForm → List TypingFault
reached_faults t = declaration_faults (instance_limit Reached) t

pub declared_among : (t : SpecForm) (text : ProtocolForm) (e : OrMemory TypingFault) → t ≡ data_form text → IsAmong (reached_faults t) e → IsAmong (protocol_faults text) e
declared_among t text e is h =
    among_left (data_faults text) (protocol_own_faults (texts.erase (data_form text)) text) e (subst (λ (u : SpecForm). IsAmong (reached_faults u) e) is h)

pub all_checks : (t d : SpecForm) (text : ProtocolForm) (r : Result (Unit {0}) (OrMemory TypingFault)) → t ≡ data_form text → d ≡ t → reached_faults t ≡ []
    → MatchResult r (λ _. protocol_own_faults (texts.erase d) text ≡ []) (IsAmong (protocol_own_faults (texts.erase d) text))
    → MatchResult r (λ _. protocol_faults text ≡ []) (IsAmong (protocol_faults text))
all_checks t d text r is same clear h =
    let clear_data : data_faults text ≡ [] = subst (λ (u : SpecForm). reached_faults u ≡ []) is clear in
    let whole : protocol_faults text ≡ protocol_own_faults (texts.erase (data_form text)) text =
    ap (λ (zs : List TypingFault). zs ++ protocol_own_faults (texts.erase (data_form text)) text) clear_data in
    let own = subst (λ (u : SpecForm). MatchResult r (λ _. protocol_own_faults (texts.erase u) text ≡ []) (IsAmong (protocol_own_faults (texts.erase u) text))) (same ∙ is) h in
    subst (λ (us : List TypingFault). MatchResult r (λ _. us ≡ []) (IsAmong us)) (sym whole) own

-- ---- what the answer says

none_contained : (fault : TypingFault) → Contains [] fault → ⊥
none_contained fault h = absurd (search rules)

module _ (all : List TypingFault) where
  pub on_accepted : (r : Result (Unit {0}) (OrMemory TypingFault)) → MatchResult r (λ _. all ≡ []) (IsAmong all) → OnOk r (all ≡ [])
  on_accepted (Ok u) h = h
  on_accepted (Err e) h = tt

  pub on_refused : (r : Result (Unit {0}) (OrMemory TypingFault)) → MatchResult r (λ _. all ≡ []) (IsAmong all) → IfRefused r (Contains all)
  on_refused (Ok u) h = tt
  on_refused (Err e) h = h

  broken : (e : OrMemory TypingFault) → IsAmong all e → IfFault e (λ _. ¬ (all ≡ []))
  broken Memory h = tt
  broken (Refused fault) h = λ (is : all ≡ []). none_contained fault (subst (λ (zs : List TypingFault). Contains zs fault) is h)

  pub on_broken : (r : Result (Unit {0}) (OrMemory TypingFault)) → MatchResult r (λ _. all ≡ []) (IsAmong all) → OnRefused r (¬ (all ≡ []))
  on_broken (Ok u) h = tt
  on_broken (Err e) h = broken e h
