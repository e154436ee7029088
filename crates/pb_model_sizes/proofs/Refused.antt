-- What becomes of the faults of the layers below, and of a name that no property has.
use Rattle.std.proofs.Common.{◌≡◌, ℕ, false, List, [], refl, sym, subst, inl, inr, Option, Some, None, Result, Ok, Err, IsErrAnd}
use Rattle.std.specs.Prelude.{Contains, IfOk, IsSome, String, option_map, string_bytes}
use Rattle.std.specs.declared.alloc.Global.{Global}
use Rattle.pb_base.specs.OrMemory.{IfFault, IfRefused, raised}
use Rattle.pb_base.proofs.Faults.{if_fault}
use Rattle.pb_base.specs.declared.or_memory.OrMemory.{OrMemory}
use Rattle.pb_base.specs.declared.or_memory.OrMemory.TheVariants.{Refused, Memory}
use Rattle.pb_text_meaning.specs.Syntax.{Name}
use Rattle.pb_typing_declarations.specs.declared.fault.TypingFault.{TypingFault}
use Rattle.pb_protocol_tree.specs.Form.{ProtocolForm}
use Rattle.pb_model_faults.specs.declared.ModelFault.{ModelFault}
use Rattle.pb_model_faults.specs.declared.ModelFault.TheVariants as model_fault
use Rattle.pb_model_properties.specs.Said.{IsTheReading}
use Rattle.pb_model_properties.specs.Refusals.{IsUnread}
use Rattle.pb_model_sizes.specs.Refusals.{AreSizesOf, IsUnsized, IsUnsizedProtocol, sizes_of}
use Rattle.pb_model_sizes.specs.Sizes.{is_known}
use Rattle.pb_model_sizes.specs.Sorts.{size_faults}

-- ---- rules of protocols

pub rules_broken : (name : Option Name) (text : ProtocolForm) (e : OrMemory TypingFault) (r : OrMemory ModelFault) → raised (λ fault above. above ≡ model_fault.Typing fault) e r
    → IfFault e (Contains (size_faults text)) → IfFault r (IsUnsizedProtocol name text)
rules_broken name text (Refused fault) (Refused above) is h = subst (IsUnsizedProtocol name text) (sym is) h
rules_broken name text Memory Memory is h = tt
rules_broken name text (Refused fault) Memory is h = absurd is
rules_broken name text Memory (Refused above) is h = absurd is

-- ---- names

unknown_named : (name : Option Name) (text : ProtocolForm) → is_known name text.properties ≡ false → IsSome name
unknown_named None text unknown = absurd (cc unknown)
unknown_named (Some x) text unknown = refl

-- a name whose bytes there are is there
pub some-copied : {A B : Type 0} (f : A → B) (o : Option A) → IsSome (option_map f o) → IsSome o
some-copied f None some = absurd (cc some)
some-copied f (Some x) some = refl

-- ---- a protocol that bytes say

module _ (name : Option Name) (bytes : List ℕ) (text : ProtocolForm) (reading : IsTheReading bytes text) where
  pub sized : (r : Result (String Global) (OrMemory ModelFault)) → IfOk r (λ lines. size_faults text ≡ []) → IfOk r (λ lines. string_bytes lines ≡ sizes_of name text)
      → IfOk r (λ lines. AreSizesOf name bytes (string_bytes lines))
  sized (Ok lines) kept is = (text, reading, kept, is)
  sized (Err e) kept is = tt

  unsized_by : (fault : ModelFault) → IsUnsizedProtocol name text fault → IsUnsized name bytes fault
  unsized_by (model_fault.Text fault) h = absurd h
  unsized_by (model_fault.Typing fault) h = inr (text, reading, h)
  unsized_by model_fault.NoProperty h = inr (text, reading, h)

  pub unsized : {T : Type 0} (r : Result T (OrMemory ModelFault)) → IfRefused r (IsUnsizedProtocol name text) → IfRefused r (IsUnsized name bytes)
  unsized (Ok x) h = tt
  unsized (Err Memory) h = tt
  unsized (Err (Refused fault)) h = unsized_by fault h

  pub named : {T : Type 0} (r : Result T (OrMemory ModelFault)) → IfRefused r (IsUnsizedProtocol name text) → r ≡ Err (Refused model_fault.NoProperty) → IsSome name
  named (Ok x) h is = absurd (cc is)
  named (Err Memory) h is = absurd (cc is)
  named (Err (Refused model_fault.NoProperty)) h is = unknown_named name text h.1
  named (Err (Refused (model_fault.Text fault))) h is = absurd (cc is)
  named (Err (Refused (model_fault.Typing fault))) h is = absurd (cc is)

-- ---- bytes that say none

module _ (name : Option Name) (bytes : List ℕ) {T : Type 0} where
  pub unread : (e : OrMemory ModelFault) (r : Result T (OrMemory ModelFault)) → IfFault e (IsUnread bytes) → IsErrAnd r (λ x. x ≡ e) → IfRefused r (IsUnsized name bytes)
  unread e (Ok x) h made = tt
  unread e (Err x) h made = subst (λ y. IfFault y (IsUnsized name bytes)) (sym made) (if_fault e (λ f is. inl is) h)

  pub not_named : (e : OrMemory ModelFault) (r : Result T (OrMemory ModelFault)) → IfFault e (IsUnread bytes) → IsErrAnd r (λ x. x ≡ e) → r ≡ Err (Refused model_fault.NoProperty)
      → IsSome name
  not_named e (Ok x) h made is = absurd (cc is)
  not_named (Refused model_fault.NoProperty) (Err x) h made is = absurd h
  not_named (Refused (model_fault.Text fault)) (Err x) h made is = absurd (cc (made, is))
  not_named (Refused (model_fault.Typing fault)) (Err x) h made is = absurd (cc (made, is))
  not_named Memory (Err x) h made is = absurd (cc (made, is))
