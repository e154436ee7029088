-- One piece of text after another.
use Rattle.std.proofs.Common.{◌≡◌, ℕ, ◌+◌, true, List, [], ◌++◌, length, take, Option, Result, Ok, Err, refl, sym, ap, ◌∙◌, subst, append_assoc, append-nil, length-append, arith}
use Rattle.std.specs.Prelude.{OnOk, OnErr, IsErr}
use Rattle.std.specs.Io.KnownBytes.{Appends}
use Rattle.std.proofs.KnownBytes.{Appends-nil, Appends-trans}
use Rattle.std.proofs.lemmas.List.{take-append-le}
use Rattle.std.proofs.Math.Seq.{take-append-add}
use Rattle.pb_sorts.specs.Sink.{AppendsPrefix}
use Rattle.pb_sorts.specs.declared.sink.E02.{E02}
use Rattle.pb_sorts.specs.declared.sink.Sink.{Ghosts}
use Rattle.pb_report.specs.Sending.{IsSent, PassesOn, Sends}
use Rattle.pb_report.specs.declared.buffer.TextWriter.{TextWriter}

-- a part that begins a text begins each longer one
pub prefix_more : (a b : Option (List ℕ)) (xs ys : List ℕ) → AppendsPrefix a b xs → AppendsPrefix a b (xs ++ ys)
prefix_more a b xs ys h =
    let n = h.0 in
    let l = h.1 in
    (n, omega (arith, length-append xs ys), subst (Appends a b) (sym (take-append-le n xs ys (omega arith))) h.2)

-- after what went out, a part of what follows went out
pub after_sent : (a b c : Option (List ℕ)) (sent ys : List ℕ) → Appends a b sent → AppendsPrefix b c ys → AppendsPrefix a c (sent ++ ys)
after_sent a b c sent ys out h =
    let n = h.0 in
    let l = h.1 in (
      length sent + n,
      omega (arith, length-append sent ys),
      subst (Appends a c) (sym (take-append-add sent ys n)) (Appends-trans a b c sent (take n ys) out h.2),
    )

-- sent and then the rest, regrouped
regrouped : (sent q p A B : List ℕ) → sent ++ q ≡ p ++ A → sent ++ (q ++ B) ≡ p ++ (A ++ B)
regrouped sent q p A B e = sym (append_assoc sent q B) ∙ (ap (λ (zs : List ℕ). zs ++ B) e ∙ append_assoc p A B)

pub prefix_after : (a b c : Option (List ℕ)) (p q A B : List ℕ) → IsSent a b p q A → AppendsPrefix b c (q ++ B) → AppendsPrefix a c (p ++ (A ++ B))
prefix_after a b c p q A B is h =
    subst (AppendsPrefix a c) (regrouped is.sent q p A B is.rest) (after_sent a b c is.sent (q ++ B) is.went_out h)

pub sent_after : (a b c : Option (List ℕ)) (p q s A B : List ℕ) → IsSent a b p q A → IsSent b c q s B → IsSent a c p s (A ++ B)
sent_after a b c p q s A B x y = record {
  sent = x.sent ++ y.sent;
  went_out = Appends-trans a b c x.sent y.sent x.went_out y.went_out;
  rest = append_assoc x.sent y.sent s ∙ (ap (λ (zs : List ℕ). x.sent ++ zs) y.rest ∙ regrouped x.sent q p A B x.rest);
}

module _ {S T : Type 0} (sink : Ghosts S) where
  -- one piece was sent, and then another one is
  pub passes_then : (r : Result T E02) (a b c : S) (p q s A B : List ℕ) → IsSent (sink.taken a) (sink.taken b) p q A × (sink.has_failed b ≡ sink.has_failed a)
      → PassesOn q s B r sink b c → PassesOn p s (A ++ B) r sink a c
  passes_then (Ok x) a b c p q s A B first second = (sent_after (sink.taken a) (sink.taken b) (sink.taken c) p q s A B first.0 second.0, second.1 ∙ first.1)
  passes_then (Err x) a b c p q s A B first second = (prefix_after (sink.taken a) (sink.taken b) (sink.taken c) p q A B first.0 second.0, second.1)

  -- a piece is not sent, so neither is what follows it
  pub passes_err : (r : Result T E02) (a b : S) (p s A B : List ℕ) → IsErr r → AppendsPrefix (sink.taken a) (sink.taken b) (p ++ A) × (sink.has_failed b ≡ true)
      → PassesOn p s (A ++ B) r sink a b
  passes_err (Ok x) a b p s A B is h = cc
  passes_err (Err x) a b p s A B is h =
      (subst (AppendsPrefix (sink.taken a) (sink.taken b)) (append_assoc p A B) (prefix_more (sink.taken a) (sink.taken b) (p ++ A) B h.0), h.1)

  -- what was in the buffer, and then the text
  pub put_both : (r : Result T E02) (a b c : S) (p after text : List ℕ) → Appends (sink.taken a) (sink.taken b) p → sink.has_failed b ≡ sink.has_failed a
      → OnOk r (Appends (sink.taken b) (sink.taken c) text) → OnOk r (sink.has_failed c ≡ sink.has_failed b) → OnErr r (AppendsPrefix (sink.taken b) (sink.taken c) text)
      → OnErr r (sink.has_failed c ≡ true) → after ≡ [] → PassesOn p after text r sink a c
  put_both (Ok x) a b c p after text out same all ok part failed none = (
    record {
      sent = p ++ text;
      went_out = Appends-trans (sink.taken a) (sink.taken b) (sink.taken c) p text out all;
      rest = ap (λ (zs : List ℕ). (p ++ text) ++ zs) none ∙ append-nil (p ++ text);
    },
    ok ∙ same,
  )
  put_both (Err x) a b c p after text out same all ok part failed none = (after_sent (sink.taken a) (sink.taken b) (sink.taken c) p text out part, failed)

module _ {S : Type 0} {members : Ghosts S} where
  -- nothing is sent
  pub sends_nothing : {T : Type 0} (t : T) (a : TextWriter S) → Sends [] (Ok t) members a a
  sends_nothing t a = record {
    same_sink = refl;
    delivers = (record { sent = []; went_out = Appends-nil (members.taken a.sink.now); rest = sym (append-nil a.buffer.now.bytes.items) }, refl);
  }

  -- one text was sent, and then another one is
  pub sends_then : {T U : Type 0} {u : U} {r : Result T E02} {a b c : TextWriter S} {A B : List ℕ} → Sends A (Ok u) members a b → Sends B r members b c
      → Sends (A ++ B) r members a c
  sends_then {T} {U} {u} {r} {a} {b} {c} {A} {B} first second = record {
    same_sink = second.same_sink ∙ first.same_sink;
    delivers = passes_then members r a.sink.now b.sink.now c.sink.now _ _ _ A B first.delivers second.delivers;
  }

  -- a text is not sent, so neither is what follows it
  pub sends_err : {T U : Type 0} {e : E02} {r : Result T E02} {a b : TextWriter S} {A : List ℕ} (B : List ℕ) → IsErr r → Sends {T = U} A (Err e) members a b
      → Sends (A ++ B) r members a b
  sends_err {T} {U} {e} {r} {a} {b} {A} B is h = record {
    same_sink = h.same_sink;
    delivers = passes_err members r a.sink.now b.sink.now _ _ A B is h.delivers;
  }

  -- the same text, otherwise written
  pub sends_as : {T : Type 0} {r : Result T E02} {a b : TextWriter S} {t u : List ℕ} → t ≡ u → Sends t r members a b → Sends u r members a b
  sends_as {T} {r} {a} {b} {t} {u} e h = subst (λ (x : List ℕ). Sends x r members a b) e h

  -- whatever the call answers
  pub sends_ok : {T U : Type 0} {t : T} {u : U} {a b : TextWriter S} {A : List ℕ} → Sends A (Ok u) members a b → Sends A (Ok t) members a b
  sends_ok h = record { same_sink = h.same_sink; delivers = h.delivers }

-- all that was sent through the buffer went out
pub all_out : (a b c : Option (List ℕ)) (before after text : List ℕ) → before ≡ [] → IsSent a b before after text → Appends b c after → Appends a c text
all_out a b c before after text none is out =
    let all : is.sent ++ after ≡ text = is.rest ∙ ap (λ (zs : List ℕ). zs ++ text) none in
    subst (Appends a c) all (Appends-trans a b c is.sent after is.went_out out)

-- or a part of it, where the buffer was not sent after all had come
pub part_out : (a b c : Option (List ℕ)) (before after text : List ℕ) → before ≡ [] → IsSent a b before after text → AppendsPrefix b c after → AppendsPrefix a c text
part_out a b c before after text none is part =
    let all : is.sent ++ after ≡ text = is.rest ∙ ap (λ (zs : List ℕ). zs ++ text) none in
    subst (AppendsPrefix a c) all (after_sent a b c is.sent after is.went_out part)

-- or a part of it, where the text did not come whole
pub begins : (a b : Option (List ℕ)) (before text : List ℕ) → before ≡ [] → AppendsPrefix a b (before ++ text) → AppendsPrefix a b text
begins a b before text none part = subst (AppendsPrefix a b) (ap (λ (zs : List ℕ). zs ++ text) none) part
