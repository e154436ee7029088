-- Words that are written one behind another are cut into these words.
use Rattle.std.proofs.Common.{◌<◌, ℕ, Bool, true, false, cond, ◌&&◌, ◌||◌, List, [], ◌∷◌, ◌++◌, length, take, drop, refl, sym, subst, arith}
use Rattle.std.proofs.Math.Seq.{take-append_seam, drop-append_seam}
use Rattle.pb_text_tree.specs.declared.place.Place.{Place}
use Rattle.pb_text_lexer.specs.Lexing.{Cuts, none, blank, token, piece, past}
use Rattle.pb_text_lexer.specs.RangeLines.{ranges_at}
use Rattle.pb_text_lexer.specs.Tokens.{Tok, token_at}
use Rattle.pb_text_printer.specs.Words.{Word, written, Spells}
use Rattle.pb_text_printer.proofs.CutLemmas.{Parts, NotEquals, Follows, IsCutAsToken}

-- what may stand behind a word behind which a space may stand, and behind one where none may
abbrev pub Entry : Bool → Word → Type 0
Entry true w = cond w.spaced (Unit {0}) (Parts w.text)
Entry false w = NotEquals w.text

-- words that can be written one behind another
abbrev pub Well : Bool → List Word → Type 0
Well gap [] = Unit {0}
Well gap (w ∷ ws) = Entry gap w × IsCutAsToken w × Well w.gap ws

-- ---- what stands behind a word does not go on with it

parts-along : (text rest : List ℕ) → 0 < length text → Parts text → Parts (text ++ rest)
parts-along [] rest some h = absurd (omega arith)
parts-along (b ∷ bs) rest some h = h

equals-along : (text rest : List ℕ) → 0 < length text → NotEquals text → NotEquals (text ++ rest)
equals-along [] rest some h = absurd (omega arith)
equals-along (b ∷ bs) rest some h = h

parts-written : (ws : List Word) → Well true ws → Parts (written true ws)
parts-written [] h = tt
parts-written (v ∷ vs) h = go v.spaced h.0
  where
    go : (s : Bool) → cond s (Unit {0}) (Parts v.text) → Parts (cond s (32 ∷ []) [] ++ (v.text ++ (cond v.ends_line (10 ∷ []) [] ++ written v.gap vs)))
    go true e = refl
    go false e = parts-along v.text (cond v.ends_line (10 ∷ []) [] ++ written v.gap vs) h.1.some e

equals-written : (ws : List Word) → Well false ws → NotEquals (written false ws)
equals-written [] h = tt
equals-written (v ∷ vs) h = equals-along v.text (cond v.ends_line (10 ∷ []) [] ++ written v.gap vs) h.1.some h.0

follows : (gap ends : Bool) (ws : List Word) → Well gap ws → cond (gap || ends) (Parts (cond ends (10 ∷ []) [] ++ written gap ws)) (NotEquals (cond ends (10 ∷ []) [] ++ written gap ws))
follows true true ws h = refl
follows true false ws h = parts-written ws h
follows false true ws h = refl
follows false false ws h = equals-written ws h

-- ---- the cut

pub record IsCutInto (p : Place) (bs : List ℕ) (ws : List Word) : Type 0 where
  pub tokens : List Tok
  pub place : Place
  pub cut : Cuts p bs tokens [] place []
  pub spells : (us : List Tok) → Spells ws (tokens ++ us) us

space-before : (p : Place) (bs : List ℕ) (ws : List Word) → IsCutInto (past p (32 ∷ [])) bs ws → IsCutInto p (32 ∷ bs) ws
unfolding piece ranges_at
space-before p bs ws c = record { tokens = c.tokens; place = c.place; cut = blank {n = 1} refl c.cut; spells = c.spells }

line-before : (p : Place) (bs : List ℕ) (ws : List Word) → IsCutInto (past p (10 ∷ [])) bs ws → IsCutInto p (10 ∷ bs) ws
unfolding piece ranges_at
line-before p bs ws c = record { tokens = c.tokens; place = c.place; cut = blank {n = 1} refl c.cut; spells = c.spells }

space-or-none : (b : Bool) (p : Place) (bs : List ℕ) (ws : List Word) → ((q : Place) → IsCutInto q bs ws) → IsCutInto p (cond b (32 ∷ []) [] ++ bs) ws
space-or-none true p bs ws c = space-before p bs ws (c (past p (32 ∷ [])))
space-or-none false p bs ws c = c p

line-or-none : (b : Bool) (p : Place) (bs : List ℕ) (ws : List Word) → ((q : Place) → IsCutInto q bs ws) → IsCutInto p (cond b (10 ∷ []) [] ++ bs) ws
line-or-none true p bs ws c = line-before p bs ws (c (past p (10 ∷ [])))
line-or-none false p bs ws c = c p

word-before : (p : Place) (w : Word) (rest : List ℕ) (ws : List Word) → IsCutAsToken w → Follows w rest → ((q : Place) → IsCutInto q rest ws) → IsCutInto p (w.text ++ rest) (w ∷ ws)
word-before p w rest ws ink follow behind =
    let c = behind (past p w.text) in
    let front = take-append_seam w.text rest in
    let back = drop-append_seam w.text rest in
    let placed : Cuts (past p (take (length w.text) (w.text ++ rest))) (drop (length w.text) (w.text ++ rest)) c.tokens [] c.place [] =
    subst (λ (v : List ℕ). Cuts (past p v) (drop (length w.text) (w.text ++ rest)) c.tokens [] c.place []) (sym front)
    (subst (λ (v : List ℕ). Cuts (past p w.text) v c.tokens [] c.place []) (sym back) c.cut) in
    record {
      tokens = token_at p w.kind w.text ∷ c.tokens;
      place = c.place;
      cut = subst (λ (v : List ℕ). Cuts p (w.text ++ rest) (token_at p w.kind v ∷ c.tokens) [] c.place []) front (token {n = length w.text} (ink.cuts p rest follow) placed);
      spells = λ us. (token_at p w.kind w.text, c.tokens ++ us, refl, refl, refl, c.spells us);
    }

-- words that can be written one behind another are cut into these words
pub written-cut : (gap : Bool) (ws : List Word) (p : Place) → Well gap ws → IsCutInto p (written gap ws) ws
written-cut gap [] p h = record { tokens = []; place = p; cut = none; spells = λ us. refl }
written-cut gap (w ∷ ws) p h =
    space-or-none (gap && w.spaced) p (w.text ++ (cond w.ends_line (10 ∷ []) [] ++ written w.gap ws)) (w ∷ ws) (λ q.
    word-before q w (cond w.ends_line (10 ∷ []) [] ++ written w.gap ws) ws h.1 (follows w.gap w.ends_line ws h.2) (λ r.
    line-or-none w.ends_line r (written w.gap ws) ws (λ o. written-cut w.gap ws o h.2)))
