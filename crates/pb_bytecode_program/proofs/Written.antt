-- The tokens that a run writes are those of a tree, as far as it is written.
use Rattle.std.proofs.Common.{◌≡◌, ℕ, zero, suc, List, [], ◌∷◌, ◌++◌, refl, sym, ap, ◌∙◌, append_assoc}
use Rattle.pb_fixpoint_trees.specs.declared.Token.{Token}
use Rattle.pb_fixpoint_trees.specs.declared.Token.TheVariants as token
use Rattle.pb_fixpoint_trees.specs.declared.junction.Junction.{Junction}
use Rattle.pb_fixpoint_trees.specs.Tree.{Leaf, LeafCalls, Operands, End, LeafThen, BracketThen, OperandsCall, Tree, Single, Root, TreeCalls}
use Rattle.pb_fixpoint_trees.specs.Tokens.{opening, leaf_token, operands_tokens, tree_tokens}

-- two lists of operands, one behind the other
abbrev pub append : Operands → Operands → Operands
append End y = y
append (LeafThen leaf after) y = LeafThen leaf (append after y)
append (BracketThen c inside after) y = BracketThen c inside (append after y)

pub append-tokens : (x y : Operands) → operands_tokens (append x y) ≡ operands_tokens x ++ operands_tokens y
append-tokens End y = refl
append-tokens (LeafThen leaf after) y = ap (λ ts. leaf_token leaf ∷ ts) (append-tokens after y)
append-tokens (BracketThen c inside after) y =
    ap (λ ts. opening c ∷ (operands_tokens inside ++ token.Close ∷ ts)) (append-tokens after y)
    ∙ ap (λ ts. opening c ∷ ts) (sym (append_assoc (operands_tokens inside) (token.Close ∷ operands_tokens after) (operands_tokens y)))

module _ (P : ℕ → Type 0) where
  append-calls : (x y : Operands) → OperandsCall P x → OperandsCall P y → OperandsCall P (append x y)
  append-calls End y a b = b
  append-calls (LeafThen leaf after) y a b = (a.0, append-calls after y a.1 b)
  append-calls (BracketThen c inside after) y a b = (a.0, append-calls after y a.1 b)

  -- an open bracket, with what stands in it so far
  pub record Open (front out : List Token) : Type 0 where
    pub connective : Junction
    pub operands : Operands
    pub calls : OperandsCall P operands
    pub tokens : out ≡ front ++ opening connective ∷ operands_tokens operands

  -- n + 1 brackets are open
  abbrev pub AreOpen : ℕ → List Token → Type 0
  AreOpen zero out = Open [] out
  AreOpen (suc n) out = (front : List Token) × AreOpen n front × Open front out

  pub record IsTreeOf (out : List Token) : Type 0 where
    pub tree : Tree
    pub calls : TreeCalls P tree
    pub tokens : out ≡ tree_tokens tree

  -- what is written where n brackets are open and r roots were written
  abbrev pub Written : ℕ → ℕ → List Token → Type 0
  Written zero zero out = out ≡ []
  Written zero (suc r) out = IsTreeOf out
  Written (suc n) zero out = ⊥
  Written (suc n) (suc r) out = AreOpen n out

  more_in : (front out : List Token) (x : Operands) → OperandsCall P x → Open front out → Open front (out ++ operands_tokens x)
  more_in front out x c o = record {
    connective = o.connective;
    operands = append o.operands x;
    calls = append-calls o.operands x o.calls c;
    tokens = ap (λ ts. ts ++ operands_tokens x) o.tokens
        ∙ append_assoc front (opening o.connective ∷ operands_tokens o.operands) (operands_tokens x)
        ∙ ap (λ ts. front ++ opening o.connective ∷ ts) (sym (append-tokens o.operands x));
  }

  -- further operands of the innermost open bracket
  more : (n : ℕ) (out : List Token) (x : Operands) → OperandsCall P x → AreOpen n out → AreOpen n (out ++ operands_tokens x)
  more zero out x c o = more_in [] out x c o
  more (suc n) out x c o = (o.0, o.1, more_in o.0 out x c o.2)

  pub leaf_written : (leaf : Leaf) (n r : ℕ) (out : List Token) → LeafCalls P leaf → AreOpen n out → AreOpen n (out ++ leaf_token leaf ∷ [])
  leaf_written leaf n r out c w = more n out (LeafThen leaf End) (c, tt) w

  pub single_written : (leaf : Leaf) (out : List Token) → LeafCalls P leaf → out ≡ [] → IsTreeOf (out ++ leaf_token leaf ∷ [])
  single_written leaf out c e = record { tree = Single leaf; calls = c; tokens = ap (λ ts. ts ++ leaf_token leaf ∷ []) e }

  pub root_opened : (c : Junction) (out : List Token) → out ≡ [] → AreOpen 0 (out ++ opening c ∷ [])
  root_opened c out e = record { connective = c; operands = End; calls = tt; tokens = ap (λ ts. ts ++ opening c ∷ []) e }

  pub bracket_opened : (c : Junction) (n : ℕ) (out : List Token) → AreOpen n out → AreOpen (suc n) (out ++ opening c ∷ [])
  bracket_opened c n out w = (out, w, record { connective = c; operands = End; calls = tt; tokens = refl })

  pub root_closed : (out : List Token) → AreOpen 0 out → IsTreeOf (out ++ token.Close ∷ [])
  root_closed out w = record { tree = Root w.connective w.operands; calls = w.calls; tokens = ap (λ ts. ts ++ token.Close ∷ []) w.tokens }

  pub bracket_closed : (n : ℕ) (out : List Token) → AreOpen (suc n) out → AreOpen n (out ++ token.Close ∷ [])
  bracket_closed n out w =
      let o = w.2 in
      let x = BracketThen o.connective o.operands End in
      let e : out ++ token.Close ∷ [] ≡ w.0 ++ operands_tokens x =
      ap (λ ts. ts ++ token.Close ∷ []) o.tokens ∙ append_assoc w.0 (opening o.connective ∷ operands_tokens o.operands) (token.Close ∷ []) in
      rw e (more n w.0 x (o.calls, tt) w.1)
