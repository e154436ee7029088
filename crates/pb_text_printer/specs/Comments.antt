-- Comments that stand above a text.
use Rattle.std.specs.Prelude.{ℕ, ◌==◌, Bool, true, false, if◌then◌else◌, List, [], ◌∷◌, ◌++◌, codes}

-- what is written of a comment from a byte on that begins a line or doesn't: `% ` before each line,
-- and the end of the last one
abbrev pub comment_from : Bool → List ℕ → List ℕ
comment_from begins [] = if begins then [] else 10 ∷ []
comment_from begins (b ∷ bs) =
    (if begins then codes "% " else []) ++ (b ∷ comment_from (b == 10) bs)

-- a comment, each line of it behind `% `; nothing where it is empty
abbrev pub comment_bytes : List ℕ → List ℕ
comment_bytes = comment_from true
