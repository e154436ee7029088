-- Lines of a file, each with the label of that file before it.
use Rattle.std.specs.Prelude.{◌++◌, ◌==◌, ℕ, Bool, true, false, List, [], ◌∷◌, if◌then◌else◌, codes}

-- the label of a file
abbrev pub label_of : List ℕ → List ℕ
label_of name = name ++ codes ": "

-- that label, or none
abbrev pub label_where : Bool → List ℕ → List ℕ
label_where true name = label_of name
label_where false name = []

-- the text, with the label before each of its lines; whether the text begins a line
abbrev pub labelled : List ℕ → Bool → List ℕ → List ℕ
labelled label begins [] = []
labelled label begins (byte ∷ bytes) =
    (if begins then label else []) ++ byte ∷ labelled label (byte == 10) bytes
