-- The lines of a text, and the words of a line.
use Rattle.std.specs.Prelude.{ℕ, Bool, true, false, List, [], ◌∷◌, ◌==◌, ◌&&◌, if◌then◌else◌}

-- whether a newline comes next
abbrev pub starts_with_newline : List ℕ → Bool
starts_with_newline [] = false
starts_with_newline (b ∷ bs) = b == 10

-- a byte before the first line, or before the first word
abbrev pub onto : ℕ → List (List ℕ) → List (List ℕ)
onto b [] = (b ∷ []) ∷ []
onto b (l ∷ ls) = (b ∷ l) ∷ ls

-- the lines of a text: each ends with a newline, which may be missing at the last one, and a carriage return before the
-- newline is dropped
unfoldable pub lines_of : List ℕ → List (List ℕ)
lines_of [] = []
lines_of (b ∷ bs) =
    if b == 10 then [] ∷ lines_of bs
    else if (b == 13) && starts_with_newline bs then lines_of bs
    else onto b (lines_of bs)

-- whether a space or the end comes next
abbrev pub ends_word : List ℕ → Bool
ends_word [] = true
ends_word (b ∷ bs) = b == 32

-- the words of a line, with one or more spaces between them; spaces at either end are skipped
unfoldable pub words_of : List ℕ → List (List ℕ)
words_of [] = []
words_of (b ∷ bs) =
    if b == 32 then words_of bs
    else if ends_word bs then (b ∷ []) ∷ words_of bs
    else onto b (words_of bs)

-- a line without a carriage return at its end
unfoldable pub without_return : List ℕ → List ℕ
without_return [] = []
without_return (b ∷ []) = if b == 13 then [] else b ∷ []
without_return (b ∷ c ∷ bs) = b ∷ without_return (c ∷ bs)
