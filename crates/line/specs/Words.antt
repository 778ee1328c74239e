-- The words of a line, byte by byte.
use Rattle.std.specs.Prelude.{ℕ, Bool, true, false, cond, not, ◌||◌, List, [], ◌∷◌, ◌==◌}
use Rattle.std.specs.List.{take_while}

-- a space, a tab or a carriage return
abbrev pub blank : ℕ → Bool
blank c = c == 32 || (c == 9 || c == 13)

-- neither a blank nor the sign `#`, which starts a comment
abbrev pub letter : ℕ → Bool
letter c = not (blank c || c == 35)

-- the words of a text; of one that begins within a word, those after that word
abbrev pub words_from : Bool → List ℕ → List (List ℕ)
words_from within [] = []
words_from within (c ∷ cs) =
    cond (blank c) (words_from false cs)
    (cond (c == 35) [] (cond within (words_from true cs) (take_while letter (c ∷ cs) ∷ words_from true cs)))

-- the words of a line, up to a comment
abbrev pub words : List ℕ → List (List ℕ)
words cs = words_from false cs
