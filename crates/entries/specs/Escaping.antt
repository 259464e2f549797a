-- Which string was escaped in a key text, whatever else may stand there.
use Rattle.std.specs.Prelude.{ℕ, Bool, true, false, ◌==◌, if◌then◌else◌, List, [], ◌∷◌}

-- `00 ff` is a zero, and any other byte behind a zero ends it; the truth value says whether a zero
-- stands before
abbrev pub unescaped : Bool → List ℕ → List ℕ
unescaped zero [] = []
unescaped false (b ∷ bs) = if b == 0 then unescaped true bs else b ∷ unescaped false bs
unescaped true (b ∷ bs) = if b == 255 then 0 ∷ unescaped false bs else []
