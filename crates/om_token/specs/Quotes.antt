-- What is said between quotes: SQL-92, section 5.2, <delimited identifier body>, and section 5.3, <character string literal>.
use Rattle.std.specs.Prelude.{ℕ, List, [], ◌∷◌, if◌then◌else◌, ◌==◌, ◌&&◌}
use Rattle.std.specs.List.{flat_map}

-- what stands between quotes, with one quote for each two
unfoldable pub unquoted : ℕ → List ℕ → List ℕ
unquoted quote [] = []
unquoted quote (byte ∷ []) = byte ∷ []
unquoted quote (byte ∷ second ∷ rest) =
    if byte == quote && second == quote then quote ∷ unquoted quote rest else byte ∷ unquoted quote (second ∷ rest)

-- what has to stand between quotes so that these bytes are said: each quote of theirs twice
unfoldable pub quoted : ℕ → List ℕ → List ℕ
quoted quote bytes = flat_map (λ byte. if byte == quote then quote ∷ quote ∷ [] else byte ∷ []) bytes
