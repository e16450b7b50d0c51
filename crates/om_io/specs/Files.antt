-- Files in memory: a list of names with their bytes.
use Rattle.std.specs.Prelude.{ℕ, List, Option, option_map, find, bytes_eq, count_by}

-- in a list of names with bytes, what a name holds: the bytes of its first place
abbrev pub held_in : List (List ℕ × List ℕ) → List ℕ → Option (List ℕ)
held_in files name = option_map (λ file. file.1) (find (λ file. bytes_eq file.0 name) files)

-- how often a name stands in a list
abbrev pub times : List (List ℕ) → List ℕ → ℕ
times names name = count_by (λ other. bytes_eq other name) names
