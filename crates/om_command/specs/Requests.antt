-- What the words of the command line ask for.
use Rattle.std.specs.Prelude.{ℕ, bytes_eq, codes, if◌then◌else◌, List, [], ◌∷◌, Option, Some, None}

-- what is done with the files of a request
pub data Command : Type 0 where
  -- to answer a query, over an executable and a log
  queries : (sql : List ℕ) → Command
  -- to record the run of an executable with an input, and to put its log under a name
  records : (log : List ℕ) → Command
  -- to tell what an executable has
  informs : Command

-- the names of the files that are read, in their order, and what is done with them
pub record Request : Type 0 where
  pub files : List (List ℕ)
  pub command : Command

-- the request over one file, by the first word
abbrev pub request_on : (word first : List ℕ) → Option Request
request_on word first = if bytes_eq word (codes "info") then Some (record { files = first ∷ []; command = informs }) else None

-- the request over two files with a third word, by the first word
abbrev pub request_by : (word first second third : List ℕ) → Option Request
request_by word first second third =
    if bytes_eq word (codes "query") then Some (record { files = first ∷ second ∷ []; command = queries third })
    else if bytes_eq word (codes "record") then Some (record { files = first ∷ second ∷ []; command = records third })
    else None

-- the request of some words, if they are one
abbrev pub request_of : List (List ℕ) → Option Request
request_of (word ∷ first ∷ []) = request_on word first
request_of (word ∷ first ∷ second ∷ third ∷ []) = request_by word first second third
request_of words = None

-- the names of the files that some words name, none where they are no request
abbrev pub names_of : Option Request → List (List ℕ)
names_of None = []
names_of (Some request) = request.files
