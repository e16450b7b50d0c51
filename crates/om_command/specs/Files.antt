-- What there is to see of the files of a request, and how far the order of reads comes.
use Rattle.std.specs.Prelude.{◌≡◌, ℕ, nat_lt, if◌then◌else◌, List, [], ◌∷◌, ◌++◌, length, map, Option, Some, None, IfSome}
use Rattle.om_base.specs.Limits.{most_bytes}
use Rattle.om_io.specs.Shelf.{FilesByName}

-- what there is to see of a file
pub data Seen : Type 0 where
  -- its bytes
  found : List ℕ → Seen
  -- that it has more bytes than are read
  longer : Seen
  -- that it isn't there
  missing : Seen

-- a file of a request: its name, and what there is to see of it
pub record File : Type 0 where
  pub name : List ℕ
  pub seen : Seen

-- what there is to see of a file that holds these bytes, or that isn't held
abbrev pub seen_of : Option (List ℕ) → Seen
seen_of None = missing
seen_of (Some bytes) = if nat_lt most_bytes (length bytes) then longer else found bytes

-- a file is seen as what a shelf holds under its name, where the shelf tells that
abbrev pub IsSeen : Option FilesByName → File → Type 0
IsSeen told file = IfSome told (λ files. file.seen ≡ seen_of (files file.name))

-- the files are those of these names, in their order, each seen as a shelf holds it
abbrev pub AreSeen : Option FilesByName → (names : List (List ℕ)) → List File → Type 0
AreSeen told [] [] = Unit {0}
AreSeen told (name ∷ names) (file ∷ files) = (file.name ≡ name) × IsSeen told file × AreSeen told names files
AreSeen told [] (file ∷ files) = ⊥
AreSeen told (name ∷ names) [] = ⊥

-- all of the files are found, with these contents
abbrev pub AreFound : List File → (contents : List (List ℕ)) → Type 0
AreFound files contents = map (λ (file : File). file.seen) files ≡ map (λ bytes. found bytes) contents

-- the order of reads comes to this file: each one before it is found
pub record Reaches (files : List File) (file : File) : Type 0 where
  pub before : List File
  pub after : List File
  pub all : files ≡ before ++ file ∷ after
  pub contents : List (List ℕ)
  pub passed : AreFound before contents
