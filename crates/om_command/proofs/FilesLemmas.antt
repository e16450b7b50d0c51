-- What a command comes to over the files as they are seen.
use Rattle.std.proofs.Common.{◌≡◌, ℕ, zero, suc, ◌<◌, List, [], ◌∷◌, ◌++◌, map, Option, Some, None, Result, Ok, Err, refl, sym, ap, inl, inr, arith}
use Rattle.std.specs.Prelude.{◌⊎◌, slice_index}
use Rattle.om_io.specs.Shelf.{FilesByName, ShelfTold}
use Rattle.om_elf.specs.Executable.{elf_in}
use Rattle.om_elf.specs.declared.elf.Elf.{Elf}
use Rattle.om_log.specs.declared.fault.LogFault.{LogFault}
use Rattle.om_log.specs.declared.log.Log.{Log}
use Rattle.om_names.specs.Information.{Information}
use Rattle.om_names.specs.declared.fault.NamesFault.{NamesFault}
use Rattle.om_type.specs.Typing.{Variables}
use Rattle.om_type.specs.declared.typed.Typed.{Typed}
use Rattle.om_command.specs.Command.{ComesTo, effect_with}
use Rattle.om_command.specs.Effect.{Effect, exceeds, misses}
use Rattle.om_command.specs.Files.{AreFound, AreSeen, File, IsSeen, Reaches, Seen, found, longer, missing, seen_of}
use Rattle.om_command.specs.Prepared.{IsPrepared, Prepares}
use Rattle.om_command.specs.Readings.{AreReadings, IsDebugReading, IsLogReading, IsQueryReading, IsLogRead, Readings, content_at, needs_of, variables_of}
use Rattle.om_command.specs.Reads.{AreMet, Gives, IsLonger, IsMet, StopsAt}
use Rattle.om_command.specs.Requests.{Command, Request, informs, queries, records}
use Rattle.om_command.specs.declared.ending.Ending.{Ending}
use Rattle.om_command.specs.declared.ending.Ending.TheVariants.{Done, Refused, Exceeded, Unread, Unput, Unwritten, NoMemory}
use Rattle.om_command.specs.declared.outcome.Outcome.{Outcome}

-- ---- there is a reading

-- every text, executable and file of bytes is read in some way
pub record AllRead : Type 0 where
  pub debug : (elf : Elf) → (read : Result Information NamesFault) × IsDebugReading elf read
  pub log : (file : List ℕ) → ((i : ℕ) → slice_index file i < 256) → (read : Result Log LogFault) × IsLogReading file read
  pub query : (variables : Variables) (text : List ℕ) → (read : Option Typed) × IsQueryReading variables text read

-- a list is one of bytes, or it isn't
are_bytes : (file : List ℕ) → ((i : ℕ) → slice_index file i < 256) ⊎ (((i : ℕ) → slice_index file i < 256) → ⊥)
are_bytes [] = inl (λ i. omega arith)
are_bytes (byte ∷ file) =
    elim (below_or byte 256) as (λ _. ((i : ℕ) → slice_index (byte ∷ file) i < 256) ⊎ (((i : ℕ) → slice_index (byte ∷ file) i < 256) → ⊥)) [
      | inl small ↦ elim (are_bytes file) as (λ _. ((i : ℕ) → slice_index (byte ∷ file) i < 256) ⊎ (((i : ℕ) → slice_index (byte ∷ file) i < 256) → ⊥)) [
        | inl rest ↦ inl (λ i. first_or byte file small rest i)
        | inr none ↦ inr (λ all. none (λ i. all (suc i)))
      ]
      | inr large ↦ inr (λ all. large (all zero))
    ]
  where
    below_or : (a b : ℕ) → (a < b) ⊎ (a < b → ⊥)
    below_or a zero = inr (λ less. absurd (omega arith))
    below_or zero (suc b) = inl (omega arith)
    below_or (suc a) (suc b) = elim (below_or a b) as (λ _. (suc a < suc b) ⊎ (suc a < suc b → ⊥)) [
      | inl less ↦ inl (omega arith)
      | inr more ↦ inr (λ less. more (omega arith))
    ]

    first_or : (byte : ℕ) (file : List ℕ) → byte < 256 → ((i : ℕ) → slice_index file i < 256) → (i : ℕ) → slice_index (byte ∷ file) i < 256
    first_or byte file small rest zero = small
    first_or byte file small rest (suc i) = rest i

-- a file, of bytes or not, is read in some way as a log
a_log : AllRead → Result Log LogFault → (file : List ℕ) → (read : Result Log LogFault) × IsLogRead read file
a_log all other file =
    elim (are_bytes file) as (λ _. (read : Result Log LogFault) × IsLogRead read file) [
      | inl bytes ↦ let it = all.log file bytes in (it.0, λ _. it.1)
      | inr none ↦ (other, λ bytes. absurd (none bytes))
    ]

-- what a command needs over some contents is read in some way
pub readings_of : AllRead → (command : Command) (contents : List (List ℕ)) → (read : Readings) × AreReadings (needs_of command) contents read
readings_of all (queries sql) contents =
    let debug = all.debug (elf_in (content_at contents 0)) in
    let query = all.query (variables_of debug.0) sql in
    let other = all.log [] (λ i. omega arith) in
    let log = a_log all other.0 (content_at contents 1) in
    (record { debug = debug.0; log = log.0; query = query.0 }, record { debug = λ bytes none. debug.1; log = log.1; query = query.1 })
readings_of all (records log) contents =
    let debug = all.debug (elf_in []) in
    let query = all.query [] [] in
    let other = all.log [] (λ i. omega arith) in
    (record { debug = debug.0; log = other.0; query = query.0 }, record { debug = tt; log = tt; query = tt })
readings_of all informs contents =
    let debug = all.debug (elf_in (content_at contents 0)) in
    let query = all.query [] [] in
    let other = all.log [] (λ i. omega arith) in
    (record { debug = debug.0; log = other.0; query = query.0 }, record { debug = λ bytes none. debug.1; log = tt; query = tt })

-- ---- there is an effect

-- a file that isn't found, and how far the order of reads comes
data Way (files : List File) : Type 0 where
  all_found : (contents : List (List ℕ)) → AreFound files contents → Way files
  one_longer : (name : List ℕ) → Reaches files (record { name = name; seen = longer }) → Way files
  one_missing : (name : List ℕ) → Reaches files (record { name = name; seen = missing }) → Way files

-- the order of reads comes as far past a file that is found
reaches_past : (first : File) (bytes : List ℕ) (files : List File) (file : File) → first.seen ≡ found bytes → Reaches files file → Reaches (first ∷ files) file
reaches_past first bytes files file is r = record {
  before = first ∷ r.before;
  after = r.after;
  all = ap (λ (l : List File). first ∷ l) r.all;
  contents = bytes ∷ r.contents;
  passed = rw (is, r.passed) refl;
}

reaches_first : (file : File) (files : List File) → Reaches (file ∷ files) file
reaches_first file files = record { before = []; after = files; all = refl; contents = []; passed = refl }

way_past : (first : File) (bytes : List ℕ) (files : List File) → first.seen ≡ found bytes → Way files → Way (first ∷ files)
way_past first bytes files is (all_found contents are) = all_found (bytes ∷ contents) (rw (is, are) refl)
way_past first bytes files is (one_longer name r) = one_longer name (reaches_past first bytes files _ is r)
way_past first bytes files is (one_missing name r) = one_missing name (reaches_past first bytes files _ is r)

way_of : (name : List ℕ) (seen : Seen) (files : List File) → Way files → Way (record { name = name; seen = seen } ∷ files)
way_of name (found bytes) files way = way_past (record { name = name; seen = found bytes }) bytes files refl way
way_of name longer files way = one_longer name (reaches_first _ files)
way_of name missing files way = one_missing name (reaches_first _ files)

way : (files : List File) → Way files
way [] = all_found [] refl
way (file ∷ files) = way_of file.name file.seen files (way files)

-- over files as they are seen a command comes to something
pub some_effect : AllRead → (command : Command) (files : List File) → (effect : Effect) × ComesTo command files effect
some_effect all command files = of_way (way files)
  where
    of_way : Way files → (effect : Effect) × ComesTo command files effect
    of_way (all_found contents are) =
        let read = readings_of all command contents in
        (effect_with command contents read.0, inl (contents, are, record { read = read.0; readings = read.1; is = refl }))
    of_way (one_longer name r) = (exceeds name, inr (inl (name, r, refl)))
    of_way (one_missing name r) = (misses name, inr (inr (name, r, refl)))

-- ---- files as they are seen

-- what is seen of a name, and of some names
abbrev seen_under : Option FilesByName → List ℕ → Seen
seen_under None name = missing
seen_under (Some files) name = seen_of (files name)

abbrev file_under : Option FilesByName → List ℕ → File
file_under told name = record { name = name; seen = seen_under told name }

abbrev files_under : Option FilesByName → List (List ℕ) → List File
files_under told names = map (file_under told) names

is_seen : (told : Option FilesByName) (name : List ℕ) → IsSeen told (file_under told name)
is_seen None name = tt
is_seen (Some files) name = refl

are_seen : (told : Option FilesByName) (names : List (List ℕ)) → AreSeen told names (files_under told names)
are_seen told [] = tt
are_seen told (name ∷ names) = (refl, is_seen told name, are_seen told names)

-- files that were read, before others
abbrev found_then : (names contents : List (List ℕ)) → List File → List File
found_then [] [] others = others
found_then (name ∷ names) (bytes ∷ contents) others = record { name = name; seen = found bytes } ∷ found_then names contents others
found_then [] (bytes ∷ contents) others = others
found_then (name ∷ names) [] others = others

met_seen : (told : Option FilesByName) (name bytes : List ℕ) → IsMet told name bytes → IsSeen told (record { name = name; seen = found bytes })
met_seen None name bytes met = tt
met_seen (Some files) name bytes met = sym met

longer_seen : (told : Option FilesByName) (name : List ℕ) → IsLonger told name → IsSeen told (record { name = name; seen = longer })
longer_seen None name is = tt
longer_seen (Some files) name is = sym is

-- files that were read are seen, and the others as they are
are_seen_then : (told : Option FilesByName) (names contents later : List (List ℕ)) (others : List File) → AreMet told names contents → AreSeen told later others
    → AreSeen told (names ++ later) (found_then names contents others)
are_seen_then told [] [] later others met seen = seen
are_seen_then told (name ∷ names) (bytes ∷ contents) later others met seen =
    (refl, met_seen told name bytes met.0, are_seen_then told names contents later others met.1 seen)
are_seen_then told [] (bytes ∷ contents) later others met seen = absurd met
are_seen_then told (name ∷ names) [] later others met seen = absurd met

-- the order of reads comes to what follows files that were read
reaches_then : (told : Option FilesByName) (names contents : List (List ℕ)) (file : File) (others : List File) → AreMet told names contents
    → Reaches (found_then names contents (file ∷ others)) file
reaches_then told [] [] file others met = reaches_first file others
reaches_then told (name ∷ names) (bytes ∷ contents) file others met =
    reaches_past (record { name = name; seen = found bytes }) bytes _ file refl (reaches_then told names contents file others met.1)
reaches_then told [] (bytes ∷ contents) file others met = absurd met
reaches_then told (name ∷ names) [] file others met = absurd met

-- files that were all read are found
all_met : (told : Option FilesByName) (names contents : List (List ℕ)) → AreMet told names contents → AreFound (found_then names contents []) contents
all_met told [] [] met = refl
all_met told (name ∷ names) (bytes ∷ contents) met = rw (all_met told names contents met.1) refl
all_met told [] (bytes ∷ contents) met = absurd met
all_met told (name ∷ names) [] met = absurd met

all_seen : (told : Option FilesByName) (names contents : List (List ℕ)) → AreMet told names contents → AreSeen told names (found_then names contents [])
all_seen told [] [] met = tt
all_seen told (name ∷ names) (bytes ∷ contents) met = (refl, met_seen told name bytes met.0, all_seen told names contents met.1)
all_seen told [] (bytes ∷ contents) met = absurd met
all_seen told (name ∷ names) [] met = absurd met

-- ---- a request

-- what is given over the contents is what is prepared
gives_prepared : (effect : Effect) (files : List File) (before after : ShelfTold) (result : Result Outcome Ending) → Gives effect result → IsPrepared effect files before after result
gives_prepared effect files before after (Ok outcome) is = is
gives_prepared effect files before after (Err (Refused refusal)) is = is
gives_prepared effect files before after (Err NoMemory) is = tt
gives_prepared effect files before after (Err Done) is = absurd is
gives_prepared effect files before after (Err (Exceeded name)) is = absurd is
gives_prepared effect files before after (Err (Unread name)) is = absurd is
gives_prepared effect files before after (Err (Unput name)) is = absurd is
gives_prepared effect files before after (Err Unwritten) is = absurd is

-- a request whose files were all read
pub read_prepares : AllRead → (request : Request) (before after : ShelfTold) (contents : List (List ℕ)) (result : Result Outcome Ending)
    → AreMet before.files request.files contents
    → ((read : Readings) → AreReadings (needs_of request.command) contents read → Gives (effect_with request.command contents read) result)
    → Prepares request before after result
read_prepares all request before after contents result met gives =
    let read = readings_of all request.command contents in
    let files = found_then request.files contents [] in
    record {
      files = files;
      opened = all_seen before.files request.files contents met;
      effect = effect_with request.command contents read.0;
      comes = inl (contents, all_met before.files request.files contents met, record { read = read.0; readings = read.1; is = refl });
      prepared = gives_prepared (effect_with request.command contents read.0) files before after result (gives read.0 read.1);
    }

-- a request for which memory was wanting
no_memory : AllRead → (request : Request) (before after : ShelfTold) → Prepares request before after (Err NoMemory)
no_memory all request before after =
    let files = files_under before.files request.files in
    let some = some_effect all request.command files in
    record { files = files; opened = are_seen before.files request.files; effect = some.0; comes = some.1; prepared = tt }

-- a request of whose files one wasn't read
pub stop_prepares : AllRead → (request : Request) (before after : ShelfTold) (ending : Ending)
    → StopsAt before after request.files ending → Prepares request before after (Err ending)
stop_prepares all request before after (Exceeded file) stop =
    let later = files_under before.files stop.later in
    let it : File = record { name = file.now; seen = longer } in
    let files = found_then stop.earlier stop.contents (it ∷ later) in
    let same : file.now ≡ stop.name = stop.unread.0 in
    record {
      files = files;
      opened =
          rw (stop.all, ← same)
          (are_seen_then before.files stop.earlier stop.contents (file.now ∷ stop.later) (it ∷ later) stop.met
          (refl, longer_seen before.files file.now (rw same stop.unread.1), are_seen before.files stop.later));
      effect = exceeds file.now;
      comes = inr (inl (file.now, reaches_then before.files stop.earlier stop.contents it later stop.met, refl));
      prepared = refl;
    }
stop_prepares all request before after (Unread file) stop =
    let later = files_under before.files stop.later in
    let it = file_under before.files file.now in
    let files = found_then stop.earlier stop.contents (it ∷ later) in
    let same : file.now ≡ stop.name = stop.unread.0 in
    let some = some_effect all request.command files in
    record {
      files = files;
      opened =
          rw (stop.all, ← same)
          (are_seen_then before.files stop.earlier stop.contents (file.now ∷ stop.later) (it ∷ later) stop.met
          (are_seen before.files (file.now ∷ stop.later)));
      effect = some.0;
      comes = some.1;
      prepared = record { seen = seen_under before.files file.now; reached = reaches_then before.files stop.earlier stop.contents it later stop.met; rose = rw same stop.unread.1 };
    }
stop_prepares all request before after NoMemory stop = no_memory all request before after
stop_prepares all request before after Done stop = absurd stop.unread
stop_prepares all request before after (Refused refusal) stop = absurd stop.unread
stop_prepares all request before after (Unput file) stop = absurd stop.unread
stop_prepares all request before after Unwritten stop = absurd stop.unread
