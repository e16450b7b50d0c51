-- What is left at the ends of a command.
use Rattle.std.proofs.Common.{◌≡◌, ◌∙◌, ℕ, List, [], Option, Some, None, Ok, Err, refl, sym, subst, inl, inr, arith}
use Rattle.std.specs.Prelude.{◌⊎◌}
use Rattle.std.specs.Option.{option_map}
use Rattle.std.specs.Io.KnownBytes.{Keeps}
use Rattle.std.proofs.KnownBytes.{Appends-nil}
use Rattle.om_io.specs.Counts.{Rose}
use Rattle.om_io.specs.Shelf.{AreSame, FilesByName, NoneFalls, ShelfTold}
use Rattle.om_io.specs.Shelf as shelf
use Rattle.om_io.specs.Sink.{SinkTold}
use Rattle.om_io.specs.Writing.{Puts}
use Rattle.om_io.specs.declared.sink.SinkFail.TheVariants as fail
use Rattle.om_io.proofs.PutsLemmas.{rose_between}
use Rattle.om_command.specs.Delivered.{IsHalfDone, NoneMoved, StaysFaultless, world}
use Rattle.om_command.specs.Effect.{Effect, PutFile, refuses}
use Rattle.om_command.specs.Files.{File}
use Rattle.om_command.specs.Lines.{line_of}
use Rattle.om_command.specs.Prepared.{EndsEarly, Prepares}
use Rattle.om_command.specs.Reads.{OnlyTakes, effect_by, put_file}
use Rattle.om_command.specs.Requests.{Request}
use Rattle.om_command.specs.Result.{Ends, HasPut, IsFaultless, IsFresh, LacksMemory, LacksOutput, Leaves, Meets, NoneRose, World}
use Rattle.om_command.specs.declared.ending.Ending.{Ending}
use Rattle.om_command.specs.declared.ending.Ending.TheVariants.{Done, Refused, Exceeded, Unread, Unput, Unwritten, NoMemory}
use Rattle.om_command.specs.declared.outcome.Outcome.{Outcome}
use Rattle.om_command.specs.declared.refusal.Part.TheVariants as part
use Rattle.om_command.specs.declared.refusal.Refusal.{Refusal}
use Rattle.om_command.specs.declared.refusal.Refusal.TheVariants as refusal

-- what is known stays where nothing is written
keeps_same : (old : Option (List ℕ)) → Keeps old old
keeps_same None = tt
keeps_same (Some bytes) = refl

-- ---- before anything is put or printed

-- a command that is refused, and has left all as it was
pub refused_meets : (refusal : Refusal) (before after : ShelfTold) (out : SinkTold) → after.files ≡ before.files
    → Meets (refuses refusal) (world before out) (world after out) (Refused refusal)
unfolding line_of
refused_meets refusal before after out same = record { status = refl; line = refl; printed = Appends-nil out.written; held = same }

early_leaves : (effect : Effect) (files : List File) (before after : ShelfTold) (out : SinkTold) (ending : Ending) → after.files ≡ before.files
    → EndsEarly effect files before after ending → Leaves effect files (world before out) (world after out) ending
unfolding line_of
early_leaves effect files before after out (Refused refusal) same is =
    subst (λ (e : Effect). Meets e (world before out) (world after out) (Refused refusal)) (sym is) (refused_meets refusal before after out same)
early_leaves effect files before after out (Exceeded name) same is =
    subst (λ (e : Effect). Meets e (world before out) (world after out) (Exceeded name)) (sym is)
    (record { status = refl; line = refl; printed = Appends-nil out.written; held = same })
early_leaves effect files before after out (Unread name) same is =
    record { seen = is.seen; reached = is.reached; rose = is.rose; untouched = record { printed = keeps_same out.written; held = same } }
early_leaves effect files before after out NoMemory same is =
    record { printed = (0, Appends-nil out.written); held = inl same; put_first = inl (keeps_same out.written) }
early_leaves effect files before after out Done same is = absurd is
early_leaves effect files before after out (Unput name) same is = absurd is
early_leaves effect files before after out Unwritten same is = absurd is

-- ---- putting and printing

-- a command whose file wasn't put
pub half_leaves : (outcome : Outcome) (files : List File) (before after : ShelfTold) (out : SinkTold) (ending : Ending)
    → IsHalfDone (option_map put_file outcome.put) before after ending → Leaves (effect_by outcome) files (world before out) (world after out) ending
half_leaves outcome files before after out (Unput name) is =
    record { bytes = is.bytes; put = is.is; rose = is.rose; untouched = record { printed = keeps_same out.written; held = is.held } }
half_leaves outcome files before after out NoMemory is =
    record { printed = (0, Appends-nil out.written); held = is; put_first = inl (keeps_same out.written) }
half_leaves outcome files before after out Done is = absurd is
half_leaves outcome files before after out (Refused refusal) is = absurd is
half_leaves outcome files before after out (Exceeded name) is = absurd is
half_leaves outcome files before after out (Unread name) is = absurd is
half_leaves outcome files before after out Unwritten is = absurd is

-- a command whose file was put, and whose text was printed or not
pub printed_meets : (outcome : Outcome) (before after : ShelfTold) (old new : SinkTold) → HasPut (option_map put_file outcome.put) before.files after.files
    → Puts old new outcome.text (Ok tt) → Meets (effect_by outcome) (world before old) (world after new) Done
unfolding line_of
printed_meets outcome before after old new put is = record { status = refl; line = refl; printed = is.ok; held = put }

pub cut_leaves : (outcome : Outcome) (before after : ShelfTold) (old new : SinkTold) → HasPut (option_map put_file outcome.put) before.files after.files
    → Puts old new outcome.text (Err fail.NoMemory) → LacksMemory (effect_by outcome) (world before old) (world after new)
cut_leaves outcome before after old new put is = record { printed = is.err; held = inr put; put_first = inr put }

pub failed_leaves : (outcome : Outcome) (before after : ShelfTold) (old new : SinkTold) → HasPut (option_map put_file outcome.put) before.files after.files
    → Puts old new outcome.text (Err fail.Failed) → LacksOutput (effect_by outcome) (world before old) (world after new)
failed_leaves outcome before after old new put is = record { status = refl; rose = is.cause.failed refl; printed = is.err; held = put }

-- no count moves where nothing fails
pub none_moves : (before after : ShelfTold) (old new : SinkTold) → shelf.StaysFaultless before after → new.faults ≡ old.faults → NoneMoved (world before old) (world after new)
none_moves before after old new is same = record { takes = is.takes; puts = is.puts; faults = same }

-- ---- both

put_on : (put : Option PutFile) (before mid after : Option FilesByName) → mid ≡ before → HasPut put mid after → HasPut put before after
put_on put before mid after same is = subst (λ files. HasPut put files after) same is

-- what is left since the files were read is left since before that
leaves_on : (effect : Effect) (files : List File) (before mid : ShelfTold) (out : SinkTold) (after : World) (ending : Ending)
    → mid.files ≡ before.files → NoneFalls before.failed_takes mid.failed_takes → NoneFalls before.failed_puts mid.failed_puts
    → Leaves effect files (world mid out) after ending → Leaves effect files (world before out) after ending
leaves_on effect files before mid out after Done same takes puts is =
    record { status = is.status; line = is.line; printed = is.printed; held = put_on effect.put before.files mid.files after.shelf.files same is.held }
leaves_on effect files before mid out after (Refused refusal) same takes puts is =
    record { status = is.status; line = is.line; printed = is.printed; held = put_on effect.put before.files mid.files after.shelf.files same is.held }
leaves_on effect files before mid out after (Exceeded name) same takes puts is =
    record { status = is.status; line = is.line; printed = is.printed; held = put_on effect.put before.files mid.files after.shelf.files same is.held }
leaves_on effect files before mid out after (Unread name) same takes puts is =
    record {
      seen = is.seen;
      reached = is.reached;
      rose = rose_between (before.failed_takes name.now) (mid.failed_takes name.now) (after.shelf.failed_takes name.now) (after.shelf.failed_takes name.now) (takes name.now) is.rose (omega arith);
      untouched = record { printed = is.untouched.printed; held = is.untouched.held ∙ same };
    }
leaves_on effect files before mid out after (Unput name) same takes puts is =
    record {
      bytes = is.bytes;
      put = is.put;
      rose = rose_between (before.failed_puts name.now) (mid.failed_puts name.now) (after.shelf.failed_puts name.now) (after.shelf.failed_puts name.now) (puts name.now) is.rose (omega arith);
      untouched = record { printed = is.untouched.printed; held = is.untouched.held ∙ same };
    }
leaves_on effect files before mid out after Unwritten same takes puts is =
    record { status = is.status; rose = is.rose; printed = is.printed; held = put_on effect.put before.files mid.files after.shelf.files same is.held }
leaves_on effect files before mid out after NoMemory same takes puts is =
    record {
      printed = is.printed;
      held = held_on is.held;
      put_first = elim is.put_first as (λ _. Keeps out.written after.out.written ⊎ HasPut effect.put before.files after.shelf.files) [
        | inl keeps ↦ inl keeps
        | inr put ↦ inr (put_on effect.put before.files mid.files after.shelf.files same put)
      ];
    }
  where
    held_on : (after.shelf.files ≡ mid.files) ⊎ HasPut effect.put mid.files after.shelf.files → (after.shelf.files ≡ before.files) ⊎ HasPut effect.put before.files after.shelf.files
    held_on (inl kept) = inl (kept ∙ same)
    held_on (inr put) = inr (put_on effect.put before.files mid.files after.shelf.files same put)

-- where no count rose all is as the effect has it, unless memory was wanting
complete_of : (effect : Effect) (files : List File) (before after : World) (ending : Ending)
    → Leaves effect files before after ending → NoneRose before after → (ending ≡ NoMemory) ⊎ Meets effect before after ending
complete_of effect files before after Done is none = inr is
complete_of effect files before after (Refused refusal) is none = inr is
complete_of effect files before after (Exceeded name) is none = inr is
complete_of effect files before after (Unread name) is none = absurd (none.takes name.now is.rose)
complete_of effect files before after (Unput name) is none = absurd (none.puts name.now is.rose)
complete_of effect files before after Unwritten is none = absurd (none.faults is.rose)
complete_of effect files before after NoMemory is none = inl refl

-- a request that ended before anything was put or printed
pub early_ends : (request : Request) (before after : ShelfTold) (out : SinkTold) (ending : Ending)
    → Prepares request before after (Err ending) → OnlyTakes before after request.files → Ends (Some request) (world before out) (world after out) ending
early_ends request before after out ending p takes =
    let leaves = early_leaves p.effect p.files before after out ending takes.held p.prepared in
    record {
      files = p.files;
      opened = p.opened;
      effect = p.effect;
      comes = p.comes;
      leaves = leaves;
      complete = complete_of p.effect p.files (world before out) (world after out) ending leaves;
    }

-- a request whose outcome was delivered
pub late_ends : (request : Request) (before mid : ShelfTold) (out : SinkTold) (after : World) (outcome : Outcome) (ending : Ending)
    → Prepares request before mid (Ok outcome) → OnlyTakes before mid request.files
    → ((files : List File) → Leaves (effect_by outcome) files (world mid out) after ending) → Ends (Some request) (world before out) after ending
late_ends request before mid out after outcome ending p takes is =
    let leaves =
    leaves_on p.effect p.files before mid out after ending takes.held takes.takes takes.puts
    (subst (λ (e : Effect). Leaves e p.files (world mid out) after ending) (sym p.prepared) (is p.files)) in
    record {
      files = p.files;
      opened = p.opened;
      effect = p.effect;
      comes = p.comes;
      leaves = leaves;
      complete = complete_of p.effect p.files (world before out) after ending leaves;
    }

-- words that are no request
pub unbuilt_ends : (shelf : ShelfTold) (out : SinkTold) → Ends None (world shelf out) (world shelf out) (Refused (refusal.Unbuilt part.Words))
unbuilt_ends shelf out =
    let meets = refused_meets (refusal.Unbuilt part.Words) shelf shelf out refl in
    record { files = []; opened = tt; effect = refuses (refusal.Unbuilt part.Words); comes = refl; leaves = meets; complete = λ none. inr meets }

-- ---- what never fails

-- no count moves where the files are read, and none where they are put and printed
pub moved_none : (before mid : ShelfTold) (out : SinkTold) (after : World) (names : List (List ℕ)) → OnlyTakes before mid names
    → StaysFaultless (world mid out) after → IsFaultless names (world before out) → NoneMoved (world before out) after
moved_none before mid out after names takes stays is =
    let read = takes.faultless is.shelf is.held in
    let moved = stays read.0 is.out in
    record {
      takes = λ name. moved.takes name ∙ read.1 name;
      puts = λ name. moved.puts name ∙ read.2 name;
      faults = moved.faults;
    }

pub read_none : (before after : ShelfTold) (out : SinkTold) (names : List (List ℕ)) → OnlyTakes before after names
    → IsFaultless names (world before out) → NoneMoved (world before out) (world after out)
read_none before after out names takes is =
    let read = takes.faultless is.shelf is.held in
    record { takes = read.1; puts = read.2; faults = refl }

-- no count rises that was none and didn't move
pub none_rose : (before after : World) → IsFresh before → NoneMoved before after → NoneRose before after
none_rose before after fresh moved = record {
  takes = λ name. still _ _ (fresh.takes name) (moved.takes name);
  puts = λ name. still _ _ (fresh.puts name) (moved.puts name);
  faults = still _ _ fresh.faults moved.faults;
}
  where
    still : (old new : ℕ) → old ≡ 0 → new ≡ old → Rose old new → ⊥
    still old new none same rose = absurd (omega arith)
