-- What is logged of a step: how it is spelled, and that it may stand in a log.
use Rattle.std.proofs.Common.{◌≡◌, ◌≢◌, ℕ, ◌+◌, ◌^◌, ◌<◌, ◌≤◌, List, [], ◌∷◌, ◌++◌, refl, ap, ◌∙◌, sym, arith, append_assoc, inl, inr}
use Rattle.std.specs.List.{AllByRecursion}
use Rattle.om_log.specs.Chunk.{Chunk}
use Rattle.om_log.specs.Grammar.{AreLawful, Fits, FitsChunk, HasCause, HasEnd, IsEnd, MayStand, next_of, spelling, spellings, step_of}
use Rattle.om_log.specs.Writing.{IsShort, HasShortWrites}
use Rattle.om_log.specs.declared.entry.Entry.{Entry}
use Rattle.om_log.specs.declared.entry.Entry.TheVariants as entry
use Rattle.om_log.specs.declared.start.Start.{Start}
use Rattle.om_record.specs.Kernel.{answer_to}
use Rattle.om_record.specs.Recording.{Moment, arguments_of, end_entry}
use Rattle.om_record.specs.Progress.{AreBefore, call_entry_at}
use Rattle.om_record.proofs.KernelLemmas.{writes_few}
use Rattle.om_run.specs.declared.logged.RunEnd.{RunEnd}
use Rattle.om_step.specs.State.{register}

-- ---- spelling

pub append_none : (xs : List ℕ) → xs ++ [] ≡ xs
append_none [] = refl
append_none (x ∷ xs) = ap (λ (rest : List ℕ). x ∷ rest) (append_none xs)

pub spellings_none : spellings [] ≡ []
unfolding spellings
spellings_none = refl

pub spellings_one : (e : Entry) → spellings (e ∷ []) ≡ spelling e
unfolding spellings
spellings_one e = append_none (spelling e)

pub spellings_append : (xs ys : List Entry) → spellings (xs ++ ys) ≡ spellings xs ++ spellings ys
unfolding spellings
spellings_append [] ys = refl
spellings_append (x ∷ xs) ys =
    ap (λ (rest : List ℕ). spelling x ++ rest) (spellings_append xs ys) ∙ sym (append_assoc (spelling x) (spellings xs) (spellings ys))

-- behind an END there are bytes
pub some_end : (body : List ℕ) (e : RunEnd) → body ++ spelling (end_entry e) ≢ []
unfolding spelling
some_end [] e is = cc
some_end (b ∷ body) e is = cc

-- ---- entries that may stand

before_mono : (a b c : ℕ) (entries : List Entry) → a ≤ b → AreBefore b c entries → AreBefore a c entries
before_mono a b c [] h are = omega (arith, h, are)
before_mono a b c (e ∷ entries) h are =
    (record { fits = are.0.fits; cause = are.0.cause; step = omega (arith, h, are.0.step) }, are.1, are.2)

-- entries before a step, and then more from it on
pub before_append : (a b c : ℕ) (xs ys : List Entry) → AreBefore a b xs → AreBefore b c ys → AreBefore a c (xs ++ ys)
before_append a b c [] ys h are = before_mono a b c ys h are
before_append a b c (x ∷ xs) ys h are = (h.0, h.1, before_append (next_of x) b c xs ys h.2 are)

-- with an end behind them they are lawful
pub before_end : (a b : ℕ) (xs : List Entry) (e : Entry) → AreBefore a b xs → IsEnd e → MayStand b e → AreLawful a (xs ++ e ∷ [])
unfolding AreLawful
before_end a b [] e h is may =
    (record { fits = may.fits; cause = may.cause; step = omega (arith, h, may.step) }, λ _. refl, tt)
before_end a b (x ∷ xs) e h is may = (h.0, λ end. absurd (h.1 end), before_end (next_of x) b xs e h.2 is may)

pub end_there : (xs : List Entry) (e : Entry) → IsEnd e → HasEnd (xs ++ e ∷ [])
unfolding HasEnd
end_there [] e is = inl is
end_there (x ∷ xs) e is = inr (end_there xs e is)

-- ---- a mark

pub mark_stands : (step pc sum : ℕ) → step < 2 ^ 64 → pc < 2 ^ 32 → sum < 2 ^ 32 → AreBefore step step (entry.Mark step pc sum ∷ [])
unfolding Fits HasCause IsEnd next_of step_of
mark_stands step pc sum small pc_small sum_small =
    (record { fits = (small, pc_small, sum_small); cause = tt; step = omega arith }, λ is. is, omega arith)

-- ---- a call

shorter : (writes : List Chunk) → AllByRecursion FitsChunk writes → AllByRecursion IsShort writes
shorter [] fit = tt
shorter (w ∷ writes) fit = (fit.0.1, shorter writes fit.1)

pub call_short : (start : Start) (step : ℕ) (m : Moment) → register m.state 11 < 2 ^ 32 → HasShortWrites (call_entry_at start step m)
call_short start step m small =
    let few = writes_few start m.kernel m.state small in
    (few.few, shorter (answer_to start m.kernel m.state).writes few.each)

pub call_stands : (start : Start) (step : ℕ) (m : Moment) → step < 2 ^ 64 → register m.state 17 < 2 ^ 32
    → AllByRecursion (λ (a : ℕ). a < 2 ^ 32) (arguments_of m.state) → (answer_to start m.kernel m.state).result < 2 ^ 32
    → AreBefore step (step + 1) (call_entry_at start step m ∷ [])
unfolding Fits HasCause IsEnd next_of step_of
call_stands start step m small number args value =
    let few = writes_few start m.kernel m.state args.1.0 in
    (record { fits = (small, number, refl, args, value, few.few, few.each); cause = tt; step = omega arith }, λ is. is, omega arith)
