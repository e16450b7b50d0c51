-- What is appended to some bytes.
use Rattle.std.proofs.Common.{◌≡◌, ℕ, zero, suc, ◌/◌, ◌%◌, ◌^◌, ◌<◌, ◌≤◌, List, [], ◌∷◌, ◌++◌, length, take, drop, refl, sym, ap, ap₂, ◌∙◌, append_assoc, arith, inl, inr}
use Rattle.std.proofs.Math.Nat.{div-div-eq-div-mul, pow-suc}
use Rattle.std.proofs.lemmas.List.{append-nil, drop_at, length-append, length-take, take-take}
use Rattle.std.specs.Int.{byte_at, bytes_low_first}
use Rattle.std.specs.List.{AllByRecursion}
use Rattle.om_log.specs.Chunk.{Chunk}
use Rattle.om_log.specs.Grammar.{spelling, spellings, header, FitsChunk, Fits, next_of, AreLawful, HasEnd}
use Rattle.om_log.specs.LittleEndian.{le_bytes}
use Rattle.om_log.specs.Fronts.{IsFront, headed, IsHeaded}
use Rattle.om_log.specs.Writing.{IsShort, HasShortWrites}
use Rattle.om_log.specs.declared.entry.Entry.{Entry}
use Rattle.om_log.specs.declared.entry.Entry.TheVariants.{Call, Mark, End}
use Rattle.om_log.specs.declared.start.Start.{Start}
use Rattle.om_log.proofs.FieldLaws.{length-le_bytes}

-- ---- numbers

byte_is : (i n : ℕ) → byte_at i n ≡ n / 256 ^ i % 256
byte_is zero n = omega arith
byte_is (suc i) n = refl

next_byte : (i n : ℕ) → n / 256 ^ suc i ≡ n / 256 ^ i / 256
next_byte i n = ap (λ m. n / m) (pow-suc 256 i) ∙ sym (div-div-eq-div-mul n (256 ^ i) 256)

low_first : (i width n : ℕ) → le_bytes width (n / 256 ^ i) ≡ bytes_low_first i width n
unfolding le_bytes
low_first i zero n = refl
low_first i (suc width) n =
    ap₂ (λ b bytes. b ∷ bytes) (sym (byte_is i n)) (ap (le_bytes width) (sym (next_byte i n)) ∙ low_first (suc i) width n)

pub bytes_of_one : (n : ℕ) → n < 256 → le_bytes 1 n ≡ n ∷ []
unfolding le_bytes
bytes_of_one n fits = ap (λ m. m ∷ []) (omega arith)

pub bytes_of_four : (n : ℕ) → le_bytes 4 n ≡ bytes_low_first 0 4 n
bytes_of_four n = ap (le_bytes 4) (omega arith) ∙ low_first 0 4 n

pub bytes_of_eight : (n : ℕ) → le_bytes 8 n ≡ bytes_low_first 0 8 n
bytes_of_eight n = ap (le_bytes 8) (omega arith) ∙ low_first 0 8 n

-- ---- fronts

pub front_trans : (a b c : List ℕ) → IsFront a b → IsFront b c → IsFront a c
front_trans a b c ab bc =
    let shorter : length a ≤ length b = omega (arith, ap length ab.kept, length-take (length a) b) in
    record { kept = sym (take-take (length a) (length b) c shorter) ∙ ap (take (length a)) bc.kept ∙ ab.kept }

-- ---- the file of a writer

pub length-header : (start : Start) → length (header start) ≡ 20
unfolding header
length-header start =
    let a = le_bytes 4 start.stack_low in
    let b = le_bytes 4 start.stack_size in
    let c = le_bytes 4 start.heap_low in
    let d = le_bytes 4 start.heap_size in
    let behind : length (((a ++ b) ++ c) ++ d) ≡ 16 =
    omega (
      arith,
      length-append ((a ++ b) ++ c) d,
      length-append (a ++ b) c,
      length-append a b,
      length-le_bytes 4 start.stack_low,
      length-le_bytes 4 start.stack_size,
      length-le_bytes 4 start.heap_low,
      length-le_bytes 4 start.heap_size,
    ) in
    ap (λ (n : ℕ). suc (suc (suc (suc n)))) behind

-- of a writer that has written nothing
pub length_none : (start : Start) (bytes : List ℕ) → length bytes ≡ 0 → length (header start ++ drop 20 bytes) ≡ 20
length_none start [] none = ap length (append-nil (header start)) ∙ length-header start
length_none start (b ∷ bytes) none = absurd cc

-- what stands behind the header, with more behind it
more_behind : (start : Start) (front e new : List ℕ) → front ≡ header start ++ drop 20 front → new ≡ front ++ e → (new ≡ header start ++ drop 20 new) × (drop 20 new ≡ drop 20 front ++ e)
more_behind start front e new is more =
    let regrouped : new ≡ header start ++ (drop 20 front ++ e) = more ∙ ap (λ (x : List ℕ). x ++ e) is ∙ append_assoc (header start) (drop 20 front) e in
    let behind : drop 20 new ≡ drop 20 front ++ e = ap (drop 20) regrouped ∙ drop_at (header start) (drop 20 front ++ e) 20 (length-header start) in
    (regrouped ∙ ap (λ (x : List ℕ). header start ++ x) (sym behind), behind)

-- a writer with one entry more
pub pushed : (start : Start) (old e new : List ℕ) → IsHeaded start old → new ≡ headed start old ++ e → IsHeaded start new × (drop 20 new ≡ drop 20 old ++ e)
pushed start [] e new here more =
    let behind : drop 20 new ≡ e = ap (drop 20) more ∙ drop_at (header start) e 20 (length-header start) in
    (inr (more ∙ ap (λ (x : List ℕ). header start ++ x) (sym behind)), behind)
pushed start (b ∷ bytes) e new (inl none) more = absurd cc
pushed start (b ∷ bytes) e new (inr here) more = let h = more_behind start (b ∷ bytes) e new here more in (inr h.0, h.1)

-- ---- a lawful log

each_short : (chunks : List Chunk) → AllByRecursion FitsChunk chunks → AllByRecursion IsShort chunks
each_short [] fits = tt
each_short (chunk ∷ chunks) fits = (fits.0.1, each_short chunks fits.1)

fits_short : (e : Entry) → Fits e → HasShortWrites e
unfolding Fits
fits_short (Call step number args result writes) fits = (fits.5, each_short writes fits.6)
fits_short (Mark step pc sum) fits = tt
fits_short (End step cause value) fits = tt

pub all_short : (least : ℕ) (es : List Entry) → AreLawful least es → AllByRecursion HasShortWrites es
unfolding AreLawful
all_short least [] lawful = tt
all_short least (e ∷ es) lawful = (fits_short e lawful.0.fits, all_short (next_of e) es lawful.2)

spelled_some : (e : Entry) (tail : List ℕ) → spelling e ++ tail ≡ [] → ⊥
unfolding spelling
spelled_some (Call step number args result writes) tail none = cc
spelled_some (Mark step pc sum) tail none = cc
spelled_some (End step cause value) tail none = cc

pub ended_some : (es : List Entry) → HasEnd es → spellings es ≡ [] → ⊥
unfolding HasEnd spellings
ended_some [] ended none = ended
ended_some (e ∷ es) ended none = spelled_some e (spellings es) none
