-- What pieces that are written one after another come to.
use Rattle.std.proofs.Common.{◌≡◌, ◌∙◌, append-nil, append_assoc, ℕ, ◌-◌, ◌<◌, ◌≤◌, List, [], Bor, flat_map, get_or, ◌∷◌, ◌++◌, length, take, drop, Option, Some, None, Result, Ok, Err, refl, sym, ap, subst, inl, inr, arith, zero, suc}
use Rattle.std.proofs.Math.Seq.{take-nil, take-length}
use Rattle.std.proofs.lemmas.List.{take-append-drop, take_rest}
use Rattle.std.proofs.KnownBytes.{Appends-nil, Appends-trans}
use Rattle.std.specs.Io.KnownBytes.{Appends, Keeps}
use Rattle.om_io.specs.Counts.{Rose}
use Rattle.om_io.specs.Sink.{SinkFailsByCount, SinkTold}
use Rattle.om_io.specs.Writing.{Puts, Tells}
use Rattle.om_io.specs.declared.sink.SinkFail.{SinkFail}
use Rattle.om_io.specs.declared.sink.SinkFail.TheVariants.{NoMemory, Failed}

-- known bytes that stay have nothing appended
Appends-from_keeps : (old new : Option (List ℕ)) → Keeps old new → Appends old new []
Appends-from_keeps None new p = tt
Appends-from_keeps (Some x) None p = absurd p
Appends-from_keeps (Some x) (Some y) p = p ∙ sym (append-nil x)

-- a count that rose has risen also from where it stood before and to where it stands later
pub rose_between : (a b c d : ℕ) → a ≤ b → Rose b c → c ≤ d → Rose a d
rose_between a b c d p q r = grind arith

-- two pieces of work, of which the first did not fail, fail as the second does
pub causes_then : {T U : Type 0} (old mid new : SinkTold) (first : Result T SinkFail) (last : Result U SinkFail)
    → SinkFailsByCount old mid first → SinkFailsByCount mid new last → SinkFailsByCount old new last
causes_then old mid new first last p q = record {
  faults_later = omega (arith, p.faults_later, q.faults_later);
  growths_later = omega (arith, p.growths_later, q.growths_later);
  failed = λ h. rose_between old.faults mid.faults new.faults new.faults p.faults_later (q.failed h) (omega arith);
  no_memory = λ h. rose_between old.refused_growths mid.refused_growths new.refused_growths new.refused_growths p.growths_later (q.no_memory h) (omega arith);
  faultless = λ h.
      let first_stays = p.faultless h in
      let last_stays = q.faultless first_stays.0 in
      (last_stays.0, last_stays.1 ∙ first_stays.1);
}

-- a failure is the same whatever an answer would have been
other_value : (a b : SinkFail) → ◌≡◌ {A = Result (Unit {0}) SinkFail} (Err a) (Err b) → ◌≡◌ {A = Result ℕ SinkFail} (Err a) (Err b)
other_value a b h = let e : a ≡ b = cc in ap (λ (x : SinkFail). Err x) e

-- the first of some bytes are the first of more bytes
prefix_of : (a b : List ℕ) (k : ℕ) → (n : ℕ) × (take n (a ++ b) ≡ take k a)
prefix_of [] b k = (0, sym (take-nil k))
prefix_of (x ∷ a) b zero = (0, refl)
prefix_of (x ∷ a) b (suc k) = let r = prefix_of a b k in (suc r.0, ap (λ l. x ∷ l) r.1)

-- some bytes and the first of others are the first of both
prefix_past : (a b : List ℕ) (k : ℕ) → (n : ℕ) × (take n (a ++ b) ≡ a ++ take k b)
prefix_past [] b k = (k, refl)
prefix_past (x ∷ a) b k = let r = prefix_past a b k in (suc r.0, ap (λ l. x ∷ l) r.1)

-- ---- writing nothing, one piece, two pieces

-- writing nothing
pub puts_nothing : (old : SinkTold) → Puts old old [] (Ok tt)
puts_nothing old = record {
  ok = Appends-nil old.written;
  err = tt;
  cause = record { faults_later = omega arith; growths_later = omega arith; failed = λ h. cc; no_memory = λ h. cc; faultless = λ h. (h, refl) };
}

-- a write that took so many bytes
pub puts_taken : (old new : SinkTold) (bytes : List ℕ) (count : ℕ)
    → Appends old.written new.written (take count bytes) → SinkFailsByCount {T = ℕ} old new (Ok count) → Puts old new (take count bytes) (Ok tt)
puts_taken old new bytes count p q = record {
  ok = p;
  err = tt;
  cause = record { faults_later = q.faults_later; growths_later = q.growths_later; failed = λ h. cc; no_memory = λ h. cc; faultless = q.faultless };
}

-- a write that failed
pub puts_refused : (old new : SinkTold) (bytes : List ℕ) (fail : SinkFail)
    → Keeps old.written new.written → SinkFailsByCount {T = ℕ} old new (Err fail) → Puts old new bytes (Err fail)
puts_refused old new bytes fail p q = record {
  ok = tt;
  err = (0, Appends-from_keeps old.written new.written p);
  cause = record {
    faults_later = q.faults_later;
    growths_later = q.growths_later;
    failed = λ h. q.failed (other_value fail Failed h);
    no_memory = λ h. q.no_memory (other_value fail NoMemory h);
    faultless = q.faultless;
  };
}

-- writing some bytes and then others is writing both
both : (old mid new : SinkTold) (a b : List ℕ) (result : Result (Unit {0}) SinkFail)
    → Puts old mid a (Ok tt) → Puts mid new b result → Puts old new (a ++ b) result
both old mid new a b (Ok u) p q = record {
  ok = Appends-trans old.written mid.written new.written a b p.ok q.ok;
  err = tt;
  cause = causes_then old mid new (Ok tt) (Ok u) p.cause q.cause;
}
both old mid new a b (Err fail) p q =
    let r = prefix_past a b q.err.0 in
    record {
      ok = tt;
      err = (r.0, subst (λ l. Appends old.written new.written l) (sym r.1) (Appends-trans old.written mid.written new.written a (take q.err.0 b) p.ok q.err.1));
      cause = causes_then old mid new (Ok tt) (Err fail) p.cause q.cause;
    }

pub puts_then : {old mid new : SinkTold} {a b : List ℕ} {result : Result (Unit {0}) SinkFail}
    → Puts old mid a (Ok tt) → Puts mid new b result → Puts old new (a ++ b) result
puts_then p q = both _ _ _ _ _ _ p q

-- what fails at some bytes fails so at these and others
stops : (old new : SinkTold) (a b : List ℕ) (fail : SinkFail)
    → Puts old new a (Err fail) → Puts old new (a ++ b) (Err fail)
stops old new a b fail p =
    let r = prefix_of a b p.err.0 in
    record { ok = tt; err = (r.0, subst (λ l. Appends old.written new.written l) (sym r.1) p.err.1); cause = p.cause }

pub puts_stops : {old new : SinkTold} {a : List ℕ} {fail : SinkFail} (b : List ℕ)
    → Puts old new a (Err fail) → Puts old new (a ++ b) (Err fail)
puts_stops b p = stops _ _ _ b _ p

-- ---- a loop over what is left

-- some bytes are written and others are left, and so they are after one more write
pub puts_more : (old mid new : SinkTold) (bytes rest : List ℕ) (count : ℕ)
    → (done : List ℕ) × (bytes ≡ done ++ rest) × Puts old mid done (Ok tt)
    → Appends mid.written new.written (take count rest) → SinkFailsByCount {T = ℕ} mid new (Ok count)
    → (done : List ℕ) × (bytes ≡ done ++ take (length rest - count) (drop count rest)) × Puts old new done (Ok tt)
puts_more old mid new bytes rest count h p q = (
  h.0 ++ take count rest,
  h.1 ∙ ap (λ l. h.0 ++ l) (sym (take-append-drop count rest)) ∙ sym (append_assoc h.0 (take count rest) (drop count rest))
      ∙ ap (λ l. (h.0 ++ take count rest) ++ l) (sym (take_rest rest count)),
  puts_then h.2 (puts_taken mid new rest count p q),
)

-- some bytes are written and others are left, and then a write failed
pub puts_fails : (old mid new : SinkTold) (bytes rest : List ℕ) (fail : SinkFail)
    → (done : List ℕ) × (bytes ≡ done ++ rest) × Puts old mid done (Ok tt)
    → Keeps mid.written new.written → SinkFailsByCount {T = ℕ} mid new (Err fail)
    → Puts old new bytes (Err fail)
puts_fails old mid new bytes rest fail h p q =
    subst (λ l. Puts old new l (Err fail)) (sym h.1)
    (puts_then h.2 (puts_refused mid new rest fail p q))

-- ---- a loop over pieces

-- a list of pieces is those before one of them, that one, and those after it
pieces_split : (pieces : List (Bor (List ℕ))) (i : ℕ) (d : Bor (List ℕ)) → i < length pieces
    → flat_map (λ piece. piece.now) pieces
    ≡ (flat_map (λ piece. piece.now) (take i pieces) ++ (get_or pieces i d).now) ++ flat_map (λ piece. piece.now) (drop (suc i) pieces)
pieces_split (p ∷ pieces) zero d h = refl
pieces_split (p ∷ pieces) (suc i) d h =
    ap (λ l. p.now ++ l) (pieces_split pieces i d (omega arith))
    ∙ sym (append_assoc p.now (flat_map (λ piece. piece.now) (take i pieces) ++ (get_or pieces i d).now) (flat_map (λ piece. piece.now) (drop (suc i) pieces)))
    ∙ ap (λ l. l ++ flat_map (λ piece. piece.now) (drop (suc i) pieces)) (sym (append_assoc p.now (flat_map (λ piece. piece.now) (take i pieces)) (get_or pieces i d).now))
pieces_split [] i d h = absurd (omega arith)

-- some pieces are written, and then one failed
pub pieces_fail : (old mid new : SinkTold) (pieces : List (Bor (List ℕ))) (i : ℕ) (d : Bor (List ℕ)) (fail : SinkFail)
    → i < length pieces
    → Puts old mid (flat_map (λ piece. piece.now) (take i pieces)) (Ok tt)
    → Puts mid new (get_or pieces i d).now (Err fail)
    → Puts old new (flat_map (λ piece. piece.now) pieces) (Err fail)
pieces_fail old mid new pieces i d fail h p q =
    subst (λ l. Puts old new l (Err fail)) (sym (pieces_split pieces i d h))
    (puts_stops _ (puts_then p q))

-- ---- what is told

-- a line that was written or not is told, and whole unless a count rose
tells : (old new : SinkTold) (line : List ℕ) (result : Result (Unit {0}) SinkFail)
    → Puts old new line result → Tells old new line
tells old new line (Ok u) p = record {
  count = length line;
  appended = subst (λ l. Appends old.written new.written l) (sym (take-length line)) p.ok;
  whole = λ h. absurd (omega arith);
}
tells old new line (Err Failed) p = record { count = p.err.0; appended = p.err.1; whole = λ h. inl (p.cause.failed refl) }
tells old new line (Err NoMemory) p = record { count = p.err.0; appended = p.err.1; whole = λ h. inr (p.cause.no_memory refl) }

pub puts_tells : {old new : SinkTold} {line : List ℕ} {result : Result (Unit {0}) SinkFail}
    → Puts old new line result → Tells old new line
puts_tells p = tells _ _ _ _ p
