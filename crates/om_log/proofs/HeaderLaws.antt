-- The header that a file is spelled with, and the fault of a header.
use Rattle.std.proofs.Common.{◌≡◌, ℕ, ◌+◌, ◌^◌, ◌<◌, ◌≤◌, Bool, true, false, ◌&&◌, nat_eq, leb, List, [], ◌∷◌, ◌++◌, length, take, drop, slice_index, Option, Some, None, refl, sym, ap, subst, ◌∙◌, append_assoc, arith}
use Rattle.std.proofs.lemmas.Bool.{and_parts, eqb-true, le-leb, leb-true}
use Rattle.std.proofs.lemmas.List.{take_at, drop_at, take-append-drop, length-append, length-take, length-drop, drop-drop}
use Rattle.om_base.specs.Firsts.{first_of, unless}
use Rattle.om_base.specs.Numbers.{le, number_at, word}
use Rattle.om_base.proofs.FirstLemmas.{kept_by, neither, none_of}
use Rattle.om_log.specs.Faults.{has_letters, has_version, header_fault, header_faults, start_in}
use Rattle.om_log.specs.Grammar.{header}
use Rattle.om_log.specs.LittleEndian.{le_bytes}
use Rattle.om_log.specs.Regions.{FitsStart, IsLawfulStart, start_fault, start_faults}
use Rattle.om_log.specs.Steps.{IsHeader}
use Rattle.om_log.specs.declared.fault.LogFault.{LogFault}
use Rattle.om_log.specs.declared.fault.LogFault.TheVariants.{Short, Magic, Version}
use Rattle.om_log.specs.declared.start.Start.{Start}
use Rattle.om_log.proofs.FieldLaws.{IsBytes, IsBytes-drop, IsBytes-take, le-le_bytes, le_bytes-le, le_fits, length-le_bytes, some_is}
use Rattle.om_log.proofs.WriteLaws.{length-header}

-- ---- the numbers of a header that is spelled

word_there : (front rest : List ℕ) (n at : ℕ) → length front ≡ at → n < 2 ^ 32 → word (front ++ (le_bytes 4 n ++ rest)) at ≡ n
unfolding number_at
word_there front rest n at long small =
    let whole : at + 4 ≤ length (front ++ (le_bytes 4 n ++ rest)) =
    omega (arith, long, length-append front (le_bytes 4 n ++ rest), length-append (le_bytes 4 n) rest, length-le_bytes 4 n) in
    rw (
      le-leb (at + 4) (length (front ++ (le_bytes 4 n ++ rest))) whole,
      drop_at front (le_bytes 4 n ++ rest) at long,
      take_at (le_bytes 4 n) rest 4 (length-le_bytes 4 n),
      le-le_bytes 4 n small,
    ) refl

-- the letters and the digit before some bytes
abbrev marked : List ℕ → List ℕ
marked bytes = 79 ∷ 84 ∷ 76 ∷ 49 ∷ bytes

start_parts : (start : Start) (a b c d : ℕ) → a ≡ start.stack_low → b ≡ start.stack_size → c ≡ start.heap_low → d ≡ start.heap_size
    → (let other : Start = record { stack_low = a; stack_size = b; heap_low = c; heap_size = d } in other) ≡ start
start_parts start a b c d p q r s = rw (p, q, r, s) refl

-- the regions of a header that is spelled
pub start_there : (start : Start) (body : List ℕ) → FitsStart start → start_in (header start ++ body) ≡ start
unfolding header
start_there start body fits =
    let a = le_bytes 4 start.stack_low in
    let b = le_bytes 4 start.stack_size in
    let c = le_bytes 4 start.heap_low in
    let d = le_bytes 4 start.heap_size in
    let long_a = length-le_bytes 4 start.stack_low in
    let long_b = length-le_bytes 4 start.stack_size in
    let long_c = length-le_bytes 4 start.heap_low in
    let last : marked ((((a ++ b) ++ c) ++ d) ++ body) ≡ marked ((a ++ b) ++ c) ++ (d ++ body) = ap marked (append_assoc ((a ++ b) ++ c) d body) in
    let third : marked ((((a ++ b) ++ c) ++ d) ++ body) ≡ marked (a ++ b) ++ (c ++ (d ++ body)) = last ∙ ap marked (append_assoc (a ++ b) c (d ++ body)) in
    let second : marked ((((a ++ b) ++ c) ++ d) ++ body) ≡ marked a ++ (b ++ (c ++ (d ++ body))) = third ∙ ap marked (append_assoc a b (c ++ (d ++ body))) in
    start_parts start _ _ _ _
    (ap (λ file. word file 4) second ∙ word_there (marked []) (b ++ (c ++ (d ++ body))) start.stack_low 4 refl fits.stack_low)
    (ap (λ file. word file 8) second ∙ word_there (marked a) (c ++ (d ++ body)) start.stack_size 8 (omega (arith, long_a)) fits.stack_size)
    (ap (λ file. word file 12) third ∙ word_there (marked (a ++ b)) (d ++ body) start.heap_low 12 (omega (arith, length-append a b, long_a, long_b)) fits.heap_low)
    (ap (λ file. word file 16) last
    ∙ word_there (marked ((a ++ b) ++ c)) body start.heap_size 16 (omega (arith, length-append (a ++ b) c, length-append a b, long_a, long_b, long_c)) fits.heap_size)

-- two headers in front of the same bytes are one
pub one_header : (a b : Start) (r t : List ℕ) → FitsStart a → FitsStart b → header a ++ r ≡ header b ++ t → (a ≡ b) × (r ≡ t)
one_header a b r t fa fb same =
    let behind : (start : Start) (body : List ℕ) → drop 20 (header start ++ body) ≡ body = λ start body. drop_at (header start) body 20 (length-header start) in
    (sym (start_there a r fa) ∙ ap start_in same ∙ start_there b t fb, sym (behind a r) ∙ ap (drop 20) same ∙ behind b t)

-- ---- the fault of a header that is spelled

rules_behind : (whole : Bool) (rules : List (Option LogFault)) → whole ≡ true → first_of (unless whole (Short 0) ∷ unless true Magic ∷ unless true Version ∷ rules) ≡ first_of rules
rules_behind true rules is = refl
rules_behind false rules is = absurd cc

letters_there : (start : Start) (body : List ℕ) → (has_letters (header start ++ body) ≡ true) × (has_version (header start ++ body) ≡ true)
unfolding header
letters_there start body = (refl, refl)

-- it is that of its regions
pub header_fault_is : (start : Start) (body : List ℕ) → FitsStart start → header_fault (header start ++ body) ≡ start_fault start
unfolding header_fault start_fault
header_fault_is start body fits =
    let file = header start ++ body in
    let long : 20 ≤ length file = omega (arith, length-append (header start) body, length-header start) in
    let there = letters_there start body in
    rw (there.0, there.1) (rules_behind (leb 20 (length file)) (start_faults (start_in file)) (le-leb 20 (length file) long))
    ∙ ap (λ (s : Start). first_of (start_faults s)) (start_there start body fits)

-- a lawful header has no fault
pub no_header_fault : (file : List ℕ) (f : LogFault) (start : Start) (body : List ℕ) → FitsStart start → IsLawfulStart start → file ≡ header start ++ body → header_fault file ≡ Some f → ⊥
no_header_fault file f start body fits lawful same fault =
    let none : None ≡ Some f = sym lawful ∙ sym (header_fault_is start body fits) ∙ ap header_fault (sym same) ∙ fault in cc

pub one_header_fault : (file : List ℕ) (f g : LogFault) → header_fault file ≡ Some f → header_fault file ≡ Some g → f ≡ g
one_header_fault file f g one other = some_is f g (sym one ∙ other)

-- ---- the header of a file without a fault of the header

letters_front : (file : List ℕ) → 20 ≤ length file → slice_index file 0 ≡ 79 → slice_index file 1 ≡ 84 → slice_index file 2 ≡ 76 → slice_index file 3 ≡ 49 → file ≡ marked (drop 4 file)
letters_front [] long first second third fourth = absurd cc
letters_front (a ∷ []) long first second third fourth = absurd cc
letters_front (a ∷ b ∷ []) long first second third fourth = absurd cc
letters_front (a ∷ b ∷ c ∷ []) long first second third fourth = absurd (let few : 20 ≤ 3 = long in omega arith)
letters_front (a ∷ b ∷ c ∷ d ∷ file) long first second third fourth =
    let one : a ≡ 79 = first in
    let two : b ≡ 84 = second in
    let three : c ≡ 76 = third in
    let four : d ≡ 49 = fourth in
    cc

-- the four bytes at a place are those of their number, which fits
pub record IsWord (file : List ℕ) (at : ℕ) : Type 0 where
  pub spelled : drop at file ≡ le_bytes 4 (word file at) ++ drop (at + 4) file
  pub fits : word file at < 2 ^ 32

word_in : (file : List ℕ) (at : ℕ) → IsBytes file → at + 4 ≤ length file → IsWord file at
unfolding number_at
word_in file at bytes whole =
    let part = take 4 (drop at file) in
    let part_bytes = IsBytes-take 4 (drop at file) (IsBytes-drop at file bytes) in
    let long : length part ≡ 4 = omega (arith, length-take 4 (drop at file), length-drop at file) in
    let is : word file at ≡ le part = rw (le-leb (at + 4) (length file) whole) refl in
    let text : le_bytes 4 (word file at) ≡ part = ap (le_bytes 4) is ∙ ap (λ n. le_bytes n (le part)) (sym long) ∙ le_bytes-le part part_bytes in
    let small : le part < 256 ^ 4 = subst (λ n. le part < 256 ^ n) long (le_fits part part_bytes) in
    record {
      spelled = sym (take-append-drop 4 (drop at file)) ∙ ap (λ xs. part ++ xs) (drop-drop 4 at file) ∙ ap (λ xs. xs ++ drop (at + 4) file) (sym text);
      fits = (let low : word file at < 256 ^ 4 = rw is small in low);
    }

pub header_there : (file : List ℕ) → IsBytes file → header_fault file ≡ None → IsHeader file (start_in file) (drop 20 file)
unfolding header_fault start_fault header
header_there file bytes none =
    let all : first_of (header_faults file) ≡ None = none in
    let kept = none_of (header_faults file) all in
    let long : 20 ≤ length file = leb-true 20 (length file) (kept_by (leb 20 (length file)) (Short 0) kept.0) in
    let letters = and_parts (nat_eq (slice_index file 0) 79 && nat_eq (slice_index file 1) 84) (nat_eq (slice_index file 2) 76) (kept_by (has_letters file) Magic kept.1.0) in
    let others = and_parts (nat_eq (slice_index file 0) 79) (nat_eq (slice_index file 1) 84) letters.0 in
    let digit = kept_by (has_version file) Version kept.1.1.0 in
    let front = letters_front file long (eqb-true (slice_index file 0) 79 others.0) (eqb-true (slice_index file 1) 84 others.1) (eqb-true (slice_index file 2) 76 letters.1) (eqb-true (slice_index file 3) 49 digit) in
    let a = word_in file 4 bytes (omega arith) in
    let b = word_in file 8 bytes (omega arith) in
    let c = word_in file 12 bytes (omega arith) in
    let d = word_in file 16 bytes (omega arith) in
    let w = le_bytes 4 (word file 4) in
    let x = le_bytes 4 (word file 8) in
    let y = le_bytes 4 (word file 12) in
    let z = le_bytes 4 (word file 16) in
    let rest = drop 20 file in
    let behind : drop 4 file ≡ (((w ++ x) ++ y) ++ z) ++ rest =
    a.spelled ∙ ap (λ xs. w ++ xs) (b.spelled ∙ ap (λ xs. x ++ xs) (c.spelled ∙ ap (λ xs. y ++ xs) d.spelled))
    ∙ sym (append_assoc w x (y ++ (z ++ rest))) ∙ sym (append_assoc (w ++ x) y (z ++ rest)) ∙ sym (append_assoc ((w ++ x) ++ y) z rest) in
    record {
      fits = record { stack_low = a.fits; stack_size = b.fits; heap_low = c.fits; heap_size = d.fits };
      lawful = (neither (unless (has_version file) Version) _ (neither (unless (has_letters file) Magic) _ (neither (unless (leb 20 (length file)) (Short 0)) _ all).1).1).1;
      spelled = front ∙ ap marked behind;
    }
