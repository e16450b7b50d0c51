-- What is left behind what is read: no more bytes than before, and fewer behind an instruction or a file.
use Rattle.std.proofs.Common.{◌≡◌, ℕ, zero, suc, ◌+◌, ◌-◌, ◌<◌, ◌≤◌, Bool, true, false, cond, eqb, leb, List, [], ◌∷◌, ◌++◌, length, take, drop, Option, Some, None, Ok, Err, append_assoc, refl, sym, ap, ◌∙◌, arith}
use Rattle.std.specs.Prelude.{Result}
use Rattle.std.specs.Result.{result_map_both}
use Rattle.std.proofs.lemmas.List.{length-append, length-drop, take-append-drop}
use Rattle.om_base.specs.Leb.{result_then, sleb_of, uleb_of}
use Rattle.om_base.specs.Reading.{Reader, first_then, number_of, second_after, text_of, with_rest}
use Rattle.om_base.specs.declared.numbers.Num.{Num}
use Rattle.om_base.proofs.FieldLaws.{number_reads, text_reads}
use Rattle.om_base.proofs.ReadingLaws.{ok_is}
use Rattle.om_base.proofs.LebLaws.{sleb_reads, uleb_reads}
use Rattle.om_line.specs.Fields.{behind_numbers, broken, by, fixed, signed, text, unsigned}
use Rattle.om_line.specs.Files.{file_or_end, unless_empty}
use Rattle.om_line.specs.Head.{Head}
use Rattle.om_line.specs.Instructions.{by_opcode, extended_by, extended_of, instruction_in, plain, standard, unknown}
use Rattle.om_line.specs.Sharing.{IsEnd}
use Rattle.om_line.specs.declared.fields.Broken.{Broken}
use Rattle.om_line.specs.declared.instruction.Instruction.{Instruction}
use Rattle.om_line.specs.declared.instruction.Instruction.TheVariants as i

-- no more bytes are left than there were
abbrev pub Shortens : {A : Type 0} → Reader A Broken → Type 0
Shortens {A} read = (bytes : List ℕ) (x : A) (rest : List ℕ) → read bytes ≡ Ok (x, rest) → length rest ≤ length bytes

-- ---- of results

pub ok_rest : {A E : Type 0} (x y : A × List ℕ) → ◌≡◌ {A = Result (A × List ℕ) E} (Ok x) (Ok y) → x.1 ≡ y.1
ok_rest x y same = ap (λ p. p.1) (ok_is x y same)

failing_ok : {A : Type 0} (o : Result (A × List ℕ) Num) (y : A × List ℕ) → ◌≡◌ {A = Result (A × List ℕ) Broken} (result_map_both (λ x. x) (λ _. broken) o) (Ok y) → o ≡ Ok y
failing_ok (Ok x) y same = cc
failing_ok (Err e) y same = absurd cc

by_ok : {A B : Type 0} (f : A → B) (o : Result (A × List ℕ) Broken) (y : B) (rest : List ℕ) → ◌≡◌ {A = Result (B × List ℕ) Broken} (result_map_both (λ x. (f x.0, x.1)) (λ e. e) o) (Ok (y, rest)) → (x : A) × (o ≡ Ok (x, rest))
by_ok {A} {B} f (Ok x) y rest same =
    let behind : x.1 ≡ rest = ok_rest {A = B} {E = Broken} (f x.0, x.1) (y, rest) same in
    (x.0, ap (λ (r : List ℕ). let read : A × List ℕ = (x.0, r) in let result : Result (A × List ℕ) Broken = Ok read in result) behind)
by_ok f (Err e) y rest same = absurd cc

-- ---- what is left behind fields

part_short : (bytes text rest : List ℕ) → bytes ≡ text ++ rest → length rest + length text ≡ length bytes
part_short bytes text rest parts = omega (arith, ap length parts, length-append text rest)

pub fixed_behind : (width : ℕ) (bytes : List ℕ) (n : ℕ) (rest : List ℕ) → fixed width bytes ≡ Ok (n, rest) → length rest + width ≡ length bytes
unfolding fixed
fixed_behind width bytes n rest is =
    let read = (number_reads width).takes bytes n rest (failing_ok (with_rest (number_of width) bytes) (n, rest) is) in
    omega (arith, part_short bytes read.0 rest read.1, read.2.size)

pub text_behind : (bytes name rest : List ℕ) → text bytes ≡ Ok (name, rest) → length rest < length bytes
unfolding text
text_behind bytes name rest is =
    let read = text_reads.takes bytes name rest (failing_ok (with_rest text_of bytes) (name, rest) is) in
    omega (arith, part_short bytes read.0 rest read.1, ap length read.2.ends, length-append name (0 ∷ []))

unsigned_short : Shortens unsigned
unfolding unsigned
unsigned_short bytes n rest is =
    let read = uleb_reads.takes bytes n rest (failing_ok (with_rest uleb_of bytes) (n, rest) is) in
    omega (arith, part_short bytes read.0 rest read.1)

signed_short : Shortens signed
unfolding signed
signed_short bytes z rest is =
    let read = sleb_reads.takes bytes z rest (failing_ok (with_rest sleb_of bytes) (z, rest) is) in
    omega (arith, part_short bytes read.0 rest read.1)

fixed_short : (width : ℕ) → Shortens (fixed width)
fixed_short width bytes n rest is = omega (arith, fixed_behind width bytes n rest is)

by_short : {A B : Type 0} (f : A → B) (read : Reader A Broken) → Shortens read → Shortens (by f read)
by_short f read short bytes y rest is = let x = by_ok f (read bytes) y rest is in short bytes x.0 rest x.1

-- ---- what is left behind several numbers

pub behind_more : (count : ℕ) (o : Result (ℕ × List ℕ) Broken) (rest : List ℕ) → result_then (λ x. behind_numbers count x.1) o ≡ Ok rest → (x : ℕ × List ℕ) × (o ≡ Ok x) × (behind_numbers count x.1 ≡ Ok rest)
behind_more count (Ok x) rest is = (x, refl, is)
behind_more count (Err e) rest is = absurd cc

pub numbers_short : (count : ℕ) (bytes rest : List ℕ) → behind_numbers count bytes ≡ Ok rest → length rest ≤ length bytes
unfolding behind_numbers
numbers_short zero bytes rest is = let same : bytes ≡ rest = cc in omega (arith, ap length same)
numbers_short (suc count) bytes rest is =
    let x = behind_more count (unsigned bytes) rest is in
    omega (arith, unsigned_short bytes x.0.0 x.0.1 x.1, numbers_short count x.0.1 rest x.2)

-- one number less
pub one_number : (count done : ℕ) (bytes : List ℕ) → done < count → behind_numbers (count - done) bytes ≡ result_then (λ x. behind_numbers (count - (done + 1)) x.1) (unsigned bytes)
unfolding behind_numbers
one_number count done bytes less = let next : count - done ≡ suc (count - (done + 1)) = omega (arith, less) in rw next refl

pub no_number : (bytes : List ℕ) (left : ℕ) → left ≡ 0 → behind_numbers left bytes ≡ Ok bytes
unfolding behind_numbers
no_number bytes left none = rw none refl

-- ---- what is left behind instructions

plain_short : (instruction : Instruction) → Shortens (plain instruction)
plain_short instruction bytes x rest is = let same : bytes ≡ rest = ok_rest {A = Instruction} {E = Broken} (instruction, bytes) (x, rest) is in omega (arith, ap length same)

unknown_ok : (o : Result (List ℕ) Broken) (x : Instruction) (rest : List ℕ) → ◌≡◌ {A = Result (Instruction × List ℕ) Broken} (result_map_both (λ behind. (i.Nothing, behind)) (λ e. e) o) (Ok (x, rest)) → o ≡ Ok rest
unknown_ok (Ok behind) x rest is = ap Ok (ok_rest {A = Instruction} {E = Broken} (i.Nothing, behind) (x, rest) is)
unknown_ok (Err e) x rest is = absurd cc

unknown_short : (count : ℕ) → Shortens (unknown count)
unknown_short count bytes x rest is = numbers_short count bytes rest (unknown_ok (behind_numbers count bytes) x rest is)

row_by : (b : Bool) (one other : Reader Instruction Broken) → Shortens one → Shortens other → Shortens (cond b one other)
row_by true one other first second = first
row_by false one other first second = second

standard_short : (head : Head) (opcode : ℕ) → Shortens (standard head opcode)
unfolding standard
standard_short head opcode =
    row_by (eqb 1 opcode) _ _ (plain_short i.Copy)
    (row_by (eqb 2 opcode) _ _ (by_short i.AdvancePc unsigned unsigned_short)
    (row_by (eqb 3 opcode) _ _ (by_short i.AdvanceLine signed signed_short)
    (row_by (eqb 4 opcode) _ _ (by_short i.SetFile unsigned unsigned_short)
    (row_by (eqb 5 opcode) _ _ (by_short (λ _. i.Nothing) unsigned unsigned_short)
    (row_by (eqb 6 opcode) _ _ (plain_short i.Nothing)
    (row_by (eqb 7 opcode) _ _ (plain_short i.Nothing)
    (row_by (eqb 8 opcode) _ _ (plain_short i.ConstAddPc)
    (row_by (eqb 9 opcode) _ _ (by_short i.FixedAdvancePc (fixed 2) (fixed_short 2))
    (row_by (eqb 10 opcode) _ _ (plain_short i.Nothing)
    (row_by (eqb 11 opcode) _ _ (plain_short i.Nothing)
    (row_by (eqb 12 opcode) _ _ (by_short (λ _. i.Nothing) unsigned unsigned_short)
    (unknown_short _))))))))))))

extended_ok : (o : Result Instruction Broken) (behind : List ℕ) (x : Instruction) (rest : List ℕ)
    → ◌≡◌ {A = Result (Instruction × List ℕ) Broken} (result_map_both (λ instruction. (instruction, behind)) (λ e. e) o) (Ok (x, rest)) → behind ≡ rest
extended_ok (Ok instruction) behind x rest is = ok_rest {A = Instruction} {E = Broken} (instruction, behind) (x, rest) is
extended_ok (Err e) behind x rest is = absurd cc

extended_by_test : (b : Bool) (o : Result Instruction Broken) (behind bytes : List ℕ) (x : Instruction) (rest : List ℕ) → length behind ≤ length bytes
    → ◌≡◌ {A = Result (Instruction × List ℕ) Broken} (cond b (result_map_both (λ instruction. (instruction, behind)) (λ e. e) o) (Err broken)) (Ok (x, rest)) → length rest ≤ length bytes
extended_by_test true o behind bytes x rest less is = omega (arith, ap length (extended_ok o behind x rest is), less)
extended_by_test false o behind bytes x rest less is = absurd cc

extended_short : (size : ℕ) → Shortens (extended_of size)
unfolding extended_of
extended_short size bytes x rest is =
    extended_by_test (leb size (length bytes)) (extended_by (take size bytes)) (drop size bytes) bytes x rest (omega (arith, length-drop size bytes)) is

second_ok : {A B : Type 0} (second : A → Reader B Broken) (o : Result (A × List ℕ) Broken) (y : B) (rest : List ℕ) → second_after second o ≡ Ok (y, rest)
    → (x : A × List ℕ) × (o ≡ Ok x) × (second x.0 x.1 ≡ Ok (y, rest))
second_ok second (Ok x) y rest is = (x, refl, is)
second_ok second (Err e) y rest is = absurd cc

opcode_by : (special zero_ : Bool) (head : Head) (opcode : ℕ) → Shortens (cond special (plain (i.Special (opcode - head.opcode_base))) (cond zero_ (first_then unsigned extended_of) (standard head opcode)))
opcode_by true zero_ head opcode bytes x rest is = plain_short (i.Special (opcode - head.opcode_base)) bytes x rest is
opcode_by false true head opcode bytes x rest is =
    let size = second_ok extended_of (unsigned bytes) x rest is in
    omega (arith, unsigned_short bytes size.0.0 size.0.1 size.1, extended_short size.0.0 size.0.1 x rest size.2)
opcode_by false false head opcode bytes x rest is = standard_short head opcode bytes x rest is

pub instruction_behind : (head : Head) (bytes : List ℕ) (x : Instruction) (rest : List ℕ) → instruction_in head bytes ≡ Ok (x, rest) → length rest < length bytes
unfolding instruction_in
instruction_behind head bytes x rest is =
    let opcode = second_ok (by_opcode head) (fixed 1 bytes) x rest is in
    omega (arith, fixed_behind 1 bytes opcode.0.0 opcode.0.1 opcode.1, opcode_by (leb head.opcode_base opcode.0.0) (eqb opcode.0.0 0) head opcode.0.0 opcode.0.1 x rest opcode.2)

-- ---- what is left behind a file

named_ok : (name : List ℕ) (o : Result (List ℕ) Broken) (x : Option (List ℕ) × List ℕ)
    → ◌≡◌ {A = Result (Option (List ℕ) × List ℕ) Broken} (result_map_both (λ (x : List ℕ × List ℕ). (Some x.0, x.1)) (λ e. e) (result_map_both (λ behind. (name, behind)) (λ e. e) o)) (Ok x) → o ≡ Ok x.1
named_ok name (Ok behind) x is = ap Ok (ok_rest {A = Option (List ℕ)} {E = Broken} (Some name, behind) x is)
named_ok name (Err e) x is = absurd cc

unless_short : (name rest : List ℕ) (x : Option (List ℕ) × List ℕ) → unless_empty name rest ≡ Ok x → length x.1 ≤ length rest
unless_short [] rest x is = omega (arith, ap length (ok_rest {A = Option (List ℕ)} {E = Broken} (None, rest) x is))
unless_short (byte ∷ bytes) rest x is = numbers_short 3 rest x.1 (named_ok (byte ∷ bytes) (behind_numbers 3 rest) x is)

file_by : (o : Result (List ℕ × List ℕ) Broken) (x : Option (List ℕ) × List ℕ) → result_then (λ y. unless_empty y.0 y.1) o ≡ Ok x → (y : List ℕ × List ℕ) × (o ≡ Ok y) × (unless_empty y.0 y.1 ≡ Ok x)
file_by (Ok y) x is = (y, refl, is)
file_by (Err e) x is = absurd cc

pub file_behind : (bytes : List ℕ) (x : Option (List ℕ) × List ℕ) → file_or_end bytes ≡ Ok x → length x.1 < length bytes
unfolding file_or_end
file_behind bytes x is =
    let name = file_by (text bytes) x is in
    omega (arith, text_behind bytes name.0.0 name.0.1 name.1, unless_short name.0.0 name.0.1 x name.2)

-- ---- what is left is the end of what there was

abbrev Ends : {A : Type 0} → Reader A Broken → Type 0
Ends {A} read = (bytes : List ℕ) (x : A) (rest : List ℕ) → read bytes ≡ Ok (x, rest) → IsEnd bytes rest

pub whole_end : (bytes rest : List ℕ) → bytes ≡ rest → IsEnd bytes rest
whole_end bytes rest same = ([], same)

pub further_end : (bytes middle rest : List ℕ) → IsEnd bytes middle → IsEnd middle rest → IsEnd bytes rest
further_end bytes middle rest one other = (one.0 ++ other.0, one.1 ∙ ap (λ m. one.0 ++ m) other.1 ∙ sym (append_assoc one.0 other.0 rest))

unsigned_end : Ends unsigned
unfolding unsigned
unsigned_end bytes n rest is = let read = uleb_reads.takes bytes n rest (failing_ok (with_rest uleb_of bytes) (n, rest) is) in (read.0, read.1)

signed_end : Ends signed
unfolding signed
signed_end bytes z rest is = let read = sleb_reads.takes bytes z rest (failing_ok (with_rest sleb_of bytes) (z, rest) is) in (read.0, read.1)

fixed_end : (width : ℕ) → Ends (fixed width)
unfolding fixed
fixed_end width bytes n rest is = let read = (number_reads width).takes bytes n rest (failing_ok (with_rest (number_of width) bytes) (n, rest) is) in (read.0, read.1)

by_end : {A B : Type 0} (f : A → B) (read : Reader A Broken) → Ends read → Ends (by f read)
by_end f read ends bytes y rest is = let x = by_ok f (read bytes) y rest is in ends bytes x.0 rest x.1

numbers_end : (count : ℕ) (bytes rest : List ℕ) → behind_numbers count bytes ≡ Ok rest → IsEnd bytes rest
unfolding behind_numbers
numbers_end zero bytes rest is = let same : bytes ≡ rest = cc in whole_end bytes rest same
numbers_end (suc count) bytes rest is =
    let x = behind_more count (unsigned bytes) rest is in
    further_end bytes x.0.1 rest (unsigned_end bytes x.0.0 x.0.1 x.1) (numbers_end count x.0.1 rest x.2)

plain_end : (instruction : Instruction) → Ends (plain instruction)
plain_end instruction bytes x rest is = whole_end bytes rest (ok_rest {A = Instruction} {E = Broken} (instruction, bytes) (x, rest) is)

unknown_end : (count : ℕ) → Ends (unknown count)
unknown_end count bytes x rest is = numbers_end count bytes rest (unknown_ok (behind_numbers count bytes) x rest is)

end_by : (b : Bool) (one other : Reader Instruction Broken) → Ends one → Ends other → Ends (cond b one other)
end_by true one other first second = first
end_by false one other first second = second

standard_end : (head : Head) (opcode : ℕ) → Ends (standard head opcode)
unfolding standard
standard_end head opcode =
    end_by (eqb 1 opcode) _ _ (plain_end i.Copy)
    (end_by (eqb 2 opcode) _ _ (by_end i.AdvancePc unsigned unsigned_end)
    (end_by (eqb 3 opcode) _ _ (by_end i.AdvanceLine signed signed_end)
    (end_by (eqb 4 opcode) _ _ (by_end i.SetFile unsigned unsigned_end)
    (end_by (eqb 5 opcode) _ _ (by_end (λ _. i.Nothing) unsigned unsigned_end)
    (end_by (eqb 6 opcode) _ _ (plain_end i.Nothing)
    (end_by (eqb 7 opcode) _ _ (plain_end i.Nothing)
    (end_by (eqb 8 opcode) _ _ (plain_end i.ConstAddPc)
    (end_by (eqb 9 opcode) _ _ (by_end i.FixedAdvancePc (fixed 2) (fixed_end 2))
    (end_by (eqb 10 opcode) _ _ (plain_end i.Nothing)
    (end_by (eqb 11 opcode) _ _ (plain_end i.Nothing)
    (end_by (eqb 12 opcode) _ _ (by_end (λ _. i.Nothing) unsigned unsigned_end)
    (unknown_end _))))))))))))

extended_end_test : (b : Bool) (o : Result Instruction Broken) (behind bytes : List ℕ) (x : Instruction) (rest : List ℕ) → IsEnd bytes behind
    → ◌≡◌ {A = Result (Instruction × List ℕ) Broken} (cond b (result_map_both (λ instruction. (instruction, behind)) (λ e. e) o) (Err broken)) (Ok (x, rest)) → IsEnd bytes rest
extended_end_test true o behind bytes x rest ends is = further_end bytes behind rest ends (whole_end behind rest (extended_ok o behind x rest is))
extended_end_test false o behind bytes x rest ends is = absurd cc

extended_end : (size : ℕ) → Ends (extended_of size)
unfolding extended_of
extended_end size bytes x rest is =
    extended_end_test (leb size (length bytes)) (extended_by (take size bytes)) (drop size bytes) bytes x rest (take size bytes, sym (take-append-drop size bytes)) is

opcode_end : (special zero_ : Bool) (head : Head) (opcode : ℕ) → Ends (cond special (plain (i.Special (opcode - head.opcode_base))) (cond zero_ (first_then unsigned extended_of) (standard head opcode)))
opcode_end true zero_ head opcode bytes x rest is = plain_end (i.Special (opcode - head.opcode_base)) bytes x rest is
opcode_end false true head opcode bytes x rest is =
    let size = second_ok extended_of (unsigned bytes) x rest is in
    further_end bytes size.0.1 rest (unsigned_end bytes size.0.0 size.0.1 size.1) (extended_end size.0.0 size.0.1 x rest size.2)
opcode_end false false head opcode bytes x rest is = standard_end head opcode bytes x rest is

-- what stands behind an instruction is the end of what there was
pub instruction_end : (head : Head) (bytes : List ℕ) (x : Instruction) (rest : List ℕ) → instruction_in head bytes ≡ Ok (x, rest) → IsEnd bytes rest
unfolding instruction_in
instruction_end head bytes x rest is =
    let opcode = second_ok (by_opcode head) (fixed 1 bytes) x rest is in
    further_end bytes opcode.0.1 rest (fixed_end 1 bytes opcode.0.0 opcode.0.1 opcode.1)
    (opcode_end (leb head.opcode_base opcode.0.0) (eqb opcode.0.0 0) head opcode.0.0 opcode.0.1 x rest opcode.2)
