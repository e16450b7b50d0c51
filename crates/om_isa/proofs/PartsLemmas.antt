-- That a word belongs to a row exactly where its fields are the row's.
use Rattle.std.proofs.Common.{◌≡◌, ℕ, ◌+◌, ◌*◌, ◌/◌, ◌%◌, ◌^◌, ◌<◌, Bool, true, false, ◌&&◌, ◌||◌, nat_eq, bit_and, List, [], ◌∷◌, Some, None, inl, inr, refl, sym, ap, arith}
use Rattle.std.specs.Prelude.{find}
use Rattle.std.specs.Option.{option_map}
use Rattle.std.proofs.lemmas.Nat.{and_mask, and_block}
use Rattle.std.proofs.lemmas.Bool.{and_parts, eqb-true, eq-eqb}
use Rattle.std.specs.Cmp.Derive.{both_true}
use Rattle.std.proofs.lemmas.Bool.Decides.{eqb_tells}
use Rattle.om_isa.specs.Table.{Row, table, fits, field, read_as, decoded}
use Rattle.om_isa.specs.Parts.{fits_by, shape_by, parts_of}
use Rattle.om_isa.specs.declared.op.Op.{Op}
use Rattle.om_isa.specs.declared.instr.Instr.{Instr}

-- ---- words under a mask

mask_opcode : (w : ℕ) → bit_and w 0x7f ≡ w % 2 ^ 7
mask_opcode w = and_mask w 7

mask_funct3 : (w : ℕ) → bit_and w 0x707f ≡ w / 2 ^ 12 % 2 ^ 3 * 2 ^ 12 + w % 2 ^ 7
mask_funct3 w =
    let split : w ≡ w / 2 ^ 12 * 2 ^ 12 + w % 2 ^ 12 = omega arith in
    let block = and_block 12 (w / 2 ^ 12) 7 (w % 2 ^ 12) 0x7f (omega arith) (omega arith) in
    let high : bit_and (w / 2 ^ 12) 7 ≡ w / 2 ^ 12 % 2 ^ 3 = and_mask (w / 2 ^ 12) 3 in
    let low : bit_and (w % 2 ^ 12) 0x7f ≡ w % 2 ^ 12 % 2 ^ 7 = and_mask (w % 2 ^ 12) 7 in
    let part : w % 2 ^ 12 % 2 ^ 7 ≡ w % 2 ^ 7 = omega arith in
    let whole : bit_and w 0x707f ≡ bit_and (w / 2 ^ 12 * 2 ^ 12 + w % 2 ^ 12) 0x707f = ap (λ (x : ℕ). bit_and x 0x707f) split in
    omega arith

mask_funct7 : (w : ℕ) → bit_and w 0xfe00_707f ≡ w / 2 ^ 25 % 2 ^ 7 * 2 ^ 25 + w / 2 ^ 12 % 2 ^ 3 * 2 ^ 12 + w % 2 ^ 7
mask_funct7 w =
    let split : w ≡ w / 2 ^ 25 * 2 ^ 25 + w % 2 ^ 25 = omega arith in
    let block = and_block 25 (w / 2 ^ 25) 0x7f (w % 2 ^ 25) 0x707f (omega arith) (omega arith) in
    let high : bit_and (w / 2 ^ 25) 0x7f ≡ w / 2 ^ 25 % 2 ^ 7 = and_mask (w / 2 ^ 25) 7 in
    let low = mask_funct3 (w % 2 ^ 25) in
    let middle : w % 2 ^ 25 / 2 ^ 12 % 2 ^ 3 ≡ w / 2 ^ 12 % 2 ^ 3 = omega arith in
    let part : w % 2 ^ 25 % 2 ^ 7 ≡ w % 2 ^ 7 = omega arith in
    let whole : bit_and w 0xfe00_707f ≡ bit_and (w / 2 ^ 25 * 2 ^ 25 + w % 2 ^ 25) 0xfe00_707f = ap (λ (x : ℕ). bit_and x 0xfe00_707f) split in
    omega arith

mask_word : (w : ℕ) → w < 2 ^ 32 → bit_and w 0xffff_ffff ≡ w
mask_word w small =
    let whole : bit_and w 0xffff_ffff ≡ w % 2 ^ 32 = and_mask w 32 in
    omega arith

-- ---- words against the bits of a row

-- two tests are one where each passes with the other
same : (a b : Bool) → (a ≡ true → b ≡ true) → (b ≡ true → a ≡ true) → a ≡ b
same true b to from = sym (to refl)
same false true to from = from refl
same false false to from = refl

opcode_is : (w bits : ℕ) → bit_and bits 0x7f ≡ bits → nat_eq (bit_and w 0x7f) bits ≡ (nat_eq (bits % 128) (w % 128) && true)
opcode_is w bits kept =
    let word = mask_opcode w in
    let row = mask_opcode bits in
    same _ _ (λ e. let f = eqb-true (bit_and w 0x7f) bits e in both_true (eq-eqb (bits % 128) (w % 128) (omega arith)) refl) (λ e.
    let f = eqb-true (bits % 128) (w % 128) (and_parts (nat_eq (bits % 128) (w % 128)) true e).0 in eq-eqb (bit_and w 0x7f) bits (omega arith))

funct3_is : (w bits : ℕ) → bit_and bits 0x707f ≡ bits → nat_eq (bit_and w 0x707f) bits ≡ (nat_eq (bits % 128) (w % 128) && nat_eq (field bits 12 3) (field w 12 3))
funct3_is w bits kept =
    let word = mask_funct3 w in
    let row = mask_funct3 bits in
    same _ _ (λ e. let f = eqb-true (bit_and w 0x707f) bits e in both_true (eq-eqb (bits % 128) (w % 128) (omega arith)) (eq-eqb (field bits 12 3) (field w 12 3) (omega arith))) (λ e.
    let both = and_parts (nat_eq (bits % 128) (w % 128)) _ e in
    let f = eqb-true (bits % 128) (w % 128) both.0 in
    let g = eqb-true (field bits 12 3) (field w 12 3) both.1 in
    eq-eqb (bit_and w 0x707f) bits (omega arith))

funct7_is : (w bits : ℕ) → bit_and bits 0xfe00_707f ≡ bits → nat_eq (bit_and w 0xfe00_707f) bits ≡ (nat_eq (bits % 128) (w % 128) && (nat_eq (field bits 12 3) (field w 12 3) && nat_eq (field bits 25 7) (field w 25 7)))
funct7_is w bits kept =
    let word = mask_funct7 w in
    let row = mask_funct7 bits in
    same _ _ (λ e. let f = eqb-true (bit_and w 0xfe00_707f) bits e in both_true (eq-eqb (bits % 128) (w % 128) (omega arith)) (both_true (eq-eqb (field bits 12 3) (field w 12 3) (omega arith)) (eq-eqb (field bits 25 7) (field w 25 7) (omega arith)))) (λ e.
    let both = and_parts (nat_eq (bits % 128) (w % 128)) _ e in
    let functs = and_parts (nat_eq (field bits 12 3) (field w 12 3)) _ both.1 in
    let f = eqb-true (bits % 128) (w % 128) both.0 in
    let g = eqb-true (field bits 12 3) (field w 12 3) functs.0 in
    let h = eqb-true (field bits 25 7) (field w 25 7) functs.1 in
    eq-eqb (bit_and w 0xfe00_707f) bits (omega arith))

word_is : (w bits : ℕ) → w < 2 ^ 32 → nat_eq (bit_and w 0xffff_ffff) bits ≡ (nat_eq (bits % 128) (w % 128) && nat_eq bits w)
word_is w bits small =
    let word = mask_word w small in
    same _ _ (λ e. let f = eqb-true (bit_and w 0xffff_ffff) bits e in both_true (eq-eqb (bits % 128) (w % 128) (omega arith)) (eq-eqb bits w (omega arith))) (λ e.
    let both = and_parts (nat_eq (bits % 128) (w % 128)) _ e in
    let f = eqb-true bits w both.1 in
    eq-eqb (bit_and w 0xffff_ffff) bits (omega arith))

-- ---- rows

-- a row has one of the four masks, and no bits beside it
is_good : Row → Bool
is_good r =
    nat_eq (bit_and r.bits r.mask) r.bits && (nat_eq r.mask 0x7f || nat_eq r.mask 0x707f || nat_eq r.mask 0xfe00_707f || nat_eq r.mask 0xffff_ffff)

are_good : List Row → Bool
are_good [] = true
are_good (r ∷ rs) = is_good r && are_good rs

good-table : are_good table ≡ true
unfolding table are_good is_good
good-table = refl

-- ---- the row of a word

-- a word belongs to a row exactly where its fields are the row's
fits_is : (word : ℕ) → word < 2 ^ 32 → (r : Row) → is_good r ≡ true → fits word r ≡ fits_by (word % 128) (field word 12 3) (field word 25 7) word r
unfolding is_good
fits_is word small r good =
    let parts = and_parts (nat_eq (bit_and r.bits r.mask) r.bits) _ good in
    let kept = eqb-true (bit_and r.bits r.mask) r.bits parts.0 in
    elim (eqb_tells r.mask 0x7f) as (λ _. fits word r ≡ fits_by (word % 128) (field word 12 3) (field word 25 7) word r) [
      | inl here ↦ let kept_here = rw here.1 at kept in rw here.1 (opcode_is word r.bits kept_here)
      | inr past ↦ elim (eqb_tells r.mask 0x707f) as (λ _. fits word r ≡ fits_by (word % 128) (field word 12 3) (field word 25 7) word r) [
        | inl here ↦ let kept_here = rw here.1 at kept in rw here.1 (funct3_is word r.bits kept_here)
        | inr past3 ↦ elim (eqb_tells r.mask 0xfe00_707f) as (λ _. fits word r ≡ fits_by (word % 128) (field word 12 3) (field word 25 7) word r) [
          | inl here ↦ let kept_here = rw here.1 at kept in rw here.1 (funct7_is word r.bits kept_here)
          | inr past7 ↦
              let last = rw (past.0, past3.0, past7.0) at parts.1 in
              let whole = eqb-true r.mask 0xffff_ffff last in
              rw whole (word_is word r.bits small)
        ]
      ]
    ]

find_is : (word : ℕ) → word < 2 ^ 32 → (rs : List Row) → are_good rs ≡ true → find (fits word) rs ≡ find (fits_by (word % 128) (field word 12 3) (field word 25 7) word) rs
unfolding are_good
find_is word small [] good = refl
find_is word small (r ∷ rs) good =
    let both = and_parts (is_good r) (are_good rs) good in
    let this = fits_is word small r both.0 in
    let rest = find_is word small rs both.1 in
    rw (this, rest) refl

-- a word's parts, with its registers
abbrev pub whole_of : ℕ → (Op × ℕ) → Instr
whole_of word parts = record {
  op = parts.0;
  rd = field word 7 5;
  rs1 = field word 15 5;
  rs2 = field word 20 5;
  imm = parts.1;
}

pub decoded_is : (word : ℕ) → word < 2 ^ 32 → decoded word ≡ option_map (whole_of word) (option_map (parts_of word) (shape_by (word % 128) (field word 12 3) (field word 25 7) word))
unfolding decoded
decoded_is word small =
    rw (find_is word small table good-table) (elim (find (fits_by (word % 128) (field word 12 3) (field word 25 7) word) table) as (λ found. option_map (read_as word) found ≡ option_map (whole_of word) (option_map (parts_of word) (option_map (λ (r : Row). (r.op, r.form)) found))) [ None ↦ refl | Some r ↦ refl ])
