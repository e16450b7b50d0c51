-- The first zero byte from a place on, block by block.
use Rattle.std.proofs.Common.{◌≡◌, ℕ, ◌+◌, ◌-◌, ◌*◌, ◌/◌, ◌≤◌, ◌<◌, min, inl, inr, List, [], ◌∷◌, ◌++◌, Some, None, map, length, take, drop, get_or, refl, sym, ap, ◌∙◌, arith, length-take, length-drop}
use Rattle.std.specs.Prelude.{Option, position, nat_eq}
use Rattle.std.specs.List.{range_with_len}
use Rattle.std.specs.Option.{option_map, option_or}
use Rattle.std.proofs.lemmas.Bool.{cases_lt}
use Rattle.std.proofs.lemmas.List.{take-append-drop, drop-append-le, drop_all, take_all}
use Rattle.std.proofs.lemmas.List.FromFn.{get_or-map-range_with_len, length-map-range_with_len, map-range_with_len_more}
use Rattle.om_base.specs.Nul.{nul_from}
use Rattle.om_elf.specs.Blocks.{IsNulBefore, block_nuls}
use Rattle.om_elf.proofs.ListLemmas.{position_within, position-append}

-- ---- one place

-- a list from a place on is the part up to a later place, and what stands from there on
cut : (bytes : List ℕ) (at end : ℕ) → at ≤ end → end ≤ length bytes → drop at bytes ≡ drop at (take end bytes) ++ drop end bytes
cut bytes at end low high =
    let within : at ≤ length (take end bytes) = simp length-take (omega arith) in
    ap (drop at) (sym (take-append-drop end bytes)) ∙ drop-append-le at (take end bytes) (drop end bytes) within

moved : (at end n : ℕ) (first second : Option ℕ) → at + n ≡ end
    → option_map (λ k. at + k) (option_or first (option_map (λ k. n + k) second))
    ≡ option_or (option_map (λ k. at + k) first) (option_map (λ k. end + k) second)
moved at end n (Some k) second is = refl
moved at end n None None is = refl
moved at end n None (Some k) is = ap Some (omega arith)

-- the first zero byte stands before a later place, or is the first from there on
pub nul_cut : (bytes : List ℕ) (at end : ℕ) → at ≤ end → end ≤ length bytes
    → nul_from at bytes ≡ option_or (nul_from at (take end bytes)) (nul_from end bytes)
unfolding nul_from
nul_cut bytes at end low high =
    let size : at + length (drop at (take end bytes)) ≡ end = simp (length-drop, length-take) (omega arith) in
    ap (λ rest. option_map (λ k. at + k) (position (λ b. nat_eq b 0) rest)) (cut bytes at end low high)
    ∙ ap (option_map (λ k. at + k)) (position-append (λ b. nat_eq b 0) (drop at (take end bytes)) (drop end bytes))
    ∙ moved at end (length (drop at (take end bytes))) _ _ size

placed : (at len place : ℕ) (found : Option ℕ) → option_map (λ k. at + k) found ≡ Some place → ((k : ℕ) → found ≡ Some k → k < len)
    → (at ≤ place) × (place < at + len)
placed at len place None is within = absurd (cc)
placed at len place (Some k) is within =
    let short : k < len = within k refl in
    let same : at + k ≡ place = cc in
    (omega arith, omega arith)

-- it stands at or after the place, and within the bytes
pub nul_within : (bytes : List ℕ) (at nul : ℕ) → nul_from at bytes ≡ Some nul → (at ≤ nul) × (nul < at + (length bytes - at))
unfolding nul_from
nul_within bytes at nul is =
    placed at (length bytes - at) nul (position (λ b. nat_eq b 0) (drop at bytes)) is
    (λ k here. let short = position_within (λ b. nat_eq b 0) (drop at bytes) k here in simp length-drop at short)

pub nul_after : (bytes : List ℕ) (at nul : ℕ) → nul_from at bytes ≡ Some nul → at ≤ nul
nul_after bytes at nul is = (nul_within bytes at nul is).0

pub nul_inside : (bytes : List ℕ) (at nul : ℕ) → nul_from at bytes ≡ Some nul → nul < length bytes
nul_inside bytes at nul is = let within = nul_within bytes at nul is in omega arith

pub ruleset places = (nul_after, nul_inside)

-- past the bytes there is none
pub nul_past : (bytes : List ℕ) (at : ℕ) → length bytes ≤ at → nul_from at bytes ≡ None
unfolding nul_from
nul_past bytes at past = ap (λ rest. option_map (λ k. at + k) (position (λ b. nat_eq b 0) rest)) (drop_all at bytes past)

second_some : (first second : Option ℕ) (at nul : ℕ) → option_or first second ≡ Some nul → at ≤ nul → ((k : ℕ) → first ≡ Some k → k < at) → second ≡ Some nul
second_some None second at nul is later before = is
second_some (Some k) second at nul is later before =
    let early : k < at = before k refl in
    let same : k ≡ nul = cc in
    absurd (omega arith)

second_none : (first second : Option ℕ) → option_or first second ≡ None → second ≡ None
second_none None second is = is
second_none (Some k) second is = absurd (cc)

-- a zero byte that is the first from one place on is so from each place up to it
pub nul_later : (bytes : List ℕ) (from at nul : ℕ) → nul_from from bytes ≡ Some nul → from ≤ at → at ≤ nul → nul_from at bytes ≡ Some nul
nul_later bytes from at nul is earlier later =
    let within = nul_within bytes from nul is in
    let inside : at ≤ length bytes = omega arith in
    second_some (nul_from from (take at bytes)) (nul_from at bytes) at nul (sym (nul_cut bytes from at earlier inside) ∙ is) later
    (λ k here. let short = nul_within (take at bytes) from k here in omega (arith, simp length-take at short.1))

-- where there is none from one place on, there is none from a later one on
pub nul_none : (bytes : List ℕ) (from at : ℕ) → nul_from from bytes ≡ None → from ≤ at → nul_from at bytes ≡ None
nul_none bytes from at is earlier = elim (cases_lt at (length bytes)) [
  | inl inside ↦
      let low : at ≤ length bytes = omega arith in
      second_none (nul_from from (take at bytes)) (nul_from at bytes) (sym (nul_cut bytes from at earlier low) ∙ is)
  | inr past ↦ nul_past bytes at past
]

pub before_none : (bytes : List ℕ) (at : ℕ) (before : Option ℕ) → IsNulBefore before bytes at → before ≡ None → nul_from at bytes ≡ None
before_none bytes at before known none = nul_none bytes known.from at (sym known.is ∙ none) known.earlier

pub before_some : (bytes : List ℕ) (at nul : ℕ) (before : Option ℕ) → IsNulBefore before bytes at → before ≡ Some nul → at ≤ nul → nul_from at bytes ≡ Some nul
before_some bytes at nul before known some later = nul_later bytes known.from at nul (sym known.is ∙ some) known.earlier later

-- ---- block by block

-- the first zero bytes from the first blocks on
unfoldable pub first_blocks : List ℕ → ℕ → List (Option ℕ)
first_blocks bytes count = map (λ block. nul_from (1024 * block) bytes) (range_with_len 0 count)

pub first_blocks-none : (bytes : List ℕ) → first_blocks bytes 0 ≡ []
unfolding first_blocks
first_blocks-none bytes = refl

pub first_blocks-more : (bytes : List ℕ) (count : ℕ) → first_blocks bytes (count + 1) ≡ first_blocks bytes count ++ nul_from (1024 * count) bytes ∷ []
unfolding first_blocks
first_blocks-more bytes count = map-range_with_len_more (λ block. nul_from (1024 * block) bytes) 0 count count (omega arith)

pub first_blocks-all : (bytes : List ℕ) (count : ℕ) → count ≡ length bytes / 1024 + 1 → first_blocks bytes count ≡ block_nuls bytes
unfolding first_blocks block_nuls
first_blocks-all bytes count is = rw is refl

pub length-blocks : (bytes : List ℕ) → length (block_nuls bytes) ≡ length bytes / 1024 + 1
unfolding block_nuls
length-blocks bytes = length-map-range_with_len (λ block. nul_from (1024 * block) bytes) 0 (length bytes / 1024 + 1)

pub get_or-blocks : (bytes : List ℕ) (block : ℕ) (d : Option ℕ) → block < length bytes / 1024 + 1 → get_or (block_nuls bytes) block d ≡ nul_from (1024 * block) bytes
unfolding block_nuls
get_or-blocks bytes block d inside = get_or-map-range_with_len (λ block. nul_from (1024 * block) bytes) 0 (length bytes / 1024 + 1) block block d inside (omega arith)

pub past_blocks : (bytes : List ℕ) (block : ℕ) → length (block_nuls bytes) ≤ block → nul_from (1024 * block) bytes ≡ None
past_blocks bytes block past =
    let count = length-blocks bytes in
    nul_past bytes (1024 * block) (omega arith)

-- a zero byte that is found in a front of the bytes
pub nul_in_front : (bytes : List ℕ) (at end nul : ℕ) → end ≤ length bytes → nul_from at (take end bytes) ≡ Some nul → nul_from at bytes ≡ Some nul
nul_in_front bytes at end nul high is =
    let within = nul_within (take end bytes) at nul is in
    let low : at ≤ end = omega (arith, simp length-take at within.1) in
    nul_cut bytes at end low high ∙ ap (λ first. option_or first (nul_from end bytes)) is

-- where none is found up to the next block, it is the first from that block on
pub nul_in_next : (bytes : List ℕ) (at next : ℕ) → at ≤ next → nul_from at (take (min next (length bytes)) bytes) ≡ None → nul_from at bytes ≡ nul_from next bytes
nul_in_next bytes at next low none = elim (cases_lt (length bytes) next) [
  | inl past ↦
      let whole : take (min next (length bytes)) bytes ≡ bytes = ap (λ n. take n bytes) (omega arith) ∙ take_all (length bytes) bytes (omega arith) in
      sym (ap (nul_from at) whole) ∙ none ∙ sym (nul_past bytes next (omega arith))
  | inr inside ↦
      let front : min next (length bytes) ≡ next = omega arith in
      nul_cut bytes at next low inside ∙ ap (λ first. option_or first (nul_from next bytes)) (sym (ap (λ n. nul_from at (take n bytes)) front) ∙ none)
]

pub ruleset blocks = (first_blocks-none, first_blocks-more, first_blocks-all, length-blocks, get_or-blocks, past_blocks)
