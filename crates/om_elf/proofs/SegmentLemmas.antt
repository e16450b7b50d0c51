-- What the rules of program headers say of the segments.
use Rattle.std.proofs.Common.{◌≡◌, ℕ, ◌+◌, ◌<◌, ◌≤◌, Bool, true, false, cond, ltb, max, min, List, [], ◌∷◌, None, map, length, length-take, get_or, refl, sym, ap, ◌∙◌, arith}
use Rattle.std.specs.Prelude.{All, filter, position, sum_by}
use Rattle.std.specs.Option.{option_map}
use Rattle.std.proofs.lemmas.Bool.Decides.{nat_tests}
use Rattle.std.proofs.lemmas.List.{length-map}
use Rattle.std.proofs.lemmas.List.Elements.{All-filter, All-map, filter_passes}
use Rattle.std.proofs.lemmas.List.Sums.{count_by-le-length, length-filter, sum_by-cons}
use Rattle.om_base.specs.Spans.{overlap_of, shares}
use Rattle.om_base.proofs.SpanLemmas.{overlap_from, overlap_cons, overlap_of-from}
use Rattle.om_elf.specs.Image.{AreApart, AreLoadable, FitsMemory, Image, SharesNone}
use Rattle.om_elf.specs.Segments.{image_of, images_of, is_load, is_misplaced, memory_of, span_of, spans_of}
use Rattle.om_elf.specs.declared.program_header.ProgramHeader.{ProgramHeader}
use Rattle.om_elf.proofs.ListLemmas.{All-of_map, fails_everywhere, none_before}
use Rattle.om_base.proofs.FirstLemmas.{neither}

-- ---- one segment

placed_fits : (file : List ℕ) (p : ProgramHeader) → is_misplaced file p ≡ false → is_load p ≡ true → FitsMemory (image_of file p)
placed_fits file p placed load = record {
  bytes = grind (arith, nat_tests, length-take);
  end = grind (arith, nat_tests);
  rights = omega arith;
}

-- ---- two segments

apart_by : (a b c d n : ℕ) → ltb (max a b) (min c d) ≡ false → a ≤ n → n < c → b ≤ n → n < d → ⊥
apart_by a b c d n none low high starts ends = absurd (grind (arith, nat_tests))

load_span : (p q : ProgramHeader) → is_load p ≡ true → is_load q ≡ true → shares (span_of p) (span_of q) ≡ false
    → ltb (max p.p_vaddr q.p_vaddr) (min (p.p_vaddr + p.p_memsz) (q.p_vaddr + q.p_memsz)) ≡ false
load_span p q loaded loads none = rw (loaded, loads) at none

unshared : (file : List ℕ) (p q : ProgramHeader) → is_load p ≡ true → is_load q ≡ true → shares (span_of p) (span_of q) ≡ false → SharesNone (image_of file p) (image_of file q)
unshared file p q loaded loads none address first second =
    apart_by p.p_vaddr q.p_vaddr (p.p_vaddr + p.p_memsz) (q.p_vaddr + q.p_memsz) address (load_span p q loaded loads none) first.0 first.1 second.0 second.1

-- ---- all segments

images_cons : (file : List ℕ) (load : Bool) (p : ProgramHeader) (kept : List ProgramHeader)
    → map (image_of file) (cond load (p ∷ kept) kept) ≡ cond load (image_of file p ∷ map (image_of file) kept) (map (image_of file) kept)
images_cons file true p kept = refl
images_cons file false p kept = refl

apart_cons : (load : Bool) (image : Image) (images : List Image) → (load ≡ true → All (SharesNone image) images) → AreApart images → AreApart (cond load (image ∷ images) images)
apart_cons true image images first others = (first refl, others)
apart_cons false image images first others = others

apart_from : (file : List ℕ) (n : ℕ) (programs : List ProgramHeader) → overlap_from n (spans_of programs) ≡ None → AreApart (images_of file programs)
apart_from file n [] none = tt
apart_from file n (p ∷ programs) none =
    let two = neither (option_map (λ k. (n, n + 1 + k)) (position (shares (span_of p)) (spans_of programs))) (overlap_from (n + 1) (spans_of programs)) (sym (overlap_cons n (span_of p) (spans_of programs)) ∙ none) in
    let alone : All (λ q. shares (span_of p) (span_of q) ≡ false) programs =
    All-of_map (λ s. shares (span_of p) s ≡ false) span_of programs (fails_everywhere (shares (span_of p)) (spans_of programs) (none_before _ _ two.0)) in
    let later : AreApart (images_of file programs) = apart_from file (n + 1) programs two.1 in
    rw (images_cons file (is_load p) p (filter is_load programs)) (apart_cons (is_load p) (image_of file p) (images_of file programs)
    (λ load. All-map (SharesNone (image_of file p)) (image_of file) (filter is_load programs)
    (λ k d inside. unshared file p (get_or (filter is_load programs) k d) load (filter_passes is_load programs k d inside) (All-filter is_load (λ q. shares (span_of p) (span_of q) ≡ false) programs alone k d inside)))
    later)

same_memory : (file : List ℕ) (programs : List ProgramHeader) → sum_by (λ (image : Image). image.memsz) (map (image_of file) programs) ≡ sum_by (λ (p : ProgramHeader). p.p_memsz) programs
same_memory file [] = refl
same_memory file (p ∷ programs) =
    sum_by-cons (λ (image : Image). image.memsz) (image_of file p) (map (image_of file) programs)
    ∙ ap (λ n. p.p_memsz + n) (same_memory file programs)
    ∙ sym (sum_by-cons (λ (p : ProgramHeader). p.p_memsz) p programs)

few_images : (file : List ℕ) (programs : List ProgramHeader) → length (images_of file programs) ≤ length programs
few_images file programs =
    let kept = length-filter is_load programs in
    let fewer = count_by-le-length is_load programs in
    simp length-map (omega arith)

pub images_loadable : (file : List ℕ) (programs : List ProgramHeader) → All (λ p. is_misplaced file p ≡ false) programs → overlap_of (spans_of programs) ≡ None → memory_of programs ≤ 33554432 → length programs < 65536
    → AreLoadable (images_of file programs)
images_loadable file programs placed none total few = record {
  fit = All-map FitsMemory (image_of file) (filter is_load programs) (λ k d inside. placed_fits file _ (All-filter is_load (λ p. is_misplaced file p ≡ false) programs placed k d inside) (filter_passes is_load programs k d inside));
  apart = apart_from file 0 programs (sym (overlap_of-from (spans_of programs)) ∙ none);
  small = rw (same_memory file (filter is_load programs)) total;
  few = let fewer = few_images file programs in omega arith;
}
