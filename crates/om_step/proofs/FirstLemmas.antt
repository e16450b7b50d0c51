-- That the memory of a run, made by filling regions of zeros, is the one that the run begins with.
use Rattle.std.proofs.Common.{◌≡◌, ℕ, zero, suc, ◌+◌, ◌-◌, ◌^◌, ◌<◌, ◌≤◌, List, [], ◌∷◌, ◌++◌, length, drop, map, filter, sum_by, replicate, get_or, All, true, false, None, nat_lt, refl, sym, ap, subst, ◌∙◌, arith, append_assoc, append-nil, length-append, if◌then◌else◌}
use Rattle.std.proofs.lemmas.List.{length-map, map-append, length-replicate}
use Rattle.std.proofs.lemmas.List.Sums.{sum_by-cons, sum_by-append}
use Rattle.std.proofs.lemmas.List.Elements.{All-nil, All-cons, All-head, All-tail}
use Rattle.om_elf.specs.Image.{Image, FitsMemory, AreLoadable}
use Rattle.om_log.specs.Regions.{HasRoom}
use Rattle.om_log.specs.declared.start.Start.{Start}
use Rattle.om_mem.proofs.FilledLemmas.{filled-more, filled_none}
use Rattle.om_mem.specs.Contents.{Contents, Filled, after_write, all_zeros, contents_of, overlap_of, padded, region_in, zeros}
use Rattle.om_mem.specs.Pages.{Held, cleared, page_count}
use Rattle.om_mem.specs.Laws.{AreFit, part_filled}
use Rattle.om_mem.specs.declared.region.Region.{Region}
use Rattle.om_step.specs.First.{filled_of, heap_of, regions_of, segment_of, stack_of}

-- ---- the regions of a run

-- each region has as many bytes as its size, and ends in the address space
abbrev pub AreSound : List Filled → Type 0
AreSound [] = Unit {0}
AreSound (f ∷ fs) = (length f.bytes ≡ f.region.size) × (f.region.low + f.region.size ≤ 2 ^ 32) × AreSound fs

-- the regions end in the address space
ends-filled : (fs : List Filled) → AreSound fs → All (λ (r : Region). r.low + r.size ≤ 2 ^ 32) (map (λ (f : Filled). f.region) fs)
ends-filled [] sound = All-nil _
ends-filled (f ∷ fs) sound =
    All-cons (λ (r : Region). r.low + r.size ≤ 2 ^ 32) f.region (map (λ (g : Filled). g.region) fs) sound.1 (ends-filled fs sound.2)

sound-append : (xs ys : List Filled) → AreSound xs → AreSound ys → AreSound (xs ++ ys)
sound-append [] ys a b = b
sound-append (x ∷ xs) ys a b = (a.0, a.1, sound-append xs ys a.2 b)

-- a segment that fits fills its region
sound_segment : (image : Image) → FitsMemory image → length (image.bytes ++ replicate (image.memsz - length image.bytes) 0) ≡ image.memsz
sound_segment image fits =
    let bytes = fits.bytes in
    rw (length-append image.bytes (replicate (image.memsz - length image.bytes) 0), length-replicate {A = ℕ} (image.memsz - length image.bytes) 0) (omega arith)

-- the segments that aren't empty
abbrev pub segments_of : List Image → List Filled
segments_of images = map segment_of (filter (λ (i : Image). nat_lt 0 i.memsz) images)

sound-segments : (images : List Image) → All FitsMemory images → AreSound (segments_of images)
sound-segments [] fit = tt
sound-segments (i ∷ is) fit =
    let fits = All-head FitsMemory i is fit in
    let rest = sound-segments is (All-tail FitsMemory i is fit) in
    elim (nat_lt 0 i.memsz) as (λ b. AreSound (map segment_of (if b then i ∷ filter (λ (j : Image). nat_lt 0 j.memsz) is else filter (λ (j : Image). nat_lt 0 j.memsz) is))) [
      | true ↦ (sound_segment i fits, fits.end, rest)
      | false ↦ rest
    ]

-- the segments that aren't empty take no more than all of them
size-segments : (images : List Image) → sum_by (λ (r : Region). r.size) (map (λ (f : Filled). f.region) (segments_of images)) ≤ sum_by (λ (i : Image). i.memsz) images
size-segments [] = omega arith
size-segments (i ∷ is) =
    let rest = size-segments is in
    let total = sum_by-cons (λ (j : Image). j.memsz) i is in
    elim (nat_lt 0 i.memsz) as (λ b. sum_by (λ (r : Region). r.size) (map (λ (f : Filled). f.region) (map segment_of (if b then i ∷ filter (λ (j : Image). nat_lt 0 j.memsz) is else filter (λ (j : Image). nat_lt 0 j.memsz) is))) ≤ sum_by (λ (j : Image). j.memsz) (i ∷ is)) [
      | true ↦ rw (sum_by-cons (λ (r : Region). r.size) (segment_of i).region (map (λ (f : Filled). f.region) (segments_of is))) (omega arith)
      | false ↦ omega arith
    ]

-- stack and heap fill their regions
sound-start : (start : Start) → HasRoom start → AreSound (stack_of start ∷ heap_of start ∷ [])
sound-start start room =
    (length-replicate start.stack_size 0, room.stack_end, (length-replicate start.heap_size 0, room.heap_end, tt))

sound-all : (images : List Image) (start : Start) → AreLoadable images → HasRoom start → AreSound (filled_of images start)
unfolding filled_of
sound-all images start loadable room =
    sound-append (segments_of images) (stack_of start ∷ heap_of start ∷ []) (sound-segments images loadable.fit) (sound-start start room)

-- the regions of a run take at most 64 MiB
pub size-all : (images : List Image) (start : Start) → AreLoadable images → HasRoom start → sum_by (λ (r : Region). r.size) (map (λ (f : Filled). f.region) (filled_of images start)) ≤ 67108864
unfolding filled_of
size-all images start loadable room =
    let front = size-segments images in
    let least = room.most in
    let most = loadable.small in
    rw (map-append (λ (f : Filled). f.region) (segments_of images) (stack_of start ∷ heap_of start ∷ []), sum_by-append (λ (r : Region). r.size) (map (λ (f : Filled). f.region) (segments_of images)) (map (λ (f : Filled). f.region) (stack_of start ∷ heap_of start ∷ []))) (omega arith)

-- a filter keeps at most what there is
length-filter : (images : List Image) → length (filter (λ (i : Image). nat_lt 0 i.memsz) images) ≤ length images
length-filter [] = omega arith
length-filter (i ∷ is) =
    let rest = length-filter is in
    elim (nat_lt 0 i.memsz) as (λ b. length (if b then i ∷ filter (λ (j : Image). nat_lt 0 j.memsz) is else filter (λ (j : Image). nat_lt 0 j.memsz) is) ≤ length (i ∷ is)) [
      | true ↦ omega arith
      | false ↦ omega arith
    ]

-- the places of a run's regions are 32-bit numbers
pub few_regions : (images : List Image) (start : Start) → AreLoadable images → length (regions_of images start) < 2 ^ 32
unfolding filled_of
few_regions images start loadable =
    let kept = length-filter images in
    let few = loadable.few in
    simp (length-map, length-append) (omega arith)

-- the regions of a run end in the address space
pub ends_regions : (images : List Image) (start : Start) → AreLoadable images → HasRoom start → All (λ (r : Region). r.low + r.size ≤ 2 ^ 32) (regions_of images start)
ends_regions images start loadable room = ends-filled (filled_of images start) (sound-all images start loadable room)

-- ---- filling them

-- a segment's region with the bytes that the file gives
abbrev pub part : Image → Filled
part image = record { region = (segment_of image).region; bytes = image.bytes }

-- the segments that aren't empty
abbrev pub parts : List Image → List Filled
parts images = map part (filter (λ (i : Image). nat_lt 0 i.memsz) images)

-- stack and heap, which no file fills
abbrev pub tail : Start → List Filled
tail start = record { region = (stack_of start).region; bytes = [] } ∷ record { region = (heap_of start).region; bytes = [] } ∷ []

-- what was filled so far, and with which regions it goes on
pub record Filling (segments : List Image) (start : Start) (rest : List Image) (memory : Contents) (at : ℕ) : Type 0 where
  pub done : List Filled
  pub all : done ++ parts rest ≡ parts segments
  pub is : memory ≡ part_filled done (parts rest ++ tail start)
  pub place : at ≡ length done

same_regions : (kept : List Image) → map (λ (f : Filled). f.region) (map part kept) ≡ map (λ (f : Filled). f.region) (map segment_of kept)
same_regions [] = refl
same_regions (i ∷ is) = ap (λ rs. (segment_of i).region ∷ rs) (same_regions is)

-- the regions that are filled are those of the run
regions_same : (images : List Image) (start : Start) → map (λ (f : Filled). f.region) (parts images ++ tail start) ≡ regions_of images start
unfolding filled_of
regions_same images start =
    map-append (λ (f : Filled). f.region) (parts images) (tail start)
    ∙ ap (λ rs. rs ++ (stack_of start).region ∷ (heap_of start).region ∷ []) (same_regions (filter (λ (i : Image). nat_lt 0 i.memsz) images))
    ∙ sym (map-append (λ (f : Filled). f.region) (map segment_of (filter (λ (i : Image). nat_lt 0 i.memsz) images)) (stack_of start ∷ heap_of start ∷ []))

fit-parts : (images : List Image) (more : List Filled) → All FitsMemory images → AreFit more → AreFit (parts images ++ more)
fit-parts [] more fit rest = rest
fit-parts (i ∷ is) more fit rest =
    let fits = All-head FitsMemory i is fit in
    let others = fit-parts is more (All-tail FitsMemory i is fit) rest in
    elim (nat_lt 0 i.memsz) as (λ b. AreFit (map part (if b then i ∷ filter (λ (j : Image). nat_lt 0 j.memsz) is else filter (λ (j : Image). nat_lt 0 j.memsz) is) ++ more)) [
      | true ↦ (fits.bytes, fits.end, others)
      | false ↦ others
    ]

fit-all : (images : List Image) (start : Start) → AreLoadable images → HasRoom start → AreFit (parts images ++ tail start)
fit-all images start loadable room =
    fit-parts images (tail start) loadable.fit (omega arith, room.stack_end, (omega arith, room.heap_end, tt))

-- before the first segment
pub fill_start : (segments : List Image) (start : Start) (memory : Contents) → memory ≡ all_zeros (regions_of segments start) → Filling segments start segments memory 0
fill_start segments start memory zeroed = record {
  done = [];
  all = refl;
  is = zeroed ∙ ap all_zeros (sym (regions_same segments start)) ∙ filled_none (parts segments ++ tail start);
  place = refl;
}

-- a segment that isn't empty is one of the parts
part_kept : (s : Image) (more : List Image) → nat_lt 0 s.memsz ≡ true → parts (s ∷ more) ≡ part s ∷ parts more
part_kept s more kept = rw kept refl

part_skipped : (s : Image) (more : List Image) → nat_lt 0 s.memsz ≡ false → parts (s ∷ more) ≡ parts more
part_skipped s more skipped = rw skipped refl

-- a segment that isn't empty fills its region
pub fill_more : (segments : List Image) (start : Start) (s : Image) (more : List Image) (memory : Contents) (at : ℕ)
    → nat_lt 0 s.memsz ≡ true → overlap_of (regions_of segments start) ≡ None → AreLoadable segments → HasRoom start
    → Filling segments start (s ∷ more) memory at → Filling segments start more (after_write memory s.vaddr s.bytes) (at + 1)
fill_more segments start s more memory at kept apart loadable room f =
    let some : parts (s ∷ more) ≡ part s ∷ parts more = part_kept s more kept in
    let all : f.done ++ (part s ∷ parts more) ≡ parts segments = ap (λ xs. f.done ++ xs) (sym some) ∙ f.all in
    let whole : f.done ++ part s ∷ (parts more ++ tail start) ≡ parts segments ++ tail start = sym (append_assoc f.done (part s ∷ parts more) (tail start)) ∙ ap (λ xs. xs ++ tail start) all in
    let free : overlap_of (map (λ (x : Filled). x.region) (f.done ++ part s ∷ (parts more ++ tail start))) ≡ None =
    ap (λ (fs : List Filled). overlap_of (map (λ (x : Filled). x.region) fs)) whole ∙ ap overlap_of (regions_same segments start) ∙ apart in
    let fit : AreFit (f.done ++ part s ∷ (parts more ++ tail start)) = subst AreFit (sym whole) (fit-all segments start loadable room) in
    record {
      done = f.done ++ part s ∷ [];
      all = append_assoc f.done (part s ∷ []) (parts more) ∙ all;
      is = ap (λ (m : Contents). after_write m s.vaddr s.bytes) (f.is ∙ ap (λ (ps : List Filled). part_filled f.done (ps ++ tail start)) some) ∙ filled-more f.done (part s) (parts more ++ tail start) free fit;
      place = rw (length-append f.done (part s ∷ []), ← f.place) refl;
    }

-- an empty segment fills none
pub fill_skip : (segments : List Image) (start : Start) (s : Image) (more : List Image) (memory : Contents) (at : ℕ)
    → nat_lt 0 s.memsz ≡ false → Filling segments start (s ∷ more) memory at → Filling segments start more memory at
fill_skip segments start s more memory at skipped f =
    let none : parts (s ∷ more) ≡ parts more = part_skipped s more skipped in
    record {
      done = f.done;
      all = ap (λ xs. f.done ++ xs) (sym none) ∙ f.all;
      is = f.is ∙ ap (λ (ps : List Filled). part_filled f.done (ps ++ tail start)) none;
      place = f.place;
    }

padded_parts : (kept : List Image) → map padded (map part kept) ≡ map segment_of kept
padded_parts [] = refl
padded_parts (i ∷ is) = ap (λ fs. segment_of i ∷ fs) (padded_parts is)

-- behind the last segment
pub fill_end : (segments : List Image) (start : Start) (memory : Contents) (at : ℕ) → Filling segments start [] memory at → memory ≡ contents_of (filled_of segments start)
unfolding filled_of
fill_end segments start memory at f =
    let whole : f.done ≡ parts segments = sym (append-nil f.done) ∙ f.all in
    f.is ∙ ap (λ (fs : List Filled). contents_of (map padded fs ++ stack_of start ∷ heap_of start ∷ [])) whole
    ∙ ap (λ (fs : List Filled). contents_of (fs ++ stack_of start ∷ heap_of start ∷ [])) (padded_parts (filter (λ (i : Image). nat_lt 0 i.memsz) segments))

-- ---- a segment's place

at_end : (xs : List Region) (y : Region) (ys : List Region) (d : Region) → get_or (xs ++ y ∷ ys) (length xs) d ≡ y
at_end [] y ys d = refl
at_end (x ∷ xs) y ys d = at_end xs y ys d

regions-padded : (fs : List Filled) → map (λ (f : Filled). f.region) (map padded fs) ≡ map (λ (f : Filled). f.region) fs
regions-padded [] = refl
regions-padded (f ∷ fs) = ap (λ rs. f.region ∷ rs) (regions-padded fs)

regions-emptied : (fs : List Filled) → map (λ (f : Filled). f.region) (map (λ (f : Filled). zeros f.region) fs) ≡ map (λ (f : Filled). f.region) fs
regions-emptied [] = refl
regions-emptied (f ∷ fs) = ap (λ rs. f.region ∷ rs) (regions-emptied fs)

part_regions : (done rest : List Filled) → (part_filled done rest).regions ≡ map (λ (f : Filled). f.region) done ++ map (λ (f : Filled). f.region) rest
unfolding contents_of
part_regions done rest =
    map-append (λ (f : Filled). f.region) (map padded done) (map (λ (f : Filled). zeros f.region) rest)
    ∙ ap (λ rs. rs ++ map (λ (f : Filled). f.region) (map (λ (f : Filled). zeros f.region) rest)) (regions-padded done)
    ∙ ap (λ rs. map (λ (f : Filled). f.region) done ++ rs) (regions-emptied rest)

-- the region at the place that comes next is the segment's
pub fill_region : (segments : List Image) (start : Start) (s : Image) (more : List Image) (memory : Contents) (at : ℕ)
    → nat_lt 0 s.memsz ≡ true → Filling segments start (s ∷ more) memory at → region_in memory.regions at ≡ (segment_of s).region
fill_region segments start s more memory at kept f =
    let some : memory ≡ part_filled f.done (part s ∷ (parts more ++ tail start)) = f.is ∙ ap (λ (ps : List Filled). part_filled f.done (ps ++ tail start)) (part_kept s more kept) in
    let regions : memory.regions ≡ map (λ (x : Filled). x.region) f.done ++ (segment_of s).region ∷ map (λ (x : Filled). x.region) (parts more ++ tail start) =
    ap (λ (m : Contents). m.regions) some ∙ part_regions f.done (part s ∷ (parts more ++ tail start)) in
    let place : at ≡ length (map (λ (x : Filled). x.region) f.done) = f.place ∙ sym (length-map f.done (λ (x : Filled). x.region)) in
    ap (λ rs. region_in rs at) regions
    ∙ ap (λ n. region_in (map (λ (x : Filled). x.region) f.done ++ (segment_of s).region ∷ map (λ (x : Filled). x.region) (parts more ++ tail start)) n) place
    ∙ at_end (map (λ (x : Filled). x.region) f.done) (segment_of s).region (map (λ (x : Filled). x.region) (parts more ++ tail start)) (record { low = 0; size = 0; rights = 0 })

pub fill_within : (segments : List Image) (start : Start) (s : Image) (more : List Image) (memory : Contents) (at : ℕ)
    → nat_lt 0 s.memsz ≡ true → Filling segments start (s ∷ more) memory at → at < length memory.regions
fill_within segments start s more memory at kept f =
    let some : memory ≡ part_filled f.done (part s ∷ (parts more ++ tail start)) = f.is ∙ ap (λ (ps : List Filled). part_filled f.done (ps ++ tail start)) (part_kept s more kept) in
    let regions : length memory.regions ≡ length (map (λ (x : Filled). x.region) f.done ++ (segment_of s).region ∷ map (λ (x : Filled). x.region) (parts more ++ tail start)) =
    ap (λ (m : Contents). length m.regions) some ∙ ap length (part_regions f.done (part s ∷ (parts more ++ tail start))) in
    let both = length-append (map (λ (x : Filled). x.region) f.done) ((segment_of s).region ∷ map (λ (x : Filled). x.region) (parts more ++ tail start)) in
    let mapped = length-map f.done (λ (x : Filled). x.region) in
    let place = f.place in
    omega arith

-- there are few places
pub fill_few : (segments : List Image) (start : Start) (rest : List Image) (memory : Contents) (at : ℕ) → AreLoadable segments → Filling segments start rest memory at → at < 65536
fill_few segments start rest memory at loadable f =
    let counted = ap length f.all in
    let both = length-append f.done (parts rest) in
    let mapped = length-map (filter (λ (i : Image). nat_lt 0 i.memsz) segments) part in
    let kept = length-filter segments in
    let few = loadable.few in
    let place = f.place in
    omega arith

-- ---- a segment by its place in the list

at_place : (xs : List Image) (k : ℕ) (t : Image) → k < length xs → t ≡ get_or xs k t → drop k xs ≡ t ∷ drop (k + 1) xs
at_place [] k t h e = absurd (omega arith)
at_place (x ∷ xs) zero t h e = let same : t ≡ x = e in rw same refl
at_place (x ∷ xs) (suc k) t h e = let one : suc k + 1 ≡ suc (k + 1) = omega arith in rw one (at_place xs k t (omega arith) e)

-- the next segment is the one at that place of the list
pub here : (segments : List Image) (start : Start) (memory : Contents) (at k : ℕ) (s t : Image)
    → k < length segments → s ≡ t → t ≡ get_or segments k t
    → Filling segments start (drop k segments) memory at → Filling segments start (s ∷ drop (k + 1) segments) memory at
here segments start memory at k s t below same is f =
    subst (λ (x : Image). Filling segments start (x ∷ drop (k + 1) segments) memory at) (sym same)
    (subst (λ (rest : List Image). Filling segments start rest memory at) (at_place segments k t below is) f)

-- behind the last one there is none
drop_all : (xs : List Image) (k : ℕ) → length xs ≤ k → drop k xs ≡ []
drop_all [] zero h = refl
drop_all [] (suc k) h = refl
drop_all (x ∷ xs) zero h = absurd (omega arith)
drop_all (x ∷ xs) (suc k) h = drop_all xs k (omega arith)

pub fill_over : (segments : List Image) (start : Start) (memory : Contents) (at k : ℕ) → length segments ≤ k
    → Filling segments start (drop k segments) memory at → memory ≡ contents_of (filled_of segments start)
fill_over segments start memory at k over f =
    fill_end segments start memory at (subst (λ (rest : List Image). Filling segments start rest memory at) (drop_all segments k over) f)

-- it fits
pub fits_here : (segments : List Image) (k : ℕ) (s t : Image) → All FitsMemory segments → k < length segments → s ≡ t → t ≡ get_or segments k t → FitsMemory s
fits_here [] k s t all below same is = absurd (omega arith)
fits_here (x ∷ xs) zero s t all below same is = subst FitsMemory (sym (same ∙ is)) (All-head FitsMemory x xs all)
fits_here (x ∷ xs) (suc k) s t all below same is = fits_here xs k s t (All-tail FitsMemory x xs all) (omega arith) same is

-- filled and with no page that counts as written
pub first_cleared : (images : List Image) (start : Start) (filled now : Held) → filled.contents ≡ contents_of (filled_of images start) → now ≡ cleared filled
    → now ≡ record { contents = contents_of (filled_of images start); dirty = replicate (page_count (regions_of images start)) false }
unfolding contents_of
first_cleared images start filled now same is =
    is ∙ ap (λ (c : Contents). record { contents = c; dirty = replicate (page_count c.regions) false }) same

pub ruleset first_memory = (few_regions, ends_regions, size-all)
