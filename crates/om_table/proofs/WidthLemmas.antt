-- Widths of columns, line by line.
use Rattle.std.proofs.Common.{◌≡◌, ℕ, ◌+◌, ◌<◌, ◌≤◌, max, min, List, [], ◌∷◌, ◌++◌, length, take, drop, get_or, set, replicate, sym, ap, ◌∙◌, arith}
use Rattle.std.specs.List.{zip}
use Rattle.std.proofs.lemmas.List.{length-map, length-set, length-replicate, take_all, take_more, take_more_set, drop-set-lt, drop-drop, get_or-map, get_or-drop, get_or-replicate, same_lists, drop_all, append-nil}
use Rattle.std.proofs.lemmas.List.FromFn.{length-map-range_with_len, get_or-map-range_with_len}
use Rattle.std.proofs.lemmas.List.Sums.{fold-append}
use Rattle.std.proofs.lemmas.Slice.Zip.{length-zip, get_or-zip}
use Rattle.om_table.specs.Text.{width_of, widths_of}
use Rattle.om_table.specs.Wider.{wider}

-- ---- a line more

length-wider : (widths : List ℕ) (cells : List (List ℕ)) → length widths ≡ length cells → length (wider widths cells) ≡ length widths
unfolding wider
length-wider widths cells same =
    let mapped = length-map (zip widths cells) (λ (pair : ℕ × List ℕ). max pair.0 (length pair.1)) in
    let zipped : length (zip widths cells) ≡ min (length widths) (length cells) = length-zip widths cells in
    omega (arith, mapped, zipped)

get_or-wider : (widths : List ℕ) (cells : List (List ℕ)) (i d : ℕ) → length widths ≡ length cells → i < length widths
    → get_or (wider widths cells) i d ≡ max (get_or widths i 0) (length (get_or cells i []))
unfolding wider
get_or-wider widths cells i d same h =
    let long : length (zip widths cells) ≡ min (length widths) (length cells) = length-zip widths cells in
    let below : i < length (zip widths cells) = omega arith in
    let below_cells : i < length cells = omega arith in
    let f : ℕ × List ℕ → ℕ = λ (pair : ℕ × List ℕ). max pair.0 (length pair.1) in
    get_or-map f (zip widths cells) i (0, []) d below ∙ ap f (get_or-zip widths cells i (0, []) h below_cells)

-- ---- the columns of a line, one after another

-- so many of the widths are raised, and the others as they were
pub record IsWidened (old : List ℕ) (cells : List (List ℕ)) (count : ℕ) (now : List ℕ) : Type 0 where
  pub long : length now ≡ length old
  pub front : take count now ≡ take count (wider old cells)
  pub back : drop count now ≡ drop count old

pub widened_more : (old : List ℕ) (cells : List (List ℕ)) (i raised : ℕ) (cell : List ℕ) (now : List ℕ)
    → length old ≡ length cells → i < length cells
    → raised ≡ max (get_or now i 0) (length cell) → cell ≡ get_or cells i []
    → IsWidened old cells i now
    → IsWidened old cells (i + 1) (set now i raised)
widened_more old cells i raised cell now same h r c so_far =
    let long = so_far.long in
    let all = length-wider old cells same in
    let below_now : i < length now = omega arith in
    let below_wider : i < length (wider old cells) = omega arith in
    let below_old : i < length old = omega arith in
    let none : i + 0 ≡ i = omega arith in
    let stays : get_or now i 0 ≡ get_or old i 0 =
    sym (rw none at (get_or-drop i now 0 0)) ∙ ap (λ (l : List ℕ). get_or l 0 0) so_far.back ∙ rw none at (get_or-drop i old 0 0) in
    let here : get_or (wider old cells) i 0 ≡ raised =
    get_or-wider old cells i 0 same below_old
    ∙ ap (λ (n : ℕ). max n (length (get_or cells i []))) (sym stays)
    ∙ ap (λ (l : List ℕ). max (get_or now i 0) (length l)) (sym c) ∙ sym r in
    record {
      long = length-set now i raised ∙ long;
      front = take_more_set now i raised below_now
          ∙ ap (λ (l : List ℕ). l ++ raised ∷ []) so_far.front
          ∙ ap (λ (n : ℕ). take i (wider old cells) ++ n ∷ []) (sym here)
          ∙ sym (take_more (wider old cells) i 0 below_wider);
      back = drop-set-lt (i + 1) now i raised (omega arith)
          ∙ sym (drop-drop 1 i now) ∙ ap (drop 1) so_far.back ∙ drop-drop 1 i old;
    }

pub widened_all : (old : List ℕ) (cells : List (List ℕ)) (count : ℕ) (now : List ℕ)
    → length old ≡ length cells → length cells ≤ count → IsWidened old cells count now → now ≡ wider old cells
widened_all old cells count now same whole so_far =
    let long = so_far.long in
    let all = length-wider old cells same in
    sym (take_all count now (omega arith)) ∙ so_far.front ∙ take_all count (wider old cells) (omega arith)

-- ---- the lines of a table, one after another

pub length-widths : (columns : ℕ) (lines : List (List (List ℕ))) → length (widths_of columns lines) ≡ columns
unfolding widths_of
length-widths columns lines = length-map-range_with_len (width_of lines) 0 columns

get_or-widths : (columns : ℕ) (lines : List (List (List ℕ))) (i d : ℕ) → i < columns → get_or (widths_of columns lines) i d ≡ width_of lines i
unfolding widths_of
get_or-widths columns lines i d h = get_or-map-range_with_len (width_of lines) 0 columns i i d h (omega arith)

-- no line has any width
pub widths_none : (columns : ℕ) → replicate columns 0 ≡ widths_of columns []
widths_none columns =
    let zeros : List ℕ = replicate columns 0 in
    let left : length zeros ≡ columns = length-replicate columns 0 in
    let right : length (widths_of columns []) ≡ columns = length-widths columns [] in
    same_lists zeros (widths_of columns []) (left ∙ sym right)
    (λ (k d : ℕ) (h : k < length zeros). let below : k < columns = rw left at h in
    get_or-replicate columns k 0 d below ∙ sym (get_or-widths columns [] k d below))

-- a line more
pub widths_more : (columns : ℕ) (lines : List (List (List ℕ))) (cells : List (List ℕ)) → columns ≡ length cells
    → wider (widths_of columns lines) cells ≡ widths_of columns (lines ++ cells ∷ [])
widths_more columns lines cells same =
    let before : length (widths_of columns lines) ≡ columns = length-widths columns lines in
    let after : length (widths_of columns (lines ++ cells ∷ [])) ≡ columns = length-widths columns (lines ++ cells ∷ []) in
    let fits : length (widths_of columns lines) ≡ length cells = before ∙ same in
    let left : length (wider (widths_of columns lines) cells) ≡ length (widths_of columns lines) = length-wider (widths_of columns lines) cells fits in
    same_lists (wider (widths_of columns lines) cells) (widths_of columns (lines ++ cells ∷ [])) (left ∙ before ∙ sym after)
    (λ k d h. let below : k < columns = omega arith in
    let below_widths : k < length (widths_of columns lines) = omega arith in
    get_or-wider (widths_of columns lines) cells k d fits below_widths
    ∙ ap (λ (n : ℕ). max n (length (get_or cells k []))) (get_or-widths columns lines k 0 below)
    ∙ sym (fold-append (λ (width : ℕ) (line : List (List ℕ)). max width (length (get_or line k []))) 0 lines (cells ∷ []))
    ∙ sym (get_or-widths columns (lines ++ cells ∷ []) k d below))

-- a line more, written over the whole of the widths before
pub next_line : (columns len : ℕ) (old new : List ℕ) (lines : List (List (List ℕ))) (cells : List (List ℕ))
    → columns ≡ length cells → old ≡ widths_of columns lines → length old ≡ len → new ≡ wider old cells
    → take len (new ++ drop (length new) old) ≡ widths_of columns (lines ++ cells ∷ [])
next_line columns len old new lines cells same is long wide =
    let before : length (widths_of columns lines) ≡ columns = length-widths columns lines in
    let fits : length old ≡ length cells = ap length is ∙ before ∙ same in
    let whole : length new ≡ length old = ap length wide ∙ length-wider old cells fits in
    let over : drop (length new) old ≡ [] = drop_all (length new) old (omega arith) in
    let all : take len new ≡ new = take_all len new (omega arith) in
    ap (λ (rest : List ℕ). take len (new ++ rest)) over ∙ ap (take len) (append-nil new) ∙ all
    ∙ wide ∙ ap (λ (widths : List ℕ). wider widths cells) is ∙ widths_more columns lines cells same

-- the first line
pub first_line : (columns len : ℕ) (old new : List ℕ) (cells : List (List ℕ))
    → columns ≡ length cells → old ≡ replicate columns 0 → length old ≡ len → new ≡ wider old cells
    → take len (new ++ drop (length new) old) ≡ widths_of columns (cells ∷ [])
first_line columns len old new cells same is long wide =
    next_line columns len old new [] cells same (is ∙ widths_none columns) long wide
