-- A line, cell by cell.
use Rattle.std.proofs.Common.{◌≡◌, ℕ, zero, suc, ◌+◌, ◌<◌, ◌≤◌, List, [], ◌∷◌, ◌++◌, length, take, get_or, codes, min, sym, ap, ◌∙◌, append_assoc, arith}
use Rattle.std.specs.List.{join_by, zip}
use Rattle.std.proofs.lemmas.List.{append-nil, get_or_default, take_all}
use Rattle.std.proofs.lemmas.Grind.{flat_map-append}
use Rattle.std.proofs.lemmas.Bool.Decides.{nat_tests}
use Rattle.std.proofs.lemmas.Slice.Zip.{length-zip, get_or-zip}
use Rattle.std.proofs.Math.Seq.{take-suc}
use Rattle.std.proofs.Math.Numerals.{add-one}
use Rattle.om_table.specs.Gap.{gap}
use Rattle.om_table.specs.Text.{csv_line, line, padded}

gap-suc : (between : List ℕ) (i : ℕ) → gap between (suc i) ≡ between
gap-suc between i = grind (arith, nat_tests)

-- one element more of those that are joined
join_more : {X : Type 0} (f : X → List ℕ) (between : List ℕ) (xs : List X) (i : ℕ) (d : X) → i < length xs
    → join_by f between (take (suc i) xs) ≡ (join_by f between (take i xs) ++ gap between i) ++ f (get_or xs i d)
join_more f between (x ∷ xs) zero d h = append-nil (f x)
join_more f between (x ∷ xs) (suc i) d h =
    let h' : i < length xs = omega arith in
    rw (take-suc xs i d h') (rw (gap-suc between i) (simp (flat_map-append, append_assoc, append-nil)))
join_more f between [] i d h = absurd (omega arith)

-- one element more, behind what stood before
joined_more : {X : Type 0} (f : X → List ℕ) (between : List ℕ) (xs : List X) (i : ℕ) (x : X) (old text new : List ℕ)
    → i < length xs → x ≡ get_or xs i x
    → text ≡ old ++ join_by f between (take i xs)
    → new ≡ text ++ gap between i ++ f x
    → new ≡ old ++ join_by f between (take (i + 1) xs)
joined_more {X} f between xs i x old text new h at so_far is =
    let joined : List ℕ = join_by f between (take i xs) in
    let more : join_by f between (take (suc i) xs) ≡ (joined ++ gap between i) ++ f x =
    join_more f between xs i x h ∙ ap (λ (y : X). (joined ++ gap between i) ++ f y) (sym at) in
    let step : join_by f between (take (i + 1) xs) ≡ (joined ++ gap between i) ++ f x = rw add-one more in
    is ∙ ap (λ (t : List ℕ). t ++ gap between i ++ f x) so_far
    ∙ ap (λ (t : List ℕ). t ++ f x) (append_assoc old joined (gap between i))
    ∙ append_assoc old (joined ++ gap between i) (f x)
    ∙ ap (λ (t : List ℕ). old ++ t) (sym step)

-- one field more of a line
pub field_more : (fields : List (List ℕ)) (i : ℕ) (field old text new : List ℕ)
    → i < length fields → field ≡ get_or fields i field
    → text ≡ old ++ join_by (λ f. f) (codes ",") (take i fields)
    → new ≡ text ++ gap (codes ",") i ++ field
    → new ≡ old ++ join_by (λ f. f) (codes ",") (take (i + 1) fields)
field_more fields i field old text new h at so_far is = joined_more (λ f. f) (codes ",") fields i field old text new h at so_far is

-- all fields of a line, and its end
pub csv_line_end : (fields : List (List ℕ)) (count : ℕ) (old text : List ℕ)
    → length fields ≤ count
    → text ≡ old ++ join_by (λ f. f) (codes ",") (take count fields)
    → old ++ csv_line fields ≡ text ++ 10 ∷ []
unfolding csv_line
csv_line_end fields count old text whole so_far =
    let is : text ≡ old ++ join_by (λ f. f) (codes ",") fields = rw (take_all count fields whole) at so_far in
    sym (append_assoc old (join_by (λ f. f) (codes ",") fields) (10 ∷ []))
    ∙ ap (λ (t : List ℕ). t ++ 10 ∷ []) (sym is)

-- one cell more of a line
pub cell_more : (widths : List ℕ) (cells : List (List ℕ)) (i : ℕ) (cell old text new : List ℕ)
    → length widths ≡ length cells → i < length cells → cell ≡ get_or cells i []
    → text ≡ old ++ join_by padded (codes "  ") (take i (zip widths cells))
    → new ≡ text ++ gap (codes "  ") i ++ padded (get_or widths i 0, cell)
    → new ≡ old ++ join_by padded (codes "  ") (take (i + 1) (zip widths cells))
cell_more widths cells i cell old text new same h c so_far is =
    let long : length (zip widths cells) ≡ min (length widths) (length cells) = length-zip widths cells in
    let below : i < length (zip widths cells) = omega arith in
    let below_widths : i < length widths = omega arith in
    let at : (get_or widths i 0, cell) ≡ get_or (zip widths cells) i (get_or widths i 0, cell) =
    ap (λ (x : List ℕ). (get_or widths i 0, x)) c
    ∙ sym (get_or-zip widths cells i (0, []) below_widths h)
    ∙ get_or_default (zip widths cells) i (0, []) (get_or widths i 0, cell) below in
    joined_more padded (codes "  ") (zip widths cells) i (get_or widths i 0, cell) old text new below at so_far is

-- all cells of a line, and its end
pub line_end : (widths : List ℕ) (cells : List (List ℕ)) (count : ℕ) (old text : List ℕ)
    → length widths ≡ length cells → length cells ≤ count
    → text ≡ old ++ join_by padded (codes "  ") (take count (zip widths cells))
    → old ++ line widths cells ≡ text ++ 10 ∷ []
unfolding line
line_end widths cells count old text same whole so_far =
    let long : length (zip widths cells) ≡ min (length widths) (length cells) = length-zip widths cells in
    let all : take count (zip widths cells) ≡ zip widths cells = take_all count (zip widths cells) (omega arith) in
    let is : text ≡ old ++ join_by padded (codes "  ") (zip widths cells) = rw all at so_far in
    sym (append_assoc old (join_by padded (codes "  ") (zip widths cells)) (10 ∷ []))
    ∙ ap (λ (t : List ℕ). t ++ 10 ∷ []) (sym is)
