-- A table of which the head was read, by where its program stands in the section.
use Rattle.std.proofs.Common.{◌≡◌, ◌≢◌, ℕ, zero, suc, ◌+◌, ◌-◌, ◌≤◌, List, [], ◌∷◌, ◌++◌, length, take, drop, Option, Some, None, Ok, Err, refl, sym, ap, subst, ◌∙◌, arith}
use Rattle.std.specs.Prelude.{IfOk, Result}
use Rattle.std.specs.Option.{option_or}
use Rattle.std.proofs.Math.Seq.{drop-append_seam}
use Rattle.om_line.specs.Files.{head_files}
use Rattle.om_line.specs.Heads.{head_of, header_length, table_fault, table_in, unit_length}
use Rattle.om_line.specs.Lines.{behind_head, header_fault, program_of}
use Rattle.om_line.specs.Opening.{IsTable}
use Rattle.om_line.specs.declared.fault.LineFault.{LineFault}
use Rattle.om_line.specs.declared.reading.Table.{Table}
use Rattle.std.proofs.lemmas.List.{drop-take, length-append, length-drop, length-take}

drop-none : (n : ℕ) → ◌≡◌ {A = List ℕ} (drop n []) []
drop-none zero = refl
drop-none (suc n) = refl

drop-drop : (n m : ℕ) (bytes : List ℕ) → drop n (drop m bytes) ≡ drop (m + n) bytes
drop-drop n zero bytes = let same : n ≡ 0 + n = omega arith in ap (λ k. drop k bytes) same
drop-drop n (suc m) [] = drop-none n ∙ sym (drop-none (suc m + n))
drop-drop n (suc m) (byte ∷ bytes) = let same : suc (m + n) ≡ suc m + n = omega arith in drop-drop n m bytes ∙ ap (λ k. drop k (byte ∷ bytes)) same

-- bytes of a section that end at an offset
abbrev pub ends_at : (section bytes : List ℕ) (end : ℕ) → Type 0
ends_at section bytes end = bytes ≡ take (length bytes) (drop (end - length bytes) section)

piece_length : (skip size : ℕ) (bytes : List ℕ) → size ≤ length bytes → skip ≤ size → length (drop skip (take size bytes)) ≡ size - skip
piece_length skip size bytes there less = omega (arith, length-drop skip (take size bytes), length-take size bytes)

-- what stands behind some bytes of a piece ends where the piece does
pub piece_ends : (section : List ℕ) (at skip size : ℕ) → size ≤ length (drop at section) → skip ≤ size → ends_at section (drop skip (take size (drop at section))) (at + size)
piece_ends section at skip size there less =
    let long = piece_length skip size (drop at section) there less in
    let parts : size ≡ skip + (size - skip) = omega (arith, less) in
    let from : at + size - (size - skip) ≡ at + skip = omega (arith, less) in
    ap (λ n. drop skip (take n (drop at section))) parts
    ∙ drop-take skip (size - skip) (drop at section)
    ∙ ap (take (size - skip)) (drop-drop skip at section ∙ ap (λ n. drop n section) (sym from))
    ∙ ap (λ n. take n (drop (at + size - n) section)) (sym long)

-- the end of bytes that end at an offset ends there too
pub end_ends : (section bytes front rest : List ℕ) (end : ℕ) → ends_at section bytes end → length bytes ≤ end → bytes ≡ front ++ rest → ends_at section rest end
end_ends section bytes front rest end is short parts =
    let sizes : length bytes ≡ length front + length rest = ap length parts ∙ length-append front rest in
    let from : end - length bytes + length front ≡ end - length rest = omega (arith, sizes, short) in
    sym (drop-append_seam front rest)
    ∙ ap (drop (length front)) (sym parts ∙ is ∙ ap (λ n. take n (drop (end - length bytes) section)) sizes)
    ∙ drop-take (length front) (length rest) (drop (end - length bytes) section)
    ∙ ap (take (length rest)) (drop-drop (length front) (end - length bytes) section ∙ ap (λ n. drop n section) from)

-- two that are as long are the same
pub same_end : (section a b : List ℕ) (end : ℕ) → ends_at section a end → ends_at section b end → length a ≡ length b → a ≡ b
same_end section a b end is too long = is ∙ ap (λ n. take n (drop (end - n) section)) long ∙ sym too

-- ---- what is read is the table

taken_length : (size : ℕ) (bytes : List ℕ) → size ≤ length bytes → length (take size bytes) ≡ size
taken_length size bytes there = omega (arith, length-take size bytes, there)

program_place : (section program : List ℕ) (at skip size end : ℕ) → program ≡ drop skip (take size (drop at section)) → end ≡ at + size → size ≤ length (drop at section) → skip ≤ size
    → ends_at section program end × (length program ≤ end)
program_place section program at skip size end is end_is there less =
    rw (is, end_is) (piece_ends section at skip size there less, omega (arith, piece_length skip size (drop at section) there less))

pub opened : (section bytes table : List ℕ) (at : ℕ) (result : Result Table LineFault) → bytes ≡ drop at section → table ≡ table_in bytes → None ≡ table_fault at bytes → 4 + unit_length bytes ≤ length bytes
    → IfOk result (λ it. it.head ≡ head_of table) → IfOk result (λ it. it.head.line_range ≢ 0) → IfOk result (λ it. head_files (behind_head table) ≡ Some it.files)
    → IfOk result (λ it. it.program.now ≡ program_of table) → IfOk result (λ it. 10 + header_length table ≤ length table) → IfOk result (λ it. it.end ≡ at + length table)
    → IfOk result (λ it. header_fault at table ≡ None) → IfOk result (IsTable section at)
opened section bytes table at (Err fault) from whole none there head range files program begins end lawful = tt
opened section bytes table at (Ok it) from whole none there head range files program begins end lawful =
    let is : table ≡ table_in (drop at section) = whole ∙ ap table_in from in
    let there_too : 4 + unit_length (drop at section) ≤ length (drop at section) = subst (λ (bs : List ℕ). 4 + unit_length bs ≤ length bs) from there in
    let size : length table ≡ 4 + unit_length (drop at section) = ap length is ∙ taken_length (4 + unit_length (drop at section)) (drop at section) there_too in
    let place = program_place section it.program.now at (10 + header_length table) (4 + unit_length (drop at section)) it.end (program ∙ ap (drop (10 + header_length table)) is)
    (end ∙ ap (λ n. at + n) size) there_too (omega (arith, begins, size)) in
    record {
      head = subst (λ (t : List ℕ). it.head ≡ head_of t) is head;
      range = range;
      files = subst (λ (t : List ℕ). head_files (behind_head t) ≡ Some it.files) is files;
      program = subst (λ (t : List ℕ). it.program.now ≡ program_of t) is program;
      end = subst (λ (t : List ℕ). it.end ≡ at + length t) is end;
      place = place.0;
      short = place.1;
      lawful =
          ap (λ (o : Option LineFault). option_or o (header_fault at (table_in (drop at section)))) (sym (none ∙ ap (table_fault at) from))
          ∙ subst (λ (t : List ℕ). header_fault at t ≡ None) is lawful;
    }
