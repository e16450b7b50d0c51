-- An entry that is read is the entry that was spelled, and what was spelled is read again.
use Rattle.std.proofs.Common.{◌≡◌, ℕ, zero, suc, ◌+◌, ◌-◌, ◌^◌, ◌<◌, ◌≤◌, List, [], ◌∷◌, ◌++◌, length, take, drop, Option, Some, None, refl, sym, ap, subst, ◌∙◌, arith, inl, inr}
use Rattle.std.specs.Option.{option_map}
use Rattle.std.specs.List.{flat_map, AllByRecursion}
use Rattle.std.proofs.lemmas.Bool.{cases_eq, eq-eqb, ne_eqb}
use Rattle.std.proofs.lemmas.List.{take_at, drop_at, length-append}
use Rattle.om_log.specs.Chunk.{Chunk, first_and_others}
use Rattle.om_log.specs.Fields.{Field, some_bytes, number, both, times, behind}
use Rattle.om_log.specs.Grammar.{chunk_spelling, chunks_spelling, spelling, FitsChunk, Fits}
use Rattle.om_log.specs.LittleEndian.{le_bytes}
use Rattle.om_log.specs.EntryFields.{chunk_field, chunks_field, chunks_in, args_field, call_field, mark_field, end_field, entry_field}
use Rattle.om_log.specs.declared.entry.Entry.{Entry}
use Rattle.om_log.specs.declared.entry.Entry.TheVariants.{Call, Mark, End}
use Rattle.om_log.proofs.FieldLaws.{IsBytes, IsBytes-rest, IsField, bytes_law, number_law, both_law, mapped_law, times_law, led_law, fits_law, bind_some, some_is}

-- ---- writes

bytes_field_law : (count : ℕ) → IsField (some_bytes count) (λ bytes. bytes) (λ bytes. (length bytes ≡ count) × Unit {0})
bytes_field_law count = fits_law (λ bytes. (length bytes ≡ count) × Unit {0}) (λ x h. (h, tt)) (λ x h. h.0) (bytes_law count)

pub chunk_law : IsField chunk_field chunk_spelling FitsChunk
unfolding chunk_field
chunk_law =
    let parts = both_law (number_law 4) (led_law 4 some_bytes length {P = λ _. Unit {0}} bytes_field_law) in
    let f : ℕ × List ℕ → Chunk = λ x. record { addr = x.0; bytes = x.1 } in
    let g : Chunk → ℕ × List ℕ = λ c. (c.addr, c.bytes) in
    fits_law FitsChunk (λ x h. (h.0, h.1.0)) (λ x h. (h.0, (h.1, tt))) (mapped_law f g (λ a. refl) (λ b. refl) parts)

-- the writes fit their count, and each fits
abbrev pub FitsChunks : List Chunk → Type 0
FitsChunks chunks = (length chunks < 2 ^ 32) × AllByRecursion FitsChunk chunks

pub chunks_law : IsField chunks_field chunks_spelling FitsChunks
unfolding chunks_field
chunks_law = led_law 4 (λ count. times count chunk_field) length (λ count. times_law count chunk_law)

pub chunks_in-some : (count : ℕ) (bytes : List ℕ) (x : Chunk × List ℕ) → chunk_field bytes ≡ Some x → chunks_in (suc count) bytes ≡ x.0 ∷ chunks_in count x.1
unfolding chunks_in
chunks_in-some count bytes x e = ap (λ (o : Option (Chunk × List ℕ)). elim o as (λ _. List Chunk) [ None ↦ [] | Some y ↦ y.0 ∷ chunks_in count y.1 ]) e

pub chunks_in-none : (count : ℕ) (bytes : List ℕ) → chunk_field bytes ≡ None → chunks_in (suc count) bytes ≡ []
unfolding chunks_in
chunks_in-none count bytes e = ap (λ (o : Option (Chunk × List ℕ)). elim o as (λ _. List Chunk) [ None ↦ [] | Some y ↦ y.0 ∷ chunks_in count y.1 ]) e

pub chunks_in-zero : (bytes : List ℕ) → chunks_in 0 bytes ≡ []
unfolding chunks_in
chunks_in-zero bytes = refl

chunks_in-spelling : (chunks : List Chunk) (count : ℕ) → length chunks ≡ count → AllByRecursion FitsChunk chunks → chunks_in count (flat_map chunk_spelling chunks) ≡ chunks
chunks_in-spelling [] zero len fits = chunks_in-zero []
chunks_in-spelling [] (suc count) len fits = absurd cc
chunks_in-spelling (chunk ∷ chunks) zero len fits = absurd cc
chunks_in-spelling (chunk ∷ chunks) (suc count) len fits =
    chunks_in-some count (flat_map chunk_spelling (chunk ∷ chunks)) (chunk, flat_map chunk_spelling chunks) (chunk_law.again chunk (flat_map chunk_spelling chunks) fits.0)
    ∙ ap (λ others. chunk ∷ others) (chunks_in-spelling chunks count (cc) fits.1)

-- ---- the first of the writes that some bytes begin with

pub first_of_zero : (count : ℕ) (bytes : List ℕ) → count ≡ 0 → None ≡ first_and_others (chunks_in count bytes)
first_of_zero zero bytes is = sym (ap first_and_others (chunks_in-zero bytes))
first_of_zero (suc count) bytes is = absurd cc

pub first_of_none : (count : ℕ) (bytes : List ℕ) → (count ≡ 0 → ⊥) → chunk_field bytes ≡ None → None ≡ first_and_others (chunks_in count bytes)
first_of_none zero bytes some e = absurd (some refl)
first_of_none (suc count) bytes some e = sym (ap first_and_others (chunks_in-none count bytes e))

pub first_of_some : (count : ℕ) (bytes : List ℕ) (x : Chunk × List ℕ) → (count ≡ 0 → ⊥) → chunk_field bytes ≡ Some x → Some (x.0, chunks_in (count - 1) x.1) ≡ first_and_others (chunks_in count bytes)
first_of_some zero bytes x some e = absurd (some refl)
first_of_some (suc count) bytes x some e =
    let less : suc count - 1 ≡ count = omega arith in
    ap (λ (n : ℕ). Some (x.0, chunks_in n x.1)) less ∙ sym (ap first_and_others (chunks_in-some count bytes x e))

map_some : {A : Type 0} (o : Option (A × List ℕ)) (r : List ℕ) → option_map (λ (x : A × List ℕ). x.1) o ≡ Some r → (a : A) × (o ≡ Some (a, r))
map_some None r e = absurd cc
map_some (Some x) r e = (x.0, ap (λ (t : List ℕ). Some (x.0, t)) (some_is x.1 r e))

-- the writes are those that the bytes in front of the rest spell
pub record SkipsTo (count : ℕ) (bytes rest : List ℕ) : Type 0 where
  pub within : length rest ≤ length bytes
  pub read : times count chunk_field bytes ≡ Some (chunks_in count (take (length bytes - length rest) bytes), drop (length bytes - length rest) bytes)

pub skipped : (count : ℕ) (bytes rest : List ℕ) → IsBytes bytes → behind count chunk_field bytes ≡ Some rest → SkipsTo count bytes rest
skipped count bytes rest h e =
    let a = map_some (times count chunk_field bytes) rest e in
    let p = (times_law count chunk_law).takes bytes (a.0, rest) h a.1 in
    let front = flat_map chunk_spelling a.0 in
    let len : length bytes ≡ length front + length rest = ap length p.0 ∙ length-append front rest in
    let at : length front ≡ length bytes - length rest = omega arith in
    let taken : take (length bytes - length rest) bytes ≡ front = ap (take (length bytes - length rest)) p.0 ∙ take_at front rest (length bytes - length rest) at in
    let dropped : drop (length bytes - length rest) bytes ≡ rest = ap (drop (length bytes - length rest)) p.0 ∙ drop_at front rest (length bytes - length rest) at in
    record {
      within = omega arith;
      read = a.1 ∙ rw (taken, dropped, chunks_in-spelling a.0 count p.1.0 p.1.1) refl;
    }

-- the bytes behind a number
pub IsBytes-number : (width : ℕ) (bytes : List ℕ) (x : ℕ × List ℕ) → IsBytes bytes → number width bytes ≡ Some x → IsBytes x.1
IsBytes-number width bytes x h e = IsBytes-rest bytes (le_bytes width x.0) x.1 h ((number_law width).takes bytes x h e).0

-- ---- entries

abbrev CallParts : Type 0
CallParts = (((ℕ × ℕ) × List ℕ) × ℕ) × List Chunk

abbrev call_parts : Field CallParts
call_parts = both (both (both (both (number 8) (number 4)) args_field) (number 4)) chunks_field

abbrev call_of : CallParts → Entry
call_of x = Call x.0.0.0.0 x.0.0.0.1 x.0.0.1 x.0.1 x.1

abbrev call_spelling : CallParts → List ℕ
call_spelling x = (((le_bytes 8 x.0.0.0.0 ++ le_bytes 4 x.0.0.0.1) ++ flat_map (le_bytes 4) x.0.0.1) ++ le_bytes 4 x.0.1) ++ chunks_spelling x.1

abbrev FitsArgs : List ℕ → Type 0
FitsArgs args = (length args ≡ 6) × AllByRecursion (λ arg. arg < 2 ^ 32) args

abbrev FitsCall : CallParts → Type 0
FitsCall x = ((((x.0.0.0.0 < 2 ^ 64) × (x.0.0.0.1 < 2 ^ 32)) × FitsArgs x.0.0.1) × (x.0.1 < 2 ^ 32)) × FitsChunks x.1

args_law : IsField args_field (flat_map (le_bytes 4)) FitsArgs
unfolding args_field
args_law = times_law 6 (number_law 4)

call_law : IsField call_parts call_spelling FitsCall
call_law = both_law (both_law (both_law (both_law (number_law 8) (number_law 4)) args_law) (number_law 4)) chunks_law

mark_law : IsField (both (both (number 8) (number 4)) (number 4)) (λ x. (le_bytes 8 x.0.0 ++ le_bytes 4 x.0.1) ++ le_bytes 4 x.1) (λ x. ((x.0.0 < 2 ^ 64) × (x.0.1 < 2 ^ 32)) × (x.1 < 2 ^ 32))
mark_law = both_law (both_law (number_law 8) (number_law 4)) (number_law 4)

end_law : IsField (both (both (number 8) (number 1)) (number 4)) (λ x. (le_bytes 8 x.0.0 ++ le_bytes 1 x.0.1) ++ le_bytes 4 x.1) (λ x. ((x.0.0 < 2 ^ 64) × (x.0.1 < 256)) × (x.1 < 2 ^ 32))
end_law = both_law (both_law (number_law 8) (number_law 1)) (number_law 4)

abbrev IsTaken : List ℕ → Entry × List ℕ → Type 0
IsTaken bytes x = (bytes ≡ spelling x.0 ++ x.1) × Fits x.0

call_takes : (rest : List ℕ) (x : Entry × List ℕ) → IsBytes rest → call_field rest ≡ Some x → IsTaken (1 ∷ rest) x
unfolding call_field spelling Fits
call_takes rest x h e =
    let a = bind_some (call_parts rest) (λ p. Some (call_of p.0, p.1)) x e in
    let p = call_law.takes rest a.0 h a.1 in
    let f = p.1 in
    subst (IsTaken (1 ∷ rest)) (some_is (call_of a.0.0, a.0.1) x a.2)
    (ap (λ bytes. 1 ∷ bytes) p.0, (f.0.0.0.0, f.0.0.0.1, f.0.0.1.0, f.0.0.1.1, f.0.1, f.1.0, f.1.1))

mark_takes : (rest : List ℕ) (x : Entry × List ℕ) → IsBytes rest → mark_field rest ≡ Some x → IsTaken (2 ∷ rest) x
unfolding mark_field spelling Fits
mark_takes rest x h e =
    let a = bind_some (both (both (number 8) (number 4)) (number 4) rest) (λ p. Some (Mark p.0.0.0 p.0.0.1 p.0.1, p.1)) x e in
    let p = mark_law.takes rest a.0 h a.1 in
    subst (IsTaken (2 ∷ rest)) (some_is (Mark a.0.0.0.0 a.0.0.0.1 a.0.0.1, a.0.1) x a.2)
    (ap (λ bytes. 2 ∷ bytes) p.0, (p.1.0.0, p.1.0.1, p.1.1))

end_takes : (rest : List ℕ) (x : Entry × List ℕ) → IsBytes rest → end_field rest ≡ Some x → IsTaken (3 ∷ rest) x
unfolding end_field spelling Fits
end_takes rest x h e =
    let a = bind_some (both (both (number 8) (number 1)) (number 4) rest) (λ p. Some (End p.0.0.0 p.0.0.1 p.0.1, p.1)) x e in
    let p = end_law.takes rest a.0 h a.1 in
    subst (IsTaken (3 ∷ rest)) (some_is (End a.0.0.0.0 a.0.0.0.1 a.0.0.1, a.0.1) x a.2)
    (ap (λ bytes. 3 ∷ bytes) p.0, (p.1.0.0, p.1.0.1, p.1.1))

bytes_behind : (kind : ℕ) (rest : List ℕ) → IsBytes (kind ∷ rest) → IsBytes rest
bytes_behind kind rest h i = h (suc i)

entry_takes : (bytes : List ℕ) (x : Entry × List ℕ) → IsBytes bytes → entry_field bytes ≡ Some x → IsTaken bytes x
unfolding entry_field
entry_takes [] x h e = absurd cc
entry_takes (kind ∷ rest) x h e =
    let behind = bytes_behind kind rest h in
    elim (cases_eq kind 1) [
      | inl is ↦ (let test = eq-eqb kind 1 is in let e' = rw test at e in subst (λ k. IsTaken (k ∷ rest) x) (sym is) (call_takes rest x behind e'))
      | inr not1 ↦ (let test1 = ne_eqb kind 1 not1 in let e1 = rw test1 at e in
          elim (cases_eq kind 2) [
            | inl is ↦ (let test = eq-eqb kind 2 is in let e' = rw test at e1 in subst (λ k. IsTaken (k ∷ rest) x) (sym is) (mark_takes rest x behind e'))
            | inr not2 ↦ (let test2 = ne_eqb kind 2 not2 in let e2 = rw test2 at e1 in
                elim (cases_eq kind 3) [
                  | inl is ↦ (let test = eq-eqb kind 3 is in let e' = rw test at e2 in subst (λ k. IsTaken (k ∷ rest) x) (sym is) (end_takes rest x behind e'))
                  | inr not3 ↦ (let test3 = ne_eqb kind 3 not3 in absurd (let e3 = rw test3 at e2 in cc))
                ])
          ])
    ]

entry_again : (e : Entry) (rest : List ℕ) → Fits e → entry_field (spelling e ++ rest) ≡ Some (e, rest)
unfolding entry_field call_field mark_field end_field spelling Fits
entry_again (Call step number args result writes) rest f =
    rw (call_law.again ((((step, number), args), result), writes) rest ((((f.0, f.1), (f.2, f.3)), f.4), (f.5, f.6))) refl
entry_again (Mark step pc sum) rest f = rw (mark_law.again ((step, pc), sum) rest ((f.0, f.1), f.2)) refl
entry_again (End step cause value) rest f = rw (end_law.again ((step, cause), value) rest ((f.0, f.1), f.2)) refl

-- an entry is read as it was spelled
pub entry_law : IsField entry_field spelling Fits
entry_law = record { takes = entry_takes; again = entry_again }
