-- Entries one after another.
use Rattle.std.proofs.Common.{◌≡◌, ℕ, zero, suc, ◌+◌, ◌-◌, ◌<◌, ◌≤◌, Bool, false, nat_eq, List, [], ◌∷◌, ◌++◌, length, drop, map, Some, None, refl, sym, ap, ◌∙◌, inl, inr, ◌⊎◌, arith, append_assoc, append-nil, length-drop}
use Rattle.std.specs.Prelude.{filter_map}
use Rattle.std.specs.Option.{option_or}
use Rattle.std.proofs.lemmas.Bool.{cases_Bool, cases_lt, lt-ltb, le-ltb}
use Rattle.om_base.specs.Firsts.{first_of}
use Rattle.om_cfi.specs.Entries.{cut_fault, entries_in, entry_in, field, first_cut, slot_in, slots}
use Rattle.om_cfi.specs.declared.fault.CfiFault.{CfiFault}
use Rattle.om_cfi.specs.declared.fault.CfiFault.TheVariants as fault
use Rattle.om_cfi.specs.declared.entries.Entry.{Entry}
use Rattle.om_cfi.specs.declared.entries.Slot.{Slot}
use Rattle.om_cfi.specs.declared.entries.Slot.TheVariants.{Cut, Empty, Whole}

slots_drop : (n at : ℕ) (bytes : List ℕ) → n ≤ length bytes → slots at n bytes ≡ slots (at + n) 0 (drop n bytes)
unfolding slots
slots_drop zero at bytes few = let e : at + 0 ≡ at = omega arith in ap (λ k. slots k 0 bytes) (sym e)
slots_drop (suc n) at [] few = absurd (omega arith)
slots_drop (suc n) at (b ∷ bytes) few = let e : at + 1 + n ≡ at + suc n = omega arith in slots_drop n (at + 1) bytes (omega arith) ∙ ap (λ k. slots k 0 (drop n bytes)) e

-- a slot has a byte at least, and those that are there at most
pub record IsSize (bytes : List ℕ) (size : ℕ) : Type 0 where
  pub some : 0 < size
  pub within : size ≤ length bytes

sizes : (at : ℕ) (bytes : List ℕ) → 0 < length bytes → IsSize bytes (slot_in at bytes).1
unfolding slot_in
sizes at bytes some =
    elim (cases_lt (length bytes) 4) [
      | inl few ↦ rw (lt-ltb _ _ few) (record { some = some; within = omega arith })
      | inr more ↦ rw (le-ltb _ _ more) (elim (cases_Bool (nat_eq (field bytes 0) 0)) [
        | inl none ↦ rw none (record { some = omega arith; within = more })
        | inr not ↦ rw not (elim (cases_lt (field bytes 0) 4) [
          | inl low ↦ rw (lt-ltb _ _ low) (record { some = some; within = omega arith })
          | inr high ↦ rw (le-ltb _ _ high) (elim (cases_lt (length bytes) (4 + field bytes 0)) [
            | inl short ↦ rw (lt-ltb _ _ short) (record { some = some; within = omega arith })
            | inr whole ↦ rw (le-ltb _ _ whole) (record { some = omega arith; within = whole })
          ])
        ])
      ])
    ]

slots_by : (at : ℕ) (bytes : List ℕ) → 0 < length bytes → slots at 0 bytes ≡ (slot_in at bytes).0 ∷ slots (at + (slot_in at bytes).1) 0 (drop (slot_in at bytes).1 bytes)
unfolding slots
slots_by at [] some = absurd (omega arith)
slots_by at (b ∷ bytes) some =
    let is : IsSize (b ∷ bytes) (slot_in at (b ∷ bytes)).1 = sizes at (b ∷ bytes) some in
    let size : suc ((slot_in at (b ∷ bytes)).1 - 1) ≡ (slot_in at (b ∷ bytes)).1 = omega (arith, is.some) in
    let place : at + 1 + ((slot_in at (b ∷ bytes)).1 - 1) ≡ at + (slot_in at (b ∷ bytes)).1 = omega (arith, is.some) in
    ap (λ xs. (slot_in at (b ∷ bytes)).0 ∷ xs)
    (slots_drop ((slot_in at (b ∷ bytes)).1 - 1) (at + 1) bytes (omega (arith, is.some, is.within)) ∙ ap (λ k. slots k 0 (drop ((slot_in at (b ∷ bytes)).1 - 1) bytes)) place
    ∙ ap (λ k. slots (at + (slot_in at (b ∷ bytes)).1) 0 (drop k (b ∷ bytes))) size)

-- ---- the walk

-- what is found, and what is still left
pub record IsLeft (section : List ℕ) (entries : List Entry) (left : List ℕ) : Type 0 where
  pub within : length left ≤ length section
  pub found : entries ++ filter_map entry_in (slots (length section - length left) 0 left) ≡ entries_in section
  pub fault : first_of (map cut_fault (slots (length section - length left) 0 left)) ≡ first_cut section

pub all_left : (section : List ℕ) (entries : List Entry) → entries ≡ [] → IsLeft section entries section
unfolding entries_in first_cut
all_left section entries none =
    let e : length section - length section ≡ 0 = omega arith in
    record {
      within = omega arith;
      found = ap (λ es. es ++ filter_map entry_in (slots (length section - length section) 0 section)) none ∙ ap (λ k. filter_map entry_in (slots k 0 section)) e;
      fault = ap (λ k. first_of (map cut_fault (slots k 0 section))) e;
    }

one_more : (slot : Slot) (others : List Slot) → filter_map entry_in (slot ∷ others) ≡ filter_map entry_in (slot ∷ []) ++ filter_map entry_in others
one_more Empty others = refl
one_more (Cut at) others = refl
one_more (Whole entry) others = refl

-- the slot that is read
pub record IsRead (at : ℕ) (left : List ℕ) (slot : Slot) (size : ℕ) : Type 0 where
  pub slot_is : slot ≡ (slot_in at left).0
  pub size_is : size ≡ (slot_in at left).1

module _ (section : List ℕ) (entries : List Entry) (left : List ℕ) (is : IsLeft section entries left) (some : 0 < length left) (slot : Slot) (size : ℕ) (read : IsRead (length section - length left) left slot size) where
  next : slots (length section - length left) 0 left ≡ slot ∷ slots (length section - length (drop size left)) 0 (drop size left)
  next =
      let bound : IsSize left (slot_in (length section - length left) left).1 = sizes (length section - length left) left some in
      let place : length section - length left + size ≡ length section - length (drop size left) = omega (arith, is.within, bound.within, read.size_is, length-drop size left) in
      slots_by (length section - length left) left some ∙ ap (λ x. x ∷ slots (length section - length left + (slot_in (length section - length left) left).1) 0 (drop (slot_in (length section - length left) left).1 left)) (sym read.slot_is)
      ∙ ap (λ n. slot ∷ slots (length section - length left + n) 0 (drop n left)) (sym read.size_is) ∙ ap (λ k. slot ∷ slots k 0 (drop size left)) place

  pub smaller : length (drop size left) < length left
  smaller = let bound : IsSize left (slot_in (length section - length left) left).1 = sizes (length section - length left) left some in omega (arith, bound.some, bound.within, read.size_is, length-drop size left)

  pub in_left : size ≤ length left
  in_left = let bound : IsSize left (slot_in (length section - length left) left).1 = sizes (length section - length left) left some in omega (arith, bound.within, read.size_is)

  pub cut_here : (told : CfiFault) → cut_fault slot ≡ Some told → first_cut section ≡ Some told
  cut_here told cut_is = sym is.fault ∙ ap (λ xs. first_of (map cut_fault xs)) next ∙ ap (λ o. option_or o (first_of (map cut_fault (slots (length section - length (drop size left)) 0 (drop size left))))) cut_is

  pub cut_or : (told : CfiFault) → (told ≡ fault.NoMemory) ⊎ (cut_fault slot ≡ Some told) → (told ≡ fault.NoMemory) ⊎ (first_cut section ≡ Some told)
  cut_or told (inl none) = inl none
  cut_or told (inr cut_is) = inr (cut_here told cut_is)

  pub goes_on : (new : List Entry) → cut_fault slot ≡ None → new ≡ entries ++ filter_map entry_in (slot ∷ []) → IsLeft section new (drop size left)
  goes_on new whole new_is = record {
    within = omega (arith, smaller, is.within);
    found = ap (λ es. es ++ filter_map entry_in (slots (length section - length (drop size left)) 0 (drop size left))) new_is
        ∙ append_assoc entries (filter_map entry_in (slot ∷ [])) (filter_map entry_in (slots (length section - length (drop size left)) 0 (drop size left)))
        ∙ ap (λ es. entries ++ es) (sym (one_more slot (slots (length section - length (drop size left)) 0 (drop size left)))) ∙ ap (λ xs. entries ++ filter_map entry_in xs) (sym next) ∙ is.found;
    fault = sym (ap (λ o. option_or o (first_of (map cut_fault (slots (length section - length (drop size left)) 0 (drop size left))))) whole) ∙ sym (ap (λ xs. first_of (map cut_fault xs)) next) ∙ is.fault;
  }

pub none_left : (section left : List ℕ) (entries : List Entry) → IsLeft section entries left → length left ≡ 0 → (entries ≡ entries_in section) × (first_cut section ≡ None)
unfolding slots
none_left section [] entries is none = (sym (append-nil entries) ∙ is.found, sym is.fault)
none_left section (b ∷ left) entries is none = absurd (omega arith)

pub some_left : (left : List ℕ) (is_none : Bool) → is_none ≡ nat_eq (length left) 0 → is_none ≡ false → 0 < length left
some_left [] is_none is not = absurd cc
some_left (b ∷ left) is_none is not = omega arith
