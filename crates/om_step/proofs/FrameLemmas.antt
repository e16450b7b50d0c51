-- That a write leaves every other byte, and all rights, as they were.
use Rattle.std.proofs.Common.{◌≡◌, ◌≢◌, ℕ, zero, suc, ◌+◌, ◌%◌, ◌^◌, ◌<◌, ◌/◌, List, [], ◌∷◌, length, cond, refl, ap, ◌∙◌, arith}
use Rattle.std.specs.Prelude.{Option, Some}
use Rattle.std.specs.FinMap as fin
use Rattle.std.specs.Ordering.{nat_cmp, eq_by_cmp}
use Rattle.std.proofs.lemmas.Bool.Decides.{nat_tests}
use Rattle.std.proofs.lemmas.Cmp.{nat_cmp_total}
use Rattle.om_mem.specs.Contents.{Contents, addresses_from, after_write, low_bytes, stored}
use Rattle.om_step.specs.Step.{IsElsewhere}

-- an entry of another key is passed
miss : (q a b : ℕ) (rest : Option ℕ) → q ≢ a → cond (eq_by_cmp nat_cmp q a) (Some b) rest ≡ rest
miss q a b rest ne = grind (arith, nat_tests)

stored_elsewhere : (m : fin.FinMap nat_cmp ℕ) (address : ℕ) (bs : List ℕ) (a : ℕ) → address < 2 ^ 32 → IsElsewhere address (length bs) a
    → fin.get (stored m (addresses_from address (length bs)) bs) a ≡ fin.get m a
stored_elsewhere m address [] a small apart = refl
stored_elsewhere m address (b ∷ bs) a small apart =
    let here : a ≢ address = λ e. apart 0 (omega arith) (omega arith) in
    stored_elsewhere (fin.insert m address b) ((address + 1) % 2 ^ 32) bs a (omega arith) (λ k h e. apart (suc k) (omega arith) (omega arith))
    ∙ fin.get-insert nat_cmp_total m address b a
    ∙ miss a address b (fin.get m a) here

length_low : (count value : ℕ) → length (low_bytes count value) ≡ count
length_low zero value = refl
length_low (suc n) value = ap suc (length_low n (value / 256))

-- a byte elsewhere is as it was
pub bytes_elsewhere : (m : Contents) (address : ℕ) (bs : List ℕ) (a : ℕ) → address < 2 ^ 32 → IsElsewhere address (length bs) a
    → fin.get (after_write m address bs).bytes a ≡ fin.get m.bytes a
unfolding after_write
bytes_elsewhere m address bs a small apart = stored_elsewhere m.bytes address bs a small apart

-- the same where the bytes are those of a number
pub write_elsewhere : (m : Contents) (address count value a : ℕ) → address < 2 ^ 32 → IsElsewhere address count a
    → fin.get (after_write m address (low_bytes count value)).bytes a ≡ fin.get m.bytes a
write_elsewhere m address count value a small apart =
    bytes_elsewhere m address (low_bytes count value) a small (rw (length_low count value) apart)

-- the regions stay
pub write_rights : (m : Contents) (address : ℕ) (bs : List ℕ) → (after_write m address bs).regions ≡ m.regions
unfolding after_write
write_rights m address bs = refl
