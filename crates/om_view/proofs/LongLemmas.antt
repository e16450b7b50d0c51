-- Numbers in memory: one of 8 bytes is two of 4.
use Rattle.std.proofs.Common.{◌≡◌, ℕ, ◌+◌, ◌*◌, ◌^◌, ◌%◌, List, [], ◌∷◌, Bool, true, false, nat_lt, ◌&&◌, if◌then◌else◌, Option, Some, None, refl, ap, ◌∙◌, arith}
use Rattle.std.specs.FinMap as fin
use Rattle.std.specs.Option.{option_and_then, option_map}
use Rattle.om_base.specs.Numbers.{le}
use Rattle.om_view.specs.Variable.{is_read, low_bytes, read_at}
use Rattle.om_mem.specs.Contents.{Contents, addresses_from, bytes_at, loaded}

-- a number with a higher one above it
abbrev above : (low high : ℕ) → ℕ
above low high = high * 2 ^ 32 + low

-- a byte before others, where none is missing
abbrev before : Option ℕ → Option (List ℕ) → Option (List ℕ)
before byte bytes = option_and_then (λ b. option_map (λ bs. b ∷ bs) bytes) byte

abbrev four : (a b c d : Option ℕ) → Option (List ℕ) → Option (List ℕ)
four a b c d bytes = before a (before b (before c (before d bytes)))

le_halves : (a b c d e f g h : ℕ) → le (a ∷ b ∷ c ∷ d ∷ e ∷ f ∷ g ∷ h ∷ []) ≡ above (le (a ∷ b ∷ c ∷ d ∷ [])) (le (e ∷ f ∷ g ∷ h ∷ []))
unfolding le
le_halves a b c d e f g h = omega arith

halves : (a b c d e f g h : Option ℕ)
    → option_map le (four a b c d (four e f g h (Some []))) ≡ option_and_then (λ low. option_map (above low) (option_map le (four e f g h (Some [])))) (option_map le (four a b c d (Some [])))
halves None b c d e f g h = refl
halves (Some a) None c d e f g h = refl
halves (Some a) (Some b) None d e f g h = refl
halves (Some a) (Some b) (Some c) None e f g h = refl
halves (Some a) (Some b) (Some c) (Some d) None f g h = refl
halves (Some a) (Some b) (Some c) (Some d) (Some e) None g h = refl
halves (Some a) (Some b) (Some c) (Some d) (Some e) (Some f) None h = refl
halves (Some a) (Some b) (Some c) (Some d) (Some e) (Some f) (Some g) None = refl
halves (Some a) (Some b) (Some c) (Some d) (Some e) (Some f) (Some g) (Some h) = ap Some (le_halves a b c d e f g h)

-- the fifth address is the one that is 4 on
fifth : (address : ℕ) → ((((address + 1) % 2 ^ 32 + 1) % 2 ^ 32 + 1) % 2 ^ 32 + 1) % 2 ^ 32 ≡ (address + 4) % 2 ^ 32
fifth address = omega arith

pub loaded_halves : (memory : Contents) (address : ℕ)
    → loaded memory address 8 ≡ option_and_then (λ low. option_map (above low) (loaded memory ((address + 4) % 2 ^ 32) 4)) (loaded memory address 4)
unfolding loaded
loaded_halves memory address =
    let at : ℕ → Option ℕ = λ a. fin.get memory.bytes a in
    let next : ℕ → ℕ = λ a. (a + 1) % 2 ^ 32 in
    let b : ℕ = next address in
    let c : ℕ = next b in
    let d : ℕ = next c in
    let e : ℕ = next d in
    let f : ℕ = next e in
    let g : ℕ = next f in
    let h : ℕ = next g in
    halves (at address) (at b) (at c) (at d) (at e) (at f) (at g) (at h)
    ∙ ap (λ (high : ℕ). option_and_then (λ low. option_map (above low) (option_map le (bytes_at memory (addresses_from high 4)))) (option_map le (bytes_at memory (addresses_from address 4)))) (fifth address)

-- a number is read only of a size that is read
pub is_read_at : (memory : Contents) (address size number : ℕ) → read_at memory address size ≡ Some number → is_read size ≡ true
unfolding read_at
is_read_at memory address size number told = by (is_read size) refl told
  where
    by : (b : Bool) → is_read size ≡ b → (if b then loaded memory address size else None) ≡ Some number → is_read size ≡ true
    by true is told = is
    by false is told = absurd cc

-- ... nor are low bytes of another
pub is_low_bytes : (bits size number : ℕ) → low_bytes bits size ≡ Some number → is_read size ≡ true
unfolding low_bytes
is_low_bytes bits size number told = by (is_read size) (nat_lt size 8) refl told
  where
    by : (a b : Bool) → is_read size ≡ a → (if a && b then Some (bits % 2 ^ (8 * size)) else None) ≡ Some number → is_read size ≡ true
    by true b is told = is
    by false b is told = absurd cc
