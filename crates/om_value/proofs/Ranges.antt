-- A number that passes 128 bits passes the range of an expression's numbers.
use Rattle.std.proofs.Common.{◌≡◌, ◌≤◌, ◌<◌, ◌/◌, ◌≤ℤ◌, ◌*ℤ◌, ℕ, ℤ, pos, negsuc, zero, suc, ◌-ℤ◌, neg_ℤ, true, refl, arith}
use Rattle.std.specs.Int.{int_min, int_max}
use Rattle.std.specs.Int.RustNames.{int_div}
use Rattle.std.proofs.Math.IntN.{*ℤ_comm, *ℤ-zero}
use Rattle.std.proofs.Math.Nat.{div-mul-le_self, mul-le-mul_right}
use Rattle.std.proofs.lemmas.Nat.{le-div}
use Rattle.std.proofs.lemmas.Int.{ints, clamps}
use Rattle.om_value.specs.Meaning.{near}
use Rattle.om_value.specs.Kinds.{is_number, in_range, least_of, greatest_of}

pub near_is_number : (z : ℤ) → is_number (near z) ≡ is_number z
near_is_number (pos n) = grind arith
near_is_number (negsuc n) = grind arith

pub near_number : (z : ℤ) → is_number z ≡ true → near z ≡ z
near_number (pos n) is = grind (arith, is)
near_number (negsuc n) is = grind (arith, is)

pub near_range : (low high : ℤ) → in_range (near low) (near high) ≡ in_range low high
near_range low high = grind (arith, near_is_number low, near_is_number high, near_number low, near_number high)

pub near_min : (a b : ℤ) → near (int_min a b) ≡ int_min (near a) (near b)
near_min (pos a) (pos b) = grind arith
near_min (pos a) (negsuc b) = grind arith
near_min (negsuc a) (pos b) = grind arith
near_min (negsuc a) (negsuc b) = grind arith

pub near_max : (a b : ℤ) → near (int_max a b) ≡ int_max (near a) (near b)
near_max (pos a) (pos b) = grind arith
near_max (pos a) (negsuc b) = grind arith
near_max (negsuc a) (pos b) = grind arith
near_max (negsuc a) (negsuc b) = grind arith

pub near_least : (a b c d : ℤ) → near (least_of a b c d) ≡ least_of (near a) (near b) (near c) (near d)
near_least a b c d = rw (near_min, near_min a b, near_min c d) refl

pub near_greatest : (a b c d : ℤ) → near (greatest_of a b c d) ≡ greatest_of (near a) (near b) (near c) (near d)
near_greatest a b c d = rw (near_max, near_max a b, near_max c d) refl

pub zero_less : (z : ℤ) → pos 0 -ℤ z ≡ neg_ℤ z
zero_less z = omega (arith, ints)

-- ---- order

pub le_trans : (a b c : ℤ) → a ≤ℤ b → b ≤ℤ c → a ≤ℤ c
le_trans a b c p q = omega (arith, ints)

div_mono : (n a b : ℕ) → 0 < n → a ≤ b → a / n ≤ b / n
div_mono n a b positive le = le-div (a / n) b n positive (omega (arith, div-mul-le_self a n, le))

-- a quotient that is rounded toward zero keeps the order
pub quot_mono : (n : ℕ) (a b : ℤ) → 0 < n → a ≤ℤ b → int_div a (pos n) ≤ℤ int_div b (pos n)
quot_mono n (pos a) (pos b) positive le = let le' : a ≤ b = omega (arith, ints, le) in omega (arith, ints, div_mono n a b positive le')
quot_mono n (pos a) (negsuc b) positive le = absurd (omega (arith, ints, le))
quot_mono n (negsuc a) (pos b) positive le = omega (arith, ints)
quot_mono n (negsuc a) (negsuc b) positive le = let le' : suc b ≤ suc a = omega (arith, ints, le) in omega (arith, ints, div_mono n (suc b) (suc a) positive le')

mul_keeps : (a b c : ℤ) → a ≤ℤ b → pos 0 ≤ℤ c → (a *ℤ c) ≤ℤ (b *ℤ c)
mul_keeps (pos a) (pos b) (pos c) le up = let le' : a ≤ b = omega (arith, ints, le) in omega (arith, ints, mul-le-mul_right {m = a} {n = b} c le')
mul_keeps (pos a) (negsuc b) (pos c) le up = absurd (omega (arith, ints, le))
mul_keeps (negsuc a) (pos b) (pos c) le up = omega (arith, ints)
mul_keeps (negsuc a) (negsuc b) (pos c) le up = let le' : suc b ≤ suc a = omega (arith, ints, le) in omega (arith, ints, mul-le-mul_right {m = suc b} {n = suc a} c le')
mul_keeps a b (negsuc c) le up = absurd (omega (arith, ints, up))

mul_turns : (a b c : ℤ) → a ≤ℤ b → c ≤ℤ pos 0 → (b *ℤ c) ≤ℤ (a *ℤ c)
mul_turns a b (pos zero) le down = rw (*ℤ-zero a, *ℤ-zero b) (omega (arith, ints))
mul_turns a b (pos (suc c)) le down = absurd (omega (arith, ints, down))
mul_turns (pos a) (pos b) (negsuc c) le down = let le' : a ≤ b = omega (arith, ints, le) in omega (arith, ints, mul-le-mul_right {m = a} {n = b} (suc c) le')
mul_turns (pos a) (negsuc b) (negsuc c) le down = absurd (omega (arith, ints, le))
mul_turns (negsuc a) (pos b) (negsuc c) le down = omega (arith, ints)
mul_turns (negsuc a) (negsuc b) (negsuc c) le down = let le' : suc b ≤ suc a = omega (arith, ints, le) in omega (arith, ints, mul-le-mul_right {m = suc b} {n = suc a} (suc c) le')

le_max_left : (a b : ℤ) → a ≤ℤ int_max a b
le_max_left a b = omega (arith, ints, clamps)

le_max_right : (a b : ℤ) → b ≤ℤ int_max a b
le_max_right a b = omega (arith, ints, clamps)

min_left_le : (a b : ℤ) → int_min a b ≤ℤ a
min_left_le a b = omega (arith, ints, clamps)

min_right_le : (a b : ℤ) → int_min a b ≤ℤ b
min_right_le a b = omega (arith, ints, clamps)

max_le_max : (a b c d : ℤ) → a ≤ℤ c → b ≤ℤ d → int_max a b ≤ℤ int_max c d
max_le_max a b c d p q = omega (arith, ints, clamps)

min_le_min : (a b c d : ℤ) → a ≤ℤ c → b ≤ℤ d → int_min a b ≤ℤ int_min c d
min_le_min a b c d p q = omega (arith, ints, clamps)

-- a product by one number lies between the products of the ends
below_end : (l h a c : ℤ) → l ≤ℤ a → a ≤ℤ h → (a *ℤ c) ≤ℤ int_max (l *ℤ c) (h *ℤ c)
below_end l h a (pos c) p q = le_trans _ _ _ (mul_keeps a h (pos c) q (omega (arith, ints))) (le_max_right (l *ℤ pos c) (h *ℤ pos c))
below_end l h a (negsuc c) p q = le_trans _ _ _ (mul_turns l a (negsuc c) p (omega (arith, ints))) (le_max_left (l *ℤ negsuc c) (h *ℤ negsuc c))

above_end : (l h a c : ℤ) → l ≤ℤ a → a ≤ℤ h → int_min (l *ℤ c) (h *ℤ c) ≤ℤ (a *ℤ c)
above_end l h a (pos c) p q = le_trans _ _ _ (min_left_le (l *ℤ pos c) (h *ℤ pos c)) (mul_keeps l a (pos c) p (omega (arith, ints)))
above_end l h a (negsuc c) p q = le_trans _ _ _ (min_right_le (l *ℤ negsuc c) (h *ℤ negsuc c)) (mul_turns a h (negsuc c) q (omega (arith, ints)))

-- the same of the other factor
below_end_right : (l h b c : ℤ) → l ≤ℤ b → b ≤ℤ h → (c *ℤ b) ≤ℤ int_max (c *ℤ l) (c *ℤ h)
below_end_right l h b c p q = rw (*ℤ_comm c b, *ℤ_comm c l, *ℤ_comm c h) (below_end l h b c p q)

above_end_right : (l h b c : ℤ) → l ≤ℤ b → b ≤ℤ h → int_min (c *ℤ l) (c *ℤ h) ≤ℤ (c *ℤ b)
above_end_right l h b c p q = rw (*ℤ_comm c b, *ℤ_comm c l, *ℤ_comm c h) (above_end l h b c p q)

-- a product lies from the least to the greatest product of two ends
pub below_corners : (l h a m k b : ℤ) → l ≤ℤ a → a ≤ℤ h → m ≤ℤ b → b ≤ℤ k → (a *ℤ b) ≤ℤ greatest_of (l *ℤ m) (l *ℤ k) (h *ℤ m) (h *ℤ k)
below_corners l h a m k b p q r s = le_trans _ _ _ (below_end l h a b p q) (max_le_max (l *ℤ b) (h *ℤ b) _ _ (below_end_right m k b l r s) (below_end_right m k b h r s))

pub above_corners : (l h a m k b : ℤ) → l ≤ℤ a → a ≤ℤ h → m ≤ℤ b → b ≤ℤ k → least_of (l *ℤ m) (l *ℤ k) (h *ℤ m) (h *ℤ k) ≤ℤ (a *ℤ b)
above_corners l h a m k b p q r s = le_trans _ _ _ (min_le_min _ _ (l *ℤ b) (h *ℤ b) (above_end_right m k b l r s) (above_end_right m k b h r s)) (above_end l h a b p q)
