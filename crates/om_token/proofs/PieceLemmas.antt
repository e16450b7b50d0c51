-- Runs of bytes at the front of a text, and what stands between quotes.
use Rattle.std.proofs.Common.{◌≡◌, ℕ, ◌-◌, true, false, List, [], ◌∷◌, ◌++◌, length, take, drop, Option, Some, None, refl, sym, ap, ◌∙◌, append_assoc, arith}
use Rattle.std.specs.Prelude.{◌==◌}
use Rattle.std.specs.Option.{option_map}
use Rattle.std.proofs.lemmas.List.{length-append, take_at}
use Rattle.std.proofs.lemmas.List.Sums.{prefix_len-le-length}
use Rattle.om_token.specs.Cutting.{within, begins_with}

pub ruleset runs = (prefix_len-le-length)

-- ---- what stands between quotes

abbrev pub Found : Type 0
Found = Option (List ℕ × List ℕ)

abbrev pub put : List ℕ → Found → Found
put bytes found = option_map (λ x. (bytes ++ x.0, x.1)) found

put_none : (found : Found) → put [] found ≡ found
put_none None = refl
put_none (Some x) = refl

put_put : (a b : List ℕ) (found : Found) → put a (put b found) ≡ put (a ++ b) found
put_put a b None = refl
put_put a b (Some x) = ap (λ (bytes : List ℕ). Some (bytes, x.1)) (sym (append_assoc a b x.0))

pub within-other : (quote byte : ℕ) (rest : List ℕ) → (byte == quote) ≡ false → within quote (byte ∷ rest) ≡ put (byte ∷ []) (within quote rest)
unfolding within
within-other quote byte [] e = rw e refl
within-other quote byte (second ∷ rest) e = rw e refl

pub within-twice : (quote byte second : ℕ) (rest : List ℕ) → (byte == quote) ≡ true → (second == quote) ≡ true
    → within quote (byte ∷ second ∷ rest) ≡ put (byte ∷ second ∷ []) (within quote rest)
unfolding within
within-twice quote byte second rest e f = rw (e, f) refl

pub within-closed : (quote byte : ℕ) (rest : List ℕ) → (byte == quote) ≡ true → begins_with quote rest ≡ false → within quote (byte ∷ rest) ≡ Some ([], rest)
unfolding within
within-closed quote byte [] e f = rw e refl
within-closed quote byte (second ∷ rest) e f = rw (e, f) refl

-- a loop that has passed some bytes of a text
pub record Passed (quote : ℕ) (text rest : List ℕ) : Type 0 where
  pub front : List ℕ
  pub split : text ≡ front ++ rest
  pub same : within quote text ≡ put front (within quote rest)

more : {quote : ℕ} {text rest : List ℕ} (bytes after : List ℕ) → Passed quote text rest → rest ≡ bytes ++ after → within quote rest ≡ put bytes (within quote after) → Passed quote text after
more {quote} {text} {rest} bytes after h split e = record {
  front = h.front ++ bytes;
  split = h.split ∙ ap (λ (r : List ℕ). h.front ++ r) split ∙ sym (append_assoc h.front bytes after);
  same = h.same ∙ ap (put h.front) e ∙ put_put h.front bytes (within quote after);
}

pub passed_other : (quote : ℕ) (text : List ℕ) (byte : ℕ) (rest : List ℕ) → Passed quote text (byte ∷ rest) → (byte == quote) ≡ false → Passed quote text rest
passed_other quote text byte rest h e = more (byte ∷ []) rest h refl (within-other quote byte rest e)

pub passed_twice : (quote : ℕ) (text : List ℕ) (byte : ℕ) (rest : List ℕ) → Passed quote text (byte ∷ rest) → (byte == quote) ≡ true → begins_with quote rest ≡ true → Passed quote text (drop 1 rest)
passed_twice quote text byte [] h e f = absurd cc
passed_twice quote text byte (second ∷ rest) h e f = more (byte ∷ second ∷ []) rest h refl (within-twice quote byte second rest e f)

pub passed_closed : (quote : ℕ) (text : List ℕ) (byte : ℕ) (rest : List ℕ) → Passed quote text (byte ∷ rest) → (byte == quote) ≡ true → begins_with quote rest ≡ false
    → within quote text ≡ Some (take (length text - length (byte ∷ rest)) text, rest)
passed_closed quote text byte rest h e f =
    let n : length text - length (byte ∷ rest) ≡ length h.front = omega (arith, length-append h.front (byte ∷ rest), ap length h.split) in
    let front : take (length text - length (byte ∷ rest)) text ≡ h.front = rw n (ap (take (length h.front)) h.split ∙ take_at h.front (byte ∷ rest) (length h.front) refl) in
    h.same ∙ ap (put h.front) (within-closed quote byte rest e f) ∙ ap (λ (bytes : List ℕ). Some (bytes, rest)) (Rattle.std.proofs.lemmas.List.append-nil h.front ∙ sym front)

pub passed_all : (quote : ℕ) (text : List ℕ) → Passed quote text [] → within quote text ≡ None
unfolding within
passed_all quote text h = h.same
