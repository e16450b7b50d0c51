-- Bytes have one spelling between quotes.
use Rattle.std.proofs.Common.{◌≡◌, ℕ, Bool, true, false, List, [], ◌∷◌, refl, sym, ap, subst, ◌∙◌, eqb-true, ◌==◌, arith}
use Rattle.std.proofs.lemmas.Bool.Decides.{nat_tests}
use Rattle.om_token.specs.Tokens.{IsQuoted}
use Rattle.om_token.specs.Quotes.{quoted, unquoted}

-- ---- one byte more

same_byte : (byte : ℕ) → (byte == byte) ≡ true
same_byte byte = grind (arith, nat_tests)

unquoted-twice : (quote : ℕ) (rest : List ℕ) → unquoted quote (quote ∷ quote ∷ rest) ≡ quote ∷ unquoted quote rest
unfolding unquoted
unquoted-twice quote rest = rw (same_byte quote) refl

unquoted-other : (quote byte : ℕ) (rest : List ℕ) → (byte == quote) ≡ false → unquoted quote (byte ∷ rest) ≡ byte ∷ unquoted quote rest
unfolding unquoted
unquoted-other quote byte [] e = refl
unquoted-other quote byte (second ∷ rest) e = rw e refl

quoted-twice : (quote : ℕ) (bytes : List ℕ) → quoted quote (quote ∷ bytes) ≡ quote ∷ quote ∷ quoted quote bytes
unfolding quoted
quoted-twice quote bytes = rw (same_byte quote) refl

quoted-other : (quote byte : ℕ) (bytes : List ℕ) → (byte == quote) ≡ false → quoted quote (byte ∷ bytes) ≡ byte ∷ quoted quote bytes
unfolding quoted
quoted-other quote byte bytes e = rw e refl

-- ---- the laws

pub says : (quote : ℕ) (bytes : List ℕ) → unquoted quote (quoted quote bytes) ≡ bytes
unfolding unquoted quoted
says quote [] = refl
says quote (byte ∷ bytes) = go (byte == quote) refl (says quote bytes)
  where
    go : (b : Bool) → (byte == quote) ≡ b → unquoted quote (quoted quote bytes) ≡ bytes → unquoted quote (quoted quote (byte ∷ bytes)) ≡ byte ∷ bytes
    go true e more =
        rw (eqb-true byte quote e) (ap (unquoted quote) (quoted-twice quote bytes) ∙ unquoted-twice quote (quoted quote bytes) ∙ ap (λ (l : List ℕ). quote ∷ l) more)
    go false e more = ap (unquoted quote) (quoted-other quote byte bytes e) ∙ unquoted-other quote byte (quoted quote bytes) e ∙ ap (λ (l : List ℕ). byte ∷ l) more

pub alone : (quote : ℕ) (inside : List ℕ) → IsQuoted quote inside → inside ≡ quoted quote (unquoted quote inside)
unfolding unquoted quoted
alone quote _ IsQuoted.none = refl
alone quote _ (IsQuoted.other {byte = byte} {bytes = bytes} e h) =
    ap (λ (l : List ℕ). byte ∷ l) (alone quote bytes h) ∙ sym (ap (quoted quote) (unquoted-other quote byte bytes e) ∙ quoted-other quote byte (unquoted quote bytes) e)
alone quote _ (IsQuoted.twice {bytes = bytes} h) =
    ap (λ (l : List ℕ). quote ∷ quote ∷ l) (alone quote bytes h) ∙ sym (ap (quoted quote) (unquoted-twice quote bytes) ∙ quoted-twice quote (unquoted quote bytes))

pub allowed : (quote : ℕ) (bytes : List ℕ) → IsQuoted quote (quoted quote bytes)
unfolding quoted
allowed quote [] = IsQuoted.none
allowed quote (byte ∷ bytes) = go (byte == quote) refl (allowed quote bytes)
  where
    go : (b : Bool) → (byte == quote) ≡ b → IsQuoted quote (quoted quote bytes) → IsQuoted quote (quoted quote (byte ∷ bytes))
    go true e more = rw (eqb-true byte quote e) (subst (IsQuoted quote) (sym (quoted-twice quote bytes)) (IsQuoted.twice more))
    go false e more = subst (IsQuoted quote) (sym (quoted-other quote byte bytes e)) (IsQuoted.other e more)
