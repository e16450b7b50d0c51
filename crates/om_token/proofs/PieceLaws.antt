-- The piece that `cut` finds is the one piece at the front of a text.
use Rattle.std.proofs.Common.{◌≡◌, ℕ, ◌≤◌, Bool, true, false, cond, List, [], ◌∷◌, ◌++◌, length, Option, Some, None, refl, sym, ap, subst, ◌∙◌, append_assoc, arith, one-add, eq-eqb}
use Rattle.std.specs.Prelude.{◌==◌, not, ◌&&◌, ◌||◌, is_some}
use Rattle.std.specs.Option.{option_map, option_and_then}
use Rattle.std.specs.Char.{is_ascii_digit, is_ascii_alphabetic}
use Rattle.std.specs.List.{prefix_len, list_all}
use Rattle.std.proofs.lemmas.Bool.{eqb-true}
use Rattle.std.proofs.lemmas.Bool.Decides.{nat_tests}
use Rattle.std.proofs.lemmas.List.{take-append-drop}
use Rattle.om_token.specs.declared.token.Kind.TheVariants as k
use Rattle.om_token.specs.declared.token.Piece.{Piece}
use Rattle.om_token.specs.declared.token.Piece.TheVariants as p
use Rattle.om_token.specs.declared.terminal.Terminal.{Terminal}
use Rattle.om_token.specs.Terminals.{reserved_word, symbol, symbols, symbol_in, double_symbol, double_symbols, double_symbol_in}
use Rattle.om_token.specs.Numerals.{numeral_value}
use Rattle.om_token.specs.Tokens.{is_space, is_word_byte, is_line_byte, ends_run, word_kind, IsQuoted, none, other, twice, goes_on, IsPiece, space, comment, word, numeral, literal, delimited, symbol_of_one, symbol_of_two}
use Rattle.om_token.specs.Cutting as cutting
use Rattle.om_token.specs.Cutting.{Cut, front, after, word_at, numeral_at, within, text_at, delimited_at, symbol_at, longest, sign_at, other_at, cut, begins_with}
use Rattle.om_token.proofs.PieceLemmas.{Found, put, within-other, within-twice, within-closed}

-- ---- tests

and_both : (a b : Bool) → (a && b) ≡ true → (a ≡ true) × (b ≡ true)
and_both true b e = (refl, e)
and_both false b e = absurd cc

both_and : (a b : Bool) → a ≡ true → b ≡ true → (a && b) ≡ true
both_and a b e f = rw (e, f) refl

not_or : (a b : Bool) → not (a || b) ≡ true → (a ≡ false) × (not b ≡ true)
not_or true b e = absurd cc
not_or false b e = (refl, e)

or_false : (a b : Bool) → (a || b) ≡ false → (a ≡ false) × (b ≡ false)
or_false true b e = absurd cc
or_false false b e = (refl, e)

not_true : (a : Bool) → not a ≡ true → a ≡ false
not_true true e = absurd cc
not_true false e = refl

alphabetic_no_space : (byte : ℕ) → is_ascii_alphabetic byte ≡ true → is_space byte ≡ false
alphabetic_no_space byte e = grind (arith, nat_tests)

digit_no_space : (byte : ℕ) → is_ascii_digit byte ≡ true → is_space byte ≡ false
digit_no_space byte e = grind (arith, nat_tests)

digit_no_letter : (byte : ℕ) → is_ascii_digit byte ≡ true → is_ascii_alphabetic byte ≡ false
digit_no_letter byte e = grind (arith, nat_tests)

alphabetic_in_word : (byte : ℕ) → is_ascii_alphabetic byte ≡ true → is_word_byte byte ≡ true
alphabetic_in_word byte e = grind (arith, nat_tests)

digit_in_word : (byte : ℕ) → is_ascii_digit byte ≡ true → is_word_byte byte ≡ true
digit_in_word byte e = grind (arith, nat_tests)

-- ---- runs

front-more : (passes : ℕ → Bool) (x : ℕ) (xs : List ℕ) → passes x ≡ true → front passes (x ∷ xs) ≡ x ∷ front passes xs
front-more passes x xs e = rw (e, one-add) refl

after-more : (passes : ℕ → Bool) (x : ℕ) (xs : List ℕ) → passes x ≡ true → after passes (x ∷ xs) ≡ after passes xs
after-more passes x xs e = rw (e, one-add) refl

front-none : (passes : ℕ → Bool) (x : ℕ) (xs : List ℕ) → passes x ≡ false → front passes (x ∷ xs) ≡ []
front-none passes x xs e = rw e refl

after-none : (passes : ℕ → Bool) (x : ℕ) (xs : List ℕ) → passes x ≡ false → after passes (x ∷ xs) ≡ x ∷ xs
after-none passes x xs e = rw e refl

front-after : (passes : ℕ → Bool) (text : List ℕ) → text ≡ front passes text ++ after passes text
front-after passes text = sym (take-append-drop (prefix_len passes text) text)

front_passes : (passes : ℕ → Bool) (text : List ℕ) → list_all passes (front passes text) ≡ true
front_passes passes [] = refl
front_passes passes (x ∷ xs) = go (passes x) refl (front_passes passes xs)
  where
    go : (b : Bool) → passes x ≡ b → list_all passes (front passes xs) ≡ true → list_all passes (front passes (x ∷ xs)) ≡ true
    go true e h = rw (front-more passes x xs e) (both_and _ _ e h)
    go false e h = rw (front-none passes x xs e) refl

after_ends : (passes : ℕ → Bool) (text : List ℕ) → ends_run passes (after passes text) ≡ true
after_ends passes [] = refl
after_ends passes (x ∷ xs) = go (passes x) refl (after_ends passes xs)
  where
    go : (b : Bool) → passes x ≡ b → ends_run passes (after passes xs) ≡ true → ends_run passes (after passes (x ∷ xs)) ≡ true
    go true e h = rw (after-more passes x xs e) h
    go false e h = rw (after-none passes x xs e) (rw e refl)

run_again : (passes : ℕ → Bool) (u w : List ℕ) → list_all passes u ≡ true → ends_run passes w ≡ true → (front passes (u ++ w) ≡ u) × (after passes (u ++ w) ≡ w)
run_again passes [] [] e f = (refl, refl)
run_again passes [] (c ∷ w) e f = (front-none passes c w (not_true (passes c) f), after-none passes c w (not_true (passes c) f))
run_again passes (x ∷ u) w e f =
    let b = and_both (passes x) (list_all passes u) e in
    let h = run_again passes u w b.1 f in
    (front-more passes x (u ++ w) b.0 ∙ ap (λ (l : List ℕ). x ∷ l) h.0, after-more passes x (u ++ w) b.0 ∙ h.1)

-- ---- quotes

-- what a text within quotes is, and what follows it
abbrev IsWithin : ℕ → List ℕ → Found → Type 0
IsWithin quote text None = Unit {0}
IsWithin quote text (Some x) = (text ≡ x.0 ++ quote ∷ x.1) × IsQuoted quote x.0 × (ends_run (λ byte. byte == quote) x.1 ≡ true)

within_put-other : (quote byte : ℕ) (rest : List ℕ) (found : Found) → (byte == quote) ≡ false → IsWithin quote rest found → IsWithin quote (byte ∷ rest) (put (byte ∷ []) found)
within_put-other quote byte rest None e h = tt
within_put-other quote byte rest (Some x) e h = (ap (λ (l : List ℕ). byte ∷ l) h.0, other e h.1, h.2)

within_put-twice : (quote byte second : ℕ) (rest : List ℕ) (found : Found) → byte ≡ quote → second ≡ quote → IsWithin quote rest found
    → IsWithin quote (byte ∷ second ∷ rest) (put (byte ∷ second ∷ []) found)
within_put-twice quote byte second rest None e f h = tt
within_put-twice quote byte second rest (Some x) e f h = rw (e, f) (ap (λ (l : List ℕ). quote ∷ quote ∷ l) h.0, twice h.1, h.2)

begins_ends : (quote : ℕ) (rest : List ℕ) → begins_with quote rest ≡ false → ends_run (λ byte. byte == quote) rest ≡ true
begins_ends quote [] e = refl
begins_ends quote (byte ∷ rest) e = rw e refl

ends_begins : (quote : ℕ) (rest : List ℕ) → ends_run (λ byte. byte == quote) rest ≡ true → begins_with quote rest ≡ false
ends_begins quote [] e = refl
ends_begins quote (byte ∷ rest) e = not_true (byte == quote) e

within_done : (quote byte : ℕ) (rest : List ℕ) → (byte == quote) ≡ true → begins_with quote rest ≡ false → IsWithin quote (byte ∷ rest) (Some ([], rest))
within_done quote byte rest e f = (ap (λ (b : ℕ). b ∷ rest) (eqb-true byte quote e), none, begins_ends quote rest f)

-- the cases of one byte, and of the byte after it
within_last : (quote byte : ℕ) (b : Bool) → (byte == quote) ≡ b → IsWithin quote (byte ∷ []) (within quote (byte ∷ []))
unfolding within
within_last quote byte true e = rw e (within_done quote byte [] e refl)
within_last quote byte false e = rw e tt

within_more : (quote byte second : ℕ) (rest : List ℕ) (b c : Bool) → (byte == quote) ≡ b → (second == quote) ≡ c
    → IsWithin quote rest (within quote rest) → IsWithin quote (second ∷ rest) (within quote (second ∷ rest)) → IsWithin quote (byte ∷ second ∷ rest) (within quote (byte ∷ second ∷ rest))
within_more quote byte second rest true true e f h g =
    rw (within-twice quote byte second rest e f) (within_put-twice quote byte second rest (within quote rest) (eqb-true byte quote e) (eqb-true second quote f) h)
within_more quote byte second rest true false e f h g = rw (within-closed quote byte (second ∷ rest) e f) (within_done quote byte (second ∷ rest) e f)
within_more quote byte second rest false c e f h g = rw (within-other quote byte (second ∷ rest) e) (within_put-other quote byte (second ∷ rest) (within quote (second ∷ rest)) e g)

within_sound : (quote : ℕ) (text : List ℕ) → IsWithin quote text (within quote text)
unfolding within
within_sound quote [] = tt
within_sound quote (byte ∷ []) = within_last quote byte (byte == quote) refl
within_sound quote (byte ∷ second ∷ rest) = within_more quote byte second rest (byte == quote) (second == quote) refl refl (within_sound quote rest) (within_sound quote (second ∷ rest))

same_byte : (quote : ℕ) → (quote == quote) ≡ true
same_byte quote = eq-eqb quote quote refl

within_again : {quote : ℕ} {inside : List ℕ} → IsQuoted quote inside → (following : List ℕ) → ends_run (λ byte. byte == quote) following ≡ true
    → within quote (inside ++ quote ∷ following) ≡ Some (inside, following)
within_again {quote} none following e = within-closed quote quote following (same_byte quote) (ends_begins quote following e)
within_again {quote} (other {byte = byte} {bytes = bytes} d h) following e = within-other quote byte (bytes ++ quote ∷ following) d ∙ ap (put (byte ∷ [])) (within_again h following e)
within_again {quote} (twice {bytes = bytes} h) following e =
    within-twice quote quote quote (bytes ++ quote ∷ following) (same_byte quote) (same_byte quote) ∙ ap (put (quote ∷ quote ∷ [])) (within_again h following e)

-- ---- symbols

-- a byte that begins no other piece
abbrev plain : ℕ → Bool
plain byte = not (is_space byte || (is_ascii_alphabetic byte || (is_ascii_digit byte || (byte == 39 || byte == 34))))

symbol_plain : (entries : List (ℕ × Terminal)) (byte : ℕ) (terminal : Terminal) → list_all (λ entry. plain entry.0) entries ≡ true → symbol_in entries byte ≡ Some terminal → plain byte ≡ true
symbol_plain [] byte terminal h e = absurd cc
symbol_plain (entry ∷ entries) byte terminal h e = go (entry.0 == byte) refl (and_both (plain entry.0) (list_all (λ x. plain x.0) entries) h) (symbol_plain entries byte terminal)
  where
    go : (b : Bool) → (entry.0 == byte) ≡ b → (plain entry.0 ≡ true) × (list_all (λ x. plain x.0) entries ≡ true)
        → (list_all (λ x. plain x.0) entries ≡ true → symbol_in entries byte ≡ Some terminal → plain byte ≡ true) → plain byte ≡ true
    go true f g more = ap plain (sym (eqb-true entry.0 byte f)) ∙ g.0
    go false f g more = more g.1 (rw f at e)

double_plain : (entries : List (ℕ × ℕ × Terminal)) (first second : ℕ) (terminal : Terminal) → list_all (λ entry. plain entry.0 && not (entry.0 == 45)) entries ≡ true
    → double_symbol_in entries first second ≡ Some terminal → (plain first && not (first == 45)) ≡ true
double_plain [] first second terminal h e = absurd cc
double_plain (entry ∷ entries) first second terminal h e =
    go (entry.0 == first) (entry.1 == second) refl refl (and_both (plain entry.0 && not (entry.0 == 45)) (list_all (λ x. plain x.0 && not (x.0 == 45)) entries) h) (double_plain entries first second terminal)
  where
    go : (b c : Bool) → (entry.0 == first) ≡ b → (entry.1 == second) ≡ c → ((plain entry.0 && not (entry.0 == 45)) ≡ true) × (list_all (λ x. plain x.0 && not (x.0 == 45)) entries ≡ true)
        → (list_all (λ x. plain x.0 && not (x.0 == 45)) entries ≡ true → double_symbol_in entries first second ≡ Some terminal → (plain first && not (first == 45)) ≡ true)
        → (plain first && not (first == 45)) ≡ true
    go true c f f2 g more = ap (λ (n : ℕ). plain n && not (n == 45)) (sym (eqb-true entry.0 first f)) ∙ g.0
    go false c f f2 g more = more g.1 (rw f at e)

record IsPlain (byte : ℕ) : Type 0 where
  no_space : is_space byte ≡ false
  no_letter : is_ascii_alphabetic byte ≡ false
  no_digit : is_ascii_digit byte ≡ false
  no_quote : (byte == 39) ≡ false
  no_double : (byte == 34) ≡ false

plain_is : (byte : ℕ) → plain byte ≡ true → IsPlain byte
plain_is byte e =
    let a = not_or (is_space byte) (is_ascii_alphabetic byte || (is_ascii_digit byte || (byte == 39 || byte == 34))) e in
    let b = not_or (is_ascii_alphabetic byte) (is_ascii_digit byte || (byte == 39 || byte == 34)) a.1 in
    let c = not_or (is_ascii_digit byte) (byte == 39 || byte == 34) b.1 in
    let d = not_or (byte == 39) (byte == 34) c.1 in
    record { no_space = a.0; no_letter = b.0; no_digit = c.0; no_quote = d.0; no_double = not_true (byte == 34) d.1 }

-- ---- the branches of `cut`

cut-letter : (first : ℕ) (rest : List ℕ) → is_ascii_alphabetic first ≡ true → cut (first ∷ rest) ≡ word_at (first ∷ rest)
unfolding cut
cut-letter first rest e = rw (alphabetic_no_space first e, e) refl

cut-digit : (first : ℕ) (rest : List ℕ) → is_ascii_digit first ≡ true → cut (first ∷ rest) ≡ numeral_at (first ∷ rest)
unfolding cut
cut-digit first rest e = rw (digit_no_space first e, digit_no_letter first e, e) refl

cut-sign : (first : ℕ) (rest : List ℕ) → IsPlain first → cut (first ∷ rest) ≡ sign_at first rest
unfolding cut
cut-sign first rest h = rw (h.no_space, h.no_letter, h.no_digit, h.no_quote, h.no_double) refl

cut-minus : (rest : List ℕ) → cut (45 ∷ rest) ≡ sign_at 45 rest
unfolding cut
cut-minus rest = refl

cut-quote : (rest : List ℕ) → cut (39 ∷ rest) ≡ text_at rest
unfolding cut
cut-quote rest = refl

cut-double : (rest : List ℕ) → cut (34 ∷ rest) ≡ delimited_at rest
unfolding cut
cut-double rest = refl

cut-space : (first : ℕ) (rest : List ℕ) → is_space first ≡ true → cut (first ∷ rest) ≡ Some (p.Blank, rest)
unfolding cut
cut-space first rest e = rw e refl

-- ---- what begins with a piece is cut so

word_again : (u w : List ℕ) → list_all is_word_byte u ≡ true → ends_run is_word_byte w ≡ true → word_at (u ++ w) ≡ Some (p.Token (word_kind u (reserved_word u)), w)
word_again u w e f =
    let h = run_again is_word_byte u w e f in
    ap (λ (x : List ℕ). Some (p.Token (word_kind x (reserved_word x)), after is_word_byte (u ++ w))) h.0
    ∙ ap (λ (x : List ℕ). Some (p.Token (word_kind u (reserved_word u)), x)) h.1

numeral_again : (u w : List ℕ) (value : ℕ) → list_all is_word_byte u ≡ true → ends_run is_word_byte w ≡ true → numeral_value u ≡ Some value → numeral_at (u ++ w) ≡ Some (p.Token (k.Numeral value), w)
numeral_again u w value e f n =
    let h = run_again is_word_byte u w e f in
    let made : List ℕ → Option ℕ → Cut = λ rest found. option_map (λ v. (p.Token (k.Numeral v), rest)) found in
    ap (λ (x : List ℕ). made (after is_word_byte (u ++ w)) (numeral_value x)) h.0
    ∙ ap (λ (x : Option ℕ). made (after is_word_byte (u ++ w)) x) n
    ∙ ap (λ (x : List ℕ). Some (p.Token (k.Numeral value), x)) h.1

symbol_again : (first : ℕ) (rest : List ℕ) (terminal : Terminal) → symbol first ≡ Some terminal → symbol_at first rest ≡ Some (p.Token (k.Terminal terminal), rest)
symbol_again first rest terminal e = ap (λ (x : Option Terminal). option_map (λ t. (p.Token (k.Terminal t), rest)) x) e

none_found : (found : Option Terminal) → is_some found ≡ false → found ≡ None
none_found None e = refl
none_found (Some x) e = absurd cc

sign_one : (first : ℕ) (rest : List ℕ) (terminal : Terminal) → symbol first ≡ Some terminal → goes_on first rest ≡ false → sign_at first rest ≡ Some (p.Token (k.Terminal terminal), rest)
sign_one first [] terminal e f = symbol_again first [] terminal e
sign_one first (second ∷ rest) terminal e f =
    let g = or_false (is_some (double_symbol first second)) (first == 45 && second == 45) f in
    rw (g.1, none_found (double_symbol first second) g.0) (symbol_again first (second ∷ rest) terminal e)

sign_two : (first second : ℕ) (rest : List ℕ) (terminal : Terminal) → (first == 45) ≡ false → double_symbol first second ≡ Some terminal
    → sign_at first (second ∷ rest) ≡ Some (p.Token (k.Terminal terminal), rest)
sign_two first second rest terminal e f = rw (e, f) refl

comment_again : (line w : List ℕ) → list_all is_line_byte line ≡ true → ends_run is_line_byte w ≡ true → sign_at 45 (45 ∷ (line ++ w)) ≡ Some (p.Blank, w)
comment_again line w e f = ap (λ (x : List ℕ). Some (p.Blank, x)) (run_again is_line_byte line w e f).1

quote_again : (quote : ℕ) (inside w : List ℕ) → IsQuoted quote inside → ends_run (λ byte. byte == quote) w ≡ true → within quote ((inside ++ quote ∷ []) ++ w) ≡ Some (inside, w)
quote_again quote inside w h e = ap (within quote) (append_assoc inside (quote ∷ []) w) ∙ within_again h w e

symbol_is_plain : (byte : ℕ) (terminal : Terminal) → symbol byte ≡ Some terminal → plain byte ≡ true
unfolding symbol
symbol_is_plain byte terminal e = symbol_plain symbols byte terminal refl e

double_is_plain : (first second : ℕ) (terminal : Terminal) → double_symbol first second ≡ Some terminal → (plain first && not (first == 45)) ≡ true
unfolding double_symbol
double_is_plain first second terminal e = double_plain double_symbols first second terminal refl e

pub cut_complete : {piece : Piece} {u w : List ℕ} → IsPiece piece u w → cut (u ++ w) ≡ Some (piece, w)
cut_complete (space {byte = byte} {following = w} e) = cut-space byte w e
cut_complete (comment {line = line} {following = w} e f) = cut-minus (45 ∷ (line ++ w)) ∙ comment_again line w e f
cut_complete (word {first = first} {rest = rest} {following = w} a e f) =
    cut-letter first (rest ++ w) a ∙ word_again (first ∷ rest) w (both_and _ _ (alphabetic_in_word first a) e) f
cut_complete (numeral {first = first} {rest = rest} {following = w} {value = value} a e f n) =
    cut-digit first (rest ++ w) a ∙ numeral_again (first ∷ rest) w value (both_and _ _ (digit_in_word first a) e) f n
cut_complete (literal {inside = inside} {following = w} h e) =
    cut-quote ((inside ++ 39 ∷ []) ++ w) ∙ ap (λ (x : Found). option_map (λ y. (p.Token (k.Text y.0), y.1)) x) (quote_again 39 inside w h e)
cut_complete (delimited {byte = byte} {bytes = bytes} {following = w} h e) =
    cut-double ((byte ∷ (bytes ++ 34 ∷ [])) ++ w) ∙ ap (λ (x : Found). option_and_then (λ y. cutting.delimited y.0 y.1) x) (quote_again 34 (byte ∷ bytes) w h e)
cut_complete (symbol_of_one {byte = byte} {following = w} {terminal = terminal} e f) =
    cut-sign byte w (plain_is byte (symbol_is_plain byte terminal e)) ∙ sign_one byte w terminal e f
cut_complete (symbol_of_two {first = first} {second = second} {following = w} {terminal = terminal} e) =
    let h = and_both (plain first) (not (first == 45)) (double_is_plain first second terminal e) in
    cut-sign first (second ∷ w) (plain_is first h.0) ∙ sign_two first second w terminal (not_true (first == 45) h.1) e

-- ---- what is cut is a piece

-- what was cut from a text is a piece at its front
abbrev pub IsCut : List ℕ → Cut → Type 0
IsCut text None = Unit {0}
IsCut text (Some x) = (u : List ℕ) × (text ≡ u ++ x.1) × IsPiece x.0 u x.1

choose : (P : Cut → Type 0) (b : Bool) (x y : Cut) → (b ≡ true → P x) → (b ≡ false → P y) → P (cond b x y)
choose P true x y f g = f refl
choose P false x y f g = g refl

front_of_word : (first : ℕ) (rest : List ℕ) → is_word_byte first ≡ true → front is_word_byte (first ∷ rest) ≡ first ∷ front is_word_byte rest
front_of_word first rest e = front-more is_word_byte first rest e

word_is_cut : (first : ℕ) (rest : List ℕ) → is_ascii_alphabetic first ≡ true → IsCut (first ∷ rest) (word_at (first ∷ rest))
word_is_cut first rest e =
    let f = front_of_word first rest (alphabetic_in_word first e) in
    let made = word e (front_passes is_word_byte rest) (after_ends is_word_byte (first ∷ rest)) in (
      front is_word_byte (first ∷ rest),
      front-after is_word_byte (first ∷ rest),
      subst (λ (u : List ℕ). IsPiece (p.Token (word_kind u (reserved_word u))) u (after is_word_byte (first ∷ rest))) (sym f) made,
    )

numeral_is_cut : (first : ℕ) (rest : List ℕ) (found : Option ℕ) → is_ascii_digit first ≡ true → numeral_value (front is_word_byte (first ∷ rest)) ≡ found
    → IsCut (first ∷ rest) (option_map (λ v. (p.Token (k.Numeral v), after is_word_byte (first ∷ rest))) found)
numeral_is_cut first rest None e n = tt
numeral_is_cut first rest (Some value) e n =
    let f = front_of_word first rest (digit_in_word first e) in
    let made = numeral e (front_passes is_word_byte rest) (after_ends is_word_byte (first ∷ rest)) (ap numeral_value (sym f) ∙ n) in (
      front is_word_byte (first ∷ rest),
      front-after is_word_byte (first ∷ rest),
      subst (λ (u : List ℕ). IsPiece (p.Token (k.Numeral value)) u (after is_word_byte (first ∷ rest))) (sym f) made,
    )

split_quoted : (quote : ℕ) (rest inside following : List ℕ) → rest ≡ inside ++ quote ∷ following → rest ≡ (inside ++ quote ∷ []) ++ following
split_quoted quote rest inside following e = e ∙ sym (append_assoc inside (quote ∷ []) following)

text_is_cut : (rest : List ℕ) (found : Found) → IsWithin 39 rest found → IsCut (39 ∷ rest) (option_map (λ x. (p.Token (k.Text x.0), x.1)) found)
text_is_cut rest None h = tt
text_is_cut rest (Some x) h = (39 ∷ (x.0 ++ 39 ∷ []), ap (λ (l : List ℕ). 39 ∷ l) (split_quoted 39 rest x.0 x.1 h.0), literal h.1 h.2)

delimited_is_cut : (rest : List ℕ) (found : Found) → IsWithin 34 rest found → IsCut (34 ∷ rest) (option_and_then (λ x. cutting.delimited x.0 x.1) found)
delimited_is_cut rest None h = tt
delimited_is_cut rest (Some x) h = go x.0 h
  where
    go : (inside : List ℕ) → (rest ≡ inside ++ 34 ∷ x.1) × IsQuoted 34 inside × (ends_run (λ byte. byte == 34) x.1 ≡ true) → IsCut (34 ∷ rest) (cutting.delimited inside x.1)
    go [] h = tt
    go (byte ∷ bytes) h = (34 ∷ byte ∷ (bytes ++ 34 ∷ []), ap (λ (l : List ℕ). 34 ∷ l) (split_quoted 34 rest (byte ∷ bytes) x.1 h.0), delimited h.1 h.2)

symbol_is_cut : (first : ℕ) (rest : List ℕ) (found : Option Terminal) → symbol first ≡ found → goes_on first rest ≡ false
    → IsCut (first ∷ rest) (option_map (λ t. (p.Token (k.Terminal t), rest)) found)
symbol_is_cut first rest None e f = tt
symbol_is_cut first rest (Some terminal) e f = (first ∷ [], refl, symbol_of_one e f)

longest_is_cut : (first second : ℕ) (rest : List ℕ) (found : Option Terminal) → double_symbol first second ≡ found → (first == 45 && second == 45) ≡ false
    → IsCut (first ∷ second ∷ rest) (longest found first second rest)
longest_is_cut first second rest None e f = symbol_is_cut first (second ∷ rest) (symbol first) refl (rw (e, f) refl)
longest_is_cut first second rest (Some terminal) e f = (first ∷ second ∷ [], refl, symbol_of_two e)

comment_is_cut : (first second : ℕ) (rest : List ℕ) → (first == 45 && second == 45) ≡ true → IsCut (first ∷ second ∷ rest) (Some (p.Blank, after is_line_byte rest))
comment_is_cut first second rest e =
    let h = and_both (first == 45) (second == 45) e in
    rw (eqb-true first 45 h.0, eqb-true second 45 h.1) (
      45 ∷ 45 ∷ front is_line_byte rest,
      ap (λ (l : List ℕ). 45 ∷ 45 ∷ l) (front-after is_line_byte rest),
      comment (front_passes is_line_byte rest) (after_ends is_line_byte rest),
    )

sign_is_cut : (first : ℕ) (rest : List ℕ) → IsCut (first ∷ rest) (sign_at first rest)
sign_is_cut first [] = symbol_is_cut first [] (symbol first) refl refl
sign_is_cut first (second ∷ rest) =
    choose (IsCut (first ∷ second ∷ rest)) (first == 45 && second == 45) _ _
    (λ e. comment_is_cut first second rest e)
    (λ e. longest_is_cut first second rest (double_symbol first second) refl e)

other_is_cut : (first : ℕ) (rest : List ℕ) → IsCut (first ∷ rest) (other_at first rest)
other_is_cut first rest =
    choose (IsCut (first ∷ rest)) (first == 39) _ _
    (λ e. rw (eqb-true first 39 e) (text_is_cut rest (within 39 rest) (within_sound 39 rest)))
    (λ _. choose (IsCut (first ∷ rest)) (first == 34) _ _
    (λ e. rw (eqb-true first 34 e) (delimited_is_cut rest (within 34 rest) (within_sound 34 rest)))
    (λ _. sign_is_cut first rest))

pub cut_is : (text : List ℕ) → IsCut text (cut text)
unfolding cut
cut_is [] = tt
cut_is (first ∷ rest) =
    choose (IsCut (first ∷ rest)) (is_space first) _ _
    (λ e. (first ∷ [], refl, space e))
    (λ _. choose (IsCut (first ∷ rest)) (is_ascii_alphabetic first) _ _
    (λ e. word_is_cut first rest e)
    (λ _. choose (IsCut (first ∷ rest)) (is_ascii_digit first) _ _
    (λ e. numeral_is_cut first rest (numeral_value (front is_word_byte (first ∷ rest))) e refl)
    (λ _. other_is_cut first rest)))

-- a piece has a byte
pub piece_begins : {piece : Piece} {u w : List ℕ} → IsPiece piece u w → 1 ≤ length u
piece_begins (space e) = omega arith
piece_begins (comment e f) = omega arith
piece_begins (word a e f) = omega arith
piece_begins (numeral a e f n) = omega arith
piece_begins (literal h e) = omega arith
piece_begins (delimited h e) = omega arith
piece_begins (symbol_of_one e f) = omega arith
piece_begins (symbol_of_two e) = omega arith
