-- Cutting a text piece after piece, and that there is one way to do it: to its end, or to bytes that begin no piece.
use Rattle.std.proofs.Common.{◌≡◌, ℕ, zero, suc, ◌+◌, ◌-◌, ◌<◌, ◌≤◌, List, [], ◌∷◌, ◌++◌, length, Some, None, refl, sym, ap, subst, ◌∙◌, arith, ◌⊎◌, inl, inr}
use Rattle.std.proofs.lemmas.List.{length-append}
use Rattle.om_token.specs.declared.token.Kind.{Kind}
use Rattle.om_token.specs.declared.token.Piece.{Piece}
use Rattle.om_token.specs.declared.token.Piece.TheVariants as p
use Rattle.om_token.specs.declared.token.Token.{Token}
use Rattle.om_token.specs.Tokens.{IsPiece, with_piece, Splits, end, next, AreTokens, BeginsNone}
use Rattle.om_token.specs.Cutting.{Cut, cut}
use Rattle.om_token.proofs.PieceLaws.{cut_complete, cut_is, IsCut, piece_begins}

-- ---- one more piece

pub splits_length : {at : ℕ} {text : List ℕ} {tokens : List Token} {stop : ℕ} {rest : List ℕ} → Splits at text tokens stop rest → at + length text ≡ stop + length rest
splits_length end = refl
splits_length (next {at = at} {spelling = u} {following = w} h more) =
    let e = splits_length more in omega (arith, length-append u w, e)

with_piece-append : (at : ℕ) (piece : Piece) (tokens more : List Token) → with_piece at piece tokens ++ more ≡ with_piece at piece (tokens ++ more)
with_piece-append at p.Blank tokens more = refl
with_piece-append at (p.Token kind) tokens more = refl

splits_more : {at : ℕ} {text : List ℕ} {tokens : List Token} {stop : ℕ} {rest : List ℕ} → Splits at text tokens stop rest
    → (piece : Piece) (u w : List ℕ) → rest ≡ u ++ w → IsPiece piece u w → Splits at text (tokens ++ with_piece stop piece []) (stop + length u) w
splits_more (end {at = at}) piece u w e h = rw e (next h end)
splits_more {stop = stop} (next {at = at} {piece = first} {spelling = v} {following = x} {tokens = tokens} g more) piece u w e h =
    rw (with_piece-append at first tokens (with_piece stop piece [])) (next g (splits_more more piece u w e h))

-- the tokens of a text before a rest of it
abbrev pub UpTo : List ℕ → List Token → List ℕ → Type 0
UpTo text tokens rest = Splits 0 text tokens (length text - length rest) rest

pub up_to_none : (text : List ℕ) → UpTo text [] text
up_to_none text = let e : length text - length text ≡ 0 = omega arith in rw e end

pub up_to_piece : (text : List ℕ) (tokens : List Token) (rest : List ℕ) (piece : Piece) (after : List ℕ) → UpTo text tokens rest → cut rest ≡ Some (piece, after)
    → UpTo text (tokens ++ with_piece (length text - length rest) piece []) after
up_to_piece text tokens rest piece after h e =
    let c : IsCut rest (Some (piece, after)) = subst (IsCut rest) e (cut_is rest) in
    let n = splits_length h in
    let same : length text - length rest + length c.0 ≡ length text - length after = omega (arith, n, length-append c.0 after, ap length c.1) in
    subst (λ (stop : ℕ). Splits 0 text (tokens ++ with_piece (length text - length rest) piece []) stop after) same (splits_more h piece c.0 after c.1 c.2)

pub cut_shorter : (rest : List ℕ) (piece : Piece) (after : List ℕ) → cut rest ≡ Some (piece, after) → length after < length rest
cut_shorter rest piece after e =
    let c : IsCut rest (Some (piece, after)) = subst (IsCut rest) e (cut_is rest) in
    omega (arith, piece_begins c.2, length-append c.0 after, ap length c.1)

pub up_to_blank : (text : List ℕ) (tokens : List Token) (rest : List ℕ) (after : List ℕ) → UpTo text tokens rest → cut rest ≡ Some (p.Blank, after) → UpTo text tokens after
up_to_blank text tokens rest after h e =
    subst (λ (l : List Token). UpTo text l after) (Rattle.std.proofs.lemmas.List.append-nil tokens) (up_to_piece text tokens rest p.Blank after h e)

pub up_to_token : (text : List ℕ) (tokens : List Token) (rest : List ℕ) (kind : Kind) (after : List ℕ) → UpTo text tokens rest → cut rest ≡ Some (p.Token kind, after)
    → UpTo text (tokens ++ record { at = length text - length rest; kind = kind } ∷ []) after
up_to_token text tokens rest kind after h e = up_to_piece text tokens rest (p.Token kind) after h e

pub up_to_all : (text : List ℕ) (tokens : List Token) → UpTo text tokens [] → AreTokens text tokens
up_to_all text tokens h = let e : length text - 0 ≡ length text = omega arith in subst (λ (stop : ℕ). Splits 0 text tokens stop []) e h

-- ---- no piece

none_there : (rest : List ℕ) → cut rest ≡ None → (piece : Piece) (u w : List ℕ) → rest ≡ u ++ w → IsPiece piece u w → ⊥
none_there rest e piece u w split h =
    let f : cut rest ≡ Some (piece, w) = ap cut split ∙ cut_complete h in
    cc

pub up_to_bad : (text : List ℕ) (tokens : List Token) (rest : List ℕ) → UpTo text tokens rest → 0 < length rest → cut rest ≡ None → BeginsNone text (length text - length rest)
up_to_bad text tokens [] h l e = absurd (omega arith)
up_to_bad text tokens (byte ∷ bytes) h l e = record { tokens = tokens; byte = byte; bytes = bytes; before = h; none = none_there (byte ∷ bytes) e }

-- ---- one way to cut

-- no piece begins here
abbrev pub IsStuck : List ℕ → Type 0
IsStuck rest = (piece : Piece) (u w : List ℕ) → rest ≡ u ++ w → IsPiece piece u w → ⊥

pub stuck_at_end : IsStuck []
stuck_at_end piece u w e h = absurd (omega (arith, piece_begins h, length-append u w, ap length e))

-- how a text that is split begins
record Begun (at : ℕ) (text : List ℕ) (tokens : List Token) (stop : ℕ) (rest : List ℕ) : Type 0 where
  first : Piece
  u : List ℕ
  w : List ℕ
  others : List Token
  split : text ≡ u ++ w
  is : IsPiece first u w
  more : Splits (at + length u) w others stop rest
  made : with_piece at first others ≡ tokens

begun : {at : ℕ} {text : List ℕ} {tokens : List Token} {stop : ℕ} {rest : List ℕ} → Splits at text tokens stop rest
    → (([] ≡ tokens) × (at ≡ stop) × (text ≡ rest)) ⊎ Begun at text tokens stop rest
begun end = inl (refl, refl, refl)
begun (next {piece = first} {spelling = u} {following = w} {tokens = others} h more) =
    inr (record { first = first; u = u; w = w; others = others; split = refl; is = h; more = more; made = refl })

-- two pieces at the front of one text are one
record SamePiece (a b : Piece) (u v w x : List ℕ) : Type 0 where
  piece : a ≡ b
  following : w ≡ x
  len : length u ≡ length v

same_piece : {a b : Piece} {u v w x : List ℕ} → IsPiece a u w → IsPiece b v x → u ++ w ≡ v ++ x → SamePiece a b u v w x
same_piece {a} {b} {u} {v} {w} {x} h g e =
    let same : Some (a, w) ≡ Some (b, x) = sym (cut_complete h) ∙ ap cut e ∙ cut_complete g in
    let both : (a, w) ≡ (b, x) = cc in
    let after : w ≡ x = ap (λ (y : Piece × List ℕ). y.1) both in
    record {
      piece = ap (λ (y : Piece × List ℕ). y.0) both;
      following = after;
      len = omega (arith, ap length e, ap length after, length-append u w, length-append v x);
    }

abbrev Same : List Token → List Token → ℕ → ℕ → List ℕ → List ℕ → Type 0
Same a b m n v w = (a ≡ b) × (m ≡ n) × (v ≡ w)

pub splits_same : {at : ℕ} {text : List ℕ} {a : List Token} {m : ℕ} {v : List ℕ} → Splits at text a m v → IsStuck v
    → (b : List Token) (n : ℕ) (w : List ℕ) → Splits at text b n w → IsStuck w → Same a b m n v w
splits_same (end {at = at} {text = text}) s b n w g t = go (begun g)
  where
    go : (([] ≡ b) × (at ≡ n) × (text ≡ w)) ⊎ Begun at text b n w → Same [] b at n text w
    go (inl x) = x
    go (inr x) = absurd (s x.first x.u x.w x.split x.is)
splits_same (next {at = at} {piece = first} {spelling = u} {following = following} {tokens = tokens} {stop = m} {rest = v} h more) s b n w g t =
    go (begun g) (splits_same more s)
  where
    go : (([] ≡ b) × (at ≡ n) × (u ++ following ≡ w)) ⊎ Begun at (u ++ following) b n w
        → ((b : List Token) (n : ℕ) (w : List ℕ) → Splits (at + length u) following b n w → IsStuck w → Same tokens b m n v w)
        → Same (with_piece at first tokens) b m n v w
    go (inl x) again = absurd (t first u following (sym x.2) h)
    go (inr x) again =
        let same = same_piece h x.is x.split in
        let moved = subst (λ (k : ℕ). Splits (at + k) following x.others n w) (sym same.len) (subst (λ (l : List ℕ). Splits (at + length x.u) l x.others n w) (sym same.following) x.more) in
        let others = again x.others n w moved t in
        (ap (λ (y : Piece). with_piece at y tokens) same.piece ∙ ap (λ (l : List Token). with_piece at x.first l) others.0 ∙ x.made, others.1, others.2)

pub one_token_list : (text : List ℕ) (a b : List Token) → AreTokens text a → AreTokens text b → a ≡ b
one_token_list text a b h g = (splits_same h stuck_at_end b (length text) [] g stuck_at_end).0

pub one_bad_place : (text : List ℕ) (m n : ℕ) → BeginsNone text m → BeginsNone text n → m ≡ n
one_bad_place text m n h g = (splits_same h.before h.none g.tokens n (g.byte ∷ g.bytes) g.before g.none).1

pub not_both_cut : (text : List ℕ) (tokens : List Token) (at : ℕ) → AreTokens text tokens → BeginsNone text at → ⊥
not_both_cut text tokens at h g =
    let e : [] ≡ g.byte ∷ g.bytes = (splits_same h stuck_at_end g.tokens at (g.byte ∷ g.bytes) g.before g.none).2 in
    cc

-- ---- some way to cut

-- a text has tokens, or bytes in it begin none
abbrev pub AreTokensOrNone : List ℕ → Type 0
AreTokensOrNone text = ((tokens : List Token) × AreTokens text tokens) ⊎ ((at : ℕ) × BeginsNone text at)

-- one more piece of a rest that is not empty
cut_once : (text : List ℕ) (tokens : List Token) (rest : List ℕ) (found : Cut) → UpTo text tokens rest → 0 < length rest → cut rest ≡ found
    → ((tokens : List Token) (after : List ℕ) → length after < length rest → UpTo text tokens after → AreTokensOrNone text) → AreTokensOrNone text
cut_once text tokens rest None h l e again = inr (length text - length rest, up_to_bad text tokens rest h l e)
cut_once text tokens rest (Some x) h l e again =
    again (tokens ++ with_piece (length text - length rest) x.0 []) x.1 (cut_shorter rest x.0 x.1 e) (up_to_piece text tokens rest x.0 x.1 h e)

-- a rest of at most so many bytes is cut to the end of the text, or to bytes that begin no piece
cut_on : (n : ℕ) (text : List ℕ) (tokens : List Token) (rest : List ℕ) → length rest ≤ n → UpTo text tokens rest → AreTokensOrNone text
cut_on n text tokens [] l h = inl (tokens, up_to_all text tokens h)
cut_on zero text tokens (byte ∷ rest) l h = absurd (omega arith)
cut_on (suc n) text tokens (byte ∷ rest) l h =
    cut_once text tokens (byte ∷ rest) (cut (byte ∷ rest)) h (omega arith) refl (λ tokens after shorter g. cut_on n text tokens after (omega (arith, l, shorter)) g)

pub tokens_or_none : (text : List ℕ) → AreTokensOrNone text
tokens_or_none text = cut_on (length text) text [] text (omega arith) (up_to_none text)
