-- Names written byte by byte.
use Rattle.std.proofs.Common.{◌≡◌, ℕ, zero, suc, ◌<◌, List, [], ◌∷◌, ◌++◌, length, take, drop, get_or, refl, sym, ap, subst, ◌∙◌, append_assoc, arith, Ok, Err}
use Rattle.om_io.specs.Sink.{SinkTold}
use Rattle.om_io.specs.Writing.{Puts}
use Rattle.om_io.proofs.PutsLemmas.{puts_then, puts_stops}
use Rattle.om_io.specs.declared.sink.SinkFail.{SinkFail}
use Rattle.om_table.specs.Escape.{escaped, escaped_byte}

-- a name is the bytes before one of them, that one, and those after it
escaped_split : (name : List ℕ) (i d : ℕ) → i < length name
    → escaped name ≡ (escaped (take i name) ++ escaped_byte (get_or name i d)) ++ escaped (drop (suc i) name)
escaped_split (b ∷ bs) zero d h = refl
escaped_split (b ∷ bs) (suc i) d h =
    ap (λ l. escaped_byte b ++ l) (escaped_split bs i d (omega arith))
    ∙ sym (append_assoc (escaped_byte b) (escaped (take i bs) ++ escaped_byte (get_or bs i d)) (escaped (drop (suc i) bs)))
    ∙ ap (λ l. l ++ escaped (drop (suc i) bs)) (sym (append_assoc (escaped_byte b) (escaped (take i bs)) (escaped_byte (get_or bs i d))))
escaped_split [] i d h = absurd (omega arith)

-- some bytes of a name are written, and then one failed
pub escaped_fail : (old mid new : SinkTold) (name : List ℕ) (i d : ℕ) (fail : SinkFail)
    → i < length name
    → Puts old mid (escaped (take i name)) (Ok tt)
    → Puts mid new (escaped_byte (get_or name i d)) (Err fail)
    → Puts old new (escaped name) (Err fail)
escaped_fail old mid new name i d fail h p q =
    subst (λ l. Puts old new l (Err fail)) (sym (escaped_split name i d h)) (puts_stops _ (puts_then p q))
