-- What an instruction leaves stands behind it.
use Rattle.std.proofs.Common.{◌≡◌, ℕ, zero, suc, ◌+◌, ◌-◌, ◌≤◌, Bool, true, false, cond, nat_eq, nat_le, List, [], ◌∷◌, length, drop, Ok, Err, refl, sym, ap, subst, ◌∙◌, inl, inr, arith, length-drop}
use Rattle.std.specs.Prelude.{Result, ◌/◌, ◌%◌}
use Rattle.std.specs.Result.{result_map_both}
use Rattle.std.proofs.lemmas.Bool.{cases_lt}
use Rattle.std.proofs.lemmas.List.{drop_all}
use Rattle.om_base.specs.Leb.{uleb_of, sleb_of}
use Rattle.om_base.specs.Reading.{Reader, first_then, second_after, number_of}
use Rattle.om_cfi.specs.Fields.{block, by, fixed, short, signed, skip_of, unsigned}
use Rattle.om_cfi.specs.Instructions.{item_in, items, known, opcode_in, opcodes, or_broken, plain, row_of, says}
use Rattle.om_cfi.specs.declared.fields.Short.{Short}
use Rattle.om_cfi.specs.declared.instruction.Instruction.{Instruction}
use Rattle.om_cfi.specs.declared.instruction.Instruction.TheVariants as i
use Rattle.om_cfi.specs.declared.instruction.Item.{Item}
use Rattle.om_cfi.specs.declared.instruction.Item.TheVariants.{Known, Unknown}
use Rattle.om_cfi.specs.declared.instruction.Offset.TheVariants.{Plain, Scaled}

-- what is left stands at a place
IsBehind : List ℕ → List ℕ → Type 0
IsBehind bytes rest = (n : ℕ) × (rest ≡ drop n bytes)

Keeps : {A E : Type 0} → Reader A E → Type 0
Keeps {A} read = (bytes : List ℕ) (x : A) (rest : List ℕ) → read bytes ≡ Ok (x, rest) → IsBehind bytes rest

-- Ok in one way
rest_in : {A E : Type 0} → Result (A × List ℕ) E → List ℕ
rest_in (Ok x) = x.1
rest_in (Err e) = []

same_rest : {A E : Type 0} (x y : A) (rest tail : List ℕ) → ◌≡◌ {A = Result (A × List ℕ) E} (Ok (x, rest)) (Ok (y, tail)) → rest ≡ tail
unfolding rest_in
same_rest x y rest tail is = ap rest_in is

sized_by : {A E F : Type 0} (g : E → F) (bytes : List ℕ) (got : Result (A × ℕ) E) (x : A) (rest : List ℕ)
    → result_map_both (λ (y : A × List ℕ). y) g (result_map_both (λ (y : A × ℕ). (y.0, drop y.1 bytes)) (λ e. e) got) ≡ Ok (x, rest) → IsBehind bytes rest
unfolding IsBehind
sized_by g bytes (Ok y) x rest is = (y.1, sym (same_rest y.0 x (drop y.1 bytes) rest is))
sized_by g bytes (Err e) x rest is = absurd cc

keeps_fixed : (width : ℕ) → Keeps (fixed width)
unfolding Keeps fixed
keeps_fixed width = λ bytes x rest is. sized_by (λ _. short) bytes (number_of width bytes) x rest is

keeps_unsigned : Keeps unsigned
unfolding Keeps unsigned
keeps_unsigned = λ bytes x rest is. sized_by (λ _. short) bytes (uleb_of bytes) x rest is

keeps_signed : Keeps signed
unfolding Keeps signed
keeps_signed = λ bytes x rest is. sized_by (λ _. short) bytes (sleb_of bytes) x rest is

skip_by : (size : ℕ) (bytes : List ℕ) (b : Bool) (x : ℕ) (rest : List ℕ) → ◌≡◌ {A = Result (ℕ × List ℕ) Short} (cond b (Ok (size, drop size bytes)) (Err short)) (Ok (x, rest)) → IsBehind bytes rest
unfolding IsBehind
skip_by size bytes true x rest is = (size, sym (same_rest size x (drop size bytes) rest is))
skip_by size bytes false x rest is = absurd cc

keeps_skip : (size : ℕ) → Keeps (skip_of size)
unfolding Keeps skip_of
keeps_skip size = λ bytes x rest is. skip_by size bytes (nat_le size (length bytes)) x rest is

drop_twice : (n m : ℕ) (bytes : List ℕ) → drop m (drop n bytes) ≡ drop (n + m) bytes
drop_twice zero m bytes = let e : zero + m ≡ m = omega arith in ap (λ k. drop k bytes) (sym e)
drop_twice (suc n) m [] = drop_all m [] (omega arith) ∙ sym (drop_all (suc n + m) [] (omega arith))
drop_twice (suc n) m (b ∷ bytes) = let e : suc n + m ≡ suc (n + m) = omega arith in drop_twice n m bytes ∙ ap (λ k. drop k (b ∷ bytes)) (sym e)

behind_twice : (bytes rest tail : List ℕ) → IsBehind bytes rest → IsBehind rest tail → IsBehind bytes tail
unfolding IsBehind
behind_twice bytes rest tail (n, is) (m, are) = (n + m, are ∙ ap (drop m) is ∙ drop_twice n m bytes)

then_by : {A B : Type 0} (second : A → Reader B Short) (bytes : List ℕ) (got : Result (A × List ℕ) Short) → ((x : A) (rest : List ℕ) → got ≡ Ok (x, rest) → IsBehind bytes rest) → ((x : A) → Keeps (second x))
    → (y : B) (rest : List ℕ) → second_after second got ≡ Ok (y, rest) → IsBehind bytes rest
unfolding Keeps
then_by second bytes (Ok x) kept keeps y rest is = behind_twice bytes x.1 rest (kept x.0 x.1 refl) (keeps x.0 x.1 y rest is)
then_by second bytes (Err e) kept keeps y rest is = absurd cc

keeps_then : {A B : Type 0} (first : Reader A Short) (second : A → Reader B Short) → Keeps first → ((x : A) → Keeps (second x)) → Keeps (first_then first second)
unfolding Keeps
keeps_then first second kept keeps = λ bytes y rest is. then_by second bytes (first bytes) (λ x rest got. kept bytes x rest got) keeps y rest is

says_by : {A B : Type 0} (value : A → B) (bytes : List ℕ) (got : Result (A × List ℕ) Short) → ((x : A) (rest : List ℕ) → got ≡ Ok (x, rest) → IsBehind bytes rest)
    → (y : B) (rest : List ℕ) → result_map_both {U = B × List ℕ} (λ (x : A × List ℕ). (value x.0, x.1)) (λ e. e) got ≡ Ok (y, rest) → IsBehind bytes rest
says_by value bytes (Ok x) kept y rest is = subst (IsBehind bytes) (same_rest (value x.0) y x.1 rest is) (kept x.0 x.1 refl)
says_by value bytes (Err e) kept y rest is = absurd cc

keeps_by : {A B : Type 0} (value : A → B) (read : Reader A Short) → Keeps read → Keeps (by value read)
unfolding Keeps
keeps_by value read kept = λ bytes y rest is. says_by value bytes (read bytes) (λ x rest got. kept bytes x rest got) y rest is

keeps_block : Keeps block
unfolding block
keeps_block = keeps_then unsigned skip_of keeps_unsigned keeps_skip

keeps_plain : (instruction : Instruction) → Keeps (plain instruction)
unfolding Keeps IsBehind
keeps_plain instruction = λ bytes x rest is. (0, sym (same_rest (Known instruction) x bytes rest is))

-- each row keeps
RowsKeep : List (ℕ × Reader Item Short) → Type 0
RowsKeep [] = Unit {0}
RowsKeep (row ∷ rows) = Keeps row.1 × RowsKeep rows

none_behind : (bytes : List ℕ) → IsBehind bytes []
unfolding IsBehind
none_behind bytes = (length bytes, sym (drop_all (length bytes) bytes (omega arith)))

row_by : (read other : Reader Item Short) (b : Bool) (bytes : List ℕ) (x : Item) (rest : List ℕ) → Keeps read → Keeps other → cond b (read bytes) (other bytes) ≡ Ok (x, rest) → IsBehind bytes rest
unfolding Keeps
row_by read other true bytes x rest keeps kept is = keeps bytes x rest is
row_by read other false bytes x rest keeps kept is = kept bytes x rest is

keeps_row : (rows : List (ℕ × Reader Item Short)) (opcode : ℕ) → RowsKeep rows → Keeps (row_of rows opcode)
unfolding Keeps RowsKeep
keeps_row [] opcode keep = λ bytes x rest is. subst (IsBehind bytes) (same_rest Unknown x [] rest is) (none_behind bytes)
keeps_row (row ∷ rows) opcode keep = λ bytes x rest is. row_by row.1 (row_of rows opcode) (nat_eq row.0 opcode) bytes x rest keep.0 (keeps_row rows opcode keep.1) is

skips : {A : Type 0} (read : Reader A Short) → Keeps read → Keeps (says (λ _. i.Nothing) read)
skips read kept = keeps_by (λ _. Known i.Nothing) read kept

pair : {A : Type 0} (value : ℕ → A → Instruction) (read : Reader A Short) → Keeps read → Keeps (first_then unsigned (λ n. says (value n) read))
pair value read kept = keeps_then unsigned (λ n. says (value n) read) keeps_unsigned (λ n. keeps_by (λ x. Known (value n x)) read kept)

all_keep : RowsKeep opcodes
unfolding RowsKeep
all_keep = (
  keeps_plain i.Nothing,
  (
    keeps_by (λ n. Known (i.SetLocation n)) (fixed 4) (keeps_fixed 4),
    (
      keeps_by (λ n. Known (i.Advance n)) (fixed 1) (keeps_fixed 1),
      (
        keeps_by (λ n. Known (i.Advance n)) (fixed 2) (keeps_fixed 2),
        (
          keeps_by (λ n. Known (i.Advance n)) (fixed 4) (keeps_fixed 4),
          (
            pair (λ _ _. i.Nothing) unsigned keeps_unsigned,
            (
              skips unsigned keeps_unsigned,
              (
                skips unsigned keeps_unsigned,
                (
                  skips unsigned keeps_unsigned,
                  (
                    pair (λ _ _. i.Nothing) unsigned keeps_unsigned,
                    (
                      keeps_plain i.Save,
                      (
                        keeps_plain i.Restore,
                        (
                          pair (λ r n. i.Define r (Plain n)) unsigned keeps_unsigned,
                          (
                            keeps_by (λ n. Known (i.Register n)) unsigned keeps_unsigned,
                            (
                              keeps_by (λ n. Known (i.Offset (Plain n))) unsigned keeps_unsigned,
                              (
                                keeps_by (λ _. Known i.Forget) block keeps_block,
                                (
                                  pair (λ _ _. i.Nothing) block keeps_block,
                                  (
                                    pair (λ _ _. i.Nothing) signed keeps_signed,
                                    (
                                      pair (λ r z. i.Define r (Scaled z)) signed keeps_signed,
                                      (
                                        keeps_by (λ z. Known (i.Offset (Scaled z))) signed keeps_signed,
                                        (
                                          pair (λ _ _. i.Nothing) unsigned keeps_unsigned,
                                          (
                                            pair (λ _ _. i.Nothing) signed keeps_signed,
                                            (pair (λ _ _. i.Nothing) block keeps_block, tt),
                                          ),
                                        ),
                                      ),
                                    ),
                                  ),
                                ),
                              ),
                            ),
                          ),
                        ),
                      ),
                    ),
                  ),
                ),
              ),
            ),
          ),
        ),
      ),
    ),
  ),
)

keeps_opcode : (opcode : ℕ) → Keeps (opcode_in opcode)
unfolding opcode_in
keeps_opcode opcode = keeps_row opcodes opcode all_keep

keeps_known : (opcode : ℕ) → Keeps (known opcode)
unfolding Keeps known
keeps_known opcode = λ bytes x rest is. by_high (nat_eq (opcode / 64) 0) (nat_eq (opcode / 64) 1) (nat_eq (opcode / 64) 2) bytes x rest is
  where
    by_high : (a b c : Bool) (bytes : List ℕ) (x : Item) (rest : List ℕ)
        → cond a (opcode_in opcode bytes) (cond b (plain (i.Advance (opcode % 64)) bytes) (cond c (says (λ _. i.Nothing) unsigned bytes) (plain i.Nothing bytes))) ≡ Ok (x, rest) → IsBehind bytes rest
    by_high true b c bytes x rest is = keeps_opcode opcode bytes x rest is
    by_high false true c bytes x rest is = keeps_plain (i.Advance (opcode % 64)) bytes x rest is
    by_high false false true bytes x rest is = skips unsigned keeps_unsigned bytes x rest is
    by_high false false false bytes x rest is = keeps_plain i.Nothing bytes x rest is

broken_by : (bytes : List ℕ) (got : Result (Item × List ℕ) Short) → ((x : Item) (rest : List ℕ) → got ≡ Ok (x, rest) → IsBehind bytes rest) → IsBehind bytes (or_broken got).1
broken_by bytes (Ok x) kept = kept x.0 x.1 refl
broken_by bytes (Err e) kept = none_behind bytes

item_behind : (opcode : ℕ) (bytes : List ℕ) → IsBehind bytes (item_in opcode bytes).1
unfolding Keeps item_in
item_behind opcode bytes = broken_by bytes (known opcode bytes) (keeps_known opcode bytes)

-- ---- the instructions in some bytes

items_drop : (n : ℕ) (bytes : List ℕ) → items n bytes ≡ items 0 (drop n bytes)
unfolding items
items_drop zero bytes = refl
items_drop (suc n) [] = ap (items 0) (sym (drop_all (suc n) [] (omega arith)))
items_drop (suc n) (b ∷ bytes) = items_drop n bytes

rest_by : (bytes rest : List ℕ) → IsBehind bytes rest → drop (length bytes - length rest) bytes ≡ rest
unfolding IsBehind
rest_by bytes rest (n, is) =
    elim (cases_lt (length bytes) n) [
      | inl past ↦ let none : rest ≡ [] = is ∙ drop_all n bytes (omega arith) in rw none (drop_all (length bytes - 0) bytes (omega arith))
      | inr within ↦ let size : length rest ≡ length bytes - n = ap length is ∙ length-drop n bytes in let same : length bytes - length rest ≡ n = omega arith in ap (λ k. drop k bytes) same ∙ sym is
    ]

-- the instructions behind the first
pub items_next : (byte : ℕ) (bytes : List ℕ) → items 0 (byte ∷ bytes) ≡ (item_in byte bytes).0 ∷ items 0 (item_in byte bytes).1
unfolding items
items_next byte bytes =
    ap (λ is. (item_in byte bytes).0 ∷ is) (items_drop (length bytes - length (item_in byte bytes).1) bytes ∙ ap (items 0) (rest_by bytes (item_in byte bytes).1 (item_behind byte bytes)))

shorter_by : (bytes rest : List ℕ) → IsBehind bytes rest → length rest ≤ length bytes
unfolding IsBehind
shorter_by bytes rest (n, is) = omega (arith, ap length is ∙ length-drop n bytes)

pub item_shorter : (byte : ℕ) (bytes : List ℕ) → length (item_in byte bytes).1 ≤ length bytes
item_shorter byte bytes = shorter_by bytes (item_in byte bytes).1 (item_behind byte bytes)
