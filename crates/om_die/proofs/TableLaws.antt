-- The entries of an abbreviation table, read one after another.
use Rattle.std.proofs.Common.{◌≡◌, ◌≢◌, ℕ, zero, suc, ◌+◌, ◌<◌, ◌≤◌, Bool, true, false, cond, not, nat_eq, List, [], ◌∷◌, ◌++◌, length, Some, None, Ok, Err, refl, sym, ap, subst, ◌∙◌, append_assoc, length-append, arith}
use Rattle.std.specs.Prelude.{Result}
use Rattle.std.specs.Result.{result_map_both}
use Rattle.std.proofs.lemmas.Bool.{eqb-false, eqb-true, eq-eqb, ne_eqb}
use Rattle.om_base.specs.Leb.{IsUleb}
use Rattle.om_base.specs.Reading.{EachFrom, InTurn, IsNumber, IsReading, Reader, first_then, second_after}
use Rattle.om_base.proofs.ReadingLaws.{append-nil, in_turn, longest_once, ok_is}
use Rattle.om_die.specs.Abbreviations.{AreSpecifications, Entry, IsEntry, IsPair, IsTable}
use Rattle.om_die.specs.Declarations.{IsFront, head_in, pair_in}
use Rattle.om_die.specs.Forms.{capped, form_of}
use Rattle.om_die.specs.Laws.{OneTable, SomeTable}
use Rattle.om_die.specs.Readers.{by}
use Rattle.om_die.specs.declared.abbreviation.Specification.{Specification}
use Rattle.om_die.specs.declared.attributes.Gap.{Gap}
use Rattle.om_die.specs.declared.attributes.Gap.TheVariants as gap
use Rattle.om_die.specs.declared.declaration.Head.{Head}
use Rattle.om_die.proofs.ReaderLemmas.{behind, behind_more, behind_none, behind_ok, front_is, none_fails, same_reads, second_ok, some_reads}
use Rattle.om_die.proofs.ValueLaws.{Spells, by_reads, fixed_reads, unsigned_reads}

-- ---- pairs

some_leb : (text : List ℕ) (n : ℕ) → IsUleb text n → 0 < length text
some_leb [] n is = absurd is.leb
some_leb (b ∷ bs) n is = omega arith

pair_turn : (text : List ℕ) (p : ℕ × ℕ) → InTurn IsUleb (λ name. Spells (λ (form : ℕ). (name, form)) IsUleb) text p → IsPair text p.0 p.1
pair_turn text p it =
    subst (λ q. IsPair text q.0 q.1) (sym it.is_second.2)
    (record { front = it.front; back = it.back; parts = it.parts; first = it.is_first; second = it.is_second.1 })

turn_pair : (text : List ℕ) (p : ℕ × ℕ) → IsPair text p.0 p.1 → InTurn IsUleb (λ name. Spells (λ (form : ℕ). (name, form)) IsUleb) text p
turn_pair text p is = record { first = p.0; front = is.front; back = is.back; parts = is.parts; is_first = is.first; is_second = (p.1, is.second, refl) }

pair_reads : IsReading pair_in (λ text p. IsPair text p.0 p.1)
unfolding pair_in
pair_reads = same_reads pair_turn turn_pair (in_turn unsigned_reads (λ name. by_reads (λ form. (name, form)) unsigned_reads))

some_pair : (text : List ℕ) (name form : ℕ) → IsPair text name form → 0 < length text
some_pair text name form is = omega (arith, some_leb is.front name is.first, ap length is.parts, length-append is.front is.back)

-- ---- lists of attributes

abbrev pub specification : ℕ × ℕ → Specification
specification p = record { name = capped p.0; form = form_of p.1 }

abbrev pub then_others : Reader (List Specification) Gap → ℕ × ℕ → Reader (List Specification) Gap
then_others others p rest = cond (nat_eq (p.0 + p.1) 0) (Ok ([], rest)) (behind (specification p ∷ []) (others rest))

-- at most so many pairs
unfoldable pub specs_in : ℕ → Reader (List Specification) Gap
specs_in zero bytes = Err gap.Short
specs_in (suc most) bytes = second_after (then_others (specs_in most)) (pair_in bytes)

-- no list has more pairs than bytes
abbrev pub list_in : Reader (List Specification) Gap
list_in bytes = specs_in (length bytes) bytes

data Then (last : Bool) (s : Specification) (r : Result (List Specification × List ℕ) Gap) (back : List ℕ) (list : List Specification) (rest : List ℕ) : Type 0 where
  Done : last ≡ true → list ≡ [] → back ≡ rest → Then last s r back list rest
  On : last ≡ false → (others : List Specification) → r ≡ Ok (others, rest) → list ≡ s ∷ others → Then last s r back list rest

then_ok : (last : Bool) (s : Specification) (r : Result (List Specification × List ℕ) Gap) (back : List ℕ) (list : List Specification) (rest : List ℕ)
    → cond last (Ok ([], back)) (behind (s ∷ []) r) ≡ Ok (list, rest) → Then last s r back list rest
then_ok true s r back list rest e =
    let pairs : ([], back) ≡ (list, rest) = ok_is ([], back) (list, rest) e in
    Done refl (sym (ap (λ p. p.0) pairs)) (ap (λ p. p.1) pairs)
then_ok false s r back list rest e = let is = behind_ok (s ∷ []) r list rest e in On refl is.0 is.1 is.2

zeros : (text : List ℕ) (name form : ℕ) → name + form ≡ 0 → IsPair text name form → IsPair text 0 0
zeros text name form none is =
    let no_name : name ≡ 0 = omega arith in
    let no_form : form ≡ 0 = omega arith in
    subst (λ n. IsPair text n 0) no_name (subst (λ n. IsPair text name n) no_form is)

specs_takes : (most : ℕ) (bytes : List ℕ) (list : List Specification) (rest : List ℕ) → specs_in most bytes ≡ Ok (list, rest)
    → (text : List ℕ) × (bytes ≡ text ++ rest) × AreSpecifications text list
unfolding specs_in AreSpecifications
specs_takes zero bytes list rest e = absurd cc
specs_takes (suc most) bytes list rest e =
    let first = second_ok (then_others (specs_in most)) (pair_in bytes) (list, rest) e in
    let p = first.0.0 in
    let one = pair_reads.takes bytes p first.0.1 first.1 in
    elim (then_ok (nat_eq (p.0 + p.1) 0) (specification p) (specs_in most first.0.1) first.0.1 list rest first.2) [
      | Done last none same ↦ (
          let end = zeros one.0 p.0 p.1 (eqb-true (p.0 + p.1) 0 last) one.2 in
          (one.0, one.1 ∙ ap (λ back. one.0 ++ back) same, subst (AreSpecifications one.0) (sym none) end))
      | On more others found is ↦ (
          let later = specs_takes most first.0.1 others rest found in
          let whole : bytes ≡ (one.0 ++ later.0) ++ rest = one.1 ∙ ap (λ back. one.0 ++ back) later.1 ∙ sym (append_assoc one.0 later.0 rest) in
          let all : AreSpecifications (one.0 ++ later.0) (specification p ∷ others) =
          (one.0, later.0, p.0, p.1, refl, one.2, eqb-false (p.0 + p.1) 0 more, refl, later.2) in
          (one.0 ++ later.0, whole, subst (AreSpecifications (one.0 ++ later.0)) (sym is) all))
    ]

some_specs : (text : List ℕ) (list : List Specification) → AreSpecifications text list → 0 < length text
unfolding AreSpecifications
some_specs text [] are = some_pair text 0 0 are
some_specs text (s ∷ ss) are = omega (arith, some_pair are.0 are.2 are.3 are.5, ap length are.4, length-append are.0 are.1)

specs_again : (most : ℕ) (text : List ℕ) (list : List Specification) (rest : List ℕ) → AreSpecifications text list → length text ≤ most
    → specs_in most (text ++ rest) ≡ Ok (list, rest)
unfolding specs_in AreSpecifications
specs_again zero text list rest are few = absurd (omega (arith, some_specs text list are))
specs_again (suc most) text [] rest are few = ap (second_after (then_others (specs_in most))) (pair_reads.again text (0, 0) rest are)
specs_again (suc most) text (s ∷ ss) rest are few =
    let split : text ++ rest ≡ are.0 ++ (are.1 ++ rest) = ap (λ xs. xs ++ rest) are.4 ∙ append_assoc are.0 are.1 rest in
    let first : pair_in (text ++ rest) ≡ Ok ((are.2, are.3), are.1 ++ rest) = ap pair_in split ∙ pair_reads.again are.0 (are.2, are.3) (are.1 ++ rest) are.5 in
    let fewer : length are.1 ≤ most = omega (arith, some_pair are.0 are.2 are.3 are.5, ap length are.4, length-append are.0 are.1) in
    let more : nat_eq (are.2 + are.3) 0 ≡ false = ne_eqb (are.2 + are.3) 0 are.6 in
    ap (second_after (then_others (specs_in most))) first
    ∙ ap (λ last. cond last (Ok ([], are.1 ++ rest)) (behind (specification (are.2, are.3) ∷ []) (specs_in most (are.1 ++ rest)))) more
    ∙ ap (behind (specification (are.2, are.3) ∷ [])) (specs_again most are.1 ss rest are.8 fewer)
    ∙ ap (λ z. Ok (z ∷ ss, rest)) (sym are.7)

pub list_reads : IsReading list_in AreSpecifications
list_reads = record {
  takes = λ bytes list rest e. specs_takes (length bytes) bytes list rest e;
  again = λ text list rest are. specs_again (length (text ++ rest)) text list rest are (omega (arith, length-append text rest));
}

-- ---- the loop over pairs

-- so far a list was read, and goes on with what is left
pub record IsSoFar (bytes : List ℕ) (list : List Specification) (rest : List ℕ) : Type 0 where
  pub most : ℕ
  pub enough : length rest ≤ most
  pub same : list_in bytes ≡ behind list (specs_in most rest)

pub starts : (bytes : List ℕ) → IsSoFar bytes [] bytes
starts bytes = record { most = length bytes; enough = omega arith; same = sym (behind_none (list_in bytes)) }

pub shorter : (rest back : List ℕ) (p : ℕ × ℕ) → pair_in rest ≡ Ok (p, back) → length back < length rest
shorter rest back p e =
    let is = pair_reads.takes rest p back e in
    omega (arith, some_pair is.0 p.0 p.1 is.2, ap length is.1, length-append is.0 back)

on_by : (most : ℕ) (bytes : List ℕ) (list : List Specification) (rest back : List ℕ) (p : ℕ × ℕ) → length rest ≤ most → list_in bytes ≡ behind list (specs_in most rest)
    → pair_in rest ≡ Ok (p, back) → p.0 + p.1 ≢ 0 → IsSoFar bytes (list ++ specification p ∷ []) back
unfolding specs_in
on_by zero bytes list rest back p enough same e some = absurd (omega (arith, shorter rest back p e))
on_by (suc most) bytes list rest back p enough same e some =
    let more : nat_eq (p.0 + p.1) 0 ≡ false = ne_eqb (p.0 + p.1) 0 some in
    let next : specs_in (suc most) rest ≡ behind (specification p ∷ []) (specs_in most back) =
    ap (second_after (then_others (specs_in most))) e
    ∙ ap (λ last. cond last (Ok ([], back)) (behind (specification p ∷ []) (specs_in most back))) more in
    record {
      most = most;
      enough = omega (arith, shorter rest back p e);
      same = same ∙ ap (behind list) next ∙ behind_more list (specification p) (specs_in most back);
    }

pub goes_on : (bytes : List ℕ) (list : List Specification) (rest back : List ℕ) (p : ℕ × ℕ) → IsSoFar bytes list rest → pair_in rest ≡ Ok (p, back) → p.0 + p.1 ≢ 0
    → IsSoFar bytes (list ++ specification p ∷ []) back
goes_on bytes list rest back p far e some = on_by far.most bytes list rest back p far.enough far.same e some

end_by : (most : ℕ) (bytes : List ℕ) (list : List Specification) (rest back : List ℕ) (p : ℕ × ℕ) → length rest ≤ most → list_in bytes ≡ behind list (specs_in most rest)
    → pair_in rest ≡ Ok (p, back) → p.0 + p.1 ≡ 0 → list_in bytes ≡ Ok (list, back)
unfolding specs_in
end_by zero bytes list rest back p enough same e none = absurd (omega (arith, shorter rest back p e))
end_by (suc most) bytes list rest back p enough same e none =
    let end : nat_eq (p.0 + p.1) 0 ≡ true = eq-eqb (p.0 + p.1) 0 none in
    let next : specs_in (suc most) rest ≡ Ok ([], back) =
    ap (second_after (then_others (specs_in most))) e
    ∙ ap (λ last. cond last (Ok ([], back)) (behind (specification p ∷ []) (specs_in most back))) end in
    same ∙ ap (behind list) next ∙ ap (λ ys. Ok (ys, back)) (append-nil list)

pub ends : (bytes : List ℕ) (list : List Specification) (rest back : List ℕ) (p : ℕ × ℕ) → IsSoFar bytes list rest → pair_in rest ≡ Ok (p, back) → p.0 + p.1 ≡ 0
    → IsFront AreSpecifications bytes (Some (list, back))
ends bytes list rest back p far e none = front_is list_reads bytes (Ok (list, back)) (end_by far.most bytes list rest back p far.enough far.same e none)

break_by : (most : ℕ) (rest : List ℕ) (why : Gap) → pair_in rest ≡ Err why → (other : Gap) × (specs_in most rest ≡ Err other)
unfolding specs_in
break_by zero rest why e = (gap.Short, refl)
break_by (suc most) rest why e = (why, ap (second_after (then_others (specs_in most))) e)

pub breaks : (bytes : List ℕ) (list : List Specification) (rest : List ℕ) (why : Gap) → IsSoFar bytes list rest → pair_in rest ≡ Err why
    → IsFront AreSpecifications bytes None
breaks bytes list rest why far e =
    let broken = break_by far.most rest why e in
    front_is list_reads bytes (Err broken.0) (far.same ∙ ap (behind list) broken.1)

-- ---- entries

abbrev head_of : ℕ → ℕ → ℕ → Head
head_of code tag children = record { code = code; tag = capped tag; has_children = not (nat_eq children 0) }

abbrev IsHead : List ℕ → Head → Type 0
IsHead = InTurn IsUleb (λ code. InTurn IsUleb (λ tag. Spells (head_of code tag) (IsNumber 1)))

head_reads : IsReading head_in IsHead
unfolding head_in
head_reads = in_turn unsigned_reads (λ code. in_turn unsigned_reads (λ tag. by_reads (head_of code tag) (fixed_reads 1)))

abbrev pub entry : Head → List Specification → Entry
entry head list = record { code = head.code; abbreviation = record { tag = head.tag; has_children = head.has_children; attributes = list } }

abbrev behind_head : Head → Reader Entry Gap
behind_head head rest = cond (nat_eq head.code 0) (Err gap.Short) (by (entry head) list_in rest)

abbrev IsBehindHead : Head → List ℕ → Entry → Type 0
IsBehindHead head text e = (head.code ≢ 0) × Spells (entry head) AreSpecifications text e

behind_by : (none : Bool) (head : Head) → nat_eq head.code 0 ≡ none → IsReading (λ rest. cond none (Err gap.Short) (by (entry head) list_in rest)) (IsBehindHead head)
behind_by true head zero_is = record {
  takes = λ bytes x rest e. absurd cc;
  again = λ front x rest is. absurd (is.0 (eqb-true head.code 0 zero_is));
}
behind_by false head some = record {
  takes = λ bytes x rest e. let is = (by_reads (entry head) list_reads).takes bytes x rest e in (is.0, is.1, (eqb-false head.code 0 some, is.2));
  again = λ front x rest is. (by_reads (entry head) list_reads).again front x rest is.1;
}

-- a code, a tag, a byte and a list, behind each other
whole_entry : (text front back code more tag children list : List ℕ) → text ≡ front ++ back → front ≡ code ++ more → more ≡ tag ++ children → back ≡ list
    → text ≡ code ++ tag ++ children ++ list
whole_entry text front back code more tag children list text_is front_is_ more_is back_is =
    text_is ∙ ap (λ xs. xs ++ back) (front_is_ ∙ ap (λ xs. code ++ xs) more_is ∙ sym (append_assoc code tag children)) ∙ ap (λ xs. code ++ tag ++ children ++ xs) back_is

turn_entry : (text : List ℕ) (e : Entry) → InTurn IsHead IsBehindHead text e → IsEntry text e
turn_entry text e it =
    let later = it.is_first.is_second in
    let head : it.first ≡ head_of it.is_first.first later.first later.is_second.0 = later.is_second.2 in
    let made : e ≡ entry (head_of it.is_first.first later.first later.is_second.0) it.is_second.1.0 =
    it.is_second.1.2 ∙ ap (λ h. entry h it.is_second.1.0) head in
    subst (IsEntry text) (sym made) (record {
      code = it.is_first.front;
      tag = later.front;
      children = later.back;
      list = it.back;
      parts = whole_entry text it.front it.back it.is_first.front it.is_first.back later.front later.back it.back it.parts it.is_first.parts later.parts refl;
      is_code = it.is_first.is_first;
      nonzero = subst (λ n. n ≢ 0) (ap (λ h. h.code) head) it.is_second.0;
      tag_number = later.first;
      is_tag = later.is_first;
      tag_is = refl;
      children_number = later.is_second.0;
      is_children = later.is_second.1;
      children_are = refl;
      attributes = it.is_second.1.1;
    })

entry_turn : (text : List ℕ) (e : Entry) → IsEntry text e → InTurn IsHead IsBehindHead text e
entry_turn text e is =
    let head = head_of e.code is.tag_number is.children_number in
    let made : e ≡ entry head e.abbreviation.attributes =
    ap (λ t. record { code = e.code; abbreviation = record { tag = t; has_children = e.abbreviation.has_children; attributes = e.abbreviation.attributes } }) is.tag_is
    ∙ ap (λ h. record { code = e.code; abbreviation = record { tag = capped is.tag_number; has_children = h; attributes = e.abbreviation.attributes } }) is.children_are in
    let front : is.code ++ is.tag ++ is.children ≡ is.code ++ (is.tag ++ is.children) = append_assoc is.code is.tag is.children in
    record {
      first = head;
      front = is.code ++ (is.tag ++ is.children);
      back = is.list;
      parts = is.parts ∙ ap (λ xs. xs ++ is.list) front;
      is_first = record {
        first = e.code;
        front = is.code;
        back = is.tag ++ is.children;
        parts = refl;
        is_first = is.is_code;
        is_second = record {
          first = is.tag_number;
          front = is.tag;
          back = is.children;
          parts = refl;
          is_first = is.is_tag;
          is_second = (is.children_number, is.is_children, refl);
        };
      };
      is_second = (is.nonzero, (e.abbreviation.attributes, is.attributes, made));
    }

abbrev entry_in : Reader Entry Gap
entry_in = first_then head_in behind_head

pub entry_reads : IsReading entry_in IsEntry
entry_reads = same_reads turn_entry entry_turn (in_turn head_reads (λ head. behind_by (nat_eq head.code 0) head refl))

pub no_head : (bytes : List ℕ) (why : Gap) → head_in bytes ≡ Err why → IsFront IsEntry bytes None
no_head bytes why e = front_is entry_reads bytes (Err why) (ap (second_after behind_head) e)

pub no_code : (bytes rest : List ℕ) (head : Head) → head_in bytes ≡ Ok (head, rest) → head.code ≡ 0 → IsFront IsEntry bytes None
no_code bytes rest head e none =
    let end : nat_eq head.code 0 ≡ true = eq-eqb head.code 0 none in
    front_is entry_reads bytes (Err gap.Short)
    (ap (second_after behind_head) e ∙ ap (λ last. cond last (Err gap.Short) (by (entry head) list_in rest)) end)

behind_is : (bytes rest : List ℕ) (head : Head) → head_in bytes ≡ Ok (head, rest) → head.code ≢ 0 → entry_in bytes ≡ by (entry head) list_in rest
behind_is bytes rest head e some =
    let more : nat_eq head.code 0 ≡ false = ne_eqb head.code 0 some in
    ap (second_after behind_head) e ∙ ap (λ last. cond last (Err gap.Short) (by (entry head) list_in rest)) more

pub no_list : (bytes rest : List ℕ) (head : Head) → head_in bytes ≡ Ok (head, rest) → head.code ≢ 0 → IsFront AreSpecifications rest None → IsFront IsEntry bytes None
no_list bytes rest head e some none =
    let broken = none_fails list_reads rest none in
    front_is entry_reads bytes (Err broken.0) (behind_is bytes rest head e some ∙ ap (result_map_both (λ x. (entry head x.0, x.1)) (λ why. why)) broken.1)

pub one_entry : (bytes rest back : List ℕ) (head : Head) (list : List Specification) → head_in bytes ≡ Ok (head, rest) → head.code ≢ 0
    → IsFront AreSpecifications rest (Some (list, back)) → IsFront IsEntry bytes (Some (entry head list, back))
one_entry bytes rest back head list e some there =
    let read = some_reads list_reads rest there.0 back list there.1 there.2 in
    front_is entry_reads bytes (Ok (entry head list, back))
    (behind_is bytes rest head e some ∙ ap (result_map_both (λ x. (entry head x.0, x.1)) (λ why. why)) read)

pub some_entry : (text : List ℕ) (e : Entry) → IsEntry text e → 0 < length text
some_entry text e is =
    omega (arith, some_leb is.code e.code is.is_code, ap length is.parts, length-append (is.code ++ is.tag ++ is.children) is.list, length-append (is.code ++ is.tag) is.children, length-append is.code is.tag)

pub one_table : OneTable
one_table bytes xs ys one other =
    (longest_once (λ _. entry_reads) 0 xs ys one.front one.back other.front other.back one.each one.no_more other.each other.no_more (sym one.parts ∙ other.parts)).0

-- what stands at one place may stand at another
each_anywhere : {X : Type 0} (R : List ℕ → X → Type 0) (a b : ℕ) (xs : List X) (text : List ℕ) → EachFrom (λ _. R) a xs text → EachFrom (λ _. R) b xs text
each_anywhere R a b [] text none = none
each_anywhere R a b (x ∷ xs) text each = (each.0, each.1, each.2, each.3, each_anywhere R (a + length each.0) (b + length each.0) xs each.1 each.4)

no_table : (bytes : List ℕ) (why : Gap) → entry_in bytes ≡ Err why → IsTable bytes []
no_table bytes why e = record { front = []; back = bytes; parts = refl; each = refl; no_more = front_is entry_reads bytes (Err why) e }

more_table : (bytes front rest : List ℕ) (e : Entry) (entries : List Entry) → bytes ≡ front ++ rest → IsEntry front e → IsTable rest entries → IsTable bytes (e ∷ entries)
more_table bytes front rest e entries parts is table = record {
  front = front ++ table.front;
  back = table.back;
  parts = parts ∙ ap (λ xs. front ++ xs) table.parts ∙ sym (append_assoc front table.front table.back);
  each = (front, table.front, refl, is, each_anywhere IsEntry 0 (0 + length front) entries table.front table.each);
  no_more = table.no_more;
}

-- at most so many bytes
table_in : (most : ℕ) (bytes : List ℕ) (r : Result (Entry × List ℕ) Gap) → entry_in bytes ≡ r → length bytes ≤ most → (entries : List Entry) × IsTable bytes entries
table_in most bytes (Err why) e few = ([], no_table bytes why e)
table_in zero bytes (Ok (found, rest)) e few =
    let is = entry_reads.takes bytes found rest e in
    absurd (omega (arith, some_entry is.0 found is.2, ap length is.1, length-append is.0 rest))
table_in (suc most) bytes (Ok (found, rest)) e few =
    let is = entry_reads.takes bytes found rest e in
    let fewer : length rest ≤ most = omega (arith, some_entry is.0 found is.2, ap length is.1, length-append is.0 rest) in
    let later = table_in most rest (entry_in rest) refl fewer in
    (found ∷ later.0, more_table bytes is.0 rest found later.0 is.1 is.2 later.1)

pub some_table : SomeTable
some_table bytes = table_in (length bytes) bytes (entry_in bytes) refl (omega arith)
