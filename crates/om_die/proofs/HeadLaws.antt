-- Heads of units: what a lawful one says, and that it says the same whatever follows the unit.
use Rattle.std.proofs.Common.{◌≡◌, ℕ, ◌+◌, ◌<◌, ◌≤◌, Bool, true, false, not, ◌&&◌, ◌||◌, leb, ltb, eqb, List, ◌++◌, length, take, drop, Option, None, refl, sym, ap, subst, ◌∙◌, arith, length-append, length-drop, length-take}
use Rattle.std.specs.Option.{option_or}
use Rattle.std.proofs.lemmas.Bool.{eqb-true, eq-eqb, leb-true, le-leb, lt-ltb, ltb-true}
use Rattle.std.proofs.lemmas.List.{drop-append-le, take-append-drop, take-append-le}
use Rattle.om_base.specs.Numbers.{number_at}
use Rattle.om_die.specs.Units.{IsWhole, address_size, debug_abbrev_offset, field, head_fault, is_read, unit_length, unless, version}
use Rattle.om_die.specs.declared.fault.DieFault.{DieFault}

-- ---- fields

pub same_field : (size at : ℕ) (front back : List ℕ) → at + size ≤ length front → field size (front ++ back) at ≡ field size front at
unfolding number_at
same_field size at front back inside =
    let more : at + size ≤ length (front ++ back) = omega (arith, length-append front back) in
    let within : at ≤ length front = omega arith in
    let enough : size ≤ length (drop at front) = omega (arith, length-drop at front) in
    rw (le-leb (at + size) (length (front ++ back)) more, le-leb (at + size) (length front) inside, drop-append-le at front back within, take-append-le size (drop at front) back enough) refl

-- ---- lawful heads

pub record IsLawful (bytes : List ℕ) : Type 0 where
  pub long : 4 ≤ length bytes
  pub narrow : unit_length bytes < 4294967280
  pub whole : 4 + unit_length bytes ≤ length bytes
  pub version : 2 ≤ unit_length bytes
  pub head : is_read bytes ≡ true → 7 ≤ unit_length bytes
  pub address : is_read bytes ≡ true → address_size bytes ≡ 4

kept_first : (kept : Bool) (fault : DieFault) (others : Option DieFault) → option_or (unless kept fault) others ≡ None → (kept ≡ true) × (others ≡ None)
kept_first true fault others e = (refl, e)
kept_first false fault others e = absurd cc

kept_all : (kept : Bool) (fault : DieFault) (others : Option DieFault) → kept ≡ true → others ≡ None → option_or (unless kept fault) others ≡ None
kept_all true fault others is none = none
kept_all false fault others is none = absurd cc

when_read : (read kept : Bool) → (not read || kept) ≡ true → read ≡ true → kept ≡ true
when_read true kept e is = e
when_read false kept e is = absurd cc

if_read : (read kept : Bool) → (read ≡ true → kept ≡ true) → (not read || kept) ≡ true
if_read true kept h = h refl
if_read false kept h = refl

pub lawful : (at : ℕ) (bytes : List ℕ) → head_fault at bytes ≡ None → IsLawful bytes
unfolding head_fault
lawful at bytes e =
    let a = kept_first (leb 4 (length bytes)) _ _ e in
    let b = kept_first (ltb (unit_length bytes) 4294967280) _ _ a.1 in
    let c = kept_first (leb (4 + unit_length bytes) (length bytes)) _ _ b.1 in
    let d = kept_first (leb 2 (unit_length bytes)) _ _ c.1 in
    let f = kept_first (not (is_read bytes) || leb 7 (unit_length bytes)) _ _ d.1 in
    let g = kept_first (not (is_read bytes) || eqb (address_size bytes) 4) _ _ f.1 in
    record {
      long = leb-true 4 (length bytes) a.0;
      narrow = ltb-true (unit_length bytes) 4294967280 b.0;
      whole = leb-true (4 + unit_length bytes) (length bytes) c.0;
      version = leb-true 2 (unit_length bytes) d.0;
      head = λ is. leb-true 7 (unit_length bytes) (when_read (is_read bytes) (leb 7 (unit_length bytes)) f.0 is);
      address = λ is. eqb-true (address_size bytes) 4 (when_read (is_read bytes) (eqb (address_size bytes) 4) g.0 is);
    }

pub faultless : (at : ℕ) (bytes : List ℕ) → IsLawful bytes → head_fault at bytes ≡ None
unfolding head_fault
faultless at bytes is =
    kept_all (leb 4 (length bytes)) _ _ (le-leb 4 (length bytes) is.long)
    (kept_all (ltb (unit_length bytes) 4294967280) _ _ (lt-ltb (unit_length bytes) 4294967280 is.narrow)
    (kept_all (leb (4 + unit_length bytes) (length bytes)) _ _ (le-leb (4 + unit_length bytes) (length bytes) is.whole)
    (kept_all (leb 2 (unit_length bytes)) _ _ (le-leb 2 (unit_length bytes) is.version)
    (kept_all (not (is_read bytes) || leb 7 (unit_length bytes)) _ _ (if_read (is_read bytes) (leb 7 (unit_length bytes)) (λ read. le-leb 7 (unit_length bytes) (is.head read)))
    (kept_all (not (is_read bytes) || eqb (address_size bytes) 4) _ _ (if_read (is_read bytes) (eqb (address_size bytes) 4) (λ read. eq-eqb (address_size bytes) 4 (is.address read)))
    refl)))))

-- ---- a whole unit and what follows it

-- the fields of a unit are the same whatever follows it
pub record HasSameHead (front bytes : List ℕ) : Type 0 where
  pub size : unit_length bytes ≡ unit_length front
  pub version : version bytes ≡ version front
  pub read : is_read bytes ≡ is_read front
  pub offset : is_read front ≡ true → debug_abbrev_offset bytes ≡ debug_abbrev_offset front
  pub address : is_read front ≡ true → address_size bytes ≡ address_size front

pub same_head : (front back : List ℕ) → 6 ≤ length front → (is_read front ≡ true → 11 ≤ length front) → HasSameHead front (front ++ back)
same_head front back some all =
    let same_version : version (front ++ back) ≡ version front = same_field 2 4 front back (omega arith) in
    record {
      size = same_field 4 0 front back (omega arith);
      version = same_version;
      read = ap (λ n. leb 2 n && leb n 4) same_version;
      offset = λ read. let long = all read in same_field 4 6 front back (omega arith);
      address = λ read. let long = all read in same_field 1 10 front back (omega arith);
    }

pub whole_head : (at : ℕ) (front back : List ℕ) → IsWhole at front → HasSameHead front (front ++ back)
whole_head at front back whole =
    let is = lawful at front whole.lawful in
    same_head front back (omega (arith, whole.size, is.version)) (λ read. omega (arith, whole.size, is.head read))

-- where a whole unit stands in front, nothing is wrong with the head
pub whole_front : (at : ℕ) (front back : List ℕ) → IsWhole at front → head_fault at (front ++ back) ≡ None
whole_front at front back whole =
    let is = lawful at front whole.lawful in
    let same = whole_head at front back whole in
    faultless at (front ++ back) (record {
      long = omega (arith, is.long, length-append front back);
      narrow = omega (arith, is.narrow, same.size);
      whole = omega (arith, is.whole, same.size, length-append front back);
      version = omega (arith, is.version, same.size);
      head = λ read. omega (arith, is.head (sym same.read ∙ read), same.size);
      address = λ read. same.address (sym same.read ∙ read) ∙ is.address (sym same.read ∙ read);
    })

-- where nothing is wrong with the head, the unit is cut behind its length
pub whole_cut : (at : ℕ) (bytes : List ℕ) → head_fault at bytes ≡ None → IsWhole at (take (4 + unit_length bytes) bytes) × HasSameHead (take (4 + unit_length bytes) bytes) bytes
whole_cut at bytes e =
    let is = lawful at bytes e in
    let front = take (4 + unit_length bytes) bytes in
    let back = drop (4 + unit_length bytes) bytes in
    let parts : front ++ back ≡ bytes = take-append-drop (4 + unit_length bytes) bytes in
    let size : length front ≡ 4 + unit_length bytes = omega (arith, length-take (4 + unit_length bytes) bytes, is.whole) in
    let early : version (front ++ back) ≡ version front = same_field 2 4 front back (omega (arith, is.version)) in
    let same_version : version bytes ≡ version front = ap (λ (b : List ℕ). version b) (sym parts) ∙ early in
    let same_read : is_read bytes ≡ is_read front = ap (λ n. leb 2 n && leb n 4) same_version in
    let same : HasSameHead front bytes = subst (λ (b : List ℕ). HasSameHead front b) parts (same_head front back (omega (arith, is.version)) (λ read. omega (arith, is.head (same_read ∙ read)))) in (
      record {
        lawful = faultless at front (record {
          long = omega (arith, is.version);
          narrow = omega (arith, is.narrow, same.size);
          whole = omega (arith, same.size);
          version = omega (arith, is.version, same.size);
          head = λ read. omega (arith, is.head (same.read ∙ read), same.size);
          address = λ read. sym (same.address read) ∙ is.address (same.read ∙ read);
        });
        size = omega (arith, same.size);
      },
      same,
    )
