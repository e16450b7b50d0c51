-- That writes are judged before they are done, and then done one after another.
use Rattle.std.proofs.Common.{◌≡◌, ℕ, ◌^◌, ◌<◌, List, [], ◌∷◌, length, refl, sym, ap, ◌∙◌}
use Rattle.std.specs.Prelude.{Option, Some, None, Result, Ok, Err, IfErr}
use Rattle.std.specs.Result.{IsOk}
use Rattle.std.specs.FinMap as fin
use Rattle.std.specs.Option.{option_or}
use Rattle.om_log.specs.Chunk.{Chunk, first_and_others}
use Rattle.om_mem.specs.Contents.{Contents, after_write, outside}
use Rattle.om_mem.specs.Pages.{Held, IsKept}
use Rattle.om_mem.specs.declared.region.Region.{Region}
use Rattle.om_mem.specs.declared.writing.WriteOutside.{WriteOutside}
use Rattle.om_mem.proofs.LawLemmas.{kept_same, kept_joined}
use Rattle.om_step.proofs.FrameLemmas.{bytes_elsewhere, write_rights}
use Rattle.om_step.specs.Step.{AreElsewhere, after_writes, outside_of}

same_pair : (a b : Chunk × List Chunk) → Some a ≡ Some b → a ≡ b
same_pair a b is = cc

-- the writes that are left are the first one and the others
first_of_left : (left : List Chunk) (write : Chunk) (others : List Chunk) → Some (write, others) ≡ first_and_others left → left ≡ write ∷ others
first_of_left [] write others is = cc
first_of_left (x ∷ xs) write others is = ap (λ (p : Chunk × List Chunk). p.0 ∷ p.1) (sym (same_pair (write, others) (x, xs) is))

none_left : (left : List Chunk) → ◌≡◌ {A = Option (Chunk × List Chunk)} None (first_and_others left) → left ≡ []
none_left [] is = refl
none_left (x ∷ xs) is = cc

-- ---- judging

-- the first write has a byte outside
pub judge_stop : (regions : List Region) (left : List Chunk) (write : Chunk) (others : List Chunk) (address : ℕ)
    → Some (write, others) ≡ first_and_others left → Some address ≡ outside regions write.addr (length write.bytes)
    → Some address ≡ outside_of regions left
unfolding outside_of
judge_stop regions left write others address first is =
    rw (first_of_left left write others first) (ap (λ (o : Option ℕ). option_or o (outside_of regions others)) is)

-- the first write has none
pub judge_on : (regions : List Region) (left : List Chunk) (write : Chunk) (others : List Chunk)
    → Some (write, others) ≡ first_and_others left → None ≡ outside regions write.addr (length write.bytes)
    → outside_of regions others ≡ outside_of regions left
unfolding outside_of
judge_on regions left write others first is =
    rw (first_of_left left write others first) (ap (λ (o : Option ℕ). option_or o (outside_of regions others)) is)

-- no write is left
pub judge_over : (regions : List Region) (left : List Chunk) → ◌≡◌ {A = Option (Chunk × List Chunk)} None (first_and_others left)
    → ◌≡◌ {A = Option ℕ} None (outside_of regions left)
unfolding outside_of
judge_over regions left none = rw (none_left left none) refl

-- ---- doing

first_none : (first rest : Option ℕ) → option_or first rest ≡ None → first ≡ None
first_none None rest is = refl
first_none (Some a) rest is = cc

rest_none : (first rest : Option ℕ) → option_or first rest ≡ None → rest ≡ None
rest_none None rest is = is
rest_none (Some a) rest is = cc

-- of writes that are inside, the first one is
pub first_inside : (regions : List Region) (left : List Chunk) (write : Chunk) (others : List Chunk)
    → Some (write, others) ≡ first_and_others left → outside_of regions left ≡ None → outside regions write.addr (length write.bytes) ≡ None
unfolding outside_of
first_inside regions left write others first is =
    first_none (outside regions write.addr (length write.bytes)) (outside_of regions others) (rw (first_of_left left write others first) at is)

-- and so are the others
rest_inside : (regions : List Region) (chunk : Chunk) (chunks : List Chunk) → outside_of regions (chunk ∷ chunks) ≡ None
    → outside_of regions chunks ≡ None
unfolding outside_of
rest_inside regions chunk chunks is = rest_none (outside regions chunk.addr (length chunk.bytes)) (outside_of regions chunks) is

-- a write that is inside is done
pub write_done : (regions : List Region) (write : Chunk) (result : Result (Unit {0}) WriteOutside) → outside regions write.addr (length write.bytes) ≡ None
    → IfErr result (λ e. outside regions write.addr (length write.bytes) ≡ Some e.addr) → IsOk result
write_done regions write (Ok done) inside fault = refl
write_done regions write (Err e) inside fault = cc

-- the writes up to those that are left were done
pub record Doing (before : Held) (writes : List Chunk) (now : Held) (left : List Chunk) : Type 0 where
  pub inside : outside_of now.contents.regions left ≡ None
  pub contents : after_writes now.contents left ≡ after_writes before.contents writes
  pub kept : IsKept before now
  pub elsewhere : (a : ℕ) → AreElsewhere writes a → AreElsewhere left a
  pub bytes : (a : ℕ) → AreElsewhere writes a → fin.get now.contents.bytes a ≡ fin.get before.contents.bytes a
  pub rights : now.contents.regions ≡ before.contents.regions

pub do_start : (before : Held) (writes : List Chunk) → outside_of before.contents.regions writes ≡ None → Doing before writes before writes
do_start before writes inside = record {
  inside = inside;
  contents = refl;
  kept = kept_same before;
  elsewhere = λ a are. are;
  bytes = λ a are. refl;
  rights = refl;
}

-- the next one was done
pub do_more : (before : Held) (writes : List Chunk) (now : Held) (left : List Chunk) (write : Chunk) (others : List Chunk) (later : Held)
    → Some (write, others) ≡ first_and_others left → write.addr < 2 ^ 32
    → later.contents ≡ after_write now.contents write.addr write.bytes → IsKept now later
    → Doing before writes now left → Doing before writes later others
unfolding after_writes
do_more before writes now left write others later first small is kept so =
    let split = first_of_left left write others first in
    let regions : later.contents.regions ≡ now.contents.regions =
    ap (λ (c : Contents). c.regions) is ∙ write_rights now.contents write.addr write.bytes in
    let elsewhere : (a : ℕ) → AreElsewhere writes a → AreElsewhere (write ∷ others) a = λ a are. rw split at (so.elsewhere a are) in
    record {
      inside = rw regions (rest_inside now.contents.regions write others (rw split at so.inside));
      contents = ap (λ (c : Contents). after_writes c others) is ∙ rw split at so.contents;
      kept = kept_joined before now later so.kept kept;
      elsewhere = λ a are. (elsewhere a are).1;
      bytes = λ a are. ap (λ (c : Contents). fin.get c.bytes a) is
          ∙ bytes_elsewhere now.contents write.addr write.bytes a small (elsewhere a are).0 ∙ so.bytes a are;
      rights = regions ∙ so.rights;
    }

-- all were done
pub do_over : (before : Held) (writes : List Chunk) (now : Held) (left : List Chunk) → ◌≡◌ {A = Option (Chunk × List Chunk)} None (first_and_others left)
    → Doing before writes now left → now.contents ≡ after_writes before.contents writes
unfolding after_writes
do_over before writes now left none so = rw (none_left left none) at so.contents
