-- That putting back a core and pages gives the state that they are of.
use Rattle.std.proofs.Common.{◌≡◌, ◌⊎◌, ℕ, ◌+◌, ◌<◌, ◌≤◌, List, None, nat_eq, true, false, refl, sym, ap, subst, ◌∙◌, arith, inl, inr}
use Rattle.std.specs.Prelude.{Option, unwrap_or}
use Rattle.std.proofs.lemmas.Bool.Decides.{nat_tests}
use Rattle.om_mem.proofs.LawLemmas.{same_pages}
use Rattle.om_mem.specs.Contents.{Contents, IsWhole}
use Rattle.om_mem.specs.Pages.{page_count, page_in}
use Rattle.om_step.specs.Back.{IsBack, IsPut}
use Rattle.om_step.specs.State.{State}
use Rattle.om_step.specs.declared.register_file.Core.{Core}

-- the pages before a place are put, and those from it on are as they were
pub record PutSoFar (before now : Contents) (bytes_at : ℕ → Option (List ℕ)) (next : ℕ) : Type 0 where
  pub regions : now.regions ≡ before.regions
  pub put : (page : ℕ) → page < next → page_in now page ≡ unwrap_or (bytes_at page) (page_in before page)
  pub left : (page : ℕ) → next ≤ page → page_in now page ≡ page_in before page

pub put_start : (before : Contents) (bytes_at : ℕ → Option (List ℕ)) → PutSoFar before before bytes_at 0
put_start before bytes_at = record { regions = refl; put = λ page h. absurd (omega arith); left = λ page h. refl }

page_cases : (page next : ℕ) → page < next + 1 → (page ≡ next) ⊎ (page < next)
page_cases page next h = elim (nat_eq page next) as (λ b. nat_eq page next ≡ b → (page ≡ next) ⊎ (page < next)) [
  | true ↦ λ e. inl (grind (arith, nat_tests))
  | false ↦ λ e. inr (grind (arith, nat_tests))
] refl

-- a page that isn't given was left
pub put_none : (before now : Contents) (bytes_at : ℕ → Option (List ℕ)) (next : ℕ) → bytes_at next ≡ None
    → PutSoFar before now bytes_at next → PutSoFar before now bytes_at (next + 1)
put_none before now bytes_at next given so = record {
  regions = so.regions;
  put = λ page h. elim (page_cases page next h) as (λ _. page_in now page ≡ unwrap_or (bytes_at page) (page_in before page)) [
    | inl same ↦ subst (λ (p : ℕ). page_in now p ≡ unwrap_or (bytes_at p) (page_in before p)) (sym same) (so.left next (omega arith) ∙ ap (λ (o : Option (List ℕ)). unwrap_or o (page_in before next)) (sym given))
    | inr less ↦ so.put page less
  ];
  left = λ page h. so.left page (omega arith);
}

-- behind the last page
pub put_end : (before now : Contents) (bytes_at : ℕ → Option (List ℕ)) (next : ℕ) → page_count before.regions ≤ next → PutSoFar before now bytes_at next → IsPut before now bytes_at
put_end before now bytes_at next over so = record { regions = so.regions; pages = λ page h. so.put page (omega arith) }

-- a state whose core and pages were put is the one that there is
pub put_is : (s : State) (given : Core) (now : Contents) (bytes_at : ℕ → Option (List ℕ)) (target : State) → IsPut s.memory now bytes_at → IsWhole now
    → IsBack s given bytes_at target → ◌≡◌ {A = State} (record { pc = given.pc; registers = given.regs; memory = now }) target
put_is s given now bytes_at target put whole back =
    let memory : now ≡ target.memory =
    same_pages now target.memory whole back.whole (put.regions ∙ sym back.regions) (λ page h. put.pages page (rw (← put.regions) h) ∙ sym (back.pages page (rw (← put.regions) h))) in
    ap (λ (m : Contents). record { pc = given.pc; registers = given.regs; memory = m }) memory
    ∙ ap (λ (c : Core). record { pc = c.pc; registers = c.regs; memory = target.memory }) (sym back.core)
