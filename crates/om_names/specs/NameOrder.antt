-- The order of names as keys: shorter ones first, and of one length by their bytes.
use Rattle.std.specs.Prelude.{◌≡◌, ℕ, List, length, bytes_eq}
use Rattle.std.proofs.Common.{sym, ap, ◌∙◌, true≢false}
use Rattle.std.specs.Ordering.{as_partial_cmp, eq_by_cmp, is_eq, nat_cmp, on, ordering_then, then_cmp}
use Rattle.std.specs.declared.cmp.Ordering.{Ordering}
use Rattle.std.specs.declared.cmp.Ordering.TheVariants.{Less, Equal, Greater}
use Rattle.std.specs.Cmp.{Equal-is, IsPartialOrder, IsTotalOrder, nat_cmp_total, on_total, po, tied_itself, then_total}
use Rattle.std.specs.Cmp.Lexicographic.{bytes_decides, nat_list_cmp_total, slice_cmp, texts_ties}
use Rattle.std.specs.Bool.{one_answer}

abbrev pub name_cmp : List ℕ → List ℕ → Ordering
name_cmp = then_cmp (on length nat_cmp) (slice_cmp nat_cmp)

pub name_total : IsTotalOrder name_cmp
name_total = then_total (on_total length nat_cmp_total) nat_list_cmp_total

then_second : (r s : Ordering) → ordering_then r s ≡ Equal → s ≡ Equal
then_second Less s e = absurd (true≢false (sym (ap is_eq e)))
then_second Equal s e = e
then_second Greater s e = absurd (true≢false (sym (ap is_eq e)))

-- names are as high exactly where they are the same
pub name_ties : (x y : List ℕ) → bytes_eq x y ≡ eq_by_cmp name_cmp x y
name_ties x y =
    one_answer (bytes_eq x y) (eq_by_cmp name_cmp x y) (
      λ same. ap (λ z. name_cmp x z) (sym ((bytes_decides x y).0 same)) ∙ tied_itself name_total x,
      λ tied. texts_ties x y ∙ (Equal-is (slice_cmp nat_cmp x y)).1 (then_second (nat_cmp (length x) (length y)) (slice_cmp nat_cmp x y) tied),
    )
    (Equal-is (name_cmp x y))

pub name_po : IsPartialOrder bytes_eq (as_partial_cmp name_cmp)
name_po = po name_total name_ties
