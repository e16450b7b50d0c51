-- The mistake that is told is the one that is left when all are noted one by one.
use Rattle.std.proofs.Common.{◌≡◌, ℕ, Bool, true, false, ◌&&◌, ◌||◌, nat_eq, nat_lt, nat_le, List, [], ◌∷◌, map, Option, Some, None, Ok, Err, refl, sym, ap, ◌∙◌, arith}
use Rattle.std.specs.Prelude.{if◌then◌else◌}
use Rattle.std.proofs.lemmas.Bool.Decides.{nat_tests}
use Rattle.om_grammar.specs.declared.tree.Query.{Query}
use Rattle.om_value.specs.declared.cond.Cond.{Cond}
use Rattle.om_typing.specs.Mistakes as mistakes
use Rattle.om_typing.specs.Mistakes.{leads, rank, noted, noted_all}
use Rattle.om_typing.specs.Names.{Scope, Variables}
use Rattle.om_typing.specs.Queries.{scope_of, query_mistakes, is_plain}
use Rattle.om_typing.specs.Typing.{judged_by, written_name, conjuncts_in, outputs_from, typed_in, verdict}
use Rattle.om_typing.specs.declared.fault.TypeFault.TheVariants as fault
use Rattle.om_typing.specs.declared.mistake.Foremost.{Foremost}
use Rattle.om_typing.specs.declared.mistake.Mistake.{Mistake}
use Rattle.om_typing.specs.declared.typed.Output.{Output}
use Rattle.om_typing.proofs.FirstLemmas.{IsOrder, foremost, leader, foremost_more, leader_both, foremost_none}

either_by : (p q r s : ℕ) → (nat_lt p q || (nat_eq p q && nat_le r s)) ≡ false → (nat_lt q p || (nat_eq q p && nat_le s r)) ≡ true
either_by p q r s is = grind (arith, nat_tests)

itself_by : (p r : ℕ) → (nat_lt p p || (nat_eq p p && nat_le r r)) ≡ true
itself_by p r = grind (arith, nat_tests)

through_by : (p q o r s t : ℕ) → (nat_lt p q || (nat_eq p q && nat_le r s)) ≡ true → (nat_lt q o || (nat_eq q o && nat_le s t)) ≡ true → (nat_lt p o || (nat_eq p o && nat_le r t)) ≡ true
through_by p q o r s t is also = grind (arith, nat_tests)

mistake_order : IsOrder leads
mistake_order = record {
  either = λ f g is. either_by f.at g.at (rank f.rule) (rank g.rule) is;
  itself = λ f. itself_by f.at (rank f.rule);
  through = λ f g h is also. through_by f.at g.at h.at (rank f.rule) (rank g.rule) (rank h.rule) is also;
}

abbrev only : Option Mistake → Foremost
only found = record { mistake = found }

noted_leader : (found : Option Mistake) (other : Mistake) → noted (only found) other ≡ only (leader leads found (Some other))
noted_leader None other = refl
noted_leader (Some one) other = elim (leads one other) as (λ b. only (Some (if b then one else other)) ≡ only (if b then Some one else Some other)) [ true ↦ refl | false ↦ refl ]

leader_none : (found : Option Mistake) → leader leads found None ≡ found
leader_none None = refl
leader_none (Some one) = refl

all_noted : (found : Option Mistake) (xs : List Mistake) → noted_all (only found) xs ≡ only (leader leads found (foremost leads xs))
all_noted found [] = ap only (sym (leader_none found))
all_noted found (x ∷ xs) =
    ap (λ (f : Foremost). noted_all f xs) (noted_leader found x) ∙ all_noted (leader leads found (Some x)) xs
    ∙ ap only (leader_both leads mistake_order found (Some x) (foremost leads xs) ∙ ap (leader leads found) (sym (foremost_more leads mistake_order x xs)))

-- what is left is the mistake that is told
pub told_is : (xs : List Mistake) → (noted_all (only None) xs).mistake ≡ mistakes.foremost xs
unfolding mistakes.foremost
told_is xs = ap (λ (f : Foremost). f.mistake) (all_noted None xs)

found_is : (catalog : Variables) (query : Query) (found : Foremost) (told : Option Mistake) → found ≡ noted_all (only None) (query_mistakes catalog query) → found.mistake ≡ told → mistakes.foremost (query_mistakes catalog query) ≡ told
found_is catalog query found told noted is = sym (told_is (query_mistakes catalog query)) ∙ ap (λ (f : Foremost). f.mistake) (sym noted) ∙ is

-- a query with a mistake
pub mistaken : (catalog : Variables) (query : Query) (found : Foremost) (told : Mistake) → found ≡ noted_all (only None) (query_mistakes catalog query) → found.mistake ≡ Some told
    → verdict catalog query ≡ Err (fault.Mistaken told)
unfolding verdict
mistaken catalog query found told noted is = ap (λ (m : Option Mistake). judged_by m (if is_plain query then Ok (typed_in catalog query) else Err fault.Unbuilt)) (found_is catalog query found (Some told) noted is)

-- a query with none
pub unmistaken : (catalog : Variables) (query : Query) (found : Foremost) → found ≡ noted_all (only None) (query_mistakes catalog query) → found.mistake ≡ None
    → verdict catalog query ≡ (if is_plain query then Ok (typed_in catalog query) else Err fault.Unbuilt)
unfolding verdict
unmistaken catalog query found noted is = ap (λ (m : Option Mistake). judged_by m (if is_plain query then Ok (typed_in catalog query) else Err fault.Unbuilt)) (found_is catalog query found None noted is)

-- one that asks for too much
pub unbuilt : (catalog : Variables) (query : Query) (plain : Bool) → plain ≡ is_plain query → plain ≡ false → verdict catalog query ≡ (if is_plain query then Ok (typed_in catalog query) else Err fault.Unbuilt)
    → verdict catalog query ≡ Err fault.Unbuilt
unbuilt catalog query plain is isnt told = told ∙ ap (λ (b : Bool). if b then Ok (typed_in catalog query) else Err fault.Unbuilt) (sym is ∙ isnt)

-- what is given is what the query asks, where it has no mistake and asks for no more
pub typed_is : (catalog : Variables) (query : Query) (scope : Scope) (tables : List (List ℕ)) (conjuncts : List Cond) (outputs : List Output)
    → scope ≡ scope_of catalog query → tables ≡ map written_name query.tables → conjuncts ≡ conjuncts_in scope query.filter → outputs ≡ outputs_from scope 1 query.items
    → record { tables = tables; conjuncts = conjuncts; outputs = outputs } ≡ typed_in catalog query
unfolding typed_in
typed_is catalog query scope tables conjuncts outputs scope_is tables_is conjuncts_is outputs_is = rw (tables_is, conjuncts_is, outputs_is, scope_is) refl

-- one that doesn't
pub built : (catalog : Variables) (query : Query) (plain : Bool) (scope : Scope) (tables : List (List ℕ)) (conjuncts : List Cond) (outputs : List Output) → plain ≡ is_plain query → plain ≡ true → verdict catalog query ≡ (if is_plain query then Ok (typed_in catalog query) else Err fault.Unbuilt)
    → scope ≡ scope_of catalog query → tables ≡ map written_name query.tables → conjuncts ≡ conjuncts_in scope query.filter → outputs ≡ outputs_from scope 1 query.items
    → Ok (record { tables = tables; conjuncts = conjuncts; outputs = outputs }) ≡ verdict catalog query
built catalog query plain scope tables conjuncts outputs is plain_is told scope_is tables_is conjuncts_is outputs_is =
    ap Ok (typed_is catalog query scope tables conjuncts outputs scope_is tables_is conjuncts_is outputs_is)
    ∙ sym (told ∙ ap (λ (b : Bool). if b then Ok (typed_in catalog query) else Err fault.Unbuilt) (sym is ∙ plain_is))

-- where nothing is told, there is no mistake
pub no_mistake : (xs : List Mistake) → (noted_all (only None) xs).mistake ≡ None → xs ≡ []
unfolding mistakes.foremost
no_mistake xs is = foremost_none leads mistake_order xs (sym (told_is xs) ∙ is)
