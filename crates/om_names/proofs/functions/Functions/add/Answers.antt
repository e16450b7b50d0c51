use Rattle.std.proofs.Common.{◌≡◌, ℕ, ◌++◌, cond, List, map, Option, ap, sym, ◌∙◌, arith, append-nil}
use Rattle.om_base.specs.declared.span.Span.{Span}
use Rattle.om_die.specs.Constants.{DW_TAG_subprogram}
use Rattle.om_die.specs.declared.die.Die.{Die}
use Rattle.om_names.specs.Names.{name_from}
use Rattle.om_names.specs.declared.names.Names.{Names}
use Rattle.om_names.specs.Ranges.{are_some}
use Rattle.om_names.specs.EntryByEntry.{claims_of, count_by, named_by, named_spans, names_of, spans_by}
use Rattle.om_names.proofs.EntryByEntryLemmas.{count_function, count_other, named_function, named_other}
use Rattle.om_names.proofs.functions.Functions.add.Goals as goal

other : (tag : ℕ) (die : Die) → tag ≡ die.tag → (tag ≡ DW_TAG_subprogram → ⊥) → die.tag ≡ DW_TAG_subprogram → ⊥
other tag die same apart is = apart (same ∙ is)

pub returns-then-die-ne-DW_TAG_SUBPROGRAM-clause-claims : goal.returns-then-die-ne-DW_TAG_SUBPROGRAM-clause-claims
returns-then-die-ne-DW_TAG_SUBPROGRAM-clause-claims c =
    sym (ap (λ named. c.args.self.now.claims ++ claims_of named) (named_other c.args.names.now c.args.section.now c.args.base c.args.die.now (other c.die.inside.tag c.args.die.now (ap (λ (die : Die). die.tag) c.die.view_is) c.if-die-ne-DW_TAG_SUBPROGRAM.true)) ∙ append-nil c.args.self.now.claims)

pub returns-then-die-ne-DW_TAG_SUBPROGRAM-clause-names : goal.returns-then-die-ne-DW_TAG_SUBPROGRAM-clause-names
returns-then-die-ne-DW_TAG_SUBPROGRAM-clause-names c =
    sym (ap (λ named. c.args.self.now.names ++ names_of named) (named_other c.args.names.now c.args.section.now c.args.base c.args.die.now (other c.die.inside.tag c.args.die.now (ap (λ (die : Die). die.tag) c.die.view_is) c.if-die-ne-DW_TAG_SUBPROGRAM.true)) ∙ append-nil c.args.self.now.names)

pub returns-then-die-ne-DW_TAG_SUBPROGRAM-clause-count : goal.returns-then-die-ne-DW_TAG_SUBPROGRAM-clause-count
returns-then-die-ne-DW_TAG_SUBPROGRAM-clause-count c = omega (arith, count_other c.args.section.now c.args.base c.args.die.now (other c.die.inside.tag c.args.die.now (ap (λ (die : Die). die.tag) c.die.view_is) c.if-die-ne-DW_TAG_SUBPROGRAM.true))

-- the ranges of a subprogram with its name
all_named : (names : Names) (section : List ℕ) (base : ℕ) (die : Die) (tag : ℕ) (name : Option (List ℕ)) (spans : List Span) → tag ≡ die.tag → tag ≡ DW_TAG_subprogram → name ≡ name_from names die → spans ≡ spans_by section base die
    → map (named_by name) spans ≡ named_spans names section base die
all_named names section base die tag name spans same is name_is spans_are = rw (name_is, spans_are) (sym (named_function names section base die (sym same ∙ is)))

pub returns-clause-claims : goal.returns-clause-claims
returns-clause-claims c =
    c.in_ok-claim.ensures.claims
    ∙ ap (λ named. c.args.self.now.claims ++ claims_of named)
    (all_named c.args.names.now c.args.section.now c.args.base c.args.die.now c.die.inside.tag c.name_of.result c.as_slice.result.now (ap (λ (die : Die). die.tag) c.die.view_is) c.if-die-ne-DW_TAG_SUBPROGRAM.false c.name_of.ensures
    (c.as_slice.ensures ∙ c.in_ok-spans.ensures))

pub returns-clause-names : goal.returns-clause-names
returns-clause-names c =
    c.in_ok-claim.ensures.names
    ∙ ap (λ named. c.args.self.now.names ++ names_of named)
    (all_named c.args.names.now c.args.section.now c.args.base c.args.die.now c.die.inside.tag c.name_of.result c.as_slice.result.now (ap (λ (die : Die). die.tag) c.die.view_is) c.if-die-ne-DW_TAG_SUBPROGRAM.false c.name_of.ensures
    (c.as_slice.ensures ∙ c.in_ok-spans.ensures))

pub returns-clause-count : goal.returns-clause-count
returns-clause-count c =
    let before : c.claim.new.self.count ≡ c.args.self.now.count = c.in_ok-claim.ensures.count in
    let some : c.count_of.result ≡ count_by c.args.section.now c.args.base c.args.die.now =
    c.count_of.ensures ∙ ap (λ spans. cond (are_some spans) 1 0) (c.as_slice-2.ensures ∙ c.in_ok-spans.ensures)
    ∙ sym (count_function c.args.section.now c.args.base c.args.die.now (sym (ap (λ (die : Die). die.tag) c.die.view_is) ∙ c.if-die-ne-DW_TAG_SUBPROGRAM.false)) in
    omega (arith, before, some)
