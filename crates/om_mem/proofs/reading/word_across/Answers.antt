use Rattle.std.proofs.Common.{sym, ◌∙◌}
use Rattle.om_mem.proofs.PageLemmas.{regions-laid}
use Rattle.om_mem.proofs.SpotLemmas.{fetched-none, fetched-loaded}
use Rattle.om_mem.proofs.reading.word_across.Goals as goal

pub returns-then-not-may_all : goal.returns-then-not-may_all
returns-then-not-may_all c =
    sym (fetched-none _ c.args.address (rw (regions-laid c.args.regions.now c.args.bytes.now) (sym c.may_all.ensures ∙ c.if-not-may_all.true)))

pub returns : goal.returns
returns c =
    c.number_across.ensures.value
    ∙ sym (fetched-loaded _ c.args.address (rw (regions-laid c.args.regions.now c.args.bytes.now) (sym c.may_all.ensures ∙ c.if-not-may_all.false)))
