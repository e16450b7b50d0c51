use Rattle.om_mem.proofs.reading.+number_across.Given as goal

abbrev pub decreases-number_across : goal.decreases-number_across
decreases-number_across l = l.count
