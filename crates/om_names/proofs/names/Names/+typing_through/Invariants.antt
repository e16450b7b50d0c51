use Rattle.om_names.proofs.names.Names.+typing_through.Given as goal

abbrev pub decreases-typing_through : goal.decreases-typing_through
decreases-typing_through l = l.links
