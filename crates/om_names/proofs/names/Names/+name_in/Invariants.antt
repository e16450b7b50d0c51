use Rattle.om_names.proofs.names.Names.+name_in.Given as goal

abbrev pub decreases-name_in : goal.decreases-name_in
decreases-name_in l = l.links
