use Rattle.om_names.proofs.names.Names.+type_in.Given as goal

abbrev pub decreases-type_in : goal.decreases-type_in
decreases-type_in l = l.links
