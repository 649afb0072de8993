use Rattle.asl_words.proofs.paths.+segments_in.Given as goal

abbrev pub decreases-segments_in : goal.decreases-segments_in
decreases-segments_in l = l.most
