use Rattle.calculating.proofs.calculation.Calculation.+put_contents.Given as goal

abbrev pub decreases-put_contents : goal.decreases-put_contents
decreases-put_contents g l = l.view.now.depth
