use Rattle.faces.proofs.writer.FaceWriter.+write_contents.Given as goal

abbrev pub decreases-write_contents : goal.decreases-write_contents
decreases-write_contents l = l.view.now.depth
