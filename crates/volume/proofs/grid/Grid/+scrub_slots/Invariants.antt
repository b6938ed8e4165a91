use Rattle.volume.proofs.grid.Grid.+scrub_slots.Given as goal

abbrev pub decreases-scrub_slots : goal.decreases-scrub_slots
decreases-scrub_slots g l = l.i
