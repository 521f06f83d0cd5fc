use Rattle.draw_tests.proofs.tests.count_drawn.Given as goal

abbrev pub decreases-loop-drawer : goal.decreases-loop-drawer
decreases-loop-drawer l = l.drawer.left
