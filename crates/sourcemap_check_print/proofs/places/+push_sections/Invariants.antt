use Rattle.sourcemap_check_print.proofs.places.+push_sections.Given as goal

abbrev pub decreases-push_sections : goal.decreases-push_sections
decreases-push_sections l = l.left
