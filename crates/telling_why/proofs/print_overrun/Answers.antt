-- The rows that an overrun counts stand in the area.
use Rattle.telling_why.proofs.print_overrun.Goals as goal

pub print_rows-requires : goal.print_rows-requires
print_rows-requires g c = c.requires.1.1
