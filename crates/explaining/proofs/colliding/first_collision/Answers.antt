-- The map of the triple is searched, with a mark for each address and none set.
use Rattle.explaining.proofs.Maps.{searchable}
use Rattle.explaining.proofs.colliding.first_collision.Goals as goal

pub search-requires : goal.search-requires
search-requires c = searchable c.map_of.ensures c.requires.1
