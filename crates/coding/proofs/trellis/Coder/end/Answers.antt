-- Three times what is fed back is coded.
use Rattle.coding.proofs.States.{ends_by}
use Rattle.coding.proofs.trellis.Coder.end.Goals as goal

pub returns : goal.returns
returns c = ends_by c.return_to_zero-first.ensures c.return_to_zero-second.ensures c.return_to_zero-third.ensures
