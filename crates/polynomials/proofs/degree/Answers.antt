-- The last place that is not 0, of those up to top, is the degree (`last_degree`), since nothing stands past top.
use Rattle.std.proofs.Common.{◌+◌, take, arith}
use Rattle.std.proofs.lemmas.Grind.{common_steps}
use Rattle.polynomials.proofs.Naturals.{LastPlace, last_degree}
use Rattle.polynomials.proofs.degree.Goals as goal

pub returns : goal.returns
returns c =
    let found : LastPlace (take (c.args.top + 1) c.args.p.now) c.rposition.result = grind (arith, common_steps) in
    let (degree, low) = last_degree c.args.p.now c.args.top c.rposition.result (omega arith) c.requires.1 found in
    rw c.unwrap_or.ensures (degree, omega arith)
