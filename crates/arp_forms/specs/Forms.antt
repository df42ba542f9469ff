-- Serves inside: what is found of a triple before its shifts are written.
use Rattle.std.specs.Prelude.{◌≡◌, ◌≤◌}
use Rattle.triples.specs.declared.Triple.{Triple}
use Rattle.triples.specs.Shuffles.{InRange, odd_form}
use Rattle.arp_forms.specs.declared.Form.{Form}
use Rattle.arp_forms.specs.Arp.{ArpNumbers}

pub record FormOf (t : Triple) (r : Form) : Type 0 where
  pub numbers : ArpNumbers t r.p r.q
  pub few : r.q ≤ t.k
  pub odd : r.odd ≡ odd_form t
  pub range : InRange r.odd
