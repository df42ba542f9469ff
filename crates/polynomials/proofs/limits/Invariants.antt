-- The invariant: the limits stand at the places before j. Each comes of the one before it (`limit_next`).
use mathlib.Core.Path.{◌≡◌}
use lib.ListN.{length}
use Rattle.polynomials.specs.Reductions.{Limits}
use Rattle.polynomials.proofs.limits.Given as goal

abbrev pub invariant-loop-j : goal.invariant-loop-j
invariant-loop-j l = (length l.m ≡ 14) × Limits l.k l.j l.m
