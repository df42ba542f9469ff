-- Each return is the period by a law: an even candidate, an odd one that serves, or its double.
use mathlib.Core.Path.{refl}
use Prim.Native.Nat.{◌/◌}
use native.Mathlib.Nat.{div-le_self, le_of_dvd, mul-le-mul, pos_of_dvd_of_pos}
use native.Mathlib.Omega.{arith}
use Rattle.arp_forms.proofs.Periods.{period_even, period_least, period_double}
use Rattle.arp_forms.proofs.period.Goals as goal

pub nonzero_div-q : goal.nonzero_div-q
nonzero_div-q c = pos_of_dvd_of_pos c.gcd.ensures.left (omega arith)

pub returns-then-q-eq0 : goal.returns-then-q-eq0
returns-then-q-eq0 c =
    let t = c.args.odd in
    let g = c.gcd in
    (period_even t g.result _ (omega arith) g.ensures refl c.if-q-eq0.true, div-le_self t.k g.result)

pub overflow_mul-odd-2 : goal.overflow_mul-odd-2
overflow_mul-odd-2 c =
    let t = c.args.odd in
    let g = c.gcd.result in
    omega (arith, mul-le-mul {n₁ = t.f2} {m₁ = t.k / g} {n₂ = 8192} {m₂ = 8192} (omega arith) (omega (arith, div-le_self t.k g)))

pub returns-then-odd-q-eq0 : goal.returns-then-odd-q-eq0
returns-then-odd-q-eq0 c =
    let t = c.args.odd in
    let g = c.gcd in
    (period_least t g.result _ (omega arith) g.ensures refl c.if-odd-q-eq0.true, div-le_self t.k g.result)

pub overflow_mul-result : goal.overflow_mul-result
overflow_mul-result c =
    omega (arith, div-le_self c.args.odd.k c.gcd.result)

pub returns : goal.returns
returns c =
    let t = c.args.odd in
    let g = c.gcd in
    let p = period_double t g.result _ (omega arith) g.ensures refl c.if-q-eq0.false c.if-odd-q-eq0.false in
    (p, le_of_dvd (omega arith) p.divides)
