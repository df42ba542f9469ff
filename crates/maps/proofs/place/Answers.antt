-- Each product has a factor below the scale and one of at most 8192.
use mathlib.Core.Path.{refl}
use Prim.Native.Nat.{◌+◌, ◌*◌, ◌%◌}
use native.Mathlib.Omega.{arith}
use Rattle.maps.specs.Maps.{scale}
use Rattle.maps.proofs.Scaling.{times_small, rest_small, place_within}
use Rattle.maps.proofs.place.Goals as goal

pub overflow_mul-slope : goal.overflow_mul-slope
overflow_mul-slope c = let a = c.args in omega (arith, times_small a.map.f2 a.x (omega arith))

pub overflow_add-slope : goal.overflow_add-slope
overflow_add-slope c = let a = c.args in omega (arith, times_small a.map.f2 a.x (omega arith))

pub overflow_mul-part : goal.overflow_mul-part
overflow_mul-part c = let a = c.args in omega (arith, rest_small (a.map.f1 + a.map.f2 * a.x) a.x)

pub overflow_mul-result : goal.overflow_mul-result
overflow_mul-result c =
    let a = c.args in
    omega (arith, rest_small ((a.map.f1 + a.map.f2 * a.x) % scale * a.x) a.map.k)

pub returns : goal.returns
returns c =
    let a = c.args in
    (refl, place_within ((a.map.f1 + a.map.f2 * a.x) % scale * a.x) a.map.k (omega arith))
