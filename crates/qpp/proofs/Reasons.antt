-- What is refused by 3 can be explained: both reasons exist, each alone is enough, and the call gives them exactly there.
use mathlib.Core.Path.{◌≡◌}
use mathlib.Core.Logic.{◌↔◌, ⊎_elim}
use Prim.Native.Nat.{ℕ}
use native.Mathlib.Omega.{arith}
use Rattle.permuting.specs.Formulas.{Permutes}
use Rattle.triples.specs.declared.Triple.{Triple}
use Rattle.triples.specs.Shuffles.{quadratic, InRange}
use Rattle.explaining.specs.Reasons.{FirstCollision, FailsAt, LeastFailing}
use Rattle.explaining.proofs.Collisions.{Collision, collision_or_permutes, collision_fails}
use Rattle.explaining.proofs.Failures.{failing_exists, fails_not}
use Rattle.refusals.specs.Refusals.{Acceptance}
use Rattle.refusals.proofs.Acceptance.{refused_by_three, refused_range, refused_exactly}
use Rattle.qpp.specs.declared.answers.Reason.{Reason}
use Rattle.qpp.specs.Promises.{ReasonOf}

module _ {t : Triple} where
  -- both reasons exist where 3 is due
  pub reasons_exist : Acceptance (quadratic t) 3 → Collision (quadratic t) × ((p : ℕ) × LeastFailing t p)
  reasons_exist three =
      let r = refused_by_three (quadratic t) three in
      (⊎_elim (λ c. c) (λ permutes. absurd (r.fails permutes)) (collision_or_permutes (quadratic t)), failing_exists (refused_range r) r.fails)

  -- either of them tells that f does not permute
  pub collision_tells : {y x address : ℕ} → FirstCollision (quadratic t) y x address → ¬ Permutes (quadratic t)
  collision_tells = collision_fails (quadratic t)

  pub prime_tells : {p : ℕ} → InRange t → FailsAt t p → ¬ Permutes (quadratic t)
  prime_tells range = fails_not (omega (arith, range.low))

  -- the call explains exactly what acceptance refuses by 3
  pub explained_exactly : {n : ℕ} {r : Reason} → Acceptance (quadratic t) n → ReasonOf t r → (n ≡ 3) ↔ (r.number ≡ 0)
  explained_exactly accept explain = refused_exactly (quadratic t) accept explain.first
