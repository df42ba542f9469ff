use native.Mathlib.Omega.{arith}
use borrow.Author.Rules.{rules}
use Rattle.numbers.proofs.Factors.{factor_range}
use Rattle.explaining.proofs.Failures.{passed_start, passed_more, failing_found}
use Rattle.explaining.proofs.failing.failing_prime.Goals as goal

pub loop-t-init : goal.loop-t-init
loop-t-init c = record { passed = passed_start; low = c.requires.0.low; high = c.requires.0.high }

pub permutes_modulo-requires : goal.permutes_modulo-requires
permutes_modulo-requires c =
    let of = factor_range (omega arith) c.first_factor-factor.ensures in
    (omega arith, omega arith)

pub loop-t-smaller : goal.loop-t-smaller
loop-t-smaller c =
    (factor_range (omega arith) c.first_factor-factor.ensures).rest

pub loop-t-preserved : goal.loop-t-preserved
loop-t-preserved c =
    let before = c.loop-t.invariant in
    let of = factor_range (omega arith) c.first_factor-factor.ensures in
    let (passed, low) = passed_more before.passed c.first_factor-factor.ensures c.requires.0 c.requires.1 (c.permutes_modulo.ensures.yes_only_if (search rules)) in
    record { passed = passed; low = low; high = omega arith }

pub returns-then-not-permutes_modulo : goal.returns-then-not-permutes_modulo
returns-then-not-permutes_modulo c =
    failing_found c.loop-t.invariant.passed c.first_factor-factor.ensures (c.permutes_modulo.ensures.no_only_if (search rules))
