-- A map that respects the divisors of n permutes modulo n exactly if it permutes modulo every full prime power of n.
use mathlib.Core.Path.{◌≡◌, refl, sym, ap, ◌∙◌, subst}
use mathlib.Core.Logic.{◌↔◌}
use Prim.Native.Nat.{ℕ, ◌+◌, ◌-◌, ◌*◌, ◌/◌, ◌%◌, ◌≤◌, ◌<◌, ◌∣◌}
use native.Mathlib.Nat.{mod-lt, mod-mod_of_dvd, mod-eq_of_lt, le_of_dvd, dvd_refl, mul_comm, div-mul_cancel, pos_of_dvd_of_pos}
use native.Mathlib.Decide.{dec_le}
use native.Mathlib.Omega.{arith}
use Rattle.numbers.specs.Divisors.{Coprime}
use Rattle.numbers.specs.Congruences.{Cong}
use Rattle.numbers.specs.PrimePowers.{FullPower}
use Rattle.numbers.specs.Residues.{RespectsDivisors, PermutesModulo}
use Rattle.numbers.proofs.Divisors.{dvd_make, quotient, euclid, UnitOf, unit_of, coprime_swap, factors_pos}
use Rattle.numbers.proofs.Congruences.{cong_eq, cong_sym, cong_add, cong_cancel, cong_mod, cong_same, same_cong, cong_small, cong_zero, zero_cong, cong_down, ◌⨾◌}
use Rattle.numbers.proofs.PrimePowers.{power_apart, powers_divide}

-- ---- two congruent numbers, as one and a step from it

-- what is symmetric need be shown only of x and x + d
by_steps : {P : ℕ → ℕ → Type 0} → ((x y : ℕ) → P x y → P y x) → ((x d : ℕ) → P x (x + d)) → (x y : ℕ) → P x y
by_steps {P} turn up x y = pick (dec_le x y)
  where
    pick : Dec (x ≤ y) → P x y
    pick (yes le) = subst (λ (n : ℕ). P x n) (omega arith) (up x (y - x))
    pick (no gt) = turn y x (subst (λ (n : ℕ). P y n) (omega arith) (up y (x - y)))

module _ {m : ℕ} where
  step_dvd : (x d : ℕ) → Cong m x (x + d) → m ∣ d
  step_dvd x d c = cong_zero (cong_cancel x (cong_sym c ⨾ cong_eq (omega arith)))

  dvd_step : (x d : ℕ) → m ∣ d → Cong m x (x + d)
  dvd_step x d h = cong_eq (omega arith) ⨾ cong_add (cong_eq {x = x} refl) (cong_sym (zero_cong d h))

-- what is congruent modulo every full prime power is so modulo the number
cong_powers : {n : ℕ} → 0 < n → (x y : ℕ) → ((p q : ℕ) → FullPower n p q → Cong q x y) → Cong n x y
cong_powers pos =
    by_steps (λ x y f each. cong_sym (f (λ p q full. cong_sym (each p q full))))
    (λ x d each. dvd_step x d (powers_divide pos (λ p q full. step_dvd x d (each p q full))))

-- or modulo two numbers that share no factor, and make it up
cong_both : {q s : ℕ} → Coprime q s → (x y : ℕ) → Cong q x y → Cong s x y → Cong (q * s) x y
cong_both {q} {s} co =
    by_steps (λ x y f a b. cong_sym (f (cong_sym a) (cong_sym b))) (λ x d a b. dvd_step x d (both d (step_dvd x d a) (step_dvd x d b)))
  where
    both : (d : ℕ) → q ∣ d → s ∣ d → q * s ∣ d
    both d h k =
        let (c, e) = quotient s k in
        let (b, w) = quotient q (euclid q s c co (subst (λ (m : ℕ). q ∣ m) e h)) in
        dvd_make (q * s) b (e ∙ ap (λ (m : ℕ). s * m) w ∙ omega arith)

-- ---- maps

-- numbers that are congruent modulo m go to numbers that are
abbrev pub Respects : (ℕ → ℕ) → ℕ → Type 0
Respects φ m = (x y : ℕ) → x % m ≡ y % m → φ x % m ≡ φ y % m

-- one-to-one, said of all numbers
abbrev OneToOne : (ℕ → ℕ) → ℕ → Type 0
OneToOne φ m = (x y : ℕ) → Cong m (φ x) (φ y) → Cong m x y

module _ (φ : ℕ → ℕ) {m : ℕ} where
  one_to_one_below : OneToOne φ m → PermutesModulo φ m
  one_to_one_below one x y lx ly e = cong_small (one x y (same_cong (φ x) (φ y) e)) lx ly

  respect : Respects φ m → {x y : ℕ} → Cong m x y → Cong m (φ x) (φ y)
  respect respects {x} {y} c = same_cong (φ x) (φ y) (respects x y (cong_same c))

  below_one_to_one : 0 < m → Respects φ m → PermutesModulo φ m → OneToOne φ m
  below_one_to_one pos respects permutes x y c =
      cong_mod m x
      ⨾ cong_eq
      (permutes (x % m) (y % m) (mod-lt x pos) (mod-lt y pos)
      (cong_same (respect respects (cong_sym (cong_mod m x)) ⨾ c ⨾ respect respects (cong_mod m y))))
      ⨾ cong_sym (cong_mod m y)

module _ (φ : ℕ → ℕ) {n : ℕ} (pos : 0 < n) (respects : (m : ℕ) → m ∣ n → Respects φ m) where
  -- values that are equal modulo n are equal modulo each full power, so the positions are, so they are modulo n
  powers_one_to_one : ((p q : ℕ) → FullPower n p q → PermutesModulo φ q) → OneToOne φ n
  powers_one_to_one each x y c =
      cong_powers pos x y
      (λ p q full. below_one_to_one φ (pos_of_dvd_of_pos full.divides pos) (respects q full.divides) (each p q full) x y (cong_down q full.divides c))

  -- two positions that collide modulo q are, modulo q, two that are multiples of the rest: so these collide modulo n
  one_to_one_part : (q rest : ℕ) → q * rest ≡ n → Coprime q rest → OneToOne φ n → OneToOne φ q
  one_to_one_part q rest whole co one x y c =
      cong_sym (lifted x) ⨾ cong_down q of_q (one (lift x) (lift y) (subst (λ (m : ℕ). Cong m (φ (lift x)) (φ (lift y))) whole (cong_both co (φ (lift x)) (φ (lift y)) modulo_q modulo_rest))) ⨾ lifted y
    where
      parts : (0 < q) × (0 < rest)
      parts = factors_pos n q rest pos (sym whole)

      of_q : q ∣ n
      of_q = dvd_make q rest (sym whole)

      of_rest : rest ∣ n
      of_rest = dvd_make rest q (sym whole ∙ mul_comm q rest)

      unit : UnitOf rest q
      unit = unit_of rest q parts.1 parts.0 (coprime_swap co)

      -- the multiple of the rest that is x modulo q
      lift : ℕ → ℕ
      lift x = x * (unit.x * rest)

      lifted : (x : ℕ) → Cong q (lift x) x
      lifted x = record { l = 0; r = x * unit.y; eq = omega (arith, ap (λ (m : ℕ). x * m) unit.over) }

      zero_lifted : (x : ℕ) → Cong rest (lift x) 0
      zero_lifted x = record { l = 0; r = x * unit.x; eq = omega arith }

      modulo_q : Cong q (φ (lift x)) (φ (lift y))
      modulo_q = respect φ (respects q of_q) (lifted x) ⨾ c ⨾ respect φ (respects q of_q) (cong_sym (lifted y))

      modulo_rest : Cong rest (φ (lift x)) (φ (lift y))
      modulo_rest = respect φ (respects rest of_rest) (zero_lifted x ⨾ cong_sym (zero_lifted y))

  whole_powers : PermutesModulo φ n ↔ ((p q : ℕ) → FullPower n p q → PermutesModulo φ q)
  whole_powers = (down, λ each. one_to_one_below φ (powers_one_to_one each))
    where
      down : PermutesModulo φ n → (p q : ℕ) → FullPower n p q → PermutesModulo φ q
      down permutes p q full =
          let whole : q * (n / q) ≡ n = mul_comm q (n / q) ∙ div-mul_cancel q full.divides in
          one_to_one_below φ
          (one_to_one_part q (n / q) whole (power_apart full (n / q) whole) (below_one_to_one φ pos (respects n (dvd_refl n)) permutes))

-- it permutes modulo n exactly if it permutes modulo every full prime power of n: what it does from n on does not count, and so it may be
-- taken to begin anew there
pub permutes_powers : (φ : ℕ → ℕ) {n : ℕ} → 0 < n → RespectsDivisors φ n → PermutesModulo φ n ↔ ((p q : ℕ) → FullPower n p q → PermutesModulo φ q)
permutes_powers φ {n} pos respects = (
  (λ permutes p q full. forth (within q full) (both.0 (back (omega arith) permutes) p q full)),
  λ each. forth (omega arith) (both.1 (λ p q full. back (within q full) (each p q full))),
)
  where
    again : ℕ → ℕ
    again x = φ (x % n)

    both : PermutesModulo again n ↔ ((p q : ℕ) → FullPower n p q → PermutesModulo again q)
    both =
        whole_powers again pos
        (λ m h x y e. respects m h (x % n) (y % n) (mod-lt x pos) (mod-lt y pos) (mod-mod_of_dvd m x h ∙ e ∙ sym (mod-mod_of_dvd m y h)))

    within : (q : ℕ) {p : ℕ} → FullPower n p q → q ≤ n
    within q full = le_of_dvd pos full.divides

    same : {m : ℕ} → m ≤ n → (x : ℕ) → x < m → again x % m ≡ φ x % m
    same {m} le x lt = ap (λ (i : ℕ). φ i % m) (mod-eq_of_lt (omega arith))

    back : {m : ℕ} → m ≤ n → PermutesModulo φ m → PermutesModulo again m
    back le permutes x y lx ly e = permutes x y lx ly (sym (same le x lx) ∙ e ∙ same le y ly)

    forth : {m : ℕ} → m ≤ n → PermutesModulo again m → PermutesModulo φ m
    forth le permutes x y lx ly e = permutes x y lx ly (same le x lx ∙ e ∙ sym (same le y ly))
