-- Two products compared by their lowest 32 bits and what stands above these. Assumes nothing.
use mathlib.Core.Path.{◌≡◌, refl, sym, ap, ap₂, ◌∙◌}
use mathlib.Core.Bool.{Bool, true, false, ◌&&◌, false≢true}
use Prim.Native.Nat.{ℕ, zero, suc, ◌+◌, ◌*◌, ◌^◌, ◌≤◌, ◌<◌}
use native.Mathlib.Nat.{mul-le-mul}
use native.Mathlib.Omega.{arith}
use lib.IntN.{ℤ, pos, negsuc, neg_ℤ, nat_abs, ◌+ℤ◌, ◌*ℤ◌}
use mir.Syntax.{w64}
use mir.Val.{SFits}
use Rattle.laws.specs.Numbers.{equal, pos_part, neg_part}
use Rattle.laws.proofs.Halves.{H, upper, lower, upper_few, halves}
use Rattle.laws.proofs.Signed.{add, mul, mul_up, mul_dn, abs, fits, same, equal_true, true_equal}

-- ---- nothing exceeds 64 bits
few : (z : ℤ) → nat_abs z < 2 ^ 63 → SFits w64 z
few z h = fits z (pos_part z) (neg_part z) refl (omega (arith, abs z)) (omega (arith, abs z))

unsigned : (n : ℕ) → nat_abs (neg_ℤ (pos n)) ≡ n
unsigned zero = refl
unsigned (suc n) = refl

sizes : (x y : ℤ) → nat_abs (x *ℤ y) ≡ nat_abs x * nat_abs y
sizes (pos a) (pos b) = refl
sizes (pos a) (negsuc b) = unsigned (a * suc b)
sizes (negsuc a) (pos b) = unsigned (suc a * b)
sizes (negsuc a) (negsuc b) = refl

-- ---- one product
module _ (a b : ℤ) (A : nat_abs a ≤ 2 ^ 31) (B : SFits w64 b) where
  abbrev part : ℤ
  part = a *ℤ pos (lower b)

  pub part_fits : SFits w64 part
  part_fits = few part (go (mul-le-mul {m₂ = 4294967295} A (omega arith)))
    where
      go : nat_abs a * lower b ≤ 2 ^ 31 * 4294967295 → nat_abs part < 2 ^ 63
      go h = omega (arith, sizes a (pos (lower b)))

  upper_size : nat_abs (a *ℤ upper b) ≤ 2 ^ 62
  upper_size = go (mul-le-mul A (upper_few b B))
    where
      go : nat_abs a * nat_abs (upper b) ≤ 2 ^ 31 * 2 ^ 31 → nat_abs (a *ℤ upper b) ≤ 2 ^ 62
      go h = omega (arith, sizes a (upper b))

  pub upper_fits : SFits w64 (a *ℤ upper b)
  upper_fits = few (a *ℤ upper b) (omega (arith, upper_size))

  -- what stands above the lowest 32 bits
  abbrev pub above : ℤ
  above = a *ℤ upper b +ℤ upper part

  pub above_fits : SFits w64 above
  above_fits =
      let x = a *ℤ upper b in
      let y = upper part in
      fits above (pos_part x + pos_part y) (neg_part x + neg_part y) (omega (arith, add x y))
      (omega (arith, upper_size, abs x, upper_few part part_fits, abs y))
      (omega (arith, upper_size, abs x, upper_few part part_fits, abs y))

  -- the product is both
  joined : a *ℤ b ≡ above *ℤ pos H +ℤ pos (lower part)
  joined = same (a *ℤ b) (above *ℤ pos H +ℤ pos (lower part)) (go
      (ap (λ (n : ℕ). pos_part a * n) (halves b B)) (ap (λ (n : ℕ). neg_part a * n) (halves b B)))
    where
      go : pos_part a * (pos_part (upper b) * H + lower b + neg_part b) ≡ pos_part a * (pos_part b + neg_part (upper b) * H) →
          neg_part a * (pos_part (upper b) * H + lower b + neg_part b) ≡ neg_part a * (pos_part b + neg_part (upper b) * H) →
          pos_part (a *ℤ b) + neg_part (above *ℤ pos H +ℤ pos (lower part))
          ≡ pos_part (above *ℤ pos H +ℤ pos (lower part)) + neg_part (a *ℤ b)
      go up dn = omega (
        arith,
        halves part part_fits,
        mul a b,
        mul a (upper b),
        mul_up a (lower b),
        mul_dn a (lower b),
        add (a *ℤ upper b) (upper part),
        mul_up above H,
        mul_dn above H,
        add (above *ℤ pos H) (pos (lower part)),
      )

-- ---- two products: the same where both parts are
apart : (x y : ℤ) (l m : ℕ) → l < 2 ^ 32 → m < 2 ^ 32 → x *ℤ pos H +ℤ pos l ≡ y *ℤ pos H +ℤ pos m → (pos l ≡ pos m) × (x ≡ y)
apart x y l m L M e =
    let u = add (x *ℤ pos H) (pos l) in
    let v = add (y *ℤ pos H) (pos m) in
    let p = ap pos_part e in
    let n = ap neg_part e in
    let xu = mul_up x H in
    let xd = mul_dn x H in
    let yu = mul_up y H in
    let yd = mul_dn y H in
    (same (pos l) (pos m) (omega arith), same x y (omega arith))

parts : (x y : ℤ) (l m : ℕ) → l < 2 ^ 32 → m < 2 ^ 32 →
    equal (pos l) (pos m) && equal x y ≡ equal (x *ℤ pos H +ℤ pos l) (y *ℤ pos H +ℤ pos m)
parts x y l m L M = go (equal (pos l) (pos m)) (equal x y) (equal X Y) refl refl refl
  where
    X : ℤ
    X = x *ℤ pos H +ℤ pos l

    Y : ℤ
    Y = y *ℤ pos H +ℤ pos m

    go : (s t r : Bool) → equal (pos l) (pos m) ≡ s → equal x y ≡ t → equal X Y ≡ r → s && t ≡ r
    go true true true e f g = refl
    go true true false e f g = absurd (false≢true (sym g ∙ true_equal X Y
        (λ i. equal_true x y f i *ℤ pos H +ℤ equal_true (pos l) (pos m) e i)))
    go true false false e f g = refl
    go true false true e f g = absurd (false≢true (sym f ∙ true_equal x y (apart x y l m L M (equal_true X Y g)).1))
    go false t false e f g = refl
    go false t true e f g =
        absurd (false≢true (sym e ∙ true_equal (pos l) (pos m) (apart x y l m L M (equal_true X Y g)).0))

-- THE LAW
pub by_halves : (a b c d : ℤ) (A : nat_abs a ≤ 2 ^ 31) (B : SFits w64 b) (C : nat_abs c ≤ 2 ^ 31) (D : SFits w64 d) →
    equal (pos (lower (a *ℤ pos (lower b)))) (pos (lower (c *ℤ pos (lower d)))) && equal (above a b A B) (above c d C D)
    ≡ equal (a *ℤ b) (c *ℤ d)
by_halves a b c d A B C D =
    parts (above a b A B) (above c d C D) (lower (a *ℤ pos (lower b))) (lower (c *ℤ pos (lower d))) (omega arith) (omega arith)
    ∙ sym (ap₂ equal (joined a b A B) (joined c d C D))
