-- A loop on a ladder, turn by turn around its list: what it knows at step i, and where it goes from there. Assumes nothing.
use mathlib.Core.Path.{◌≡◌, refl, ◌∙◌}
use mathlib.Core.Bool.{Bool, true, false}
use Prim.Native.Nat.{ℕ, zero, suc, ◌+◌, ◌*◌, ◌/◌, ◌%◌, ◌^◌, ◌≤◌, ◌<◌}
use native.Mathlib.Nat.{div-add-mod', mul_assoc, mul-pos, mul-one, pow-zero, pow-suc, one-le-pow}
use native.Mathlib.Nat.{pow-le-pow_right, mul-le-mul_left, mul-le-mul_right, zero-mod, zero-div}
use native.Mathlib.Nat.{le-div_iff_mul-le, div-lt_iff_lt-mul}
use native.Mathlib.Omega.{arith}
use lib.Dec.{leb, ltb}
use lib.Ieee.Nearest.{div_mono}
use lib.ListN.{length, get_or}
use borrow.Author.Tests.{le-leb, lt-leb, leb-true, leb-false, lt-ltb, le-ltb}
use Rattle.laws.proofs.Quotients.{quotient_is}
use Rattle.period.specs.Ladders.{Ladder, unit_at, count_at, first_from, wide, rung_of, Climbable, first_wide}
use Rattle.period.proofs.Search.{Come, come_first, come_before, come_here, come_next, come_more}

pub place_is : (span n : ℕ) (l : Ladder) → first_from (wide span n l) 16 0 ≡ rung_of span n l
unfolding rung_of
place_is span n l = refl

-- a span's whole units, without a division
pub by_product : (span many unit : ℕ) → 0 < unit → ltb span ((many + 1) * unit) ≡ leb (span / unit) many
by_product span many unit U = go (leb (span / unit) many) refl
  where
    go : (b : Bool) → leb (span / unit) many ≡ b → ltb span ((many + 1) * unit) ≡ b
    go true t = let h : span / unit < many + 1 = omega (arith, leb-true (span / unit) many t) in
        lt-ltb span ((many + 1) * unit) ((div-lt_iff_lt-mul U).0 h)
    go false t = let h : many + 1 ≤ span / unit = omega (arith, leb-false (span / unit) many t) in
        le-ltb span ((many + 1) * unit) ((le-div_iff_mul-le U).0 h)

-- ---- `before` steps are whole turns around the list
module _ (before size : ℕ) (L : 0 < size) (turns : before % size ≡ 0) where
  same_turn : (idx : ℕ) → idx < size → ((before + idx) / size ≡ before / size) × ((before + idx) % size ≡ idx)
  same_turn idx h =
      let now = div-add-mod' before size in
      let q : (before + idx) / size ≡ before / size =
      quotient_is (before + idx) size (before / size) L (omega arith) (omega arith) in
      let next = rw q at (div-add-mod' (before + idx) size) in
      (q, omega arith)

  next_turn : ((before + size) / size ≡ suc (before / size)) × ((before + size) % size ≡ 0)
  next_turn =
      let now = div-add-mod' before size in
      let q : (before + size) / size ≡ suc (before / size) =
      quotient_is (before + size) size (suc (before / size)) L (omega arith) (omega arith) in
      let next = rw q at (div-add-mod' (before + size) size) in
      (q, omega arith)

-- ---- no step before i is wide enough: i is idx steps into a turn, and the other numbers are that turn's
pub record Climbed (span n : ℕ) (l : Ladder) (unit whole before idx i : ℕ) : Type 0 where
  pub come : Come (wide span n l) 16 i
  pub place : i ≡ before + idx
  pub turns : before % length l.counts ≡ 0
  pub within : idx ≤ length l.counts
  pub units : unit ≡ unit_at l before
  pub parts : whole ≡ span / unit

module _ {span n : ℕ} {l : Ladder} (c : Climbable span n l) where
  pub climb_start : Climbed span n l l.unit (span / l.unit) 0 0 0
  climb_start = record {
    come = come_first;
    place = refl;
    turns = zero-mod _;
    within = omega arith;
    units = rw (zero-div, pow-zero, mul-one) refl;
    parts = refl;
  }

  -- the unit that is found fits, as its step does
  pub unit_fits : unit_at l (rung_of span n l) < 2 ^ 63
  unit_fits = go (count_at l (rung_of span n l)) (unit_at l (rung_of span n l)) c.above c.fits
    where
      go : (k u : ℕ) → 0 < k * u → k * u < 2 ^ 63 → u < 2 ^ 63
      go zero u p h = absurd (let z : ⊥ = omega arith in z)
      go (suc k) u p h = omega arith

  -- at a turn's beginning
  module _ {unit before : ℕ} (w : Climbed span n l unit (span / unit) before 0 before) where
    pub unit_above : 0 < unit
    unit_above = rw w.units (mul-pos c.unit (one-le-pow (before / length l.counts) l.base c.base))

  -- at the turn's end: the next unit is no longer than that of the step that is found
  module _ {unit whole before i : ℕ} (w : Climbed span n l unit whole before (length l.counts) i) where
    pub climb_next : Climbed span n l (unit * l.base) (span / (unit * l.base)) i 0 i
    climb_next =
        let (q, r) = next_turn before (length l.counts) c.some w.turns in
        record {
          come = w.come;
          place = omega arith;
          turns = rw (w.place, r) refl;
          within = omega arith;
          units = rw (w.place, q, pow-suc, ← mul_assoc, w.units) refl;
          parts = refl;
        }

    pub next_fits : unit * l.base < 2 ^ 63
    next_fits =
        let size = length l.counts in
        let up : i ≤ rung_of span n l = rw (place_is span n l) at (come_before w.come) in
        let longer : unit * l.base ≤ unit_at l (rung_of span n l) =
        rw climb_next.units
        (mul-le-mul_left l.unit (pow-le-pow_right c.base (div_mono i size (rung_of span n l) size c.some
        c.some (mul-le-mul_right size up)))) in
        omega (arith, unit_fits)

  -- within the turn
  module _ {unit whole before idx i : ℕ} (w : Climbed span n l unit whole before idx i) (h : idx < length l.counts) where
    unit_is : unit_at l i ≡ unit
    unit_is = let (q, r) = same_turn before (length l.counts) c.some w.turns idx h in rw (w.place, q, w.units) refl

    count_is : count_at l i ≡ get_or l.counts idx 0
    count_is = let (q, r) = same_turn before (length l.counts) c.some w.turns idx h in rw (w.place, r) refl

    test_is : wide span n l i ≡ leb whole (n * get_or l.counts idx 0)
    test_is = rw (unit_is, count_is, w.parts) refl

    -- the test of step i passes
    module _ (t : whole ≤ n * get_or l.counts idx 0) where
      pub climb_end : i ≡ rung_of span n l
      climb_end = come_here w.come (test_is ∙ le-leb whole (n * get_or l.counts idx 0) t) ∙ place_is span n l

      pub climb_step : get_or l.counts idx 0 * unit ≡ first_wide span n l
      climb_step = rw (← climb_end, unit_is, count_is) refl

    -- it fails
    pub climb_on : n * get_or l.counts idx 0 < whole → Climbed span n l unit whole before (suc idx) (suc i)
    climb_on t =
        let fails : wide span n l i ≡ false = test_is ∙ lt-leb whole (n * get_or l.counts idx 0) t in
        let more = come_more w.come (rw (place_is span n l) c.ends) fails in
        record {
          come = come_next w.come more fails;
          place = omega arith;
          turns = w.turns;
          within = h;
          units = w.units;
          parts = w.parts;
        }

  -- through a turn's first j steps, which fail
  module _ {unit before : ℕ} (w : Climbed span n l unit (span / unit) before 0 before) where
    abbrev Fails : ℕ → Type 0
    Fails j = (k : ℕ) → k < j → n * get_or l.counts k 0 < span / unit

    pub climb_to : (j : ℕ) → j ≤ length l.counts → Fails j → Climbed span n l unit (span / unit) before j (before + j)
    climb_to zero h f = let e : before + 0 ≡ before = omega arith in rw e w
    climb_to (suc j) h f =
        let e : before + suc j ≡ suc (before + j) = omega arith in
        rw e (climb_on (climb_to j (omega arith) (λ k q. f k (omega arith))) h (f j (omega arith)))
