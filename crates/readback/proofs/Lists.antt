-- What a list that plate asks for is: its ticks are values of the axis's kind, each later than the one before, and at whole
-- seconds where the list shows no fractions. Assumes nothing.
use mathlib.Core.Path.{◌≡◌, refl, subst}
use mathlib.Core.Bool.{Bool, true, false, cond}
use mathlib.Core.List.{List, []}
use Prim.Native.Nat.{ℕ, zero, suc, ◌+◌, ◌*◌, ◌/◌, ◌-◌, ◌<◌}
use native.Mathlib.Decide.{dec_le}
use native.Mathlib.Omega.{arith}
use lib.IntN.{ℤ, pos}
use lib.ListN.{length}
use Rattle.asking.specs.Asking.{passes}
use Rattle.laws.proofs.Tests.{either_false}
use Rattle.values.specs.declared.Value.{Value}
use Rattle.values.specs.Values.{is_value}
use Rattle.axis.specs.declared.Hint.TheVariants.{Bold}
use Rattle.steps.specs.Listing.{numbers, front}
use Rattle.steps.specs.Promise.{nth, Later, Fine}
use Rattle.steps.proofs.Order.{trans, irrefl}
use Rattle.keypoints.specs.Hints.{limit}
use Rattle.ticks.specs.Answers.{tick_questions, ticks_of, ticks_handed}
use Rattle.ticks.proofs.Promise.{ticks_fine}
use Rattle.ticks.proofs.Values.{tick_value, no_tail}
use Rattle.axis.specs.Axes.{last}
use Rattle.text_line.specs.declared.Request.{Request}
use Rattle.text_rows.specs.Answers.{list_of, has_fraction, fraction_before, shows_fractions}
use Rattle.text_rows.proofs.Lists.{handed}
use Rattle.readback.specs.Claims.{Shown, OnlyTimes}

-- ---- no tick of a list without fractions has one
none_before : (l : List ℤ) (n i : ℕ) → i < n → fraction_before l n ≡ false → has_fraction (nth l i) ≡ false
unfolding fraction_before
none_before l zero i h e = absurd (let z : ⊥ = omega arith in z)
none_before l (suc n) i h e =
    let (p, q) = either_false (has_fraction (nth l n)) (fraction_before l n) e in
    elim (dec_le n i) [
      | yes m ↦ let j : n ≡ i = omega arith in subst (λ (x : ℕ). has_fraction (nth l x) ≡ false) j p
      | no m ↦ none_before l n i (omega arith) q
    ]

-- ---- the list that a request gets
module _ (q : Request) where
  abbrev list : List ℤ
  list = list_of q

  -- one that has a tick was not refused
  passed : (i : ℕ) → 2 * i < length list → passes (tick_questions q.axis (Bold q.hint)) ≡ true
  unfolding ticks_handed
  passed i l = go (passes (tick_questions q.axis (Bold q.hint))) l
    where
      go : (b : Bool) → 2 * i < length (cond b (front (ticks_of q.axis (Bold q.hint)) 8194) []) → b ≡ true
      go true l = refl
      go false l = absurd (let z : ⊥ = omega arith in z)

  module _ (i : ℕ) (l : 2 * i < length list) where
    z : passes (tick_questions q.axis (Bold q.hint)) ≡ true
    z = passed i l

    same_list : list ≡ numbers (ticks_of q.axis (Bold q.hint))
    same_list = handed q.axis q.hint z

    fine : Fine (limit (Bold q.hint)) q.axis.start (last q.axis) list
    fine = rw same_list (ticks_fine q.axis (Bold q.hint) z)

    is_value_law : is_value q.axis.kind (nth list i) ≡ true
    is_value_law = rw same_list (tick_value q.axis (Bold q.hint) z i (rw same_list at l))

    pub shown : Shown (shows_fractions list) q.axis.kind (nth list i)
    shown = record {
      is = is_value_law;
      whole = λ e. none_before list (length list / 2) i (omega (arith, fine.paired)) e;
    }

  -- each is later than all before it
  later : (i k : ℕ) → 2 * (i + suc k) < length list → Later (nth list i) (nth list (i + suc k))
  later i zero b = (fine i (omega arith)).growing i b
  later i (suc k) b =
      let e : i + suc k + 1 ≡ i + suc (suc k) = omega arith in
      trans (later i k (omega arith))
      (subst (λ (j : ℕ). Later (nth list (i + suc k)) (nth list j)) e ((fine i (omega arith)).growing (i + suc k) (omega arith)))

  pub not_same : (i j : ℕ) → i < j → 2 * j < length list → nth list i ≡ nth list j → ⊥
  not_same i j o b e =
      let m : i + suc (j - i - 1) ≡ j = omega arith in
      let t : Later (nth list i) (nth list j) =
      subst (λ (y : ℕ). Later (nth list i) (nth list y)) m (later i (j - i - 1) (omega arith)) in
      irrefl (subst (λ (y : Value). Later y (nth list j)) e t)

-- ---- only kinds 4 and 7 list a fraction
all_whole : (l : List ℤ) (n : ℕ) → ((i : ℕ) → i < n → (nth l i).tail ≡ pos 0) → fraction_before l n ≡ false
unfolding fraction_before
all_whole l zero h = refl
all_whole l (suc n) h = rw (h n (omega arith), all_whole l n (λ i k. h i (omega arith)))

pub only_times : OnlyTimes
only_times q e =
    all_whole (list_of q) (length (list_of q) / 2)
    (λ i l. let z = passed q i (omega arith) in
    let same = handed q.axis q.hint z in
    rw same (no_tail q.axis q.hint z e i (rw same at (let m : 2 * i < length (list_of q) = omega arith in m))))
