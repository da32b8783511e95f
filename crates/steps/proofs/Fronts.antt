-- The front part of a lent slice after its list was set: the list, which the slice has room for. Assumes nothing.
use mathlib.Core.Path.{◌≡◌, refl, sym, subst}
use mathlib.Core.Bool.{Bool, true, false, cond, ◌&&◌}
use mathlib.Core.List.{List, [], ◌∷◌, ◌++◌}
use Prim.Native.Nat.{ℕ, ◌-◌, ◌*◌, ◌≤◌, ◌<◌}
use native.Mathlib.Omega.{arith}
use lib.IntN.{ℤ}
use lib.ListN.{length, take, drop, length-append, length-drop}
use lib.Seq.{take_at}
use borrow.Author.Tests.{leb-true}
use Rattle.std.specs.Prelude.{Ok, Err}
use Rattle.asking.specs.declared.Refusal.TheVariants as refusal
use Rattle.asking.specs.Asking.{ask}
use Rattle.asking.proofs.Asked.{answered_ok}
use Rattle.values.specs.declared.Value.{Value}
use Rattle.steps.specs.declared.Heads.{Heads}
use Rattle.steps.specs.declared.Numbering.{Numbering}
use Rattle.steps.specs.declared.Numbering.TheVariants as numbering
use Rattle.steps.specs.declared.Steps.{Steps}
use Rattle.steps.specs.Progression.{number_at, tick_by, values_of, ticks, month_ticks, even_ticks}
use Rattle.steps.specs.Progression.{InRange, SoundBy, Sound}
use Rattle.steps.specs.Listing.{numbers, has_room, listed_of, lent_after, front, count_of}
use Rattle.steps.proofs.Pairs.{length_numbers, count_is}

module _ (l : List Value) (d : List ℤ) where
  room : (b : Bool) → has_room l (length d) ≡ b → 2 * count_of (cond b (Ok (length l)) (Err refusal.Room)) ≤ length d
  room true e = leb-true (2 * length l) (length d) e
  room false e = omega arith

  -- the list is no longer than the slice
  pub within_lent : 2 * count_of (listed_of l (length d)) ≤ length d
  within_lent = room (has_room l (length d)) refl

  cut : (b : Bool) →
      take (2 * count_of (cond b (Ok (length l)) (Err refusal.Room))) (cond b (numbers l ++ drop (2 * length l) d) d)
      ≡ cond b (numbers l) []
  cut true = take_at (numbers l) (drop (2 * length l) d) (2 * length l) (length_numbers l)
  cut false = refl

  -- the front part that the count gives is the list
  pub front_is : take (2 * count_of (listed_of l (length d))) (lent_after l d) ≡ front l (length d)
  front_is = cut (has_room l (length d))

  after : (b : Bool) → has_room l (length d) ≡ b → length (cond b (numbers l ++ drop (2 * length l) d) d) ≡ length d
  after true e =
      let room = leb-true (2 * length l) (length d) e in
      simp length-append (omega (arith, length_numbers l, length-drop (2 * length l) d))
  after false e = refl

  -- there are as many lent numbers as before
  pub length_after : length (lent_after l d) ≡ length d
  length_after = after (has_room l (length d)) refl

-- ---- as the code lists a progression: its numbers are in range
pub sound_months : (s : Steps) → Sound s → s.numbering ≡ numbering.Months → number_at s (s.count - 1) < 120000
sound_months s r m = subst (λ (n : Numbering). SoundBy n s) m r

pub sound_even : (s : Steps) (h : Heads) → Sound s → s.numbering ≡ numbering.Even h → InRange h s
sound_even s h r m = subst (λ (n : Numbering). SoundBy n s) m r

-- ---- and its count was answered
module _ (s : Steps) (d : List ℤ) {n : ℕ} (e : Ok n ≡ listed_of (ticks s) (length d)) where
  room_left : has_room (ticks s) (length d) ≡ true
  room_left =
      let row = ask refusal.Room (has_room (ticks s) (length d)) ∷ [] in
      and_l_is (has_room (ticks s) (length d)) (answered_ok row (Ok (length (ticks s))) n (sym e)).0
    where
      and_l_is : (b : Bool) → b && true ≡ true → b ≡ true
      and_l_is true h = refl
      and_l_is false h = h

  pub room_for : 2 * s.count ≤ length d
  room_for = omega (arith, leb-true (2 * length (ticks s)) (length d) room_left, count_is s)

  set_list : numbers (ticks s) ++ drop (2 * s.count) d ≡ lent_after (ticks s) d
  set_list = rw (room_left, count_is s)

  abbrev SetBy : Numbering → Type 0
  SetBy n = numbers (values_of (λ i. tick_by n (number_at s i)) s.count) ++ drop (2 * s.count) d ≡ lent_after (ticks s) d

  pub set_months : s.numbering ≡ numbering.Months → numbers (month_ticks s) ++ drop (2 * s.count) d ≡ lent_after (ticks s) d
  set_months m = subst SetBy m set_list

  pub set_even : (h : Heads) → s.numbering ≡ numbering.Even h →
      numbers (even_ticks h s) ++ drop (2 * s.count) d ≡ lent_after (ticks s) d
  set_even h m = subst SetBy m set_list

-- what a list knows of both cases
pub ruleset by_numbering = (sound_months, sound_even, room_for, set_months, set_even)
