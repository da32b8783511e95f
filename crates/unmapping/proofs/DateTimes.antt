-- Date-times as numbers of nanoseconds: which numbers are one, and its parts. Assumes nothing.
use mathlib.Core.Path.{◌≡◌, refl, sym, ◌∙◌, ap}
use mathlib.Core.Logic.{inl, inr}
use mathlib.Core.Bool.{Bool, true, false, cond}
use mathlib.Core.List.{[], ◌∷◌}
use Prim.Native.Nat.{◌+◌, ◌*◌, ◌/◌, ◌%◌, ◌≤◌, ◌<◌}
use native.Mathlib.Omega.{arith}
use lib.IntN.{ℤ, pos, negsuc, ◌+ℤ◌, ◌*ℤ◌}
use lib.Signed.{le_z}
use Rattle.std.specs.Prelude.{Ok, Err}
use Rattle.asking.specs.declared.Refusal.TheVariants as refusal
use Rattle.asking.specs.Asking.{ask, asked}
use Rattle.laws.specs.Numbers.{within, pos_part, neg_part}
use Rattle.laws.proofs.Signed.{pos_up, le_false}
use Rattle.calendar.specs.Questions.{is_day}
use Rattle.calendar.proofs.Questions.{day_beyond}
use Rattle.values.proofs.Numbers.{within_true, not_below, not_both}
use Rattle.values.proofs.Joining.{joint}
use Rattle.axis.proofs.Checked.{in_range_law, out_of_range}
use Rattle.unmapping.specs.Unmapping.{date_time_at}
use Rattle.unmapping.specs.Moves.{date_time_answer}

-- ---- the day of a number of nanoseconds: none below the day 1, and none behind the last one
answer_low : (z : ℤ) → pos_part z < 86400000000000 + neg_part z → Err refusal.Range ≡ date_time_answer z
unfolding date_time_answer
answer_low z h = out_of_range (date_time_at z) (rw (first z h))
  where
    first : (y : ℤ) → pos_part y < 86400000000000 + neg_part y → pos_part y / 86400000000000 ≡ 0
    first (pos n) l = omega arith
    first (negsuc n) l = omega arith

answer_high : (z : ℤ) → 315537983999999999999 + neg_part z < pos_part z → Err refusal.Range ≡ date_time_answer z
unfolding date_time_answer
answer_high z h = out_of_range (date_time_at z) (day_beyond (pos_part z / 86400000000000) (omega arith))

module _ (day nano : ℤ) (r : within (pos 0) nano (pos 86399999999999) ≡ true) where
  abbrev z : ℤ
  z = day *ℤ pos 86400000000000 +ℤ nano

  nano_dn : neg_part nano ≡ 0
  nano_dn = let (l, h) = within_true (pos 0) nano (pos 86399999999999) r in not_below nano (omega arith)

  nano_most : pos_part nano ≤ 86399999999999
  nano_most = let (l, h) = within_true (pos 0) nano (pos 86399999999999) r in omega (arith, nano_dn)

  pub answer_at : is_day day ≡ true → Ok (record { head = day; tail = nano }) ≡ date_time_answer z
  unfolding date_time_answer
  answer_at e =
      let (l, h) = within_true (pos 1) day (pos 3652059) e in
      let d : neg_part day ≡ 0 = not_below day (omega arith) in
      let u : pos_part z ≡ pos_part day * 86400000000000 + pos_part nano = up d in
      let p : pos (pos_part z / 86400000000000) ≡ day = ap pos (omega (arith, u, nano_most)) ∙ pos_up day d in
      let q : pos (pos_part z % 86400000000000) ≡ nano = ap pos (omega (arith, u, nano_most)) ∙ pos_up nano nano_dn in
      (λ i. Ok (record { head = sym p i; tail = sym q i }))
      ∙ in_range_law (date_time_at z) (rw (← p) at e)
    where
      up : neg_part day ≡ 0 → pos_part z ≡ pos_part day * 86400000000000 + pos_part nano
      up d =
          let j = joint day nano 86400000000000 in
          omega (arith, j, d, nano_dn, not_below z (omega (arith, j, d, nano_dn)))

  pub answer_none : is_day day ≡ false → Err refusal.Range ≡ date_time_answer z
  answer_none e =
      let j = joint day nano 86400000000000 in
      let m = nano_most in
      let n = nano_dn in
      elim (not_both (le_z (pos 1) day) (le_z day (pos 3652059)) e) [
        | inl l ↦ (let x = le_false (pos 1) day l in answer_low z (omega arith))
        | inr h ↦ (let x = le_false day (pos 3652059) h in answer_high z (omega arith))
      ]

  -- as the code asks it
  pub asked_of : asked (ask refusal.Range (is_day day) ∷ []) (Ok (record { head = day; tail = nano })) ≡ date_time_answer z
  asked_of = go (is_day day) refl
    where
      go : (b : Bool) → is_day day ≡ b → cond b (Ok (record { head = day; tail = nano })) (Err refusal.Range) ≡ date_time_answer z
      go true e = answer_at e
      go false e = answer_none e
