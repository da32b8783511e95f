-- `text_write::tick` meets its contract: each arm is one of the definition's. Assumes nothing.
use borrow.Author.Rules.{rules}
use mathlib.Core.Path.{◌≡◌, ◌∙◌, ap}
use Prim.Native.Nat.{ℕ}
use native.Mathlib.Omega.{arith}
use lib.IntN.{ℤ, nat_abs}
use mir.Syntax.{w64}
use mir.Val.{SFits, to_z, of_z}
use mir.Facts.{to_z-of_z}
use Rattle.laws.specs.Numbers.{pos_part, neg_part}
use Rattle.laws.proofs.Signed.{abs}
use Rattle.calendar.specs.Gregorian.{date_of}
use Rattle.values.proofs.Values.{in_dates_or_none, in_times, dates_no_times, dates_no_duration, times_no_duration, day_value}
use Rattle.text_write.specs.Texts.{ymd_text}
use Rattle.text_write.specs.Rows.{tick_text}
use Rattle.text_write.proofs.Writing.{within, same_text}
use Rattle.text_write.proofs.tick.Goals as goal
use Rattle.text_write.proofs.tick.Goals.{Start}

-- a number that the code has, and that is not below zero
up : {z : ℤ} {n : ℕ} → SFits w64 z → neg_part z ≡ 0 → n ≡ nat_abs (to_z w64 (of_z w64 z)) → n ≡ pos_part z
up {z} f e h = h ∙ ap nat_abs (to_z-of_z f) ∙ omega (arith, abs z, e)

head_fits : {g : _} (c : Start g) → SFits w64 c.args.v.head
head_fits {g} c = search rules

tail_fits : {g : _} (c : Start g) → SFits w64 c.args.v.tail
tail_fits {g} c = search rules

pub date_of-d-requires : goal.date_of-d-requires
date_of-d-requires g c =
    let over = in_dates_or_none c.args.kind c.args.v c.requires.0 c.in-Date.is in
    let d = day_value _ _ c.requires.0 (dates_no_duration c.args.kind over) in
    let e = up (head_fits (goal.at.date_of-d-requires g c).Start) d.head_dn c.unsigned_abs.ensures.value in
    (omega (arith, e), omega (arith, e))

pub returns-in-Date : goal.returns-in-Date
unfolding tick_text
returns-in-Date g c =
    let k = in_dates_or_none c.args.kind c.args.v c.requires.0 c.in-Date.is in
    let n = dates_no_duration c.args.kind k in
    let d = day_value _ _ c.requires.0 n in
    let e = up (head_fits (goal.at.returns-in-Date g c).Start) d.head_dn c.unsigned_abs.ensures.value in
    rw (dates_no_times c.args.kind k, n)
    (same_text (ap ymd_text (c.date_of-d.ensures ∙ ap date_of e)) (within (omega arith) c.date.ensures))

pub date_of-d-requires-in-Stamp : goal.date_of-d-requires-in-Stamp
date_of-d-requires-in-Stamp g c =
    let d = day_value _ _ c.requires.0 (times_no_duration c.args.kind (in_times c.args.kind c.in-Stamp.is)) in
    let e = up (head_fits (goal.at.date_of-d-requires-in-Stamp g c).Start) d.head_dn c.unsigned_abs-in-Stamp.ensures.value in
    (omega (arith, e), omega (arith, e))

pub returns-in-Stamp : goal.returns-in-Stamp
unfolding tick_text
returns-in-Stamp g c =
    let s = (goal.at.returns-in-Stamp g c).Start in
    let k = in_times c.args.kind c.in-Stamp.is in
    let d = day_value _ _ c.requires.0 (times_no_duration c.args.kind k) in
    let e = up (head_fits s) d.head_dn c.unsigned_abs-in-Stamp.ensures.value in
    let t = up (tail_fits s) d.tail_dn c.unsigned_abs-in-Stamp-2.ensures.value in
    rw (k, ← e, ← t, ← c.date_of-d-in-Stamp.ensures) (within (omega arith) c.date_time.ensures)

pub returns-in-Span : goal.returns-in-Span
unfolding tick_text
returns-in-Span g c = rw c.in-Span.is c.span.ensures
