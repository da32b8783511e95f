-- `text_line::read_value` meets its contract: the kind decides the form, and the field's reader the value. Assumes nothing.
use mathlib.Core.Path.{◌≡◌}
use mathlib.Core.Logic.{◌⊎◌, inl, inr}
use mathlib.Core.Bool.{true, false}
use Rattle.values.specs.declared.Kind.{Kind}
use Rattle.values.specs.declared.Kind.TheVariants as kind
use Rattle.values.specs.Values.{over_date_times, is_duration}
use Rattle.text_line.specs.Line.{read_value}
use Rattle.text_line.proofs.read_value.Goals as goal

-- ---- date-times
times : (k : Kind) → (k ≡ kind.Stamp) ⊎ ((k ≡ kind.StampMonth) ⊎ (k ≡ kind.StampYear)) → over_date_times k ≡ true
times k (inl e) = rw e
times k (inr (inl e)) = rw e
times k (inr (inr e)) = rw e

pub returns-in_err-stamp-in-Stamp : goal.returns-in_err-stamp-in-Stamp
unfolding read_value
returns-in_err-stamp-in-Stamp c =
    rw (
      c.from_residual.ensures,
      times c.args.kind c.in-Stamp.is,
      ← c.stamp.ensures.value,
      c.in_err-stamp-in-Stamp.was,
    )

pub returns-in_ok-stamp-in-Stamp : goal.returns-in_ok-stamp-in-Stamp
unfolding read_value
returns-in_ok-stamp-in-Stamp c =
    rw (
      c.stamp_value.ensures,
      times c.args.kind c.in-Stamp.is,
      ← c.stamp.ensures.value,
      c.in_ok-stamp-in-Stamp.was,
    )

-- ---- spans
pub returns-in_err-span-in-Span : goal.returns-in_err-span-in-Span
unfolding read_value
returns-in_err-span-in-Span c =
    rw (
      c.from_residual-in_err-span-in-Span.ensures,
      c.in-Span.is,
      ← c.span.ensures.value,
      c.in_err-span-in-Span.was,
    )

pub returns-in_ok-span-in-Span : goal.returns-in_ok-span-in-Span
unfolding read_value
returns-in_ok-span-in-Span c =
    rw (c.span_value.ensures, c.in-Span.is, ← c.span.ensures.value, c.in_ok-span-in-Span.was)

-- ---- dates
dates : (k : Kind) → (k ≡ kind.Date) ⊎ ((k ≡ kind.Month) ⊎ ((k ≡ kind.Year) ⊎ ((k ≡ kind.Week) ⊎ (k ≡ kind.Unknown)))) →
    (over_date_times k ≡ false) × (is_duration k ≡ false)
dates k (inl e) = (rw e, rw e)
dates k (inr (inl e)) = (rw e, rw e)
dates k (inr (inr (inl e))) = (rw e, rw e)
dates k (inr (inr (inr (inl e)))) = (rw e, rw e)
dates k (inr (inr (inr (inr e)))) = (rw e, rw e)

pub returns-in_err-date-in-Date : goal.returns-in_err-date-in-Date
unfolding read_value
returns-in_err-date-in-Date c =
    let (t, d) = dates c.args.kind c.in-Date.is in
    rw (
      c.from_residual-in_err-date-in-Date.ensures,
      t,
      d,
      ← c.date.ensures.value,
      c.in_err-date-in-Date.was,
    )

pub returns-in_ok-date-in-Date : goal.returns-in_ok-date-in-Date
unfolding read_value
returns-in_ok-date-in-Date c =
    let (t, d) = dates c.args.kind c.in-Date.is in
    rw (c.on_day.ensures, t, d, ← c.date.ensures.value, c.in_ok-date-in-Date.was)
