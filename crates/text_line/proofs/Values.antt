-- A value's field alone reads as it does at the front of what stands behind it. Assumes nothing.
use mathlib.Core.Path.{◌≡◌, refl}
use mathlib.Core.List.{List}
use Prim.Native.Nat.{ℕ}
use Rattle.values.specs.declared.Kind.{Kind}
use Rattle.text_read.specs.Fields.{field_of}
use Rattle.text_read.proofs.Parts.{date_alone, stamp_alone, span_alone}
use Rattle.text_line.specs.Line.{read_value}

pub value_alone : (kind : Kind) (s : List ℕ) → read_value kind (field_of s) ≡ read_value kind s
unfolding read_value
value_alone kind s = rw (stamp_alone s, span_alone s, date_alone s) refl
