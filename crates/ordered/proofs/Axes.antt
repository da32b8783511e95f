-- The numbers of hints, read back from their bits. Assumes nothing.
use mathlib.Core.Path.{◌≡◌}
use lib.IntN.{ℤ}
use mir.Syntax.{w64}
use mir.Val.{SFits, to_z, of_z}
use mir.Facts.{to_z-of_z}
use Rattle.axis.specs.declared.Hint.TheVariants.{Bold, Light}

pub bold_read : {n : ℤ} → SFits w64 n → Bold (record { n = to_z w64 (of_z w64 n) }) ≡ Bold (record { n = n })
bold_read n = λ i. Bold (record { n = to_z-of_z n i })

pub light_read : {bold n : ℤ} → SFits w64 bold → SFits w64 n →
    Light (record { bold = to_z w64 (of_z w64 bold); n = to_z w64 (of_z w64 n) }) ≡ Light (record { bold = bold; n = n })
light_read bold n = λ i. Light (record { bold = to_z-of_z bold i; n = to_z-of_z n i })
