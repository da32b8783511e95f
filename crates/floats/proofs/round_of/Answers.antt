-- `floats::round_of` meets its contract, by the laws of a pattern's nearest whole number. Assumes nothing.
use mathlib.Core.Path.{sym}
use Rattle.floats.proofs.Rounds.{round_small, round_middle, round_large, round_beyond}
use Rattle.floats.proofs.round_of.Goals as goal

pub returns-then-e-lt126 : goal.returns-then-e-lt126
returns-then-e-lt126 c = sym (round_small c.args.bits c.if-e-lt126.true)

pub returns-then-e-lt150 : goal.returns-then-e-lt150
returns-then-e-lt150 c = sym (round_middle c.args.bits c.if-e-lt126.false c.if-e-lt150.true)

pub returns-then-e-lt191 : goal.returns-then-e-lt191
returns-then-e-lt191 c = sym (round_large c.args.bits c.if-e-lt150.false c.if-e-lt191.true)

pub returns : goal.returns
returns c = sym (round_beyond c.args.bits c.if-e-lt191.false c.requires)
