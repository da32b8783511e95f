-- A whole run prints plate's output, whatever chunks the input comes in. Assumes nothing.
use mathlib.Core.Path.{◌≡◌, refl, sym, ◌∙◌, ap}
use mathlib.Core.List.{List, [], ◌++◌, append-nil}
use Prim.Native.Nat.{ℕ}
use Rattle.text_plate.specs.declared.State.{State}
use Rattle.text_plate.specs.Plate.{plate_of}
use Rattle.text_plate.specs.Turns.{ended_text, to_come}
use Rattle.text_plate.specs.Run.{Prints, more, last, over, begin}
use Rattle.text_plate.proofs.Output.{plate_comes}

at_end : (n : ℕ) (begun : List ℕ) → to_come n begun [] ≡ ended_text n begun
unfolding to_come
at_end n begun = refl

prints : {s : State} {input printed : List ℕ} → Prints s input printed → printed ≡ to_come s.number s.line.items input
prints (more {out = out} rest l t p) = ap (λ (x : List ℕ). out.items ++ x) (prints p) ∙ sym (t.output l rest)
prints (last {out = out} rest l t) = sym (append-nil out.items) ∙ sym (t.output l rest)
prints (over {s} w) = w.behind ∙ sym (at_end s.number s.line.items)

-- from the start
pub run_prints : (input printed : List ℕ) → Prints begin input printed → printed ≡ plate_of input
run_prints input printed p = prints p ∙ plate_comes input
