-- `axis::ask_axis` meets its contract. Assumes nothing.
use mathlib.Core.Path.{◌≡◌, sym, ◌∙◌, ap}
use mathlib.Core.Bool.{Bool, false}
use mathlib.Core.List.{[], ◌∷◌}
use Rattle.std.specs.Prelude.{⊤, Result, Ok}
use Rattle.asking.specs.declared.Refusal.{Refusal}
use Rattle.asking.specs.declared.Refusal.TheVariants as refusal
use Rattle.asking.specs.Asking.{ask, asked}
use Rattle.asking.proofs.Asked.{asked_append}
use Rattle.values.specs.Values.{is_duration}
use Rattle.axis.specs.Questions.{near_or_long, plain_questions}
use Rattle.axis.proofs.Questions.{other_kind}
use Rattle.axis.proofs.ask_axis.Goals as goal
use Rattle.axis.proofs.ask_axis.Goals.{Else-is_duration}

other : (c : Else-is_duration) → is_duration c.args.a.kind ≡ false
other c = sym c.is_duration.ensures ∙ c.if-is_duration.false

-- question 5 is a yes
pub returns : goal.returns
returns c = let x = c.args in
    let row = plain_questions x.has x.a in
    let last : (b : Bool) → Result ⊤ Refusal = λ b. asked row (asked (ask refusal.Duration b ∷ []) (Ok tt)) in
    c.ask_plain.ensures
    ∙ ap last (other_kind x.a (other (goal.at.returns c).Else-is_duration))
    ∙ sym (asked_append row (ask refusal.Duration (near_or_long x.a) ∷ []) (Ok tt))
