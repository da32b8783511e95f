-- What mapping answers, by its questions, and what an answered call says of them. Assumes nothing.
use mathlib.Core.Path.{◌≡◌, refl, sym, ◌∙◌, ap}
use mathlib.Core.Bool.{Bool, true, false, cond, ◌&&◌}
use mathlib.Core.List.{List, [], ◌∷◌}
use Rattle.std.specs.Prelude.{⊤, Result, Ok, Err}
use Rattle.asking.specs.Asking.{Question, ask, asked, passes}
use Rattle.asking.specs.declared.Refusal.{Refusal}
use Rattle.asking.specs.declared.Refusal.TheVariants as refusal
use Rattle.asking.proofs.Asked.{asked_append, answered_ok, passed, passed_first, refused, refused_first}
use Rattle.values.specs.declared.Value.{Value}
use Rattle.axis.specs.declared.Axis.{Axis}
use Rattle.axis.specs.declared.Limits.{Limits}
use Rattle.axis.specs.Questions.{fits_i32}
use Rattle.mapping.specs.declared.Hairline.{Hairline}
use Rattle.mapping.specs.Mapping.{placed, hairline, scale_questions, map_value_questions, pixel_questions, map_questions, mapped}
use Rattle.mapping.specs.Mapping.{mapped_by}

-- what is behind a row counts only where the row passes
pub behind : {A : Type 0} (row : List Question) (x y : Result A Refusal) → (passes row ≡ true → x ≡ y) → asked row x ≡ asked row y
behind [] x y f = f refl
behind (q ∷ row) x y f = by_test q.yes (λ e. behind row x y (λ r. f (λ i. e i && r i)))
  where
    by_test : (b : Bool) → (b ≡ true → asked row x ≡ asked row y) → cond b (asked row x) (Err q.refusal)
        ≡ cond b (asked row y) (Err q.refusal)
    by_test true later = later refl
    by_test false later = refl

pub answer_at : (row : List Question) (h k : Hairline) → asked row (Ok h) ≡ Ok k → (passes row ≡ true) × (h ≡ k)
answer_at row h k e =
    let (none, is) = answered_ok row (Ok h) k e in
    (none, cc)

module _ (a : Axis) (l : Limits) (v : Value) where
  -- the questions of the axis and the limits first
  pub in_parts : mapped a l v ≡ asked (scale_questions a l) (mapped_by a l v)
  unfolding mapped mapped_by
  in_parts = asked_append (scale_questions a l) (pixel_questions a v (placed a l v)) (Ok (hairline a l v))

  pub by_scale : passes (scale_questions a l) ≡ true → mapped_by a l v ≡ mapped a l v
  by_scale e = passed (scale_questions a l) (mapped_by a l v) e ∙ sym in_parts

  pub accepted : (h : Hairline) → mapped a l v ≡ Ok h → (passes (map_questions a l v) ≡ true) × (placed a l v ≡ h.pixel)
  unfolding mapped hairline
  accepted h e =
      let (none, is) = answer_at (map_questions a l v) (hairline a l v) h e in
      (none, ap (λ (k : Hairline). k.pixel) is)

  pub accepted_as : (h : Hairline) → mapped a l v ≡ Ok h → hairline a l v ≡ h
  unfolding mapped
  accepted_as h e = (answer_at (map_questions a l v) (hairline a l v) h e).1

  -- a refusal of the value, and question 10 where it is not refused
  pub value_refused : (q : Refusal) (u : ⊤) → asked (map_value_questions a v) (Ok u) ≡ Err q → Err q ≡ mapped_by a l v
  unfolding mapped_by
  value_refused q u e =
      refused_first (map_value_questions a v) (ask refusal.Range (fits_i32 (placed a l v)) ∷ []) u (Ok (hairline a l v)) q e

  pub range_asked : passes (map_value_questions a v) ≡ true →
      asked (ask refusal.Range (fits_i32 (placed a l v)) ∷ []) (Ok (hairline a l v)) ≡ mapped_by a l v
  unfolding mapped_by
  range_asked e =
      passed_first (map_value_questions a v) (ask refusal.Range (fits_i32 (placed a l v)) ∷ []) (Ok (hairline a l v)) e

  -- a refusal of the axis or of the limits
  pub scale_refused : {B : Type 0} (b : B) (q : Refusal) → asked (scale_questions a l) (Ok b) ≡ Err q → Err q ≡ mapped a l v
  scale_refused b q e = refused (scale_questions a l) b (mapped_by a l v) q e ∙ sym in_parts
