-- `mapping::Scale::from_low` meets its contract: a cut float fits, and so does its sum with a pixel. Assumes nothing.
use borrow.Author.Rules.{rules}
use mathlib.Core.Path.{◌≡◌, refl, sym, ◌∙◌, ap}
use mathlib.Core.Bool.{◌||◌}
use lib.IntN.{ℤ, ◌+ℤ◌, ◌*ℤ◌}
use mir.Syntax.{w32, w64}
use mir.Val.{SFits, to_z, of_z}
use mir.Facts.{to_z-of_z}
use Rattle.laws.specs.Numbers.{equal}
use Rattle.axis.proofs.PixelRanges.{limits_are}
use Rattle.floats.specs.Rounding.{cut}
use Rattle.floats.specs.Losses.{lost_in}
use Rattle.mapping.specs.Position.{width}
use Rattle.mapping.specs.Mapping.{exact_by, lost_by}
use Rattle.mapping.proofs.Ranges.{wider, cut_fits, sum_fits, width_back}
use Rattle.mapping.proofs.Positions.{low_off}
use Rattle.mapping.proofs.Scale.from_low.Goals as goal
use Rattle.mapping.proofs.Scale.from_low.Goals.{After-from-position, Start}

-- the cut, as the code reads it back
back_32 : (c : After-from-position) → c.from-position.result ≡ cut c.args.q.x
back_32 c = c.from-position.ensures ∙ ap (λ (z : ℤ). to_z w32 (of_z w32 z)) c.to_i32.ensures ∙ to_z-of_z (cut_fits c.args.q.x)

back : (c : After-from-position) → to_z w64 (of_z w64 c.from-position.result) ≡ cut c.args.q.x
back c = ap (λ (z : ℤ). to_z w64 (of_z w64 z)) (back_32 c) ∙ to_z-of_z (wider (cut c.args.q.x) (cut_fits c.args.q.x))

low_fits : (c : Start) → SFits w64 c.args.self.limits.low
low_fits c = search rules

-- the pixel
fits : (c : Start) → SFits w64 (c.args.self.limits.low +ℤ cut c.args.q.x)
fits c = sum_fits c.args.self.limits.low (cut c.args.q.x) (limits_are c.args.self.limits c.args.self.ready.on_page).0
    (cut_fits c.args.q.x)

pub overflow_add-pixel : goal.overflow_add-pixel
overflow_add-pixel c = let p = goal.at.overflow_add-pixel c in
    rw (to_z-of_z (low_fits p.Start), back p.After-from-position) (fits p.Start)

-- as the code reads it back
pixel_is : (c : After-from-position) → let l = c.args.self.limits in
    to_z w64 (of_z w64 (to_z w64 (of_z w64 l.low) +ℤ to_z w64 (of_z w64 c.from-position.result))) ≡ l.low +ℤ cut c.args.q.x
pixel_is c = let p = (goal.at.After-from-position c).Start in
    ap (λ (z : ℤ). to_z w64 (of_z w64 z)) (λ j. to_z-of_z (low_fits p) j +ℤ back c j) ∙ to_z-of_z (fits p)

pub returns-in_default : goal.returns-in_default
returns-in_default c = let x = c.args in
    let p = x.self.limits.low +ℤ cut x.q.x in
    let is = sym c.in_default.is in
    λ i. record {
      pixel = pixel_is (goal.at.returns-in_default c).After-from-position i;
      exact = exact_by x.self.limits p (is i);
      lost = lost_by (is i);
    }

pub returns : goal.returns
returns c = let x = c.args in
    let p = goal.at.returns c in
    let low = x.self.limits.low in
    let at = cut x.q.x in
    let r = c.in-Some.r in
    let of : SFits w64 r.offset = search rules in
    let sf : SFits w64 r.span = search rules in
    let is = sym c.in-Some.is in
    let wide = width_back x.self.limits c.width.result x.self.ready.on_page c.width.ensures in
    λ i. record {
      pixel = pixel_is p.After-from-position i;
      exact = (c.same_products.ensures
          ∙ (λ j. equal (wide j *ℤ to_z-of_z of j) (back p.After-from-position j *ℤ to_z-of_z sf j))
          ∙ ap (λ (z : ℤ). equal (width x.self.limits *ℤ r.offset) (z *ℤ r.span)) (sym (low_off low at (low +ℤ at) refl))
          ∙ ap (exact_by x.self.limits (low +ℤ at)) is) i;
      lost = (c.either_loses.ensures ∙ (λ j. lost_in (to_z-of_z of j) || lost_in (to_z-of_z sf j)) ∙ ap lost_by is) i;
    }
