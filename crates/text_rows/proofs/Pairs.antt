-- The ticks of a list as its chunks of two give them. Assumes nothing.
use mathlib.Core.Path.{◌≡◌, refl, sym, ◌∙◌, ap}
use mathlib.Core.Bool.{Bool, true, false, ◌||◌}
use mathlib.Core.List.{List, [], ◌∷◌, ◌++◌}
use Prim.Native.Nat.{ℕ, zero, suc, ◌+◌, ◌*◌, ◌/◌, ◌<◌, ◌≤◌}
use native.Mathlib.Omega.{arith}
use lib.IntN.{ℤ, pos}
use lib.ListN.{length, take, drop, get_or}
use lib.Seq.{take-suc, take_all, get_or-take, get_or-drop}
use Rattle.std.specs.List.{list_any}
use Rattle.std.specs.Simd.{first_chunks}
use Rattle.values.specs.declared.Value.{Value}
use Rattle.steps.specs.Promise.{nth}
use Rattle.text_rows.specs.Answers.{has_fraction, fraction_before, shows_fractions}

-- the pair that a chunk of two is
abbrev pub pair : List ℤ → Value
pair x = record { head = get_or x 0 (pos 0); tail = get_or x 1 (pos 0) }

abbrev chunk_fraction : List ℤ → Bool
chunk_fraction x = has_fraction (pair x)

-- a number of a chunk
number_at : (n : ℕ) (l : List ℤ) (i j : ℕ) → i < n → j < 2 →
    get_or (get_or (first_chunks 2 n l) i []) j (pos 0) ≡ get_or l (2 * i + j) (pos 0)
number_at zero l i j k h = absurd (let z : ⊥ = omega arith in z)
number_at (suc n) l zero j k h = let e : 2 * 0 + j ≡ j = omega arith in rw e (get_or-take 2 l j (pos 0) h)
number_at (suc n) l (suc i) j k h =
    let e : 2 * suc i + j ≡ 2 + (2 * i + j) = omega arith in
    rw e (number_at n (drop 2 l) i j (omega arith) h ∙ get_or-drop 2 l (2 * i + j) (pos 0))

-- the tick of a chunk
pub pair_at : (n : ℕ) (l : List ℤ) (i : ℕ) → i < n → pair (get_or (first_chunks 2 n l) i []) ≡ nth l i
pair_at n l i k =
    let e : 2 * i + 0 ≡ 2 * i = omega arith in
    let head = rw e at (number_at n l i 0 k (omega arith)) in
    rw (head, number_at n l i 1 k (omega arith)) refl

length_chunks : (n : ℕ) (l : List ℤ) → length (first_chunks 2 n l) ≡ n
length_chunks zero l = refl
length_chunks (suc n) l = ap suc (length_chunks n (drop 2 l))

any_more : (l : List (List ℤ)) (v : List ℤ) →
    list_any chunk_fraction (l ++ (v ∷ [])) ≡ chunk_fraction v || list_any chunk_fraction l
any_more [] v = refl
any_more (u ∷ l) v = rw (any_more l v) (swap (chunk_fraction u) (chunk_fraction v) (list_any chunk_fraction l))
  where
    swap : (a b c : Bool) → a || (b || c) ≡ b || (a || c)
    swap true true c = refl
    swap true false c = refl
    swap false b c = refl

before : (n : ℕ) (l : List ℤ) (k : ℕ) → k ≤ n → fraction_before l k ≡ list_any chunk_fraction (take k (first_chunks 2 n l))
unfolding fraction_before
before n l zero h = refl
before n l (suc k) h =
    let e : chunk_fraction (get_or (first_chunks 2 n l) k []) ≡ has_fraction (nth l k) =
    ap has_fraction (pair_at n l k (omega arith)) in
    rw (
      take-suc (first_chunks 2 n l) k [] (omega (arith, length_chunks n l)),
      any_more,
      e,
      before n l k (omega arith),
    )

-- whether one of them has a fraction
pub any_fraction : (l : List ℤ) → list_any (λ x. has_fraction (pair x)) (first_chunks 2 (length l / 2) l) ≡ shows_fractions l
any_fraction l =
    let n = length l / 2 in
    sym (before n l n (omega arith)
    ∙ ap (list_any chunk_fraction) (take_all n (first_chunks 2 n l) (omega (arith, length_chunks n l))))
