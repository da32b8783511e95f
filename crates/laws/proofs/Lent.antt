-- A lent slice that is written from the front: `p` is what was written so far, the rest is still `d`'s.
-- One more store makes `p` one longer and leaves what lies behind it. Assumes nothing.
use mathlib.Core.Path.{◌≡◌, sym, ◌∙◌}
use mathlib.Core.List.{List, [], ◌∷◌, ◌++◌}
use Prim.Native.Nat.{ℕ, suc, ◌+◌, ◌<◌}
use native.Mathlib.Numerals.{add-one}
use native.Mathlib.Nat.{add_assoc}
use native.Mathlib.Omega.{arith}
use lib.ListN.{length, get_or, set, drop, length-append}
use lib.Seq.{drop-cons, set_at, append_snoc}

module _ {A : Type 0} where
  push : (p d : List A) (k : ℕ) (v : A) → length p ≡ k → k < length d → set (p ++ drop k d) k v ≡ (p ++ (v ∷ []))
      ++ drop (k + 1) d
  push p d k v e h = rw (add-one k, drop-cons d k v h) (set_at p (get_or d k v) (drop (suc k) d) v k e
      ∙ sym (append_snoc p v (drop (suc k) d)))

  pub length_push : (p : List A) (k : ℕ) (v : A) → length p ≡ k → length (p ++ (v ∷ [])) ≡ k + 1
  length_push p k v e = simp length-append (omega arith)

  -- a pair: two stores
  pub push_two : (l p d : List A) (k : ℕ) (v w : A) → l ≡ p ++ drop k d → length p ≡ k → k + 1 < length d
      → set (set l k v) (k + 1) w ≡ ((p ++ (v ∷ [])) ++ (w ∷ [])) ++ drop (k + 2) d
  push_two l p d k v w q e h = rw (
    q,
    push p d k v e (omega arith),
    push (p ++ (v ∷ [])) d (k + 1) w (length_push p k v e) h,
    add_assoc,
  )
