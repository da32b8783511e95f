-- What is kept of a line, how much of a chunk is left, and that it does not matter where chunks end. Assumes nothing.
use mathlib.Core.Path.{◌≡◌, refl, sym, ◌∙◌, ap}
use mathlib.Core.Bool.{Bool, true, false, cond}
use mathlib.Core.List.{List, [], ◌∷◌, ◌++◌, append_assoc}
use Prim.Native.Nat.{ℕ, zero, suc, min, ◌+◌, ◌-◌, ◌<◌, ◌≤◌}
use native.Mathlib.Decide.{dec_le}
use native.Mathlib.Omega.{arith}
use lib.Dec.{ltb}
use lib.ListN.{length, take, drop, replicate, length-append, length-drop}
use lib.Seq.{take_all, take_at, take-append-add, length-take-le}
use borrow.Author.Tests.{ltb-true}
use borrow.Rule.Slice.PartMut.{put_mid, mid_of, post_of, same_len_mid, mid_len, drop_put}
use Rattle.std.proofs.Common.{drop-drop}
use Rattle.std.proofs.lemmas.List.{drop-replicate}
use Rattle.std.specs.Prelude.{Some, None}
use Rattle.text_read.specs.Bytes.{line_feed}
use Rattle.text_read.specs.Fields.{until_of}
use Rattle.feed.specs.Feed.{line_of, Ate}

-- what there is room for, of 121 bytes
pub kept : (b p : List ℕ) (room n : ℕ) → room + length b ≡ 121 → n ≡ min (length p) room → b ++ take n p ≡ line_of b p
kept b p room n r e =
    let q : length b + room ≡ 121 = omega arith in
    rw (cut (dec_le (length p) room)) (sym (take-append-add b p room) ∙ ap (λ (m : ℕ). take m (b ++ p)) q)
  where
    cut : Dec (length p ≤ room) → take n p ≡ take room p
    cut (yes l) = take_all n p (omega arith) ∙ sym (take_all room p l)
    cut (no l) = let m : n ≡ room = omega arith in rw m

-- n bytes put behind the first a, before zeros
module _ (xs ys : List ℕ) (a n : ℕ) (room : a + n ≤ 121) (all : length xs ≡ 121) (size : length ys ≡ n) where
  abbrev put : List ℕ
  put = put_mid a (a + n - a) xs ys

  pub put_front : take (a + n) put ≡ take a xs ++ ys
  put_front =
      let e : length (take a xs) ≡ a = length-take-le a xs (omega (arith, room, all)) in
      rw (← append_assoc (take a xs) ys (post_of a (a + n - a) xs))
      (take_at (take a xs ++ ys) (post_of a (a + n - a) xs) (a + n) (omega (arith, length-append (take a xs) ys, e, size)))

  pub put_length : length put ≡ 121
  put_length =
      let m : length (mid_of a (a + n - a) xs) ≡ a + n - a = mid_len a (a + n) xs (omega (arith, room, all)) in
      same_len_mid a (a + n - a) xs ys (omega (arith, m, size)) ∙ all

  pub put_rest : drop a xs ≡ replicate (121 - a) 0 → drop (a + n) put ≡ replicate (121 - (a + n)) 0
  put_rest z =
      let m : 121 - a - n ≡ 121 - (a + n) = omega arith in
      drop_put a (a + n) xs ys (omega arith) (omega (arith, room, all)) (omega (arith, size))
      ∙ (sym (drop-drop n a xs) ∙ rw (z, ← m) (drop-replicate n (121 - a) 0))

-- ---- how much of a chunk is left
-- it is the end of the chunk, and some of the chunk is read
pub behind : (b chunk rest after : List ℕ) → Ate b chunk (Some rest) after → (length rest < length chunk)
    × (rest ≡ drop (length chunk - length rest) chunk)
behind b chunk rest after h = by_end (ltb k (length chunk)) (ltb-true k (length chunk)) h.left
  where
    k : ℕ
    k = until_of line_feed chunk

    by_end : (t : Bool) → (t ≡ true → k < length chunk) → Some rest ≡ cond t (Some (drop (k + 1) chunk)) None →
        (length rest < length chunk) × (rest ≡ drop (length chunk - length rest) chunk)
    by_end true l e =
        let q : rest ≡ drop (k + 1) chunk = cc in
        let n : length rest ≡ length chunk - (k + 1) = ap length q ∙ length-drop (k + 1) chunk in
        let m : length chunk - length rest ≡ k + 1 = omega (arith, l refl) in
        (omega (arith, l refl), rw m q)
    by_end false l e = absurd (let z : ⊥ = cc in z)

-- ---- where a chunk ends does not matter
pub take_front : (n : ℕ) (x q : List ℕ) → take n (take n x ++ q) ≡ take n (x ++ q)
take_front zero x q = refl
take_front (suc n) [] q = refl
take_front (suc n) (a ∷ x) q = ap (λ (l : List ℕ). a ∷ l) (take_front n x q)
