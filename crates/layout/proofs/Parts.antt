-- Laws of a part of a list, read and replaced.
-- In order: a part's length and its elements, and that it is one of the first elements too; a part put at the start; the list with a part replaced: its
-- length, what stands in the part, before it and after it, and up to its end; a part that is made longer by another; the arrays that a list is cut
-- into. Assumes nothing.
use mathlib.Core.Path.{◌≡◌, refl, sym, ap, ◌∙◌}
use mathlib.Core.List.{List, [], ◌∷◌, ◌++◌, append_assoc}
use Prim.Native.Nat.{ℕ, zero, suc, ◌+◌, ◌-◌, ◌*◌, ◌≤◌, ◌<◌}
use native.Mathlib.Nat.{mul-zero, mul-suc}
use native.Mathlib.Numerals.{add-one}
use native.Mathlib.Omega.{arith}
use lib.ListN.{length, get_or, take, drop, length-append, length-drop, take-append-drop, get_or-append}
use lib.Seq.{length-take-le, drop-cons, take-append-le, drop-append-le, get_or-append-add, get_or-take, get_or-drop, take_at, drop_at, drop-drop}
use Rattle.std.specs.Simd.{first_chunks}
use Rattle.layout.specs.Parts.{part, with_part}

module _ {ℓ} {A : Type ℓ} where
  pub part_length : (xs : List A) (i n : ℕ) → i + n ≤ length xs → length (part xs i n) ≡ n
  part_length xs i n h = length-take-le n (drop i xs) (rw length-drop (omega arith))

  -- the first of n + 1 elements, and the rest
  pub part-cons : (xs : List A) (i n : ℕ) (d : A) → i < length xs → part xs i (suc n) ≡ get_or xs i d ∷ part xs (i + 1) n
  part-cons xs i n d h = rw (drop-cons xs i d h, add-one)

  pub part_at : (xs : List A) (i n k : ℕ) (d : A) → k < n → get_or (part xs i n) k d ≡ get_or xs (i + k) d
  part_at xs i n k d h = get_or-take n (drop i xs) k d h ∙ get_or-drop i xs k d

  -- of a list's first m elements, as of the list
  pub part-take : (xs : List A) (m i n : ℕ) → i + n ≤ m → m ≤ length xs → part (take m xs) i n ≡ part xs i n
  part-take xs m i n h l =
      let e : length (take m xs) ≡ m = length-take-le m xs l in
      let s : drop i xs ≡ drop i (take m xs) ++ drop m xs =
      ap (drop i) (sym (take-append-drop m xs)) ∙ drop-append-le i (take m xs) (drop m xs) (rw e (omega arith)) in
      sym (ap (take n) s ∙ take-append-le n (drop i (take m xs)) (drop m xs) (rw (length-drop, e) (omega arith)))

  -- a part put at the start of a list is its first elements
  pub with_first : (xs ys : List A) → take (length ys) (with_part xs 0 ys) ≡ ys
  with_first xs ys = take_at ys (drop (0 + length ys) xs) (length ys) refl

  module _ (xs : List A) (i : ℕ) (ys : List A) (fits : i + length ys ≤ length xs) where
    before_long : length (take i xs) ≡ i
    before_long = length-take-le i xs (omega arith)

    -- the part with what stands before it
    start_long : length (take i xs ++ ys) ≡ i + length ys
    start_long = length-append (take i xs) ys ∙ rw before_long refl

    seam : with_part xs i ys ≡ (take i xs ++ ys) ++ drop (i + length ys) xs
    seam = sym (append_assoc (take i xs) ys (drop (i + length ys) xs))

    pub with_length : length (with_part xs i ys) ≡ length xs
    with_length =
        length-append (take i xs) (ys ++ drop (i + length ys) xs)
        ∙ rw (before_long, length-append ys (drop (i + length ys) xs), length-drop (i + length ys) xs) (omega arith)

    -- the part now holds ys
    pub with_part_lem : part (with_part xs i ys) i (length ys) ≡ ys
    with_part_lem =
        ap (take (length ys)) (drop_at (take i xs) (ys ++ drop (i + length ys) xs) i before_long)
        ∙ take_at ys (drop (i + length ys) xs) (length ys) refl

    pub with_before : (k : ℕ) (d : A) → k < i → get_or (with_part xs i ys) k d ≡ get_or xs k d
    with_before k d h = get_or-append (take i xs) (ys ++ drop (i + length ys) xs) d k (rw before_long h) ∙ get_or-take i xs k d h

    pub with_after : (k : ℕ) (d : A) → i + length ys ≤ k → get_or (with_part xs i ys) k d ≡ get_or xs k d
    with_after k d h =
        let n = k - (i + length ys) in
        let e : k ≡ length (take i xs) + (length ys + n) = rw before_long (omega arith) in
        let f : i + length ys + n ≡ k = omega arith in
        ap (λ (j : ℕ). get_or (with_part xs i ys) j d) e
        ∙ get_or-append-add (take i xs) (ys ++ drop (i + length ys) xs) (length ys + n) d
        ∙ get_or-append-add ys (drop (i + length ys) xs) n d
        ∙ get_or-drop (i + length ys) xs n d ∙ ap (λ (j : ℕ). get_or xs j d) f

    -- up to its end
    with_start : take (i + length ys) (with_part xs i ys) ≡ take i xs ++ ys
    with_start = ap (take (i + length ys)) seam ∙ take_at (take i xs ++ ys) (drop (i + length ys) xs) (i + length ys) start_long

    -- another part right after it is one longer part
    pub with_more : (zs : List A) → with_part (with_part xs i ys) (i + length ys) zs ≡ with_part xs i (ys ++ zs)
    with_more zs =
        let end : i + length ys + length zs ≡ i + length (ys ++ zs) = rw length-append (omega arith) in
        let rest : drop (i + length ys + length zs) (with_part xs i ys) ≡ drop (i + length (ys ++ zs)) xs =
        sym (drop-drop (length zs) (i + length ys) (with_part xs i ys))
        ∙ ap (drop (length zs)) (ap (drop (i + length ys)) seam ∙ drop_at (take i xs ++ ys) (drop (i + length ys) xs) (i + length ys) start_long)
        ∙ drop-drop (length zs) (i + length ys) xs
        ∙ ap (λ (n : ℕ). drop n xs) end in
        rw (with_start, rest)
        (append_assoc (take i xs) ys (zs ++ drop (i + length (ys ++ zs)) xs)
        ∙ ap (λ (l : List A). take i xs ++ l) (sym (append_assoc ys zs (drop (i + length (ys ++ zs)) xs))))

-- the arrays of n elements that a list is cut into are its parts
pub chunk_is : {X : Type 0} → (n k : ℕ) (xs : List X) (i : ℕ) → i < k → get_or (first_chunks n k xs) i [] ≡ part xs (n * i) n
chunk_is n zero xs i h = absurd (omega arith)
chunk_is n (suc k) xs zero h = rw mul-zero refl
chunk_is n (suc k) xs (suc i) h =
    let e : n + n * i ≡ n * suc i = omega (arith, mul-suc n i) in
    chunk_is n k (drop n xs) i (omega arith) ∙ ap (take n) (drop-drop (n * i) n xs ∙ ap (λ (m : ℕ). drop m xs) e)
