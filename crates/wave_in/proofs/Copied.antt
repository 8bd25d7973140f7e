-- Samples on their way into the memory: how far a list has been copied over another, the number of a pair of bytes, and the part put back where it
-- was lent. Assumes nothing.
use mathlib.Core.Path.{◌≡◌, sym, ap, ◌∙◌}
use mathlib.Core.List.{List, []}
use Prim.Native.Nat.{ℕ, ◌+◌, ◌-◌, ◌*◌, ◌/◌, ◌≤◌, ◌<◌}
use native.Mathlib.Omega.{arith}
use borrow.Rule.Slice.PartMut.{put_mid, Post-is}
use lib.ListN.{length, get_or, take, drop, set}
use Rattle.std.specs.Int.{w16, from_le_bytes}
use Rattle.std.specs.Simd.{first_chunks}
use Rattle.std.proofs.lemmas.List.{take_more, take_more_set, take_all}
use Rattle.layout.specs.Parts.{part, with_part}
use Rattle.layout.specs.Bytes.{little, twos}
use Rattle.layout.proofs.Parts.{part_length, chunk_is}
use Rattle.layout.proofs.Bytes.{part_2, twos-length, twos_at}
use Rattle.layout.proofs.Endian.{little_2_at}
use Rattle.chunks.specs.declared.Chunk.{Chunk}
use Rattle.wave.specs.Wave.{count_of, samples_of}
use Rattle.wave_in.specs.Steps.{Placeable}

-- one element more of v stands in w
pub one_more : (v w : List ℕ) (i x : ℕ) → i < length v → i < length w → x ≡ get_or v i 0 → take i w ≡ take i v → take (i + 1) (set w i x) ≡ take (i + 1) v
one_more v w i x h k e s = take_more_set w i x k ∙ rw (s, e) (sym (take_more v i 0 h))

pub all_copied : (v w : List ℕ) (i : ℕ) → length w ≡ length v → length w ≤ i → take i w ≡ take i v → w ≡ v
all_copied v w i e h s = sym (take_all i w h) ∙ s ∙ take_all i v (omega arith)

-- the number of a pair of bytes is that of the list's bytes by twos
pub pair_is : (bytes : List ℕ) (pairs : List (List ℕ)) (i n : ℕ) → length bytes ≡ 2 * n → i < n → pairs ≡ first_chunks 2 (length bytes / 2) bytes
    → from_le_bytes w16 (get_or pairs i []) ≡ get_or (twos little bytes) i 0
pair_is bytes pairs i n l h e =
    let k : i < length bytes / 2 = omega arith in
    let t : i < length (twos little bytes) = rw (twos-length little bytes n l) h in
    rw (e, chunk_is 2 (length bytes / 2) bytes i k) (little_2_at bytes (2 * i) (omega arith) ∙ ap little (part_2 bytes (2 * i) (omega arith)) ∙ sym (twos_at little bytes i t))

-- as many samples as are counted
pub samples_length : (file : List ℕ) (c : Chunk) (room word : ℕ) → Placeable file c room word → length (samples_of file c) ≡ count_of c
samples_length file c room word p = twos-length little (part file c.place c.size) (count_of c) (part_length file c.place c.size p.inside ∙ p.even)

pub put_back : (file memory : List ℕ) (c : Chunk) (word : ℕ) → Placeable file c (length memory) word
    → (y : List ℕ) → y ≡ twos little (take (c.place + c.size - c.place) (drop c.place file))
    → put_mid word (word + c.size / 2 - word) memory y ≡ with_part memory word (samples_of file c)
put_back file memory c word p y e =
    let s : c.place + c.size - c.place ≡ c.size = omega arith in
    rw (e, s, samples_length file c (length memory) word p, Post-is word (word + c.size / 2) memory (omega arith))
