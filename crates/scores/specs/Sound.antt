-- What is heard of a frame's twelve values, and of a run of frames: stereo, 16 bits.
-- In order: one side of a frame; what is heard of it; the bytes of a frame; the bytes of some
-- frames; the loudest sample of these. Assumes nothing.
use Rattle.std.specs.Prelude.{ℕ, zero, suc, ◌+◌, ◌*◌, max, List, [], ◌++◌, ℤ, pos, nat_abs, ◌+ℤ◌}
use Rattle.std.specs.Prelude.{slice_index_or, take, drop}
use Rattle.numbers.specs.Numbers.{floor_div, minus, held, word, signed}
use Rattle.layout.specs.Bytes.{little_bytes, little2_at}
use Rattle.machine.specs.Words.{output_values}

-- the sum of the six channels on a side, which is 0 for the left and 1 for the right
unfoldable pub side_of : ℕ → List ℤ → ℤ
side_of side values =
    let of : ℕ → ℤ = λ channel. slice_index_or values (2 * channel + side) (pos 0) in
    of 0 +ℤ of 1 +ℤ of 2 +ℤ of 3 +ℤ of 4 +ℤ of 5

-- The channels have 20 bits: of their sum the four lowest are left out, and the rest is held to 16.
unfoldable pub heard_of : ℤ → ℤ
heard_of sum = held (minus 32768) (pos 32767) (floor_div sum 16)

-- left, then right, two bytes each, the low one first
abbrev pub sample_size : ℕ
sample_size = 4

unfoldable pub sample_bytes : List ℤ → List ℕ
sample_bytes values =
    little_bytes 2 (word 16 (heard_of (side_of 0 values)))
    ++ little_bytes 2 (word 16 (heard_of (side_of 1 values)))

-- of n frames, whose values follow each other
unfoldable pub sound_of : ℕ → List ℤ → List ℕ
sound_of zero values = []
sound_of (suc n) values =
    sample_bytes (take output_values values) ++ sound_of n (drop output_values values)

-- the loudest of the first n samples, or what was the loudest before
unfoldable pub loudest_of : List ℕ → ℕ → ℕ → ℕ
loudest_of sound zero before = before
loudest_of sound (suc n) before =
    max (loudest_of sound n before) (nat_abs (signed 16 (little2_at sound (2 * n))))
