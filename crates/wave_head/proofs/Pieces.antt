-- The head of a file is its three pieces, the first of which counts the other two. Assumes nothing.
use mathlib.Core.Path.{◌≡◌, refl}
use mathlib.Core.List.{◌++◌}
use Prim.Native.Nat.{ℕ, ◌+◌}
use Rattle.layout.specs.Bytes.{little_bytes}
use Rattle.wave_head.specs.Head.{riff_head, format_chunk, data_head, sound_head}

pub head_pieces : (channels rate n : ℕ) → sound_head channels rate n ≡ riff_head (32 + n) ++ (format_chunk channels rate ++ data_head n)
unfolding sound_head format_chunk data_head little_bytes
head_pieces channels rate n = refl
