-- What a WAVE file begins with, as bytes. Numbers have their lowest byte first.
-- In order: the file's own head; the format chunk; the data chunk's head; all three, for a file
-- that has no other chunk; a rate. Assumes nothing.
use Rattle.std.specs.Prelude.{ℕ, ◌+◌, ◌*◌, List, ◌++◌, length}
use Rattle.layout.specs.Bytes.{little_bytes}
use Rattle.chunks.specs.Chunks.{riff_name, wave_name, format_name, data_name}
use Rattle.wave.specs.Wave.{format_bytes}

-- a file whose chunks have n bytes in all: that number counts the four of "WAVE" too
unfoldable pub riff_head : ℕ → List ℕ
riff_head n = little_bytes 4 riff_name ++ little_bytes 4 (4 + n) ++ little_bytes 4 wave_name

-- PCM of 16 bits: its tag is 1; so many channels and samples a second, and the bytes a second and
-- those of one sample of all channels
unfoldable pub format_chunk : ℕ → ℕ → List ℕ
format_chunk channels rate =
    let bytes = 2 * channels in
    little_bytes 4 format_name ++ little_bytes 4 format_bytes ++ little_bytes 2 1
    ++ little_bytes 2 channels ++ little_bytes 4 rate ++ little_bytes 4 (bytes * rate)
    ++ little_bytes 2 bytes ++ little_bytes 2 16

-- a data chunk of n bytes, which follow it
unfoldable pub data_head : ℕ → List ℕ
data_head n = little_bytes 4 data_name ++ little_bytes 4 n

-- before the n bytes of sound of a file that has these two chunks
unfoldable pub sound_head : ℕ → ℕ → ℕ → List ℕ
sound_head channels rate n =
    let chunks = format_chunk channels rate ++ data_head n in
    riff_head (length chunks + n) ++ chunks

-- the chip's frames a second, with all voices active and a clock of 16 MHz
abbrev pub sound_rate : ℕ
sound_rate = 31250
