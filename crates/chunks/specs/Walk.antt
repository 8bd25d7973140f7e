-- What the functions of the walk promise: where a file's chunks end, and what stands at a place.
-- Assumes nothing.
use Rattle.std.specs.Prelude.{if◌then◌else◌, List, ℕ, Option, Some, None}
use Rattle.chunks.specs.Chunks.{chunk_at, next, is_whole, is_headed, riff_end}
use Rattle.chunks.specs.declared.Chunk.{Chunk}

-- none for a file that is no RIFF/WAVE
unfoldable pub opened_of : List ℕ → Option ℕ
opened_of file = if is_headed file then Some (riff_end file) else None

-- a whole chunk and the place of the next; none for one that runs past the end
unfoldable pub reach_of : List ℕ → ℕ → ℕ → Option (Chunk × ℕ)
reach_of file end i =
    if is_whole file end i then Some (chunk_at file i, next (chunk_at file i)) else None
