-- Chunks in a row, from a place to the end: each is the one whose header stands where the one
-- before says, and is whole. What a file is read as is just that (`proofs/Row`). Assumes nothing.
use Rattle.std.specs.Prelude.{◌≡◌, IsTrue, List, [], ◌∷◌, ℕ, ◌<◌}
use Rattle.chunks.specs.declared.Chunk.{Chunk}
use Rattle.chunks.specs.Chunks.{chunk_at, next, is_whole}

abbrev pub InRow : List ℕ → ℕ → ℕ → List Chunk → Type 0
InRow file end i [] = i ≡ end
InRow file end i (c ∷ cs) =
    (i < end) × (c ≡ chunk_at file i) × IsTrue (is_whole file end i) × InRow file end (next c) cs
