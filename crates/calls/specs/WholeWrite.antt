-- The calls by which a plain host writes one register of a voice whole. What they leave is
-- proofs/WholeWrite. Assumes nothing.
use Rattle.std.specs.Prelude.{List, [], ◌∷◌, ℕ, ◌+◌, ◌*◌}
use Rattle.registers.specs.Registers.{byte_of}
use Rattle.registers.specs.Named.{page_for, register_for}
use Rattle.calls.specs.Calls.{Call, Write}

-- x into word j of voice v: the page by its lowest byte alone, and the four bytes of the register
unfoldable pub write_calls : ℕ → ℕ → ℕ → List Call
write_calls v j x =
    let r = register_for j in
    Write (4 * 15 + 3) (page_for v j)
    ∷ Write (4 * r + 0) (byte_of 0 x)
    ∷ Write (4 * r + 1) (byte_of 1 x)
    ∷ Write (4 * r + 2) (byte_of 2 x)
    ∷ Write (4 * r + 3) (byte_of 3 x)
    ∷ []
