-- The vector after a frame that found it empty, for hosts: by the mask as the frame left it. That
-- it is so is proofs/Vector. Assumes nothing.
use Rattle.std.specs.Prelude.{IsTrue, IsFalse, ℕ, ◌<◌, ◌≤◌}
use Rattle.control.specs.Control.{flag_of}
use Rattle.machine.specs.Words.{no_interrupt}

-- the vector names the lowest of the active voices, 0 to `active`, that the mask has; or it is
-- empty, and the mask has none of them
pub data LowestOf (mask active : ℕ) : ℕ → Type 0 where
  lowest : (v : ℕ) → v ≤ active → IsTrue (flag_of v mask)
      → ((u : ℕ) → u < v → IsFalse (flag_of u mask)) → LowestOf mask active v
  none : ((u : ℕ) → u ≤ active → IsFalse (flag_of u mask)) → LowestOf mask active no_interrupt
