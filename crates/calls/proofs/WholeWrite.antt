-- The calls of a whole register write of a voice, one after the other (`run_write`): the word takes the number, cut to its bits, PAGE is the
-- word's page, the write latch is 0, the mask follows, and nothing else changes. What a single byte leaves, and four of them without the page, is
-- `registers/proofs/Writing` and `Corollaries`. Assumes nothing.
use mathlib.Core.Path.{◌≡◌, ◌∙◌}
use mathlib.Core.List.{List}
use Prim.Native.Nat.{ℕ, ◌+◌, ◌*◌, ◌^◌, ◌<◌}
use native.Mathlib.Omega.{arith}
use lib.ListN.{get_or, set}
use Rattle.machine.specs.Words.{page_word, write_latch_word, voice_word, cut, with_mask}
use Rattle.machine.proofs.Valid.{Sound, is_valid}
use Rattle.registers.specs.Registers.{stored, register_of}
use Rattle.registers.specs.declared.Register.TheVariants.{Word}
use Rattle.registers.specs.Access.{write_record}
use Rattle.registers.specs.Named.{page_for, register_for}
use Rattle.registers.proofs.Named.{page_lt, register_lt, named}
use Rattle.registers.proofs.Writing.{page_written, page_after, latch_covered, bytes_to}
use Rattle.registers.proofs.Corollaries.{write_valid, whole_leaves}
use Rattle.calls.specs.Calls.{after, run}
use Rattle.calls.specs.WholeWrite.{write_calls}

pub run_write : (m : List ℕ) (v j x : ℕ) → Sound m → v < 32 → j < 20 → x < 2 ^ 32
    → run m (write_calls v j x) ≡ set (with_mask (set (set m page_word (page_for v j)) (voice_word v j) (cut (voice_word v j) x))) write_latch_word 0
unfolding run after write_calls bytes_to stored
run_write m v j x s hv hj hx =
    let p = page_for v j in
    let r = register_for j in
    let h = page_lt v j hv in
    let n = write_record m (4 * 15 + 3) p in
    let e : register_of (get_or n page_word 0) r ≡ Word (voice_word v j) = rw (page_after p s (omega arith)) (named v j hv hj) in
    whole_leaves n r x v j (write_valid m (4 * 15 + 3) p (omega arith) (is_valid m s)) (register_lt j hj) hx hv hj e
    ∙ rw (page_written p s (omega arith)) (latch_covered (set m page_word p) 0 (Word (voice_word v j)) x)
