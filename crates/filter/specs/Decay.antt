-- How a high pass forgets: what is left of its last output when nothing more comes in. Assumes
-- nothing.
use Rattle.std.specs.Prelude.{ℕ, zero, suc, ℤ, pos}
use Rattle.filter.specs.Filter.{high_pass}

-- the output after n frames, where y is the last output before them, and in each the input and the
-- last input are 0
unfoldable pub decayed : ℕ → ℕ → ℤ → ℤ
decayed k zero y = y
decayed k (suc n) y = high_pass k (pos 0) (pos 0) (decayed k n y)
