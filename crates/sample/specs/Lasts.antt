-- Of each bank the last word that is lent, which a fetch asks first: below it, a word and the next
-- one are both lent and in one bank. Assumes nothing.
use Rattle.std.specs.Prelude.{◌≡◌, List, ℕ, ◌+◌, ◌-◌, ◌*◌, ◌<◌, min, length, slice_index}
use Rattle.sample.specs.Sample.{bank_words}

-- of bank b, where n words are lent; where none of the bank is lent the memory's last word, or 0
-- where there is none either
unfoldable pub last_of : ℕ → ℕ → ℕ
last_of n b = min n (bank_words * (b + 1)) - 1

-- a list of the four banks'
pub record Lasts (n : ℕ) (lasts : List ℕ) : Type 0 where
  pub size : length lasts ≡ 4
  pub each : (b : ℕ) → b < 4 → slice_index lasts b ≡ last_of n b
