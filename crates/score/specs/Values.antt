-- The text of a frame's values: each after a space, with a sign where it is below 0. Assumes
-- nothing.
use Rattle.std.specs.Prelude.{ℕ, List, ◌∷◌, ℤ}
use Rattle.std.specs.List.{flat_map}
use Rattle.std.specs.Fmt.{signed_decimal}

abbrev pub value_text : ℤ → List ℕ
value_text z = 32 ∷ signed_decimal z

abbrev pub values_text : List ℤ → List ℕ
values_text values = flat_map value_text values
