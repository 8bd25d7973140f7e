-- What a function that is lent a machine leaves. Assumes nothing.
use Rattle.std.specs.Prelude.{◌≡◌, ℕ, List}
use Rattle.machine.specs.declared.view.Machine.{Machine}

-- it has the same record, whose words are these now
abbrev pub Leaves : Machine → Machine → List ℕ → Type 0
Leaves before after words =
    (after.words.ghost_name ≡ before.words.ghost_name) × (after.words.now ≡ words)
