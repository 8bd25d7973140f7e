-- A score ends: each part but the last makes all its calls, and fewer are left. Assumes nothing.
use Rattle.std.proofs.Common.{◌≡◌, ℕ, ◌+◌, ◌-◌, ◌/◌, ◌<◌, cond, ltb, List, length, ap, ◌∙◌, arith, length-drop, ltb-true, lt-ltb}
use Rattle.numbers.proofs.Tests.{split}
use Rattle.repeats.specs.Repeats.{command_count}
use Rattle.scores.specs.Sound.{sample_size}
use Rattle.scores.specs.Playing.{left_from, Plays}
use Rattle.scores.specs.declared.Played.{Played}

-- the calls that are left, and one for the last part
unfoldable pub left : List ℕ → List ℕ → ℕ → ℕ → ℕ
left memory commands command made = cond (ltb command (command_count commands)) (1 + length (left_from memory commands command made)) 0

pub fewer : (m memory commands : List ℕ) (command made : ℕ) (part : List ℕ) (r : Played) (later heard : List ℕ) → length part ≡ 65536 → command < command_count commands
    → Plays m memory commands command made part r later heard → left memory commands r.position.command r.position.made < left memory commands command made
unfolding left
fewer m memory commands command made part r later heard l h p =
    rw (lt-ltb command (command_count commands) h)
    (split _ (ltb r.position.command (command_count commands))
    (λ t.
    let e : length part / sample_size ≡ 16384 = rw l (omega arith) in
    let d : length (left_from memory commands r.position.command r.position.made) ≡ length (left_from memory commands command made) - length part / sample_size = ap length p.goes ∙ length-drop (length part / sample_size) (left_from memory commands command made) in
    rw t (omega (arith, d, e, p.ends (ltb-true r.position.command (command_count commands) t))))
    (λ f. rw f (omega arith)))
