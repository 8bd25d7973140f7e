-- Two outcomes that a C function's promise allows are equal. Assumes nothing.
use mathlib.Core.Path.{◌≡◌, sym, ◌∙◌}
use mathlib.Core.List.{List}
use Prim.Native.Nat.{ℕ}
use lib.IntN.{ℤ}
use Rattle.calls.specs.Calls.{Call}
use Rattle.otto.specs.Promises.{Calling, Reading, TellingWaiting, Framing, Importing}

pub one_call : {m : List ℕ} {c : Call} {a b : ℕ} {x y : List ℕ} → Calling m c a x → Calling m c b y → (a ≡ b) × (x ≡ y)
one_call p q = (p.answers ∙ sym q.answers, p.leaves ∙ sym q.leaves)

pub one_reading : {m : List ℕ} {address a b i j : ℕ} {x y : List ℕ} → Reading m address a i x → Reading m address b j y → (i ≡ j) × ((a ≡ b) × (x ≡ y))
one_reading p q = (p.gives ∙ sym q.gives, one_call p.calls q.calls)

pub one_telling : {m : List ℕ} {a b i j : ℕ} → TellingWaiting m a i → TellingWaiting m b j → (i ≡ j) × (a ≡ b)
one_telling p q = (p.gives ∙ sym q.gives, (one_call p.calls q.calls).0)

pub one_framing : {m memory : List ℕ} {out : List ℤ} {a b i j : ℕ} {x y : List ℕ} {s t : List ℤ} → Framing m memory out a i x s → Framing m memory out b j y t
    → (i ≡ j) × ((s ≡ t) × ((a ≡ b) × (x ≡ y)))
one_framing p q = (p.misses ∙ sym q.misses, (p.sounds ∙ sym q.sounds, one_call p.calls q.calls))

pub one_importing : {file memory : List ℕ} {word a b s t e f k l n o : ℕ} {x y : List ℕ} → Importing file memory word a s e k n x → Importing file memory word b t f l o y
    → (a ≡ b) × (s ≡ t) × (e ≡ f) × (k ≡ l) × (n ≡ o) × (x ≡ y)
one_importing p q =
    (p.answers ∙ sym q.answers, p.starts ∙ sym q.starts, p.ends ∙ sym q.ends, p.loops ∙ sym q.loops, p.counts ∙ sym q.counts, p.leaves ∙ sym q.leaves)
