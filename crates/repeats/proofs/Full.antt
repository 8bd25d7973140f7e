-- Laws of commands in full.
-- In order: a command that repeats others (`there`), and how long is what one stands
-- for (`stands_length`); a command as it is put, where it repeats others (`again_long`, `stands_again`) and where it does not
-- (`itself_long`, `stands_itself`); one command more in full (`full_next`, `full_length`); all of them, put one after the other
-- (`put_bytes`, `put_fits`, `put_next`). Assumes nothing.
use mathlib.Core.Path.{◌≡◌, refl, sym, ap, subst, ◌∙◌}
use mathlib.Core.Bool.{true, false, cond, ◌&&◌, and-eq-true_iff}
use mathlib.Core.List.{List, ◌++◌, append_assoc}
use Prim.Native.Nat.{ℕ, zero, suc, ◌+◌, ◌-◌, ◌*◌, ◌≤◌, ◌<◌}
use native.Mathlib.Nat.{zero-add}
use native.Mathlib.Numerals.{add-one}
use native.Mathlib.Omega.{arith}
use borrow.Author.Tests.{leb-true}
use lib.Dec.{eqb, leb}
use lib.ListN.{length, take, drop, length-append}
use lib.Seq.{length-take-le, take_all, paste}
use Rattle.numbers.proofs.Tests.{split}
use Rattle.layout.specs.Parts.{part, with_part}
use Rattle.layout.proofs.Parts.{part_length, part-take, with_first, with_more}
use Rattle.repeats.proofs.Command.{own_asked, own_repeats, own_stands}
use Rattle.repeats.specs.Repeats.{command_bytes, command_count, repeat_kind, kind_at, back_at, asked_at, repeats_at, stands_for, full_to, in_full}

-- ---- what a command stands for

pub there : (xs : List ℕ) (i before : ℕ) → repeats_at xs i before ≡ true → (asked_at xs i ≤ back_at xs i) × (back_at xs i ≤ before)
unfolding repeats_at
there xs i before t =
    let a = (and-eq-true_iff (eqb (kind_at xs i) repeat_kind && leb (asked_at xs i) (back_at xs i)) (leb (back_at xs i) before)).0 t in
    let b = (and-eq-true_iff (eqb (kind_at xs i) repeat_kind) (leb (asked_at xs i) (back_at xs i))).0 a.0 in
    (leb-true (asked_at xs i) (back_at xs i) b.1, leb-true (back_at xs i) before a.1)

pub stands_length : (before xs : List ℕ) (i : ℕ) → i + command_bytes ≤ length xs
    → length (stands_for before xs i) ≡ cond (repeats_at xs i (length before)) (asked_at xs i) command_bytes
unfolding stands_for
stands_length before xs i h =
    split _ (repeats_at xs i (length before))
    (λ t.
    let w = there xs i (length before) t in
    rw t (part_length before (length before - back_at xs i) (asked_at xs i) (omega (arith, w.0, w.1))))
    (λ f. rw f (part_length xs i command_bytes h))

-- a command as it is put after the first n bytes
module _ (full command : List ℕ) (n : ℕ) (whole : length command ≡ command_bytes) (fits : n + length (stands_for (take n full) command 0) ≤ length full) where
  before_long : length (take n full) ≡ n
  before_long = length-take-le n full (omega arith)

  stands_bytes : length (stands_for (take n full) command 0) ≡ cond (repeats_at command 0 n) (asked_at command 0) command_bytes
  stands_bytes = stands_length (take n full) command 0 (omega arith) ∙ rw before_long refl

  pub again_long : true ≡ repeats_at command 0 n → asked_at command 0 ≡ length (stands_for (take n full) command 0)
  again_long t = sym (stands_bytes ∙ rw (sym t) refl)

  pub stands_again : true ≡ repeats_at command 0 n → (from asked : ℕ) → from ≡ n - back_at command 0 → asked ≡ asked_at command 0
      → paste full n (drop from full) (from + asked - from) ≡ with_part full n (stands_for (take n full) command 0)
  unfolding stands_for
  stands_again t from asked f a =
      let w = there command 0 n (sym t) in
      let l = again_long t in
      let k : from + asked - from ≡ asked = omega arith in
      let again : part full from asked ≡ stands_for (take n full) command 0 =
      rw (before_long, ← t, f, a) (sym (part-take full n (n - back_at command 0) (asked_at command 0) (omega (arith, w.0, w.1)) (omega arith))) in
      let long : length (part full from asked) ≡ asked = part_length full from asked (omega (arith, w.0, w.1)) in
      rw (k, ← again, long) (append_assoc (take n full) (part full from asked) (drop (n + asked) full))

  pub itself_long : false ≡ repeats_at command 0 n → command_bytes ≡ length (stands_for (take n full) command 0)
  itself_long f = sym (stands_bytes ∙ rw (sym f) refl)

  pub stands_itself : false ≡ repeats_at command 0 n → (later : List ℕ) → later ≡ with_part full n command → later ≡ with_part full n (stands_for (take n full) command 0)
  unfolding stands_for
  stands_itself f later e = e ∙ rw (before_long, ← f, take_all command_bytes command (omega arith)) refl

-- ---- one command more

pub full_next : (xs : List ℕ) (k : ℕ) → full_to xs (k + 1) ≡ full_to xs k ++ stands_for (full_to xs k) xs (command_bytes * k)
unfolding full_to
full_next xs k = rw (add-one k) refl

-- of a command that the code has as its bytes
pub full_length : (xs : List ℕ) (k n before r : ℕ) (command : List ℕ) → k < command_count xs → command ≡ part xs (command_bytes * k) command_bytes
    → n ≡ length (full_to xs k) → before ≡ n → r ≡ cond (repeats_at command 0 before) (asked_at command 0) command_bytes → n + r ≡ length (full_to xs (k + 1))
full_length xs k n before r command h own e b v =
    let i = command_bytes * k in
    let stands : r ≡ length (stands_for (full_to xs k) xs i) =
    v ∙ ap (λ (w : ℕ). cond (repeats_at command 0 w) (asked_at command 0) command_bytes) b ∙ rw (own, own_repeats xs i n, own_asked xs i, e) (sym (stands_length (full_to xs k) xs i (omega arith))) in
    rw (full_next xs k, length-append (full_to xs k) (stands_for (full_to xs k) xs i)) (λ j. e j + stands j)

full_grows : (xs : List ℕ) (k n : ℕ) → length (full_to xs k) ≤ length (full_to xs (n + k))
unfolding full_to
full_grows xs k zero = rw (zero-add k) (omega arith)
full_grows xs k (suc n) =
    let e : suc n + k ≡ suc (n + k) = omega arith in
    rw (e, length-append (full_to xs (n + k)) (stands_for (full_to xs (n + k)) xs (command_bytes * (n + k)))) (omega (arith, full_grows xs k n))

-- ---- the commands as they are put, one after the other, at the start of a list

-- all that were passed are no longer than all of them
full_fits : (xs : List ℕ) (k : ℕ) → k ≤ command_count xs → length (full_to xs k) ≤ length (in_full xs)
full_fits xs k h =
    let e : command_count xs - k + k ≡ command_count xs = omega arith in
    subst (λ (n : ℕ). length (full_to xs k) ≤ length (full_to xs n)) e (full_grows xs k (command_count xs - k))

-- the first k are put, in the first n bytes of the list, and the code has the next one as its bytes
module _ (xs full₀ : List ℕ) (fits : length (in_full xs) ≤ length full₀) (full command : List ℕ) (n k : ℕ) (h : k < command_count xs)
    (own : command ≡ part xs (command_bytes * k) command_bytes) (bytes : n ≡ length (full_to xs k)) (put : full ≡ with_part full₀ 0 (full_to xs k)) where
  room : 0 + length (full_to xs k) ≤ length full₀
  room = rw zero-add (omega (arith, full_fits xs k (omega arith), fits))

  next_stands : stands_for (take n full) command 0 ≡ stands_for (full_to xs k) xs (command_bytes * k)
  next_stands =
      let start : take n full ≡ full_to xs k = rw (bytes, put) (with_first full₀ (full_to xs k)) in
      rw (start, own) (own_stands xs (command_bytes * k) (full_to xs k))

  pub put_bytes : (r : ℕ) → r ≡ length (stands_for (take n full) command 0) → n + r ≡ length (full_to xs (k + 1))
  put_bytes r e =
      let s = stands_for (full_to xs k) xs (command_bytes * k) in
      let r-is : r ≡ length s = e ∙ ap length next_stands in
      (λ i. bytes i + r-is i) ∙ sym (ap length (full_next xs k) ∙ length-append (full_to xs k) s)

  pub put_fits : (r : ℕ) → r ≡ length (stands_for (take n full) command 0) → n + r ≤ length full₀
  put_fits r e = omega (arith, put_bytes r e, full_fits xs (k + 1) (omega arith), fits)

  pub put_next : (later : List ℕ) → later ≡ with_part full n (stands_for (take n full) command 0) → later ≡ with_part full₀ 0 (full_to xs (k + 1))
  put_next later e =
      let s = stands_for (full_to xs k) xs (command_bytes * k) in
      let one_more : with_part (with_part full₀ 0 (full_to xs k)) (length (full_to xs k)) s ≡ with_part full₀ 0 (full_to xs (k + 1)) =
      subst (λ (j : ℕ). with_part (with_part full₀ 0 (full_to xs k)) j s ≡ with_part full₀ 0 (full_to xs (k + 1))) (zero-add (length (full_to xs k)))
      (with_more full₀ 0 (full_to xs k) room s ∙ ap (with_part full₀ 0) (sym (full_next xs k))) in
      e ∙ ap (with_part full n) next_stands ∙ rw (bytes, put) one_more
