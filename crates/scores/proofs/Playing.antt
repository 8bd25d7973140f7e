-- Some calls of a score, one at a time.
-- In order: the calls that are left at a place, one call on or one command on (`one_call`, `one_command`), and where none is left (`left_none`);
-- what is heard of a run from its first call on (`heard-cons`); a score while it is played (`Going`): it begins, one call more is made, and it ends (`ended`). Assumes nothing.
use mathlib.Core.Path.{◌≡◌, refl, sym, ap, subst, ◌∙◌}
use mathlib.Core.Bool.{Bool, true, false, cond, true≢false}
use mathlib.Core.List.{List, [], ◌∷◌, ◌++◌, append_assoc, append-nil}
use Prim.Native.Nat.{ℕ, zero, suc, ◌+◌, ◌-◌, ◌*◌, ◌/◌, ◌≤◌, ◌<◌}
use native.Mathlib.Nat.{add-zero, zero-add}
use native.Mathlib.Omega.{arith}
use borrow.Author.Tests.{lt-ltb, le-ltb, ne_eqb}
use Rattle.std.specs.Prelude.{None, Some}
use lib.IntN.{ℤ}
use lib.ListN.{length, take, drop, replicate, length-append}
use lib.Seq.{length-take-le, take-nil, drop-nil, take_at, drop_at, drop-drop}
use Rattle.numbers.proofs.Tests.{cases}
use Rattle.layout.specs.Bytes.{little_bytes}
use Rattle.layout.proofs.Parts.{with_length}
use Rattle.answer.specs.Answer.{Answer, is_done}
use Rattle.machine.specs.Words.{output_values}
use Rattle.calls.specs.Calls.{Call, Reset, Write, Read, SetPot, Waiting, Frame, answer_to, after, output_from, run, answers, outputs}
use Rattle.calls.specs.Asks.{call_of}
use Rattle.calls.specs.declared.Ask.{Ask}
use Rattle.repeats.specs.Repeats.{command_count}
use Rattle.scores.specs.Score.{command_no, silence, times_of, call_after, calls_of, calls_from}
use Rattle.scores.specs.Sound.{sample_size, sample_bytes, sound_of}
use Rattle.scores.specs.Playing.{left_from, is_frame, frames_in, refusals, heard_from, heard_at, Makes, Plays}
use Rattle.scores.specs.declared.Command.{Command}
use Rattle.scores.proofs.Making.{Long}

-- ---- the calls that are left

-- calls of which d are made
drop-replicate : (x : Call) (t d : ℕ) (rest : List Call) → d < t → drop d (replicate t x ++ rest) ≡ x ∷ drop (suc d) (replicate t x ++ rest)
drop-replicate x zero d rest h = absurd (omega arith)
drop-replicate x (suc t) zero rest h = refl
drop-replicate x (suc t) (suc d) rest h = drop-replicate x t d rest (omega arith)

drop_replicated : (x : Call) (t : ℕ) (rest : List Call) → drop t (replicate t x ++ rest) ≡ rest
drop_replicated x zero rest = refl
drop_replicated x (suc t) rest = drop_replicated x t rest

-- a command of which so many calls are made: there is one more, or these are all
call_there : (c : Command) (made : ℕ) (a : Ask) → call_after c made ≡ Some a → made < times_of c
unfolding call_after times_of
call_there (Command.Once b) zero a e = omega arith
call_there (Command.Once b) (suc n) a e = let g : None ≡ Some a = rw (ne_eqb (suc n) 0 (omega arith)) at e in absurd (cc)
call_there (Command.Frames n) made a e = cases made n _ (λ l. l) (λ u. let g : None ≡ Some a = rw (le-ltb made n u) at e in absurd (cc))
call_there Command.Nothing made a e = absurd (cc)

none_there : (c : Command) (made : ℕ) → call_after c made ≡ None → made ≤ times_of c → made ≡ times_of c
unfolding call_after times_of
none_there (Command.Once b) zero e l = absurd (cc)
none_there (Command.Once b) (suc n) e l = omega arith
none_there (Command.Frames n) made e l = cases made n _ (λ k. let g : Some Ask.Frame ≡ None = rw (lt-ltb made n k) at e in absurd (cc)) (λ u. omega arith)
none_there Command.Nothing made e l = omega arith

module _ (memory : List ℕ) where
  drop_call : (c : Command) (made : ℕ) (a : Ask) (rest : List Call) → call_after c made ≡ Some a
      → drop made (calls_of memory c ++ rest) ≡ call_of a memory silence ∷ drop (suc made) (calls_of memory c ++ rest)
  unfolding call_after calls_of
  drop_call (Command.Once b) zero a rest e = let g : b ≡ a = cc in ap (λ (x : Ask). call_of x memory silence ∷ rest) g
  drop_call (Command.Once b) (suc n) a rest e = let g : None ≡ Some a = rw (ne_eqb (suc n) 0 (omega arith)) at e in absurd (cc)
  drop_call (Command.Frames n) made a rest e =
      cases made n _
      (λ l.
      let f : Some Ask.Frame ≡ Some a = rw (lt-ltb made n l) at e in
      let g : Ask.Frame ≡ a = cc in
      drop-replicate (call_of Ask.Frame memory silence) n made rest l
      ∙ ap (λ (x : Ask). call_of x memory silence ∷ drop (suc made) (replicate n (call_of Ask.Frame memory silence) ++ rest)) g)
      (λ u. let g : None ≡ Some a = rw (le-ltb made n u) at e in absurd (cc))
  drop_call Command.Nothing made a rest e = absurd (cc)

  drop_all : (c : Command) (rest : List Call) → drop (times_of c) (calls_of memory c ++ rest) ≡ rest
  unfolding times_of calls_of
  drop_all (Command.Once a) rest = refl
  drop_all (Command.Frames n) rest = drop_replicated (call_of Ask.Frame memory silence) n rest
  drop_all Command.Nothing rest = refl

-- a command as the code has it: one call of it more is made, or the next command comes
module _ (memory commands : List ℕ) (k made : ℕ) (cmd : Command) (is : cmd ≡ command_no commands k) (h : k < command_count commands) where
  others : List Call
  others = calls_from memory commands (command_count commands - suc k) (suc k)

  -- the calls of the first command, and those of the others
  here : calls_from memory commands (command_count commands - k) k ≡ calls_of memory cmd ++ others
  unfolding calls_from others
  here =
      let e : command_count commands - k ≡ suc (command_count commands - suc k) = omega arith in
      rw (e, is) refl

  pub one_call : (a : Ask) → call_after cmd made ≡ Some a
      → (left_from memory commands k made ≡ call_of a memory silence ∷ left_from memory commands k (made + 1)) × (made < times_of (command_no commands k))
  one_call a e =
      let q : made + 1 ≡ suc made = omega arith in
      (rw (here, q) (drop_call memory cmd made a others e), subst (λ (c : Command). made < times_of c) is (call_there cmd made a e))

  pub one_command : made ≤ times_of (command_no commands k) → call_after cmd made ≡ None → left_from memory commands k made ≡ left_from memory commands (k + 1) 0
  unfolding others
  one_command l e =
      let m : made ≡ times_of cmd = none_there cmd made e (rw is l) in
      let q : k + 1 ≡ suc k = omega arith in
      rw (here, m, q) (drop_all memory cmd others)

-- no command is left
pub left_none : (memory commands : List ℕ) (k made : ℕ) → command_count commands ≤ k → left_from memory commands k made ≡ []
unfolding calls_from
left_none memory commands k made h =
    let e : command_count commands - k ≡ 0 = omega arith in
    rw e (drop-nil made)

-- ---- what is heard of a run

not_heard : (m : List ℕ) (c : Call) → is_frame c ≡ false → output_from m c ≡ []
unfolding is_frame output_from
not_heard m Reset h = refl
not_heard m (Write a b) h = refl
not_heard m (Read a) h = refl
not_heard m (SetPot p) h = refl
not_heard m Waiting h = refl
not_heard m (Frame memory out) h = absurd (true≢false h)

-- four bytes of a frame, nothing of another call, and then what is heard of the rest
pub heard-cons : (m : List ℕ) (c : Call) (cs : List Call) → (is_frame c ≡ true → length (output_from m c) ≡ output_values)
    → heard_from m (c ∷ cs) ≡ heard_at m c ++ heard_from (after m c) cs
unfolding heard_from heard_at frames_in outputs sound_of
heard-cons m c cs whole = by (is_frame c) refl
  where
    rest : List ℤ
    rest = outputs (after m c) cs

    by : (b : Bool) → is_frame c ≡ b → heard_from m (c ∷ cs) ≡ heard_at m c ++ heard_from (after m c) cs
    by true k =
        let o = output_from m c in
        let e : 1 + frames_in cs ≡ suc (frames_in cs) = omega arith in
        rw (k, e, take_at o (outputs (after m c) cs) output_values (whole k), drop_at o (outputs (after m c) cs) output_values (whole k)) refl
    by false k = rw (k, not_heard m c k, zero-add) refl

heard_long : (m : List ℕ) (c : Call) → length (heard_at m c) ≡ sample_size * cond (is_frame c) 1 0
unfolding heard_at sample_bytes little_bytes
heard_long m c = by (is_frame c) refl
  where
    by : (b : Bool) → is_frame c ≡ b → length (heard_at m c) ≡ sample_size * cond (is_frame c) 1 0
    by true k = rw k refl
    by false k = rw k refl

one_at_most : (b : Bool) → (cond b 1 0 ≤ 1) × (cond b 0 1 ≤ 1)
one_at_most true = (omega arith, omega arith)
one_at_most false = (omega arith, omega arith)

-- ---- a score while it is played

-- `calls` of `room` calls are made, and `cs` is what is left of `all`: what the first `room` come to is what was done and what the others come to
pub record Going (room : ℕ) (all : List Call) (m₀ sound₀ : List ℕ) (cs : List Call) (m sound : List ℕ) (calls frames refused : ℕ) : Type 0 where
  pub leaves : run m₀ (take room all) ≡ run m (take (room - calls) cs)
  pub counts : frames_in (take room all) ≡ frames + frames_in (take (room - calls) cs)
  pub refuses : refusals (answers m₀ (take room all)) ≡ refused + refusals (answers m (take (room - calls) cs))
  pub hears : heard_from m₀ (take room all) ≡ take (sample_size * frames) sound ++ heard_from m (take (room - calls) cs)
  pub stays : drop (sample_size * frames) sound ≡ drop (sample_size * frames) sound₀
  pub goes : drop room all ≡ drop (room - calls) cs
  pub long : length sound ≡ length sound₀
  pub frames_few : frames ≤ calls
  pub refused_few : refused ≤ calls
  pub sum : length all ≡ calls + length cs

pub begins : (room : ℕ) (all : List Call) (m sound : List ℕ) → Going room all m sound all m sound 0 0 0
begins room all m sound =
    let e : room - 0 ≡ room = omega arith in
    record {
      leaves = rw e refl;
      counts = rw (e, zero-add) refl;
      refuses = rw (e, zero-add) refl;
      hears = rw e refl;
      stays = refl;
      goes = rw e refl;
      long = refl;
      frames_few = omega arith;
      refused_few = omega arith;
      sum = sym (zero-add (length all));
    }

-- one call more
module _ {room : ℕ} {all : List Call} {m₀ sound₀ : List ℕ} {c : Call} {cs : List Call} {m sound : List ℕ} {calls frames refused : ℕ}
    (g : Going room all m₀ sound₀ (c ∷ cs) m sound calls frames refused) (h : calls < room) (fits : sample_size * room ≤ length sound₀)
    (w : Long c) {answer : Answer} {later heard : List ℕ} (p : Makes m c sound (sample_size * frames) answer later heard) where
  xs : List Call
  xs = take (room - (calls + 1)) cs

  cut : take (room - calls) (c ∷ cs) ≡ c ∷ xs
  unfolding xs
  cut =
      let e : room - calls ≡ suc (room - (calls + 1)) = omega arith in
      rw e refl

  -- how long the heard part is, and that it has room
  abbrev one : ℕ
  one = cond (is_frame c) 1 0

  abbrev refusal : ℕ
  refusal = cond (is_done answer) 0 1

  long : length (heard_at m c) ≡ sample_size * one
  long = heard_long m c

  room_for : sample_size * frames + length (heard_at m c) ≤ length sound
  room_for = rw (long, g.long) (omega (arith, (one_at_most (is_frame c)).0, g.frames_few))

  so_far : length (take (sample_size * frames) sound ++ heard_at m c) ≡ sample_size * (frames + one)
  so_far =
      length-append (take (sample_size * frames) sound) (heard_at m c)
      ∙ rw (length-take-le (sample_size * frames) sound (omega (arith, room_for)), long) (omega arith)

  joined : heard ≡ (take (sample_size * frames) sound ++ heard_at m c) ++ drop (sample_size * frames + length (heard_at m c)) sound
  joined = p.hears ∙ sym (append_assoc (take (sample_size * frames) sound) (heard_at m c) (drop (sample_size * frames + length (heard_at m c)) sound))

  heard-part : take (sample_size * (frames + one)) heard ≡ take (sample_size * frames) sound ++ heard_at m c
  heard-part =
      rw joined
      (take_at (take (sample_size * frames) sound ++ heard_at m c) (drop (sample_size * frames + length (heard_at m c)) sound)
      (sample_size * (frames + one)) so_far)

  after-part : drop (sample_size * (frames + one)) heard ≡ drop (sample_size * frames + length (heard_at m c)) sound
  after-part =
      rw joined
      (drop_at (take (sample_size * frames) sound ++ heard_at m c) (drop (sample_size * frames + length (heard_at m c)) sound)
      (sample_size * (frames + one)) so_far)

  rest_part : drop (sample_size * (frames + one)) heard ≡ drop (sample_size * (frames + one)) sound₀
  rest_part =
      let e : sample_size * (frames + one) ≡ sample_size * frames + sample_size * one = omega arith in
      let d : drop (sample_size * frames + sample_size * one) sound ≡ drop (sample_size * frames + sample_size * one) sound₀ =
      sym (drop-drop (sample_size * one) (sample_size * frames) sound)
      ∙ ap (drop (sample_size * one)) g.stays
      ∙ drop-drop (sample_size * one) (sample_size * frames) sound₀ in
      after-part ∙ rw (long, e) d

  pub next : Going room all m₀ sound₀ cs later heard (calls + 1) (frames + one) (refused + refusal)
  unfolding run frames_in refusals answers xs
  next =
      let u : frames_in (take room all) ≡ frames + (cond (is_frame c) 1 0 + frames_in xs) = g.counts ∙ ap (λ (l : List Call). frames + frames_in l) cut in
      let v : refusals (answers m₀ (take room all)) ≡ refused + (cond (is_done (answer_to m c)) 0 1 + refusals (answers (after m c) xs)) =
      g.refuses ∙ ap (λ (l : List Call). refused + refusals (answers m l)) cut in
      let y : heard_from m₀ (take room all) ≡ (take (sample_size * frames) sound ++ heard_at m c) ++ heard_from (after m c) xs =
      g.hears ∙ ap (λ (l : List Call). take (sample_size * frames) sound ++ heard_from m l) cut
      ∙ ap (λ (l : List ℕ). take (sample_size * frames) sound ++ l) (heard-cons m c xs (w m))
      ∙ sym (append_assoc (take (sample_size * frames) sound) (heard_at m c) (heard_from (after m c) xs)) in
      let z : drop (room - calls) (c ∷ cs) ≡ drop (room - (calls + 1)) cs =
      (let e : room - calls ≡ suc (room - (calls + 1)) = omega arith in rw e refl) in
      record {
        leaves = g.leaves ∙ ap (run m) cut ∙ ap (λ (r : List ℕ). run r xs) (sym p.leaves);
        counts = omega (arith, u);
        refuses = rw (p.answers, p.leaves) (omega (arith, v));
        hears = rw (heard-part, p.leaves) y;
        stays = rest_part;
        goes = g.goes ∙ z;
        long = rw p.hears (with_length sound (sample_size * frames) (heard_at m c) room_for ∙ g.long);
        frames_few = omega (arith, (one_at_most (is_frame c)).0, g.frames_few);
        refused_few = omega (arith, (one_at_most (is_done answer)).1, g.refused_few);
        sum = omega (arith, g.sum);
      }

-- all calls that there is room for are made, or none is left
over : (room calls : ℕ) (cs : List Call) → (calls < room → cs ≡ []) → (take (room - calls) cs ≡ []) × (drop (room - calls) cs ≡ cs)
over room calls cs none =
    cases calls room _
    (λ l. rw (none l) (take-nil (room - calls), drop-nil (room - calls)))
    (λ u. let e : room - calls ≡ 0 = omega arith in rw e (refl, refl))

module _ {room : ℕ} {all : List Call} {m₀ sound₀ : List ℕ} {cs : List Call} {m sound : List ℕ} {calls frames refused : ℕ}
    (g : Going room all m₀ sound₀ cs m sound calls frames refused) (none : take (room - calls) cs ≡ []) (rest : drop (room - calls) cs ≡ cs) where
  leaves_end : m ≡ run m₀ (take room all)
  unfolding run
  leaves_end = sym (g.leaves ∙ ap (run m) none)

  counts_end : frames ≡ frames_in (take room all)
  unfolding frames_in
  counts_end = sym (g.counts ∙ ap (λ (l : List Call). frames + frames_in l) none ∙ add-zero frames)

  refuses_end : refused ≡ refusals (answers m₀ (take room all))
  unfolding refusals answers
  refuses_end = sym (g.refuses ∙ ap (λ (l : List Call). refused + refusals (answers m l)) none ∙ add-zero refused)

  hears_end : take (sample_size * frames) sound ≡ heard_from m₀ (take room all)
  unfolding heard_from frames_in outputs sound_of
  hears_end =
      sym
      (g.hears
      ∙ ap (λ (l : List Call). take (sample_size * frames) sound ++ heard_from m l) none
      ∙ append-nil (take (sample_size * frames) sound))

  goes_end : cs ≡ drop room all
  goes_end = sym (g.goes ∙ rest)

-- and that is what playing promises
pub ended : {memory commands m₀ sound₀ m sound : List ℕ} {k₀ made₀ k made calls frames refused : ℕ}
    → Going (length sound₀ / sample_size) (left_from memory commands k₀ made₀) m₀ sound₀ (left_from memory commands k made) m sound calls frames refused
    → calls ≤ length sound₀ / sample_size → made ≤ times_of (command_no commands k) → (calls < length sound₀ / sample_size → command_count commands ≤ k)
    → Plays m₀ memory commands k₀ made₀ sound₀ (record { position = record { command = k; made = made }; frames = frames; refused = refused }) m sound
ended {memory} {commands} {sound₀} {k} {made} {calls} g few within stop =
    let room = length sound₀ / sample_size in
    let left = left_from memory commands k made in
    let o = over room calls left (λ h. left_none memory commands k made (stop h)) in
    record {
      leaves = leaves_end g o.0 o.1;
      counts = counts_end g o.0 o.1;
      refuses = refuses_end g o.0 o.1;
      hears = hears_end g o.0 o.1;
      stays = g.stays;
      goes = goes_end g o.0 o.1;
      fits = omega (arith, g.frames_few);
      within = within;
      ends = λ h. cases calls room _ (λ l. absurd (let none = stop l in omega arith)) (λ u. omega (arith, g.sum));
    }
