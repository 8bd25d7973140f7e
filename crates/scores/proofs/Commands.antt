-- The commands as the code has them, in arrays of four bytes: what each is, how many frames there are, and whether all are of kinds below one.
-- Assumes nothing.
use mathlib.Core.Path.{◌≡◌, refl, sym, ap, ◌∙◌}
use mathlib.Core.Bool.{Bool, ◌&&◌}
use mathlib.Core.List.{List, []}
use Prim.Native.Nat.{ℕ, zero, suc, ◌+◌, ◌*◌, ◌≤◌, ◌<◌}
use native.Mathlib.Numerals.{add-one}
use native.Mathlib.Omega.{arith}
use lib.Dec.{ltb, eqb}
use lib.ListN.{length, get_or, take}
use lib.Seq.{take-length}
use mir.Val.{Fits}
use Rattle.std.specs.Int.{w8, w16, from_be_bytes}
use Rattle.std.specs.List.{list_all}
use Rattle.std.specs.Simd.{first_chunks}
use Rattle.std.proofs.lemmas.List.Folds.{list_all_more}
use Rattle.numbers.specs.Sum.{sum}
use Rattle.numbers.proofs.Tests.{either}
use Rattle.layout.specs.Parts.{part}
use Rattle.layout.proofs.Bytes.{part_2}
use Rattle.layout.proofs.Endian.{big_2_at}
use Rattle.repeats.specs.Repeats.{command_bytes, command_count, kind_at, number_at, byte_at}
use Rattle.repeats.proofs.Command.{command_is, own_kind, own_number, own_byte}
use Rattle.scores.specs.Score.{command_of, command_at, command_no, times_of, frames_of, first_below, all_below}
use Rattle.scores.specs.declared.Command.{Command}
use Rattle.calls.specs.declared.Ask.{Ask}

-- a command by its own bytes is the one that stands where they stand
pub command_part : (xs : List ℕ) (i : ℕ) → command_at (part xs i command_bytes) 0 ≡ command_at xs i
command_part xs i = λ j. command_of (own_kind xs i j) (own_number xs i j) (own_byte xs i j)

module _ (xs : List ℕ) (chunks : List (List ℕ)) (front : chunks ≡ first_chunks command_bytes (command_count xs) xs) where
  pub command_own : (k : ℕ) → k < command_count xs → command_at (get_or chunks k []) 0 ≡ command_no xs k
  command_own k h =
      let i = command_bytes * k in
      ap (λ (c : List ℕ). command_at c 0) (command_is xs chunks k front h) ∙ command_part xs i

  -- the frames of one command more
  pub frames_next : (n k r : ℕ) (c : Command) → k < command_count xs → n ≡ sum k (λ j. frames_of (command_no xs j)) → c ≡ command_at (get_or chunks k []) 0
      → r ≡ frames_of c → n + r ≡ sum (k + 1) (λ j. frames_of (command_no xs j))
  unfolding sum
  frames_next n k r c h e f g = rw (add-one, e, g, f, command_own k h) refl

  module _ (long : length chunks ≡ command_count xs) (kind : ℕ) where
    below : List ℕ → Bool
    below c = ltb (get_or c 0 0) kind

    below_to : (k : ℕ) → k ≤ command_count xs → list_all below (take k chunks) ≡ first_below kind xs k
    unfolding first_below below
    below_to zero h = refl
    below_to (suc k) h =
        let more = rw add-one at (list_all_more below chunks k [] (omega arith)) in
        let own : get_or (get_or chunks k []) 0 0 ≡ kind_at xs (command_bytes * k) =
        ap (λ (c : List ℕ). get_or c 0 0) (command_is xs chunks k front (omega arith)) ∙ own_kind xs (command_bytes * k) in
        more ∙ (λ j. below_to k (omega arith) j && ltb (own j) kind)

    pub all_are_below : list_all (λ c. ltb (get_or c 0 0) kind) chunks ≡ all_below kind xs
    unfolding below
    all_are_below = ap (list_all below) (sym (take-length chunks) ∙ ap (λ (n : ℕ). take n chunks) long) ∙ below_to (command_count xs) (omega arith)

-- ---- how many calls one makes

number_few : (xs : List ℕ) (i : ℕ) → i + command_bytes ≤ length xs → ((j : ℕ) → Fits w8 (get_or xs j 0)) → number_at xs i < 65536
number_few xs i h bytes =
    let e : from_be_bytes w16 (part xs (i + 1) 2) ≡ number_at xs i = big_2_at xs (i + 1) (omega arith) in
    let p = ap (from_be_bytes w16) (part_2 xs (i + 1) (omega arith)) in
    omega (arith, bytes (i + 1), bytes (i + 1 + 1), e, p)

times_few : (kind n byte : ℕ) → times_of (command_of kind n byte) ≤ n + 1
unfolding command_of times_of
times_few kind n byte =
    let few : Command → Type 0 = λ c. times_of c ≤ n + 1 in
    let one : (a : Ask) → few (Command.Once a) = λ a. omega arith in
    either few (eqb kind 0) _ _ (λ t. one Ask.Reset)
    (λ f. either few (eqb kind 1) _ _ (λ t. one (Ask.Write n byte))
    (λ f. either few (eqb kind 2) _ _ (λ t. one (Ask.Read n))
    (λ f. either few (eqb kind 3) _ _ (λ t. one (Ask.SetPot n))
    (λ f. either few (eqb kind 4) _ _ (λ t. one Ask.Frame)
    (λ f. either few (eqb kind 5) _ _ (λ t. one Ask.Waiting)
    (λ f. either few (eqb kind 6) _ _ (λ t. omega arith) (λ f. omega arith)))))))

pub command_few : (xs : List ℕ) (k : ℕ) → k < command_count xs → ((j : ℕ) → Fits w8 (get_or xs j 0)) → times_of (command_no xs k) ≤ 65536
command_few xs k h bytes =
    let i = command_bytes * k in
    omega (arith, times_few (kind_at xs i) (number_at xs i) (byte_at xs i), number_few xs i (omega arith) bytes)
