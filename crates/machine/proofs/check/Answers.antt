-- The length refused; the lanes and the mask, and the vector.
use Rattle.std.proofs.Common.{rules, ◌≡◌, ◌&&◌, true, false, List, ℕ, refl, sym, ap, ◌∙◌, length, bit_or}
use lib.Bits.{bit_xor}
use lib.Dec.{eqb}
use lib.ListN.{get_or}
use borrow.Author.Tests.{eq-eqb, ne_eqb}
use Rattle.machine.specs.Words.{record_words, wait_mask_word, shared_bits, cut_to, waiting_voices, has_true_mask}
use Rattle.machine.specs.Kept.{gathered_kept, sums_kept, shared_kept, clear, Lanes}
use Rattle.machine.proofs.Kept.{lanes_and_mask}
use Rattle.machine.proofs.Valid.{words_test}
use Rattle.machine.proofs.Answers.{check_size, check_words, check_vector}
use Rattle.machine.proofs.check.Goals as goal
use Rattle.machine.proofs.check.Goals.{then-stray-ne0-via-then-stray-ne0, then-stray-ne0-via-else-stray-ne0+then-not-is_vector}

pub returns-in_err-m : goal.returns-in_err-m
returns-in_err-m c =
    let wrong : length c.args.m.now ≡ 664 → ⊥ = search rules in
    let e = check_size c.args.m.now wrong in
    search rules

pub loop-g-init : goal.loop-g-init
unfolding gathered_kept clear
loop-g-init c = record { four = refl; tell = refl }

pub look_at_rest-requires-clause-kept_is_shared_bits : goal.look_at_rest-requires-clause-kept_is_shared_bits
unfolding shared_bits
look_at_rest-requires-clause-kept_is_shared_bits c = refl

-- the stray bits of all words and of the mask: none, or one, and the record's own test says the same
stray : (m s : List ℕ) (y : ℕ) → Lanes s (gathered_kept m 20 && sums_kept m 4 && shared_kept m 4) → y ≡ waiting_voices m
    → (cut_to m record_words && has_true_mask m)
    ≡ eqb (bit_or (bit_or (bit_or (bit_or (get_or s 0 0) (get_or s 1 0)) (get_or s 2 0)) (get_or s 3 0)) (bit_xor (get_or m wait_mask_word 0) y)) 0
stray m s y p e = sym (lanes_and_mask m y p e ∙ words_test m)

pub returns-then-stray-ne0 : goal.returns-then-stray-ne0
returns-then-stray-ne0 c =
    let same : c.in_ok-m.m.now ≡ c.args.m.now = search rules in
    let size : length c.args.m.now ≡ record_words = search rules in
    let t = stray c.in_ok-m.m.now _ _ c.look_at_rest.ensures c.gather_flags.ensures in
    rw (← same) (elim c.then-stray-ne0.branch [
      | then-stray-ne0-via-then-stray-ne0 w ↦ sym (check_words _ (ap length same ∙ size) (t ∙ ne_eqb _ _ w.if-stray-ne0.true))
      | then-stray-ne0-via-else-stray-ne0+then-not-is_vector w ↦
          sym (check_vector _ (ap length same ∙ size) (t ∙ eq-eqb _ _ w.if-stray-ne0.false) false (search rules))
    ])

pub returns : goal.returns
returns c =
    let same : c.in_ok-m.m.now ≡ c.args.m.now = search rules in
    let size : length c.args.m.now ≡ record_words = search rules in
    let t = stray c.in_ok-m.m.now _ _ c.look_at_rest.ensures c.gather_flags.ensures in
    rw (← same) (sym (check_vector _ (ap length same ∙ size) (t ∙ eq-eqb _ _ c.if-stray-ne0.false) true (search rules)))
