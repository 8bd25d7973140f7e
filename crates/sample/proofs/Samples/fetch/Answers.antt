-- `Samples::fetch` meets its contract: each word is at its place in the bank. Assumes nothing.
use mathlib.Core.Path.{ap, ◌∙◌}
use Prim.Native.Nat.{ℕ, ◌+◌, ◌*◌, ◌/◌, ◌%◌}
use native.Mathlib.Omega.{arith}
use Rattle.sample.specs.Sample.{word_at, first_at, second_at, fetched}
use Rattle.sample.proofs.Laws.{below_last, word_there}
use Rattle.sample.proofs.Samples.fetch.Goals as goal

pub bounds-self-at : goal.bounds-self-at
bounds-self-at c = omega (arith, below_last _ _ (c.args.accum / 2048) c.args.self.now.last_words c.bank-bank.ensures.1 (omega arith) c.place-at.ensures c.if-at-last.true)

pub bounds-self-at-then-at-last : goal.bounds-self-at-then-at-last
bounds-self-at-then-at-last c =
    let i = c.args.accum / 2048 in
    omega (
      arith,
      below_last _ _ i c.args.self.now.last_words c.bank-bank.ensures.1 (omega arith) c.place-at.ensures c.if-at-last.true,
    )

pub returns-then-at-last-clause-first : goal.returns-then-at-last-clause-first
unfolding fetched first_at
returns-then-at-last-clause-first c =
    let n = below_last _ _ (c.args.accum / 2048) c.args.self.now.last_words c.bank-bank.ensures.1 (omega arith) c.place-at.ensures c.if-at-last.true in
    word_there _ _ (omega arith) ∙ ap (word_at c.args.self.now.memory.now) (c.place-at.ensures ∙ ap (λ (x : ℕ). x * 2097152 + c.args.accum / 2048) c.bank-bank.ensures.0)

pub returns-then-at-last-clause-second : goal.returns-then-at-last-clause-second
unfolding fetched second_at
returns-then-at-last-clause-second c =
    let i = c.args.accum / 2048 in
    let n = below_last _ _ i c.args.self.now.last_words c.bank-bank.ensures.1 (omega arith) c.place-at.ensures c.if-at-last.true in
    word_there _ _ (omega (arith, n))
    ∙ ap (word_at c.args.self.now.memory.now)
    (omega arith ∙ n.0 ∙ ap (λ (x : ℕ). x * 2097152 + (i + 1) % 2097152) c.bank-bank.ensures.0)

pub returns-clause-first : goal.returns-clause-first
unfolding fetched first_at
returns-clause-first c =
    c.word_at.ensures ∙ ap (word_at c.args.self.now.memory.now) (c.place-at.ensures ∙ ap (λ (x : ℕ). x * 2097152 + c.args.accum / 2048) c.bank-bank.ensures.0)

pub returns-clause-second : goal.returns-clause-second
unfolding fetched second_at
returns-clause-second c =
    c.word_at-2.ensures ∙ ap (word_at c.args.self.now.memory.now) (c.place-next.ensures ∙ ap (λ (x : ℕ). x * 2097152 + (c.args.accum / 2048 + 1) % 2097152) c.bank-bank.ensures.0)
