-- the words of turns
use Rattle.std.specs.Prelude.{ℕ}
use Rattle.rand_chacha.specs.ChaCha.{ChaCha, key_of, next_word}
use Rattle.fy_actors.specs.Words.{seed_bytes}
use Rattle.fy_players.specs.declared.draws.Words.{Words}

-- a stream of a seed, from its first word on
abbrev pub stream_of : ℕ → ℕ → ChaCha
stream_of seed stream =
    record { key = key_of (seed_bytes seed); stream = stream; word_pos = 0 }

-- the next word, and the stream behind it
unfoldable pub word_of : ChaCha → ℕ × ChaCha
word_of draws = next_word 4 draws

-- the words of a turn, which are the next eight, and the stream behind them
abbrev pub words_of : ChaCha → Words × ChaCha
words_of draws =
    let choice = word_of draws in
    let first = word_of choice.1 in
    let second = word_of first.1 in
    let third = word_of second.1 in
    let fourth = word_of third.1 in
    let fifth = word_of fourth.1 in
    let low = word_of fifth.1 in
    let high = word_of low.1 in (
      record {
        choice = choice.0;
        first = first.0;
        second = second.0;
        third = third.0;
        fourth = fourth.0;
        fifth = fifth.0;
        low = low.0;
        high = high.0;
      },
      high.1,
    )
