-- random words from a seed
use Rattle.std.specs.Prelude.{ℕ, List, ◌++◌, map, replicate}
use Rattle.std.specs.Int.{w64, to_le_bytes}
use Rattle.std.specs.List.{range_with_len}
use Rattle.rand_chacha.specs.ChaCha.{word_at, key_of}

-- a seed as 8 bytes, the low one first, and 24 zeros
unfoldable pub seed_bytes : ℕ → List ℕ
seed_bytes seed = to_le_bytes w64 seed ++ replicate 24 0

-- the first outputs of a stream of ChaCha with eight rounds, whose key is the seed
unfoldable pub stream_outputs : ℕ → ℕ → ℕ → List ℕ
stream_outputs seed stream count =
    map (word_at 4 (key_of (seed_bytes seed)) stream) (range_with_len 0 count)
