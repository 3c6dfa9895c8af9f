use Rattle.std.proofs.Common.{◌≡◌}
use Rattle.rand_chacha.specs.ChaCha.{key_of}
use Rattle.fy_actors.specs.Words.{seed_bytes, stream_outputs}
use Rattle.fy_actors.proofs.seeded.words.Given as goal

abbrev pub invariant-loop : goal.invariant-loop
invariant-loop l = record {
  drawn : l.words.items ≡ stream_outputs l.seed l.stream l.counter;
  next :
      l.generator
      ≡ record { key = key_of (seed_bytes l.seed); stream = l.stream; word_pos = l.counter };
}
