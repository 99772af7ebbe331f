-- What a keyed hasher computes: what std's FoldHasher does, by a multiplier of its own.
use Rattle.std.specs.Prelude.{ℕ, zero, suc, ◌+◌, ◌-◌, ◌*◌, ◌/◌, ◌%◌, ◌^◌, List, length, if◌then◌else◌, nat_le, bit_xor}
use Rattle.std.specs.Hash.FoldHasher.{folded_multiply, read_short, read_u64}
use Rattle.key_hashing.specs.declared.hashing.Hashing.{Hashing}
use Rattle.key_hashing.specs.declared.keyed_hasher.KeyedHasher.{KeyedHasher}

-- the hasher to which nothing was written
abbrev pub begun : Hashing → KeyedHasher
begun hashing = record { state = hashing.state; multiplier = hashing.multiplier }

-- the state after the words at i and at j
abbrev pub mix : ℕ → List ℕ → ℕ → ℕ → ℕ → ℕ
mix multiplier bytes state i j = folded_multiply (bit_xor (read_u64 bytes i) state) (bit_xor (read_u64 bytes j) multiplier)

-- the state after the first n pieces of 16 bytes
unfoldable pub mix_pieces : ℕ → List ℕ → ℕ → ℕ → ℕ
mix_pieces multiplier bytes state zero = state
mix_pieces multiplier bytes state (suc n) = mix multiplier bytes (mix_pieces multiplier bytes state n) (16 * n) (16 * n + 8)

-- the state after up to 8 bytes
abbrev pub after_short : KeyedHasher → List ℕ → ℕ
after_short hasher bytes = folded_multiply (bit_xor hasher.state (read_short bytes)) (bit_xor hasher.multiplier (2 * length bytes))

-- the state after more bytes: all whole pieces but the last 16 bytes, and then these, or the last 8 twice where there are fewer
abbrev pub after_long : KeyedHasher → List ℕ → ℕ
after_long hasher bytes =
    let n = length bytes in
    mix hasher.multiplier bytes (mix_pieces hasher.multiplier bytes ((hasher.state + n) % 2 ^ 64) ((n - 1) / 16)) (n - 16) (n - 8)

-- the hasher after the bytes are written
unfoldable pub write : KeyedHasher → List ℕ → KeyedHasher
write hasher bytes = record hasher { state = if nat_le (length bytes) 8 then after_short hasher bytes else after_long hasher bytes }
