-- The code P+Q: the mixing j multiplies each byte by 2 to the power j.
use Rattle.std.specs.Prelude.{ℕ, List, map, bit_xor}
use Rattle.code.specs.Codes.{Coding}
use Rattle.field.specs.Field.{times, power, inverse}

-- each byte times 2 to the power j
unfoldable pub mixed : ℕ → List ℕ → List ℕ
mixed j b = map (times (power j)) b

-- each byte over 2 to the power j
unfoldable pub unmixed : ℕ → List ℕ → List ℕ
unmixed j b = map (times (inverse (power j))) b

-- each byte over the sum of 2 to the power i and 2 to the power j
unfoldable pub unpaired : ℕ → ℕ → List ℕ → List ℕ
unpaired i j b = map (times (inverse (bit_xor (power i) (power j)))) b

-- the code P+Q; 2 has 255 distinct powers
abbrev pub pq : Coding
pq = record { limit = 255; mix = mixed; unmix = unmixed; unpair = unpaired }
