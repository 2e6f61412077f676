-- Numbers and bytes in a line. The decimal and hexadecimal digits are the usual ones.
use Rattle.std.specs.Prelude.{ℕ, List, ◌∷◌}
use Rattle.std.specs.List.{flat_map}
use Rattle.std.specs.Fmt.{decimal}
use Rattle.hex.specs.Hex.{encode_lower}

-- a number in decimal digits, after a space
abbrev pub spaced : ℕ → List ℕ
spaced n = 32 ∷ decimal n

-- numbers, each after a space
abbrev pub all_spaced : List ℕ → List ℕ
all_spaced ns = flat_map spaced ns

-- bytes, each as two lower-case hexadecimal digits
abbrev pub hex_text : List ℕ → List ℕ
hex_text bytes = encode_lower bytes
