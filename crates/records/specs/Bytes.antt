-- Paper 01, 'Blocks': numbers in a list of bytes, unsigned and with the low byte first.
use Rattle.std.specs.Prelude.{Bool, true, ◌&&◌, List, [], ◌∷◌, ◌++◌, ℕ, ◌+◌, ◌-◌, ◌*◌, ◌/◌, ◌%◌, ◌<◌, eqb, length, get_or, take, drop}

-- ---- reading

-- the byte at a place, 0 past the end
abbrev pub byte_at : List ℕ → ℕ → ℕ
byte_at bytes at = get_or bytes at 0

-- every number of the list is a byte
abbrev pub AllBytes : List ℕ → Type 0
AllBytes bytes = (at : ℕ) → byte_at bytes at < 256

-- the bytes from a place on, up to but not with another
abbrev pub part : ℕ → ℕ → List ℕ → List ℕ
part from to bytes = take (to - from) (drop from bytes)

-- the number in two bytes
unfoldable pub le16 : List ℕ → ℕ → ℕ
le16 bytes at = byte_at bytes at + 256 * byte_at bytes (at + 1)

-- the number in four bytes
unfoldable pub le32 : List ℕ → ℕ → ℕ
le32 bytes at = le16 bytes at + 65536 * le16 bytes (at + 2)

-- every byte is zero
unfoldable pub all_zero_of : List ℕ → Bool
all_zero_of [] = true
all_zero_of (byte ∷ bytes) = eqb byte 0 && all_zero_of bytes

-- ---- writing

-- the two bytes of a number
unfoldable pub bytes16 : ℕ → List ℕ
bytes16 n = n % 256 ∷ n / 256 % 256 ∷ []

-- the four bytes of a number
unfoldable pub bytes32 : ℕ → List ℕ
bytes32 n = bytes16 n ++ bytes16 (n / 65536)

-- bytes with others written over them from a place on
abbrev pub written : List ℕ → ℕ → List ℕ → List ℕ
written bytes at new = take at bytes ++ new ++ drop (at + length new) bytes
