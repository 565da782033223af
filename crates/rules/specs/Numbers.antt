-- Numbers in bytes, little-endian, and numbers as sets of bits.
use Rattle.std.specs.Prelude.{ℕ, zero, suc, ◌+◌, ◌*◌, ◌/◌, ◌%◌, ◌^◌, Bool, true, false, cond, ◌&&◌, List, [], ◌∷◌, ◌++◌, eqb, get_or}
use Rattle.std.specs.Int.Bits.{bit_and, bit_or}

-- the byte at i
abbrev pub byte : List ℕ → ℕ → ℕ
byte l i = get_or l i 0

-- the 2, 4 or 8 bytes from byte i on
abbrev pub word : List ℕ → ℕ → ℕ
word l i = byte l i + byte l (1 + i) * 2 ^ 8

abbrev pub dword : List ℕ → ℕ → ℕ
dword l i = word l i + word l (2 + i) * 2 ^ 16

abbrev pub qword : List ℕ → ℕ → ℕ
qword l i = dword l i + dword l (4 + i) * 2 ^ 32

-- a WORD and a DWORD as bytes, and DWORDs one after the other
abbrev pub le16 : ℕ → List ℕ
le16 x = x % 256 ∷ x / 2 ^ 8 % 256 ∷ []

abbrev pub le32 : ℕ → List ℕ
le32 x = x % 256 ∷ x / 2 ^ 8 % 256 ∷ x / 2 ^ 16 % 256 ∷ x / 2 ^ 24 % 256 ∷ []

abbrev pub dwords : List ℕ → List ℕ
dwords [] = []
dwords (x ∷ v) = le32 x ++ dwords v

-- all bytes added
abbrev pub sum : List ℕ → ℕ
sum [] = 0
sum (x ∷ l) = x + sum l

-- the same bytes in the same order
abbrev pub same_bytes : List ℕ → List ℕ → Bool
same_bytes [] [] = true
same_bytes [] (y ∷ m) = false
same_bytes (x ∷ l) [] = false
same_bytes (x ∷ l) (y ∷ m) = eqb x y && same_bytes l m

-- bit i of a number
unfoldable pub bit : ℕ → ℕ → Bool
bit x i = eqb (x / 2 ^ i % 2) 1

-- the set of these bits
abbrev pub set_of : List ℕ → ℕ
set_of [] = 0
set_of (i ∷ l) = bit_or (2 ^ i) (set_of l)

-- each bit of x is one of y
abbrev pub within : ℕ → ℕ → Bool
within x y = eqb (bit_and x y) x

-- the number below 2 ^ n whose bit i is f i
abbrev pub number : ℕ → (ℕ → Bool) → ℕ
number zero f = 0
number (suc n) f = cond (f 0) 1 0 + 2 * number n (λ i. f (suc i))
