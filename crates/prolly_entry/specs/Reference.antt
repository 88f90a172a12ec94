-- References of chunks, and their text. (SHA-512 is that of FIPS 180-4. The cut to 20 bytes and the
-- text are this project's format.)
use Rattle.std.specs.Prelude.{zero, suc, ◌+◌, ◌*◌, ◌/◌, ◌%◌, ◌<◌, ◌≡◌, codes, slice_index, length}
use Rattle.std.specs.Prelude.{All, ℕ, List, [], ◌∷◌, ◌++◌, take}
use Rattle.sha2.specs.Sha512.{sha512}
use Rattle.prolly_entry.specs.Byte.{IsByte}

-- The reference of bytes: the first 20 bytes of their SHA-512.
unfoldable pub reference_of : List ℕ → List ℕ
reference_of bytes = take 20 (sha512 bytes)

-- The number that bytes spell, the highest byte first, behind the number `high` of bytes before
-- them.
abbrev pub number_of : ℕ → List ℕ → ℕ
number_of high [] = high
number_of high (b ∷ bytes) = number_of (high * 256 + b) bytes

-- The character of a digit in base 32.
abbrev pub character : ℕ → ℕ
character digit = slice_index (codes "0123456789abcdefghijklmnopqrstuv") digit

-- The last n digits in base 32 of a number, the highest digit first.
abbrev pub characters : ℕ → ℕ → List ℕ
characters zero number = []
characters (suc n) number = characters n (number / 32) ++ character (number % 32) ∷ []

-- The text of a reference: its 160 bits are a number, written with 32 digits in base 32, so five
-- bits a character.
unfoldable pub reference_text : List ℕ → List ℕ
reference_text reference = characters 32 (number_of 0 reference)

-- A byte is a character of a text: the character of some digit.
pub record IsCharacter (byte : ℕ) : Type 0 where
  pub digit : ℕ
  pub below : digit < 32
  pub written : character digit ≡ byte

-- A reference is 20 bytes.
pub record IsReference (bytes : List ℕ) : Type 0 where
  pub twenty : length bytes ≡ 20
  pub in_range : All IsByte bytes

-- Law: two references with one text are the same.
abbrev pub ReferenceTextsDiffer : Type 0
ReferenceTextsDiffer = (first second : List ℕ) → IsReference first → IsReference second →
    reference_text first ≡ reference_text second → first ≡ second
