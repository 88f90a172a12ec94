-- What is UTF-8 without a hidden character.
use Rattle.std.proofs.Common.{◌≡◌, ℕ, false, List, [], ◌∷◌, ◌++◌, subst, arith, append-nil}
use Rattle.std.proofs.lemmas.Bool.Decides.{nat_tests}
use Rattle.std.proofs.lemmas.Str.{encode_ascii, IsUtf8-append, IsUtf8-encode, IsUtf8-nil}
use Rattle.std.proofs.lemmas.Str.{NoCharPasses-append, NoCharPasses-nil}
use Rattle.std.specs.Char.{encode_utf8, IsScalar}
use Rattle.std.specs.List.{AllByRecursion}
use Rattle.prolly_text.specs.Escapes.{is_hidden}
use Rattle.prolly_text.specs.Notations.{IsShown}
use Rattle.prolly_text.specs.lemmas.Letters.{IsPrintable}

pub nothing_shows : IsShown []
nothing_shows = (IsUtf8-nil, NoCharPasses-nil is_hidden)

pub both_show : (a b : List ℕ) → IsShown a → IsShown b → IsShown (a ++ b)
both_show a b h k = (IsUtf8-append a b h.0 k.0, NoCharPasses-append is_hidden a b h.1 k.1)

pub one_shows : (character : ℕ) → IsScalar character → is_hidden character ≡ false →
    IsShown (encode_utf8 character)
one_shows character scalar plain = (
  IsUtf8-encode character scalar,
  (character ∷ [], append-nil (encode_utf8 character), (plain, tt)),
)

printable_shows : (character : ℕ) → IsPrintable character → IsShown (character ∷ [])
printable_shows character h = subst IsShown (encode_ascii character (omega arith))
    (one_shows character (grind (arith, nat_tests)) (grind (arith, nat_tests)))

-- Characters of ASCII that show.
pub printables_show : (text : List ℕ) → AllByRecursion IsPrintable text → IsShown text
printables_show [] h = nothing_shows
printables_show (c ∷ text) h =
    both_show (c ∷ []) text (printable_shows c h.0) (printables_show text h.1)
