-- Columns, as the formats of the code write them.
use Rattle.std.proofs.Common.{◌≡◌, ℕ, zero, suc, ◌-◌, ◌^◌, false, List, [], ◌∷◌, ◌++◌, length}
use Rattle.std.proofs.Common.{replicate, refl, ap, arith, append-nil}
use Rattle.std.proofs.Math.Nat.{sub_self}
use Rattle.std.specs.Char.{encode_utf8}
use Rattle.std.specs.Fmt.{format_spec, padded_integral, char_count}
use Rattle.std.specs.List.{repeat}
use Rattle.prolly_text.specs.Table.{right}

spaces : (n : ℕ) → repeat n (encode_utf8 0x20) ≡ replicate n 0x20
unfolding encode_utf8
spaces zero = refl
spaces (suc n) = ap (λ t. 0x20 ∷ t) (spaces n)

-- What a hole such as `{:>5}` writes for a number.
abbrev pub hole : ℕ → List ℕ → List ℕ
hole width numeral = padded_integral (format_spec 0x20 3 0 width (2 ^ 64 - 1)) false [] numeral

pub hole_is : (width : ℕ) (numeral : List ℕ) → hole width numeral ≡ right width numeral
unfolding padded_integral char_count
hole_is width numeral =
    let left : width - length numeral - 0 - 0 ≡ width - length numeral = omega arith in
    simp (sub_self, append-nil, spaces) (ap (λ n. replicate n 0x20 ++ numeral) left)
