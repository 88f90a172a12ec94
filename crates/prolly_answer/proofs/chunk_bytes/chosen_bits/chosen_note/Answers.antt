use Rattle.std.proofs.Common.{◌∷◌, ◌++◌, ◌∙◌, [], List, ℕ, ap, codes}
use Rattle.std.specs.Fmt.{decimal}
use Rattle.prolly_answer.proofs.chunk_bytes.chosen_bits.chosen_note.Goals as goal

-- Part by part.
pub returns : goal.returns
returns c =
    let bits : List ℕ = 0x20 ∷ decimal c.args.chosen.bits in
    let mean : List ℕ = 0x20 ∷ decimal c.args.chosen.mean in
    let one = c.in_ok-extend_from_slice.ensures.items
    ∙ ap (λ (x : List ℕ). x ++ codes "prolly: --bits") c.new-line.ensures.items in
    let two = c.in_ok-append_number.ensures
    ∙ (ap (λ (n : ℕ). c.extend_from_slice.new.self.items ++ (0x20 ∷ decimal n)) c.from.ensures
    ∙ ap (λ (x : List ℕ). x ++ bits) one) in
    let three = c.in_ok-extend_from_slice-2.ensures.items
    ∙ ap (λ (x : List ℕ). x ++ codes ", since a record has") two in
    let four = c.in_ok-append_number-2.ensures ∙ ap (λ (x : List ℕ). x ++ mean) three in
    let five = c.in_ok-extend_from_slice-3.ensures.items
    ∙ ap (λ (x : List ℕ). x ++ codes " bytes on average") four in
    c.in_ok-push.ensures.items ∙ ap (λ (x : List ℕ). x ++ 0x0A ∷ []) five
