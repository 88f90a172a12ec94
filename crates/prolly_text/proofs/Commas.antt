-- Values of JSON one behind another, with commas between them.
use Rattle.std.proofs.Common.{◌≡◌, ℕ, zero, suc, ◌+◌, List, [], ◌∷◌, ◌++◌, length, take}
use Rattle.std.proofs.Common.{map, Some, slice_get, refl, sym, ap, ◌∙◌, arith, append_assoc}
use Rattle.std.proofs.Common.{append-nil}
use Rattle.std.proofs.lemmas.Grind.{flat_map-append}
use Rattle.std.proofs.lemmas.List.{length-map, length-take-le, map-append}
use Rattle.std.proofs.lemmas.Option.{slice_get_within}
use Rattle.std.specs.List.{flat_map, join_with_byte}
use Rattle.prolly_text.specs.Json.{array, behind_comma, comma_before, member, object, quoted}

-- ---- an array, value by value

joined_more : (texts : List (List ℕ)) (text : List ℕ) →
    join_with_byte 0x2C (texts ++ text ∷ []) ≡
    join_with_byte 0x2C texts ++ comma_before (length texts) ++ text
joined_more [] text = refl
joined_more (first ∷ []) text = sym (append_assoc first (0x2C ∷ []) text)
joined_more (first ∷ next ∷ texts) text =
    ap (λ t. first ++ 0x2C ∷ t) (joined_more (next ∷ texts) text) ∙ simp append_assoc

take_next : {A : Type 0} (xs : List A) (place : ℕ) (x : A) → slice_get xs place ≡ Some x →
    take (suc place) xs ≡ take place xs ++ x ∷ []
take_next [] place x e = cc
take_next (y ∷ ys) zero x e = cc
take_next (y ∷ ys) (suc place) x e = ap (λ t. y ∷ t) (take_next ys place x e)

-- The value of this number, behind those before it.
pub next_value : {A : Type 0} (text : A → List ℕ) (front : List ℕ) (xs : List A) (place : ℕ)
    (x : A) → slice_get xs place ≡ Some x →
    front ++ join_with_byte 0x2C (map text (take place xs)) ++ comma_before place ++ text x ≡
    front ++ join_with_byte 0x2C (map text (take (place + 1) xs))
next_value text front xs place x e =
    let before = map text (take place xs) in
    let shown = join_with_byte 0x2C before in
    let within = slice_get_within xs place x e in
    let long : length before ≡ place =
    length-map (take place xs) text ∙ length-take-le place xs (omega arith) in
    let next : place + 1 ≡ suc place = omega arith in
    let more : map text (take (place + 1) xs) ≡ before ++ text x ∷ [] =
    ap (λ n. map text (take n xs)) next ∙ ap (map text) (take_next xs place x e) ∙
    map-append text (take place xs) (x ∷ []) in
    ap (λ n. front ++ shown ++ comma_before n ++ text x) (sym long) ∙
    append_assoc (front ++ shown) (comma_before (length before)) (text x) ∙
    append_assoc front shown (comma_before (length before) ++ text x) ∙
    ap (λ t. front ++ t) (sym (append_assoc shown (comma_before (length before)) (text x))) ∙
    ap (λ t. front ++ t) (sym (joined_more before (text x))) ∙
    ap (λ t. front ++ join_with_byte 0x2C t) (sym more)

-- The brackets around them.
pub bracketed : (out : List ℕ) (texts : List (List ℕ)) →
    out ++ 0x5B ∷ [] ++ join_with_byte 0x2C texts ++ 0x5D ∷ [] ≡ out ++ array texts
bracketed out texts =
    append_assoc (out ++ 0x5B ∷ []) (join_with_byte 0x2C texts) (0x5D ∷ []) ∙
    append_assoc out (0x5B ∷ []) (join_with_byte 0x2C texts ++ 0x5D ∷ [])

-- ---- an object, member by member

joined : (text : List ℕ) (texts : List (List ℕ)) →
    join_with_byte 0x2C (text ∷ texts) ≡ text ++ flat_map behind_comma texts
joined text [] = sym (append-nil text)
joined text (next ∷ texts) = ap (λ t. text ++ 0x2C ∷ t) (joined next texts)

-- A member whose name and colon come first, and then its value.
pub named : (front name value : List ℕ) →
    front ++ 0x2C ∷ quoted name ++ 0x3A ∷ [] ++ value ≡ front ++ 0x2C ∷ member name value
named front name value =
    append_assoc (front ++ 0x2C ∷ quoted name) (0x3A ∷ []) value ∙
    append_assoc front (0x2C ∷ quoted name) (0x3A ∷ value)

eight_apart : (out a b c d e f g h : List ℕ) → out ++ a ++ b ++ c ++ d ++ e ++ f ++ g ++ h ≡
    out ++ (a ++ (b ++ (c ++ (d ++ (e ++ (f ++ (g ++ h)))))))
eight_apart out a b c d e f g h = simp append_assoc

seven_before : (a b c d e f g h : List ℕ) → a ++ (b ++ (c ++ (d ++ (e ++ (f ++ g))))) ++ h ≡
    a ++ (b ++ (c ++ (d ++ (e ++ (f ++ (g ++ h))))))
seven_before a b c d e f g h = simp append_assoc

-- Seven members.
pub seven : (out new a b c d e f g end : List ℕ) →
    new ≡ out ++ 0x7B ∷ a ++ 0x2C ∷ b ++ 0x2C ∷ c ++ 0x2C ∷ d ++ 0x2C ∷ e ++ 0x2C ∷ f ++
    0x2C ∷ g ++ 0x7D ∷ end →
    new ≡ out ++ (object (a ∷ b ∷ c ∷ d ∷ e ∷ f ∷ g ∷ []) ++ end)
seven out new a b c d e f g end is =
    let texts = join_with_byte 0x2C (a ∷ b ∷ c ∷ d ∷ e ∷ f ∷ g ∷ []) in
    is ∙ eight_apart out (0x7B ∷ a) (0x2C ∷ b) (0x2C ∷ c) (0x2C ∷ d) (0x2C ∷ e) (0x2C ∷ f)
    (0x2C ∷ g) (0x7D ∷ end) ∙
    ap (λ t. out ++ 0x7B ∷ t) (sym (append_assoc texts (0x7D ∷ []) end ∙
    seven_before a (0x2C ∷ b) (0x2C ∷ c) (0x2C ∷ d) (0x2C ∷ e) (0x2C ∷ f) (0x2C ∷ g)
    (0x7D ∷ end)))

six_apart : (out a b c d e f : List ℕ) → out ++ a ++ b ++ c ++ d ++ e ++ f ≡
    out ++ (a ++ (b ++ (c ++ (d ++ (e ++ f)))))
six_apart out a b c d e f = simp append_assoc

five_before : (a b c d e f : List ℕ) →
    a ++ (b ++ (c ++ (d ++ e))) ++ f ≡ a ++ (b ++ (c ++ (d ++ (e ++ f))))
five_before a b c d e f = simp append_assoc

-- Three members, and others that may be there.
pub three_and_more : (out new a b c : List ℕ) (first last : List (List ℕ)) (end : List ℕ) →
    new ≡ out ++ 0x7B ∷ a ++ 0x2C ∷ b ++ 0x2C ∷ c ++ flat_map behind_comma first ++
    flat_map behind_comma last ++ 0x7D ∷ end →
    new ≡ out ++ (object (a ∷ b ∷ c ∷ [] ++ first ++ last) ++ end)
three_and_more out new a b c first last end is =
    let texts = join_with_byte 0x2C (a ∷ b ∷ c ∷ (first ++ last)) in
    let parts : texts ≡ a ++ (0x2C ∷ b ++ (0x2C ∷ c ++ (flat_map behind_comma first ++
    flat_map behind_comma last))) = joined a (b ∷ c ∷ (first ++ last)) ∙
    ap (λ t. a ++ (0x2C ∷ b ++ (0x2C ∷ c ++ t))) (flat_map-append behind_comma first last) in
    is ∙ six_apart out (0x7B ∷ a) (0x2C ∷ b) (0x2C ∷ c) (flat_map behind_comma first)
    (flat_map behind_comma last) (0x7D ∷ end) ∙
    ap (λ t. out ++ 0x7B ∷ t) (sym (append_assoc texts (0x7D ∷ []) end ∙
    ap (λ t. t ++ 0x7D ∷ end) parts ∙ five_before a (0x2C ∷ b) (0x2C ∷ c)
    (flat_map behind_comma first) (flat_map behind_comma last) (0x7D ∷ end)))
