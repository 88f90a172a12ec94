-- One more message, and the whole of a closed list.
use Rattle.std.proofs.Common.{◌≡◌, true, false, List, [], ◌∷◌, ◌++◌, refl, ap, sym, ◌∙◌}
use Rattle.std.proofs.lemmas.List.{append-nil}
use Rattle.prolly_link.specs.Message.{items_in, is_open, is_closed, end_in, whole_of}
use Rattle.prolly_link.specs.declared.message.End.{End}
use Rattle.prolly_link.specs.Identity.{LinkId}
use Rattle.prolly_link.specs.declared.message.Message.{Message}
use Rattle.prolly_link.specs.declared.message.Message.TheVariants.{Item, Last}

module _ {T : Type 0} where
  pub items_in-append : (ms ns : List (Message T)) →
      items_in (ms ++ ns) ≡ items_in ms ++ items_in ns
  items_in-append [] ns = refl
  items_in-append (Item x ∷ ms) ns = ap (λ xs. x ∷ xs) (items_in-append ms ns)
  items_in-append (Last e ∷ ms) ns = items_in-append ms ns

  pub items_in-item : (ms : List (Message T)) (x : T) →
      items_in (ms ++ Item x ∷ []) ≡ items_in ms ++ x ∷ []
  items_in-item ms x = items_in-append ms (Item x ∷ [])

  pub items_in-last : (ms : List (Message T)) (e : End) →
      items_in (ms ++ Last e ∷ []) ≡ items_in ms
  items_in-last [] e = refl
  items_in-last (Item x ∷ ms) e = ap (λ xs. x ∷ xs) (items_in-last ms e)
  items_in-last (Last d ∷ ms) e = items_in-last ms e

  pub is_open-item : (ms : List (Message T)) (x : T) → is_open (ms ++ Item x ∷ []) ≡ is_open ms
  is_open-item [] x = refl
  is_open-item (Item y ∷ ms) x = is_open-item ms x
  is_open-item (Last e ∷ ms) x = refl

  pub is_open-last : (ms : List (Message T)) (e : End) → is_open (ms ++ Last e ∷ []) ≡ false
  is_open-last [] e = refl
  is_open-last (Item y ∷ ms) e = is_open-last ms e
  is_open-last (Last d ∷ ms) e = refl

  pub is_closed-item : (ms : List (Message T)) (x : T) → is_closed (ms ++ Item x ∷ []) ≡ false
  is_closed-item [] x = refl
  is_closed-item (Item y ∷ ms) x = is_closed-item ms x
  is_closed-item (Last e ∷ []) x = refl
  is_closed-item (Last e ∷ (m ∷ ms)) x = refl

  pub is_closed-last : (ms : List (Message T)) (e : End) → is_open ms ≡ true →
      is_closed (ms ++ Last e ∷ []) ≡ true
  is_closed-last [] e o = refl
  is_closed-last (Item y ∷ ms) e o = is_closed-last ms e o
  is_closed-last (Last d ∷ ms) e o = cc

  pub end_in-last : (ms : List (Message T)) (e : End) → is_open ms ≡ true →
      end_in (ms ++ Last e ∷ []) ≡ e
  end_in-last [] e o = refl
  end_in-last (Item y ∷ ms) e o = end_in-last ms e o
  end_in-last (Last d ∷ ms) e o = cc

  nothing_more : (ms ns : List (Message T)) → is_closed ms ≡ true → is_closed (ms ++ ns) ≡ true →
      ms ++ ns ≡ ms
  nothing_more [] ns c d = cc
  nothing_more (Item x ∷ ms) ns c d = ap (λ r. Item x ∷ r) (nothing_more ms ns c d)
  nothing_more (Last e ∷ []) [] c d = refl
  nothing_more (Last e ∷ []) (n ∷ ns) c d = cc
  nothing_more (Last e ∷ (m ∷ ms)) ns c d = cc

  -- a closed list that begins a closed list is the whole of it
  pub closed_is_whole : (ms ns all : List (Message T)) → is_closed ms ≡ true →
      is_closed all ≡ true → ms ++ ns ≡ all → ms ≡ all
  closed_is_whole ms ns all c d e = sym (nothing_more ms ns c (ap is_closed e ∙ d)) ∙ e

  pub same_whole : (l m : LinkId) (ms ns : List (Message T)) → l ≡ m → ms ≡ ns →
      whole_of l ms ≡ whole_of m ns
  same_whole l m ms ns e f = ap (λ k. whole_of k ms) e ∙ ap (whole_of m) f

-- what one more message changes
pub ruleset messages = (
  items_in-item,
  items_in-last,
  is_open-item,
  is_closed-last,
  end_in-last,
  append-nil,
)
