-- What a walk notes on its way.
use Rattle.std.proofs.Common.{◌≡◌, ℕ, List, [], ◌∷◌, ◌++◌, map, refl, sym, ap, ◌∙◌, subst}
use Rattle.std.proofs.Common.{Option, None, Some, append-nil}
use Rattle.std.proofs.lemmas.List.{map-append}
use Rattle.std.specs.Option.{is_some}
use Rattle.prolly_entry.specs.Reference.{reference_of}
use Rattle.prolly_entry.specs.declared.version.Version.{Version}
use Rattle.prolly_root_diff.specs.Left.{Left}
use Rattle.prolly_root_diff.specs.Notes.{AddsNew, AddsNotes, AddsOld, AreNoted, Reads, read_new}
use Rattle.prolly_root_diff.specs.Notes.{read_old, said_by, said_of}
use Rattle.prolly_root_diff.specs.FirstFault.{TreeStep, read_by}
use Rattle.prolly_root_diff.specs.Walks.{Move, new_steps, old_steps}
use Rattle.prolly_root_diff.specs.lemmas.WalkParts.{new_on, old_on}
use Rattle.prolly_root_diff.specs.declared.notes.Note.{Note}
use Rattle.prolly_root_diff.specs.declared.notes.Notes.{Notes}

-- ---- the chunks of a way

read_more : (steps more : List TreeStep) → read_by (steps ++ more) ≡ read_by steps ++ read_by more
read_more [] more = refl
read_more (TreeStep.Reads chunk ∷ steps) more = ap (λ cs. chunk ∷ cs) (read_more steps more)
read_more (TreeStep.Passes ∷ steps) more = read_more steps more

read_old_on : (way more : List Move) → read_old (way ++ more) ≡ read_old way ++ read_old more
read_old_on way more = ap read_by (old_on way more) ∙ read_more (old_steps way) (old_steps more)

read_new_on : (way more : List Move) → read_new (way ++ more) ≡ read_new way ++ read_new more
read_new_on way more = ap read_by (new_on way more) ∙ read_more (new_steps way) (new_steps more)

-- one element more on both sides
one_more : {A B C : Type 0} (f : A → C) (g : B → C) (xs xs' : List A) (x : A) (ys ys' zs : List B)
    (y : B) → xs' ≡ xs ++ x ∷ [] → map f xs ≡ map g ys → f x ≡ g y → zs ≡ y ∷ [] →
    ys' ≡ ys ++ zs → map f xs' ≡ map g ys'
one_more f g xs xs' x ys ys' zs y is same one last all =
    ap (map f) is ∙ map-append f xs (x ∷ []) ∙ ap (λ cs. cs ++ f x ∷ []) same ∙
    ap (λ c. map g ys ++ c ∷ []) one ∙ sym (map-append g ys (y ∷ [])) ∙
    ap (λ l. map g (ys ++ l)) (sym last) ∙ ap (map g) (sym all)

-- nothing more
no_more : {A B C : Type 0} (f : A → C) (g : B → C) (xs xs' : List A) (ys ys' : List B) → xs' ≡ xs →
    map f xs ≡ map g ys → ys' ≡ ys ++ [] → map f xs' ≡ map g ys'
no_more f g xs xs' ys ys' is same all =
    ap (map f) is ∙ same ∙ ap (map g) (sym (append-nil ys)) ∙ ap (map g) (sym all)

-- ---- notes

-- notes are taken as before
pub adds_old : (note : Note) (notes later : Option Notes) → AddsOld note notes later →
    is_some later ≡ is_some notes
adds_old note None later adds = ap is_some adds
adds_old note (Some notes) later adds = ap is_some adds.1

pub adds_new : (note : Note) (notes later : Option Notes) → AddsNew note notes later →
    is_some later ≡ is_some notes
adds_new note None later adds = ap is_some adds
adds_new note (Some notes) later adds = ap is_some adds.1

-- a chunk of the old tree was noted
pub old_noted : (version : Version) (notes later : Option Notes) (note : Note) (old new : Left)
    (reads : Reads version old new note) → AddsOld note notes later →
    AddsNotes (Move.ReadsOld reads.opens.chunk ∷ []) notes later
old_noted version None later note old new reads adds way noted =
    subst (AreNoted (way ++ Move.ReadsOld reads.opens.chunk ∷ [])) (sym adds) tt
old_noted version (Some notes) later note old new reads adds way noted =
    subst (AreNoted (way ++ Move.ReadsOld reads.opens.chunk ∷ [])) (sym adds.1) (record {
      old = one_more (λ r. r.0) reference_of notes.old.items adds.0.old.items note.reference
          (read_old way) (read_old (way ++ Move.ReadsOld reads.opens.chunk ∷ []))
          (reads.opens.chunk ∷ []) reads.opens.chunk adds.2 noted.old reads.reference refl
          (read_old_on way (Move.ReadsOld reads.opens.chunk ∷ []));
      new = no_more said_by said_of notes.new.items adds.0.new.items (read_new way)
          (read_new (way ++ Move.ReadsOld reads.opens.chunk ∷ [])) adds.3 noted.new
          (read_new_on way (Move.ReadsOld reads.opens.chunk ∷ []));
    })

-- one of the new tree
pub new_noted : (version : Version) (notes later : Option Notes) (note : Note) (old new : Left)
    (reads : Reads version old new note) → AddsNew note notes later →
    AddsNotes (Move.ReadsNew reads.opens.chunk ∷ []) notes later
new_noted version None later note old new reads adds way noted =
    subst (AreNoted (way ++ Move.ReadsNew reads.opens.chunk ∷ [])) (sym adds) tt
new_noted version (Some notes) later note old new reads adds way noted =
    subst (AreNoted (way ++ Move.ReadsNew reads.opens.chunk ∷ [])) (sym adds.1) (record {
      old = no_more (λ r. r.0) reference_of notes.old.items adds.0.old.items (read_old way)
          (read_old (way ++ Move.ReadsNew reads.opens.chunk ∷ [])) adds.2 noted.old
          (read_old_on way (Move.ReadsNew reads.opens.chunk ∷ []));
      new = one_more said_by said_of notes.new.items adds.0.new.items note (read_new way)
          (read_new (way ++ Move.ReadsNew reads.opens.chunk ∷ [])) (reads.opens.chunk ∷ [])
          reads.opens.chunk adds.3 noted.new (ap (λ r. (r, note.length)) reads.reference ∙
          ap (λ n. (reference_of reads.opens.chunk, n)) reads.length) refl
          (read_new_on way (Move.ReadsNew reads.opens.chunk ∷ []));
    })

-- no chunk was read, and none was noted
pub none_noted : (move : Move) → read_old (move ∷ []) ≡ [] → read_new (move ∷ []) ≡ [] →
    (notes : Option Notes) → AddsNotes (move ∷ []) notes notes
none_noted move none none' None way noted = tt
none_noted move none none' (Some notes) way noted = record {
  old = noted.old ∙ ap (map reference_of) (same (read_old way) (read_old (move ∷ [])) none ∙
      sym (read_old_on way (move ∷ [])));
  new = noted.new ∙ ap (map said_of) (same (read_new way) (read_new (move ∷ [])) none' ∙
      sym (read_new_on way (move ∷ [])));
}
  where
    same : (xs ys : List (List ℕ)) → ys ≡ [] → xs ≡ xs ++ ys
    same xs ys e = sym (append-nil xs) ∙ ap (λ l. xs ++ l) (sym e)
