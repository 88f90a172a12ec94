-- The last bytes of a chunk file.
use Rattle.std.proofs.Common.{◌≡◌, ◌∙◌, ℕ, ◌+◌, ◌-◌, ◌<◌, ◌≤◌, List, ◌++◌, length, take, drop}
use Rattle.std.proofs.Common.{Result, Ok, Err, refl, sym, ap, subst, arith, append_assoc}
use Rattle.std.specs.Int.{w64, to_be_bytes}
use Rattle.std.specs.List.{flat_map}
use Rattle.std.specs.Prelude.{IfSome, Option, Some, None, ok_or}
use Rattle.std.proofs.Math.Seq.{drop-append_seam, take-append_seam, take-length}
use Rattle.std.proofs.lemmas.List.{length-append, length-drop}
use Rattle.prolly_look_up.specs.Content.{Content, IsFileOf}
use Rattle.prolly_root.specs.declared.file.named_root_fault.NamedRootFault.{NamedRootFault}
use Rattle.prolly_root.specs.declared.file.named_root_fault.NamedRootFault.TheVariants as faults
use Rattle.prolly_entry.specs.Cut.{sha512_cut}
use Rattle.prolly_entry.specs.declared.reference.Ref.{Ref}
use Rattle.prolly_io.specs.EndRecord.{IsNoEnd, NamesRoot}
use Rattle.prolly_tree.specs.Chunk.{chunks}
use Rattle.prolly_tree.specs.File.{end_record, frame, header, root_reference}
use Rattle.prolly_root.specs.NamedRoot.{NamesRootOf, TellsRoot, last_bytes}
use Rattle.prolly_root.specs.lemmas.FileTrees.{root_length}

module _ {bytes : List ℕ} {content : Content} (f : IsFileOf bytes content) where
  abbrev root : List ℕ
  root = root_reference (sha512_cut content.bits) content.version content.pairs

  abbrev count : List ℕ
  count = to_be_bytes w64 (length (chunks (sha512_cut content.bits) content.version content.pairs))

  abbrev ending : List ℕ
  ending = end_record root (length (chunks (sha512_cut content.bits) content.version content.pairs))

  abbrev before : List ℕ
  before = header content.version content.bits ++
      flat_map frame (chunks (sha512_cut content.bits) content.version content.pairs)

  apart : bytes ≡ before ++ ending
  apart = f.is ∙ simp append_assoc

  how_long : length bytes ≡ length before + 29
  how_long = omega (
    arith,
    ap length apart,
    length-append before ending,
    length-append root count,
    root_length content,
  )

  -- there is room for a header and an end record
  pub has_room : length bytes < 35 → ⊥
  has_room short = omega (
    arith,
    short,
    how_long,
    length-append (header content.version content.bits)
        (flat_map frame (chunks (sha512_cut content.bits) content.version content.pairs)),
  )

  last_is : last_bytes bytes ≡ ending
  last_is = ap (λ n. drop n bytes) start ∙ ap (drop (length before)) apart ∙
      drop-append_seam before ending
    where
      start : length bytes - 29 ≡ length before
      start = omega (arith, how_long)

  -- they are an end record with the root
  names : NamesRoot root (last_bytes bytes)
  names = record {
    count = count;
    is = last_is;
    root_size = root_length content;
    count_size = refl;
  }

  -- and with no other
  one_root : (other : List ℕ) → NamesRoot other (last_bytes bytes) → other ≡ root
  one_root other n =
      let same : other ++ n.count ≡ root ++ count = ap (drop 1) (sym n.is ∙ last_is) in
      sym (take-append_seam other n.count) ∙
      ap (λ k. take k (other ++ n.count)) (n.root_size ∙ sym (root_length content)) ∙
      ap (take (length root)) same ∙ take-append_seam root count

  -- what is told of a lawful file's end is its root
  pub names_root : (result : Result Ref NamedRootFault) → TellsRoot bytes result →
      NamesRootOf content result
  names_root (Ok other) tells = one_root other.0 tells.1
  names_root (Err faults.Truncated) tells = absurd (has_room tells)
  names_root (Err faults.BadEnd) tells = absurd (tells.1 root names)
  names_root (Err fault) tells = tells

-- what is told of the last bytes is told of the file
pub tells_last : (bytes read : List ℕ) (named : Option Ref) → 35 ≤ length bytes →
    read ≡ take 29 (last_bytes bytes) → IfSome named (λ root. NamesRoot root.0 read) →
    (named ≡ None → IsNoEnd read) → TellsRoot bytes (ok_or named faults.BadEnd)
tells_last bytes read named room is some none = go named some none
  where
    same : read ≡ last_bytes bytes
    same = is ∙ ap (λ n. take n (last_bytes bytes)) (sym long) ∙ take-length (last_bytes bytes)
      where
        long : length (last_bytes bytes) ≡ 29
        long = omega (arith, length-drop (length bytes - 29) bytes, room)

    go : (named : Option Ref) → IfSome named (λ root. NamesRoot root.0 read) →
        (named ≡ None → IsNoEnd read) → TellsRoot bytes (ok_or named faults.BadEnd)
    go (Some root) some none = (room, subst (NamesRoot root.0) same some)
    go None some none = (room, λ root n. none refl root (subst (NamesRoot root) (sym same) n))
