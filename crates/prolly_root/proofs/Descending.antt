-- Going down from the root, from each chunk to the one that it refers to.
use Rattle.std.proofs.Common.{◌≡◌, ℕ, List, [], ◌∷◌, ◌++◌, Option, Some, None, IfSome, ◌<◌, ◌-◌}
use Rattle.std.proofs.Common.{length, get_or, arith, rules, refl, sym, ap, ◌∙◌, subst, Result, Ok}
use Rattle.std.proofs.Common.{Err, Ordering, cond, false, inl, not, take}
use Rattle.std.specs.List.{AllByRecursion}
use Rattle.std.specs.Option.{option_to_list}
use Rattle.std.proofs.lemmas.List.{get_or_push, length-append, length-map, map-append}
use Rattle.std.proofs.Math.ListN.{get_or-map}
use Rattle.std.specs.Prelude.{All, IfOk, IsErr, IsErrAnd, OnErr}
use Rattle.prolly_entry.specs.Byte.{IsByte}
use Rattle.prolly_look_up.specs.PairsFrom.{pairs_from}
use Rattle.prolly_look_up.specs.Kinds.{kind_of}
use Rattle.prolly_look_up.specs.Sought.{Sought, EndsAt, LeadsOn, sought_of}
use Rattle.prolly_look_up.specs.Way.{FallsTo, IsNamed, IsWayTo, Lead, LevelsFall, level_of}
use Rattle.prolly_look_up.specs.declared.step.Due.{Due}
use Rattle.prolly_look_up.specs.lemmas.Ways.{lead_more}
use Rattle.prolly_entry.specs.declared.version.Version.{Version}
use Rattle.std.specs.Ordering.{is_lt}
use Rattle.std.specs.declared.cmp.Ordering.TheVariants.{Less, Equal, Greater}
use Rattle.prolly_entry.specs.Keys.{key_order}
use Rattle.prolly_entry.specs.Pair.{Pair}
use Rattle.prolly_entry.specs.lemmas.Orders.{greater_below}
use Rattle.prolly_tree.specs.LookUp.{find}
use Rattle.prolly_tree.specs.lemmas.Maps.{Rises, above_more, find_above}
use Rattle.prolly_root.specs.ProofFault.{last_level}
use Rattle.prolly_root.specs.declared.look_up.chunk_on_way.ChunkOnWay.{ChunkOnWay}
use Rattle.prolly_root.specs.declared.root_fault.RootFault.{RootFault}
use Rattle.prolly_root.specs.declared.root_fault.RootFault.TheVariants.{Memory}
use Rattle.prolly_root.specs.ChunkFile.{ChunkFile}
use Rattle.prolly_root.specs.ChunkSource.{HasAsked}
use Rattle.prolly_root.specs.Descent.{IsWayDown, chunks_on_way}
use Rattle.prolly_root.specs.Reader.{IsEmptied, IsReaderIn, LooksUp, ReaderView, way_of}
use Rattle.prolly_root.specs.RootFault.{TellsReads}
use Rattle.prolly_root.specs.LookUpFault.{MayTell}

-- ---- the levels

pub last_more : (passed : List (List ℕ)) (chunk : List ℕ) →
    last_level (passed ++ chunk ∷ []) ≡ Some (level_of chunk)
last_more [] chunk = refl
last_more (c ∷ []) chunk = refl
last_more (c ∷ d ∷ passed) chunk = last_more (d ∷ passed) chunk

pub falls_more : (passed : List (List ℕ)) (chunk : List ℕ) → LevelsFall passed →
    FallsTo (last_level passed) chunk → LevelsFall (passed ++ chunk ∷ [])
falls_more [] chunk down falls = tt
falls_more (c ∷ []) chunk down falls = (falls, tt)
falls_more (c ∷ d ∷ passed) chunk down falls =
    (down.0, falls_more (d ∷ passed) chunk down.1 falls)

-- the chunks of those that were met, of which one more was kept
pub one_more : {T : Type 0} (levels new : List (ChunkOnWay T)) (level : ChunkOnWay T) →
    new ≡ levels ++ level ∷ [] →
    chunks_on_way new ≡ chunks_on_way levels ++ level.chunk.items ∷ []
one_more levels new level kept = ap chunks_on_way kept ∙
    map-append (λ level. level.chunk.items) levels (level ∷ [])

-- the last one
pub read_last : {T : Type 0} (levels : List (ChunkOnWay T)) (above : List (List ℕ))
    (last : List ℕ) (read : ChunkOnWay T) → chunks_on_way levels ≡ above ++ last ∷ [] →
    read ≡ get_or levels (length levels - 1) read → read.chunk.items ≡ last
read_last levels above last read are is = let n = length levels - 1 in
    ap (λ level. level.chunk.items) is ∙
    sym (get_or-map (λ level. level.chunk.items) levels n read) ∙
    ap (λ chunks. get_or chunks n read.chunk.items) are ∙
    get_or_push above last read.chunk.items n (omega (
      arith,
      length-map levels (λ level. level.chunk.items),
      ap length are,
      length-append above (last ∷ []),
    ))

-- ---- where a look-up stands

-- these chunks led it to the one that is due
pub record Descended (version : Version) (root : List ℕ) (sought : Sought)
    (passed : List (List ℕ)) (due : Due) : Type 0 where
  pub lead : Lead version sought root passed due.reference.0 (sought_of due.sought)
  pub down : LevelsFall passed
  pub above : due.above ≡ last_level passed

-- more than the level of the chunk that is due
abbrev pub room_below : Option ℕ → ℕ
room_below None = 256
room_below (Some level) = level

pub less_room : (above next : Option ℕ) (chunk : List ℕ) → All IsByte chunk →
    FallsTo above chunk → next ≡ Some (level_of chunk) → room_below next < room_below above
less_room None next [] bytes falls is = subst (λ n. room_below n < 256) (sym is) (omega arith)
less_room None next (b ∷ bs) bytes falls is =
    subst (λ n. room_below n < 256) (sym is) (bytes 0 0 (omega arith))
less_room (Some level) next chunk bytes falls is =
    subst (λ n. room_below n < level) (sym is) (omega (arith, falls))

module _ {version : Version} {root : List ℕ} {sought : Sought} {passed : List (List ℕ)} {due : Due}
    (d : Descended version root sought passed due) {chunk : List ℕ}
    (named : IsNamed version due.reference.0 chunk) (falls : FallsTo due.above chunk) where
  pub down : LevelsFall (passed ++ chunk ∷ [])
  down = falls_more passed chunk d.down (subst (λ l. FallsTo l chunk) d.above falls)

  abbrev pub way_ends : EndsAt (sought_of due.sought) (kind_of version chunk) →
      (chunks : List (List ℕ)) → chunks ≡ passed ++ chunk ∷ [] →
      IsWayTo version root sought chunks
  way_ends ends chunks are = record {
    before = passed;
    last = chunk;
    reference = due.reference.0;
    there = sought_of due.sought;
    are = are;
    lead = d.lead;
    named = named;
    down = subst LevelsFall (sym are) down;
    ends = ends;
  }

  pub one_passed : (next : Due) → LeadsOn (sought_of due.sought) (kind_of version chunk)
      next.reference.0 (sought_of next.sought) → next.above ≡ Some (level_of chunk) →
      Descended version root sought (passed ++ chunk ∷ []) next
  one_passed next on above = record {
    lead = lead_more version sought root passed due.reference.0 (sought_of due.sought) chunk
        next.reference.0 (sought_of next.sought) d.lead named on;
    down = down;
    above = above ∙ sym (last_more passed chunk);
  }

-- of what was kept the next chunk, and the others
pub next_kept : {T : Type 0} (P : ChunkOnWay T → Type 0) (left rest : List (ChunkOnWay T))
    (next : Option (ChunkOnWay T)) → left ≡ option_to_list next ++ rest → AllByRecursion P left →
    IfSome next P × AllByRecursion P rest
next_kept P left rest None e all = (tt, subst (AllByRecursion P) e all)
next_kept {T = T} P left rest (Some chunk) e all =
    let both : P chunk × AllByRecursion P rest = subst (AllByRecursion P) e all in both

-- ---- calls one behind another, and their faults

-- what `?` hands on is the same fault
pub handed_on : {T : Type 0} (fault : RootFault) (result : Result T RootFault) →
    IsErr result × IsErrAnd result (λ told. told ≡ fault) → result ≡ Err fault
handed_on fault (Ok value) h = search rules
handed_on fault (Err told) h = ap Err h.1

-- two calls of a source, of which the first one succeeds
pub asked_on : {S T : Type 0} (goes_over : S → ChunkFile → Type 0) (failures : S → ℕ)
    (result : Result T RootFault) {old mid new : S} →
    HasAsked goes_over failures old mid (Ok (tt {0})) →
    HasAsked goes_over failures mid new result → HasAsked goes_over failures old new result
asked_on goes_over failures result {new = new} asked more = (
  λ file goes. more.0 file (asked.0 file goes),
  subst (λ n. TellsReads n (failures new) result) asked.1 more.1,
)

-- ---- what a look-up leaves of its reader

-- where it keeps nothing, it is still one of the same file
keeps_none : {T : Type 0} {stands : ChunkFile → T → ℕ → ℕ → Type 0} {file : ChunkFile}
    {old new : ReaderView T} → IsEmptied old new → IsReaderIn stands file old →
    IsReaderIn stands file new
keeps_none left is = record { top = rw left.top is.top; levels = rw left.levels tt }

module _ {S T : Type 0} {goes_over : S → ChunkFile → Type 0} {failures : S → ℕ}
    {stands : ChunkFile → T → ℕ → ℕ → Type 0} {before after : S} {sought : Sought}
    {old : ReaderView T} where
  -- a fault leaves it so
  pub look_up_fails : {R : Type 0} {new : ReaderView T} (fault : RootFault)
      (result : Result R RootFault) → IsErr result × IsErrAnd result (λ told. told ≡ fault) →
      IsEmptied old new → ((file : ChunkFile) → goes_over before file →
      IsReaderIn stands file old → MayTell old.version file old.root sought fault) →
      HasAsked {T = R} goes_over failures before after (Err fault) →
      LooksUp goes_over failures stands before after sought old new result
  look_up_fails fault result handed left may asked =
      rw (handed_on fault result handed) (record {
        of = (left.version, left.root);
        none = left.levels;
        kept = λ file goes is. keeps_none left is;
        tells = may;
        asked = asked;
      })

  -- also one that `?` hands on
  pub looks_up_so : {A R : Type 0} {new : ReaderView T} (fault : RootFault)
      (result : Result R RootFault) → IsErr result × IsErrAnd result (λ told. told ≡ fault) →
      LooksUp {R = A} goes_over failures stands before after sought old new (Err fault) →
      LooksUp goes_over failures stands before after sought old new result
  looks_up_so fault result handed looked = rw (handed_on fault result handed) (record {
    of = looked.of;
    none = looked.none;
    kept = looked.kept;
    tells = looked.tells;
    asked = looked.asked;
  })

  -- what was found is handed on, or there was no memory for it
  pub hands_on : {A V E : Type 0} {mid new : ReaderView T} {there : A} (found : Result V E)
      (result : Result V RootFault) → IfOk found (λ value. (result ≡ Ok value) × (new ≡ mid)) →
      OnErr found ((result ≡ Err Memory) × IsEmptied mid new) →
      LooksUp goes_over failures stands before after sought old mid (Ok there) →
      LooksUp goes_over failures stands before after sought old new result
  hands_on (Ok value) result ok err looked = rw (ok.0, ok.1) (record {
    of = looked.of;
    none = tt;
    kept = looked.kept;
    tells = looked.tells;
    asked = looked.asked;
  })
  hands_on {new = new} (Err refused) result ok err looked = rw err.0 (record {
    of = (err.1.version ∙ looked.of.0, err.1.root ∙ looked.of.1);
    none = err.1.levels;
    kept = λ file goes is. keeps_none err.1 (looked.kept file goes is);
    tells = λ file goes is. inl (inl refl);
    asked = looked.asked;
  })

pub finds : {T V E : Type 0} (mid new : ReaderView T) (found : Result V E)
    (result : Result V RootFault) → IfOk found (λ value. (result ≡ Ok value) × (new ≡ mid)) →
    OnErr found ((result ≡ Err Memory) × IsEmptied mid new) →
    (Is : V → Type 0) (P : V → List (List ℕ) → Type 0) → ((value : V) → Is value → P value (way_of mid)) →
    IfOk found Is → IfOk result (λ value. P value (way_of new))
finds mid new (Ok value) result ok err Is P tells is = rw (ok.0, ok.1) (tells value is)
finds mid new (Err refused) result ok err Is P tells is = rw err.0 tt

-- a way has a chunk
pub some_way : {version : Version} {root : List ℕ} {sought there : Sought}
    {chunks : List (List ℕ)} → IsWayDown version root sought chunks there → 0 < length chunks
some_way down = omega (
  arith,
  ap length down.way.are,
  length-append down.way.before (down.way.last ∷ []),
)

-- ---- the last chunk of a look-up

-- all pairs are from the empty key on
pub all_from : (ps : List Pair) → pairs_from [] ps ≡ ps
all_from [] = refl
all_from (p ∷ ps) = ap (λ b. cond (not b) (p ∷ pairs_from [] ps) (pairs_from [] ps)) (none_less p.key) ∙
    ap (λ qs. p ∷ qs) (all_from ps)
  where
    none_less : (key : List ℕ) → is_lt (key_order key []) ≡ false
    none_less [] = refl
    none_less (b ∷ key) = refl

-- of those from a key on, only the first may have it
pub find_from : (key : List ℕ) (ps : List Pair) → Rises ps →
    find (take 1 (pairs_from key ps)) key ≡ find ps key
find_from key [] r = refl
find_from key (p ∷ ps) r = by_order (find_from key ps r.1) (key_order p.key key) refl
  where
    by_order : find (take 1 (pairs_from key ps)) key ≡ find ps key → (o : Ordering) →
        key_order p.key key ≡ o → find (take 1 (pairs_from key (p ∷ ps))) key ≡ find (p ∷ ps) key
    by_order rest Less e = simp e rest
    by_order rest Equal e = simp e
    by_order rest Greater e = simp e (sym (find_above ps key
        (above_more key p.key ps (greater_below p.key key e) r.0)))
