-- The chunks of a proof, one after another: appending them and reading them.
use Rattle.std.proofs.Common.{◌≡◌, ℕ, ◌+◌, ◌<◌, ◌≤◌, List, [], ◌∷◌, ◌++◌, length, take, get_or, sym}
use Rattle.std.proofs.Common.{ap, ◌∙◌, subst, append_assoc, append-nil, suc, inl, inr, Some}
use Rattle.std.proofs.Common.{refl, arith, ◌⊎◌, Option, Result, Ok, Err}
use Rattle.std.specs.List.{AllByRecursion, flat_map}
use Rattle.std.proofs.lemmas.List.{take_all, take_more, length-append, same_from_push}
use Rattle.std.proofs.lemmas.List.Concat.{flat_map-append}
use Rattle.prolly_entry.specs.declared.version.Version.{Version}
use Rattle.prolly_entry.specs.lemmas.Lists.{all_append, all_back, all_front}
use Rattle.prolly_io.specs.Frame.{framed, IsSmall, has_no_frame}
use Rattle.prolly_root.specs.ProofFile.{proof_file, IsProof, proof_start, ProofsSayOne}
use Rattle.std.proofs.lemmas.Bool.{false≢true}
use Rattle.std.specs.Int.{w64, to_be_bytes}
use Rattle.prolly_look_up.specs.Kinds.{kind_of}
use Rattle.prolly_look_up.specs.HeldPairs.{pairs_held}
use Rattle.prolly_look_up.specs.Sought.{EndsAt, LeadsOn, sought_of, Sought}
use Rattle.prolly_look_up.specs.Sought.Sought.{Key}
use Rattle.prolly_look_up.specs.Way.{FallsTo, IsNamed, level_of, Lead, LevelsFall}
use Rattle.prolly_look_up.specs.declared.step.Due.{Due}
use Rattle.prolly_root.specs.ProofFault.{HasPassed, IsFault, IsFrameFault, HasMore}
use Rattle.prolly_root.specs.ProofFault.{last_level, EndsWithin, IsProofStartFault, IsWrongChunk}
use Rattle.prolly_root.proofs.Descending.{Descended, one_passed, way_ends}
use Rattle.prolly_root.specs.declared.proof.fault.ProofFault.{ProofFault}
use Rattle.prolly_tree.specs.LookUp.{find}
use Rattle.std.specs.Borrow.{Bor}
use Rattle.std.specs.Prelude.{IfErr}
use Rattle.prolly_look_up.specs.lemmas.Ways.{no_flaw, no_way_on, one_way_on}
use Rattle.prolly_entry.specs.declared.version.Version.TheVariants.{One, Two}
use Rattle.prolly_io.specs.FrameLaws.{begins_frame, one_front}
use Rattle.prolly_root.specs.declared.proof.fault.ProofFault.TheVariants as faults

-- ---- appending the frames

-- it is the file of so many of the chunks
pub record HasFrames (version : Version) (chunks : List (List ℕ)) (n : ℕ) (out : List ℕ) : Type 0
  where
    pub is : out ≡ proof_file version (take n chunks)
    pub small : AllByRecursion IsSmall (take n chunks)

pub one_frame : (version : Version) (chunks : List (List ℕ)) (n : ℕ) (out new : List ℕ) →
    HasFrames version chunks n out → n < length chunks →
    new ≡ out ++ framed (get_or chunks n []) → IsSmall (get_or chunks n []) →
    HasFrames version chunks (n + 1) new
one_frame version chunks n out new h below e small =
    let chunk = get_or chunks n [] in
    let more : take (n + 1) chunks ≡ take n chunks ++ chunk ∷ [] =
    take_more chunks n [] below in
    record {
      is = e ∙ rw (h.is, more) (simp (flat_map-append, append_assoc, append-nil));
      small = subst (AllByRecursion IsSmall) (sym more)
          (all_append IsSmall (take n chunks) (chunk ∷ []) h.small (small, tt));
    }

pub all_frames : (version : Version) (chunks : List (List ℕ)) (n : ℕ) (out : List ℕ) →
    HasFrames version chunks n out → length chunks ≤ n →
    AllByRecursion IsSmall chunks × (out ≡ proof_file version chunks)
all_frames version chunks n out h all =
    let e : take n chunks ≡ chunks = take_all n chunks all in
    (subst (AllByRecursion IsSmall) e h.small, h.is ∙ ap (proof_file version) e)

-- ---- where the reading stands

-- some chunks were read and lead to the one that is due, whose frame comes next in the rest
pub record Stands (version : Version) (root key chunks : List ℕ) (due : Due) (count : ℕ)
    (rest : List ℕ) : Type 0 where
  pub passed : List (List ℕ)
  pub small : AllByRecursion IsSmall passed
  pub is : chunks ≡ flat_map framed passed ++ rest
  pub led : Descended version root (Key key) passed due
  pub number : count ≡ length passed
  pub few : count + length rest ≤ length chunks

module _ {version : Version} {root key chunks : List ℕ} {due : Due} {count : ℕ} {rest : List ℕ}
    (s : Stands version root key chunks due count rest) where
  abbrev bytes : List ℕ
  bytes = proof_start version ++ chunks

  module _ (chunk behind : List ℕ) (small : IsSmall chunk) (is : rest ≡ framed chunk ++ behind)
    where
      spelled : chunks ≡ flat_map framed (s.passed ++ chunk ∷ []) ++ behind
      spelled = s.is ∙ rw is (simp (flat_map-append, append_assoc, append-nil))

      all_small : AllByRecursion IsSmall (s.passed ++ chunk ∷ [])
      all_small = all_append IsSmall s.passed (chunk ∷ []) s.small (small, tt)

      pub shorter : suc (length behind) ≤ length rest
      shorter =
          let front = to_be_bytes w64 (length chunk) ++ chunk in
          let long : length (front ++ behind) ≡ length front + length behind =
          length-append front behind in
          let all : length rest ≡ suc (length (front ++ behind)) = ap length is in
          omega arith

      module _ (named : IsNamed version due.reference.0 chunk)
          (falls : FallsTo due.above chunk) where
        module _ (ends : EndsAt (sought_of due.sought) (kind_of version chunk)) where
          proves : IsProof version root key (proof_file version (s.passed ++ chunk ∷ []))
              (find (pairs_held chunk) key)
          proves = record {
            chunks = s.passed ++ chunk ∷ [];
            small = all_small;
            is = refl;
            way = record {
              way = way_ends s.led named falls ends (s.passed ++ chunk ∷ []) refl;
              value_is = refl;
            };
          }

          pub ends_here : behind ≡ [] →
              IsProof version root key bytes (find (pairs_held chunk) key)
          ends_here none = subst (λ x. IsProof version root key x (find (pairs_held chunk) key))
              (ap (λ x. proof_start version ++ x) (sym (spelled ∙ rw none (append-nil
              (flat_map framed (s.passed ++ chunk ∷ [])))))) proves

          more_from : (left : List ℕ) → behind ≡ left → (left ≡ [] → ⊥) →
              HasMore version root key bytes
          more_from [] e some = absurd (some refl)
          more_from (b ∷ left) e some = record {
            proof = proof_file version (s.passed ++ chunk ∷ []);
            value = find (pairs_held chunk) key;
            byte = b;
            more = left;
            is = ap (λ x. proof_start version ++ x) (spelled ∙
                ap (λ x. flat_map framed (s.passed ++ chunk ∷ []) ++ x) e) ∙
                sym (append_assoc (proof_start version)
                (flat_map framed (s.passed ++ chunk ∷ [])) (b ∷ left));
            proves = proves;
          }

          pub has_more : (behind ≡ [] → ⊥) → IsFault version root key bytes faults.Trailing
          has_more some = inr (inr (inr (refl, more_from behind refl some)))

        pub goes_on : (next : Due) (further : ℕ) →
            LeadsOn (sought_of due.sought) (kind_of version chunk) next.reference.0
            (sought_of next.sought) → next.above ≡ Some (level_of chunk) → further ≡ count + 1 →
            Stands version root key chunks next further behind
        goes_on next further on above number = record {
          passed = s.passed ++ chunk ∷ [];
          small = all_small;
          is = spelled;
          led = one_passed s.led named falls next on above;
          number = number ∙ ap (λ n. n + 1) s.number ∙ sym (length-append s.passed (chunk ∷ []));
          few = omega (arith, number, s.few, shorter);
        }

-- ---- bytes with a fault are no proof, and a proof says one thing

behind_start : (version : Version) (x y : List ℕ) →
    proof_start version ++ x ≡ proof_start version ++ y → x ≡ y
behind_start version x y e = cc

falls_at : (passed : List (List ℕ)) (chunk : List ℕ) (more : List (List ℕ)) →
    LevelsFall (passed ++ chunk ∷ more) → FallsTo (last_level passed) chunk
falls_at [] chunk more down = tt
falls_at (c ∷ []) chunk more down = down.0
falls_at (c ∷ d ∷ passed) chunk more down = falls_at (d ∷ passed) chunk more down.1

falls_front : (before more : List (List ℕ)) → LevelsFall (before ++ more) → LevelsFall before
falls_front [] more down = tt
falls_front (c ∷ []) more down = tt
falls_front (c ∷ d ∷ before) more down = (down.0, falls_front (d ∷ before) more down.1)

last_apart : (start : List ℕ) (before : List (List ℕ)) (last follows : List ℕ) →
    (start ++ flat_map framed (before ++ last ∷ [])) ++ follows ≡
    (start ++ flat_map framed before) ++ (framed last ++ follows)
last_apart start before last follows = simp (flat_map-append, append_assoc, append-nil)

-- ---- the chunk behind those that were passed

module _ (version : Version) where
  -- the look-up ends at the chunk, behind which there is no other, or goes on
  abbrev Then : Sought → List ℕ → List (List ℕ) → Type 0
  Then sought chunk more = ((more ≡ []) × EndsAt sought (kind_of version chunk)) ⊎
      ((reference : List ℕ) × (next : Sought) ×
      LeadsOn sought (kind_of version chunk) reference next)

  -- the chunk whose frame begins the rest, behind those of the chunks that were passed
  pub record DueChunk (chunks passed : List (List ℕ)) (due : List ℕ) (there : Sought)
      (rest : List ℕ) : Type 0 where
    pub chunk : List ℕ
    pub more : List (List ℕ)
    pub are : chunks ≡ passed ++ chunk ∷ more
    pub small : IsSmall chunk
    pub is : rest ≡ framed chunk ++ flat_map framed more
    pub named : IsNamed version due chunk
    pub then : Then there chunk more

  further : (p : List ℕ) (chunks passed : List (List ℕ)) (due : List ℕ) (there : Sought)
      (rest : List ℕ) → DueChunk chunks passed due there rest →
      DueChunk (p ∷ chunks) (p ∷ passed) due there rest
  further p chunks passed due there rest d = grind arith

  module _ (last reference : List ℕ) (end : Sought) (named : IsNamed version reference last)
      (ends : EndsAt end (kind_of version last)) where
    due_at : (passed before : List (List ℕ)) (due rest from : List ℕ) (sought there : Sought) →
        AllByRecursion IsSmall passed → AllByRecursion IsSmall (before ++ last ∷ []) →
        flat_map framed passed ++ rest ≡ flat_map framed (before ++ last ∷ []) →
        Lead version sought from passed due there → Lead version sought from before reference end →
        DueChunk (before ++ last ∷ []) passed due there rest
    due_at [] [] due rest from sought there small all e lead to = record {
      chunk = last;
      more = [];
      are = refl;
      small = all.0;
      is = e;
      named = subst (λ r. IsNamed version r last) (sym to.0 ∙ lead.0) named;
      then = inl (refl, subst (λ s. EndsAt s (kind_of version last)) (sym to.1 ∙ lead.1) ends);
    }
    due_at [] (b ∷ before) due rest from sought there small all e lead to = record {
      chunk = b;
      more = before ++ last ∷ [];
      are = refl;
      small = all.0;
      is = e;
      named = subst (λ r. IsNamed version r b) lead.0 to.0;
      then = inr (to.1, to.2, subst (λ s. LeadsOn s (kind_of version b) to.1 to.2) lead.1 to.3);
    }
    due_at (p ∷ passed) [] due rest from sought there small all e lead to =
        let one = one_front p last (flat_map framed passed ++ rest) [] small.0 all.0
        (sym (append_assoc (framed p) (flat_map framed passed) rest) ∙ e) in
        absurd (no_way_on sought (kind_of version last) lead.1 lead.2
        (subst (λ s. EndsAt s (kind_of version last)) (sym to.1) ends)
        (subst (λ c. LeadsOn sought (kind_of version c) lead.1 lead.2) one.front lead.3))
    due_at (p ∷ passed) (b ∷ before) due rest from sought there small all e lead to =
        let one = one_front p b (flat_map framed passed ++ rest)
        (flat_map framed (before ++ last ∷ [])) small.0 all.0
        (sym (append_assoc (framed p) (flat_map framed passed) rest) ∙ e) in
        let same = one_way_on sought (kind_of version b) (lead.1, lead.2) (to.1, to.2)
        (subst (λ c. LeadsOn sought (kind_of version c) lead.1 lead.2) one.front lead.3) to.3 in
        subst (λ c. DueChunk (c ∷ (before ++ last ∷ [])) (p ∷ passed) due there rest) one.front
        (further p (before ++ last ∷ []) passed due there rest
        (due_at passed before due rest lead.1 lead.2 there small.1 all.1 one.rest lead.4
        (subst (λ x. Lead version x.1 x.0 before reference end) (sym same) to.4)))

module _ (version : Version) (root key bytes : List ℕ) (value : Option (List ℕ))
    (p : IsProof version root key bytes value) where
  -- where a proof's first chunks were passed, the next is due
  pub due_in : (passed : List (List ℕ)) (due rest : List ℕ)
      (h : HasPassed version root key bytes passed due rest) →
      DueChunk version p.chunks passed due h.there rest
  due_in passed due rest h =
      let way = p.way.way in
      subst (λ cs. DueChunk version cs passed due h.there rest) (sym way.are)
      (due_at version way.last way.reference way.there way.named way.ends passed way.before due
      rest root (Key key) h.there h.small (subst (AllByRecursion IsSmall) way.are p.small)
      (behind_start version (flat_map framed passed ++ rest)
      (flat_map framed (way.before ++ way.last ∷ []))
      (sym (append_assoc (proof_start version) (flat_map framed passed) rest) ∙ sym h.is ∙ p.is ∙
      ap (proof_file version) way.are)) h.lead way.lead)

  -- ---- each fault

  no_end_within : EndsWithin (proof_start version) bytes → ⊥
  no_end_within w =
      let rest = flat_map framed p.chunks in
      let a : 5 ≡ length bytes + suc (length w.more) = ap length w.is ∙
      length-append bytes (w.byte ∷ w.more) in
      let b : length bytes ≡ 5 + length rest = ap length p.is ∙
      length-append (proof_start version) rest in
      absurd (omega arith)

  other_start : (v w : Version) (x y : List ℕ) → proof_start v ++ x ≡ proof_start w ++ y → v ≡ w
  other_start One One x y e = refl
  other_start One Two x y e = absurd cc
  other_start Two One x y e = absurd cc
  other_start Two Two x y e = refl

  start_fine : (fault : ProofFault) → IsProofStartFault version bytes fault → ⊥
  start_fine faults.Header h =
      h.none version (record { rest = flat_map framed p.chunks; is = p.is })
  start_fine faults.Version h = h.differs (other_start h.other version h.begins.rest
      (flat_map framed p.chunks) (sym h.begins.is ∙ p.is))
  start_fine faults.Truncated h = no_end_within h
  start_fine fault h = h

  frame_there : (passed : List (List ℕ)) (due : List ℕ) (there : Sought) (rest : List ℕ)
      (number : ℕ) (fault : ProofFault) → DueChunk version p.chunks passed due there rest →
      IsFrameFault number rest fault → ⊥
  frame_there passed due there rest number faults.Truncated d h = false≢true
      (sym (begins_frame d.chunk (flat_map framed d.more) d.small) ∙
      ap has_no_frame (sym d.is) ∙ h.1)
  frame_there passed due there rest number (faults.Frame n) d h =
      h.2 (record { rest = _; is = d.is })
  frame_there passed due there rest number fault d h = h

  chunk_there : (fault : ProofFault) → IsWrongChunk version root key bytes fault → ⊥
  chunk_there fault w =
      let d = due_in w.passed w.due (framed w.chunk ++ w.rest) w.has in
      let one = one_front w.chunk d.chunk w.rest (flat_map framed d.more) w.small d.small d.is in
      let named = subst (IsNamed version w.due) (sym one.front) d.named in
      no_flaw version w.due (last_level w.passed) w.chunk w.is.flaw named.is named.ordered
      (subst (FallsTo (last_level w.passed)) (sym one.front)
      (falls_at w.passed d.chunk d.more (subst LevelsFall d.are p.way.way.down))) w.is.so

  -- ---- a proof that goes on behind another, or says another thing

  -- what another proof, behind which this follows, comes to at its last chunk
  pub record Ended (other : Option (List ℕ)) (follows : List ℕ) : Type 0 where
    pub none : follows ≡ []
    pub same : value ≡ other

  ended : (proof follows : List ℕ) (other : Option (List ℕ)) → bytes ≡ proof ++ follows →
      IsProof version root key proof other → Ended other follows
  ended proof follows other e q =
      let way = q.way.way in
      let all = subst (AllByRecursion IsSmall) way.are q.small in
      let rest = framed way.last ++ follows in
      let d = due_in way.before way.reference rest passed_in in
      let one = one_front way.last d.chunk follows (flat_map framed d.more)
      (all_back IsSmall way.before (way.last ∷ []) all).0 d.small d.is in
      at_last d.more d.chunk one.rest one.front d.are
      (subst (λ c. Then version way.there c d.more) (sym one.front) d.then)
    where
      passed_in : HasPassed version root key bytes q.way.way.before q.way.way.reference
          (framed q.way.way.last ++ follows)
      passed_in =
          let way = q.way.way in
          record {
            there = way.there;
            small = all_front IsSmall way.before (way.last ∷ [])
                (subst (AllByRecursion IsSmall) way.are q.small);
            is = e ∙ ap (λ x. x ++ follows) (q.is ∙ ap (proof_file version) way.are) ∙
                last_apart (proof_start version) way.before way.last follows;
            lead = way.lead;
            down = falls_front way.before (way.last ∷ []) (subst LevelsFall way.are way.down);
          }

      at_last : (more : List (List ℕ)) (chunk : List ℕ) → follows ≡ flat_map framed more →
          q.way.way.last ≡ chunk → p.chunks ≡ q.way.way.before ++ chunk ∷ more →
          Then version q.way.way.there q.way.way.last more → Ended other follows
      at_last more chunk rest front are (inl h) = record {
        none = rest ∙ ap (flat_map framed) h.0;
        same = p.way.value_is ∙ ap (λ c. find (pairs_held c) key)
            ((same_from_push p.way.way.before q.way.way.before p.way.way.last chunk
            (sym p.way.way.are ∙ are ∙ ap (λ more. q.way.way.before ++ chunk ∷ more) h.0)).1 ∙
            sym front) ∙ sym q.way.value_is;
      }
      at_last more chunk rest front are (inr h) =
          absurd (no_way_on q.way.way.there (kind_of version q.way.way.last) h.0 h.1
          q.way.way.ends h.2)

  pub excluded : (fault : ProofFault) → IsFault version root key bytes fault → ⊥
  excluded fault (inl h) = start_fine fault h
  excluded fault (inr (inl h)) = frame_there h.passed h.due h.has.there h.rest (length h.passed)
      fault
      (due_in h.passed h.due h.rest h.has) h.is
  excluded fault (inr (inr (inl h))) = chunk_there fault h
  excluded fault (inr (inr (inr h))) =
      let none = (ended h.1.proof (h.1.byte ∷ h.1.more) h.1.value h.1.is h.1.proves).none in cc

pub refused : (version : Version) (root key bytes : List ℕ)
    (result : Result (Option (Bor (List ℕ))) ProofFault) →
    IfErr result (IsFault version root key bytes) → IfErr result (λ fault.
    (value : Option (List ℕ)) → IsProof version root key bytes value → ⊥)
refused version root key bytes (Ok found) h = h
refused version root key bytes (Err fault) h =
    λ value p. excluded version root key bytes value p fault h

pub proofs_say_one : ProofsSayOne
proofs_say_one version root key bytes value other p q =
    (ended version root key bytes value p bytes [] other (sym (append-nil bytes)) q).same
