use Rattle.std.proofs.Common.{◌≡◌, length, ap, arith, subst, sym, ◌∙◌}
use Rattle.prolly_entry.specs.declared.version.Version.TheVariants.{One}
use Rattle.prolly_tree.specs.Chunk.{chunk_of}
use Rattle.prolly_look_up.specs.Entries.{IsWhole}
use Rattle.prolly_look_up.specs.HeldPairs.{pairs_held}
use Rattle.prolly_look_up.specs.lemmas.LeafEvents.{few_in_one, leaf_event_is}
use Rattle.prolly_apply.proofs.Leaves.{whole_one}
use Rattle.prolly_apply.proofs.old_leaf.OldLeaf.new.Goals as goal

pub last_key_and_count-count-requires : goal.last_key_and_count-count-requires
last_key_and_count-count-requires c =
    omega (
      arith,
      ap length c.pairs_of.ensures,
      ap (λ bytes. length (pairs_held bytes)) c.deref.ensures.value,
      few_in_one c.args.version c.args.chunk.items c.requires.whole,
      c.args.chunk.small,
    )

pub invariant_of-result : goal.invariant_of-result
invariant_of-result c =
    let items = c.args.chunk.items in
    let read = c.last_key_and_count-count in
    let bytes_are : c.new-event.result.bytes ≡ items = ap (λ e. e.bytes) c.new-event.ensures in
    let is : c.new-event.result ≡ chunk_of One 0 (pairs_held items) =
    c.new-event.ensures ∙ leaf_event_is c.args.version items c.pairs_of.result
    c.in_ok-key.key.items read.result.1 c.requires.whole c.requires.some
    (c.pairs_of.ensures ∙ ap pairs_held c.deref.ensures.value)
    (c.in_ok-key.ensures.items ∙ read.ensures.key) read.ensures.count in (
      subst (λ bytes. IsWhole One bytes) (sym bytes_are)
          (whole_one c.args.version items c.requires.whole c.requires.some),
      is ∙ ap (λ bytes. chunk_of One 0 (pairs_held bytes)) (sym bytes_are),
    )
