use Rattle.prolly_check.specs.Frames.{chunks_in}
use Rattle.prolly_check.proofs.DigestLists.{front_told}
use Rattle.prolly_check.proofs.verdict.digests.ManyThreadsChunkHasher.digests.Goals as goal

pub returns : goal.returns
returns g c =
    let told = c.in_ok-digests.digests.items in
    let front = c.whole_count.ensures in
    rw c.truncate.ensures.items (front_told c.args.version c.args.cut
    (chunks_in c.args.bytes.now c.args.spans.now) told c.whole_count.result c.in_ok-digests.ensures
    (rw c.deref.ensures.value at front.few) (rw c.deref.ensures.value at front.whole)
    (rw c.deref.ensures.value at front.bad))
