use Rattle.std.proofs.Common.{◌≡◌, ◌∙◌, ◌≤◌, ◌++◌, ap, arith, length, sym, take, drop}
use Rattle.std.proofs.lemmas.List.{length-append, length-drop, length-take-le, take_all, take_at}
use Rattle.prolly_io.proofs.BlockReads.{block_kept, first_serve, kept_serve, passes, tested}
use Rattle.prolly_io.proofs.device.block_device.BlocksDevice.read_at.Goals as goal

pub returns-in-Some-clause-bytes : goal.returns-in-Some-clause-bytes
returns-in-Some-clause-bytes g c told =
    let blocks = c.args.self.now in
    let device = g.D.Device.seen blocks.device in
    let read = c.copy_from_slice.new.self in
    let size = length c.args.buf.now in
    let kept = tested device.is_honest blocks.kept blocks.block.items blocks.start device.bytes
    told in
    let same : size ≡ length read = omega (arith, c.copy_from_slice.auto.self) in
    take_all (length read) read (omega arith) ∙ c.copy_from_slice.ensures.after ∙
    c.in-Some.ensures.bytes ∙
    kept_serve blocks.kept blocks.start c.args.offset size blocks.block.items device.bytes kept.1
    c.in-Some.ensures.behind c.in-Some.ensures.within ∙
    ap (λ n. take n (drop c.args.offset device.bytes)) same

pub returns-clause-bytes : goal.returns-clause-bytes
returns-clause-bytes g c told =
    let blocks = c.args.self.now in
    let device = g.D.Device.seen blocks.device in
    let block = c.read_block.new.self.block.items in
    let kept = tested device.is_honest blocks.kept blocks.block.items blocks.start device.bytes
    told in
    let count = c.min-count.result in
    let part = c.copy_from_slice-2.new.self in
    let served = first_serve c.read_block.new.self.kept block (drop c.args.offset device.bytes)
    c.in_ok-read_block.ensures.bound (c.in_ok-read_block.ensures.bytes kept.0)
    (length c.args.buf.now) (omega (arith, c.if-buf-len.false, c.in_ok-read_block.ensures.size)) in
    let buf = c.args.buf.now in
    let few : count ≤ length buf = omega (arith, c.min-count.ensures) in
    let long : length part ≡ count =
    c.copy_from_slice-2.ensures.len ∙ length-take-le count buf few in
    let same : length buf ≡ length (part ++ drop count buf) =
    omega (arith, length-append part (drop count buf), length-drop count buf, long, few) in
    take_at part (drop count buf) count long ∙ c.copy_from_slice-2.ensures.after ∙
    ap (take count) c.deref.ensures.value ∙ ap (λ n. take n block) c.min-count.ensures ∙ served ∙
    ap (λ n. take n (drop c.args.offset device.bytes)) same

pub returns-clause-honest : goal.returns-clause-honest
returns-clause-honest g c told =
    let blocks = c.args.self.now in
    let device = g.D.Device.seen blocks.device in
    let now = c.read_block.new.self in
    let after = g.D.Device.seen now.device in
    let was = tested device.is_honest blocks.kept blocks.block.items blocks.start device.bytes
    told in
    let start : c.args.offset ≡ now.start = sym c.in_ok-read_block.ensures.start in
    let same : device.bytes ≡ after.bytes = sym (c.in_ok-read_block.ensures.same was.0) in
    passes after.is_honest now.kept now.block.items now.start after.bytes
    (c.in_ok-read_block.ensures.honest was.0)
    (block_kept now.kept now.block.items (drop c.args.offset device.bytes)
    c.in_ok-read_block.ensures.bound (c.in_ok-read_block.ensures.bytes was.0) ∙
    ap (λ n. take now.kept (drop n device.bytes)) start ∙
    ap (λ bytes. take now.kept (drop now.start bytes)) same)
