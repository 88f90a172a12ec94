use Rattle.std.proofs.Common.{◌≡◌, ◌∙◌, ◌++◌, ◌∷◌, [], ap, length, arith, subst, sym}
use Rattle.std.proofs.lemmas.List.{length-append}
use Rattle.prolly_entry.specs.Spelling.{record_spelling}
use Rattle.prolly_load.specs.Writer.{AreWritten}
use Rattle.prolly_load.proofs.WriterSteps.{one_failed, one_sent, writing_of}
use Rattle.prolly_load.proofs.writer.RecordWriterOutRecord.send.Goals as goal

pub invariant_of-self-in-Err-write_all : goal.invariant_of-self-in-Err-write_all
invariant_of-self-in-Err-write_all g c =
    let s = c.self.inside in
    let spelled : c.deref.result.now ≡ record_spelling c.args.item =
    c.deref.ensures.value ∙ (c.in_default.ensures.ok ∙
    ap (λ xs. xs ++ record_spelling c.args.item) c.clear.ensures.items) in
    let open_is : AreWritten (writing_of (g.W.Sink.seen s.begun.value) (g.W.Sink.seen s.sink)
    s.sent _) = c.self.invariant.0 in (
      one_failed (g.W.Sink.seen s.begun.value) (g.W.Sink.seen s.sink)
          (g.W.Sink.seen c.write_all.new.sink) s.sent c.args.item
          (rw c.if-self.false at open_is)
          _ (rw spelled at c.in-Err-write_all.ensures.writes),
      c.self.invariant.1,
    )

pub invariant_of-self-2 : goal.invariant_of-self-2
invariant_of-self-2 g c =
    let s = c.self.inside in
    let spelled : c.deref.result.now ≡ record_spelling c.args.item =
    c.deref.ensures.value ∙ (c.in_default.ensures.ok ∙
    ap (λ xs. xs ++ record_spelling c.args.item) c.clear.ensures.items) in
    let open_is : AreWritten (writing_of (g.W.Sink.seen s.begun.value) (g.W.Sink.seen s.sink)
    s.sent _) = c.self.invariant.0 in
    let sent : AreWritten (writing_of (g.W.Sink.seen s.begun.value)
    (g.W.Sink.seen c.write_all.new.sink) (s.sent ++ c.args.item ∷ []) _) =
    one_sent (g.W.Sink.seen s.begun.value) (g.W.Sink.seen s.sink)
    (g.W.Sink.seen c.write_all.new.sink) s.sent c.args.item (rw c.if-self.false at open_is)
    _ (rw spelled at c.in_default-write_all.ensures.writes) in (
      subst (λ rs. AreWritten (writing_of (g.W.Sink.seen s.begun.value)
          (g.W.Sink.seen c.write_all.new.sink) rs s.has_failed)) (sym c.add.ensures)
          (subst (λ b. AreWritten (writing_of (g.W.Sink.seen s.begun.value)
          (g.W.Sink.seen c.write_all.new.sink) (s.sent ++ c.args.item ∷ []) b))
          (sym c.if-self.false) sent),
      omega (
        arith,
        c.saturating_add-self-inside.ensures,
        c.self.invariant.1,
        ap length c.add.ensures,
        length-append s.sent (c.args.item ∷ []),
      ),
    )
