use Rattle.std.proofs.Common.{◌≡◌, [], ◌∙◌, ◌++◌, map, sym, ap, arith, append-nil, subst}
use Rattle.std.proofs.lemmas.List.{length-map}
use Rattle.std.proofs.Math.ListN.{get_or-map}
use Rattle.prolly_io.specs.Frame.{framed, IsSmall}
use Rattle.prolly_root.specs.ProofFile.{proof_start}
use Rattle.prolly_root.proofs.Passing.{all_frames, one_frame}
use Rattle.prolly_root.proofs.proof.prover.proof_of.Goals as goal

pub loop-chunk-init : goal.loop-chunk-init
loop-chunk-init c = record {
  is = c.in_ok-extend_from_slice.ensures.items ∙
      ap (λ x. x ++ c.proof_start.result) c.new-proof.ensures.items ∙ c.proof_start.ensures ∙
      sym (append-nil (proof_start c.args.version));
  small = tt;
}

pub loop-chunk-preserved : goal.loop-chunk-preserved
loop-chunk-preserved c =
    let items = c.args.chunks.now in
    let n = c.loop-chunk.chunk-index in
    let at = get_or-map (λ c. c.now) items n (record { ref_ptr = (0, 0); now = [] }) in
    one_frame c.args.version (map (λ c. c.now) items) n c.loop-chunk.proof.items
    c.append_frame.new.out.items c.loop-chunk.invariant
    (omega (arith, length-map items (λ c. c.now), c.loop-chunk-test.true))
    (subst (λ chunk. c.append_frame.new.out.items ≡ c.loop-chunk.proof.items ++ framed chunk)
    (sym at) c.in_ok-append_frame.ensures.framed)
    (subst IsSmall (sym at) c.in_ok-append_frame.ensures.small)

pub returns : goal.returns
returns c = all_frames c.args.version (map (λ c. c.now) c.args.chunks.now)
    c.loop-chunk.chunk-index c.loop-chunk.proof.items c.loop-chunk.invariant
    (omega (arith, length-map c.args.chunks.now (λ c. c.now), c.loop-chunk-test.false))
