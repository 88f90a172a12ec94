use Rattle.std.proofs.Common.{◌≡◌, ◌++◌, ◌∷◌, ◌∙◌, [], ap, length, map, sym, subst}
use Rattle.std.proofs.lemmas.List.{length-map, map-append}
use Rattle.prolly_text.specs.KeyLines.{IsKeysFault, IsNextKey, IsWrongNext}
use Rattle.prolly_text.proofs.KeySteps.{AreRead, key_refused, one_read}
use Rattle.prolly_text.proofs.lines.keys.keys_of_lines.Goals as goal

pub loop-rest-preserved : goal.loop-rest-preserved
loop-rest-preserved c =
    let keys = c.loop-rest.keys.items in
    let key = c.in-Ok.key in
    let line = c.split_line.result.0.now in
    let rest = c.split_line.result.1.now in
    let more : map (λ k. k.items) c.push.new.self.items ≡ map (λ k. k.items) keys ++ key.items ∷ [] =
    ap (map (λ k. k.items)) c.in_default.ensures.items ∙ map-append (λ k. k.items) keys (key ∷ []) in
    subst (AreRead c.args.notation c.args.text.now rest) (sym more)
    (one_read c.args.notation c.args.text.now c.loop-rest.rest.now line rest
    (map (λ k. k.items) keys) key.items c.loop-rest.invariant c.split_line.ensures.lines
    (subst (λ ks. IsNextKey c.args.notation (map (λ k. k.items) ks) line key.items)
    c.deref.ensures.value c.in-Ok.ensures.ok))

pub returns-in-Err-clause-err : goal.returns-in-Err-clause-err
returns-in-Err-clause-err c =
    let keys = c.loop-rest.keys.items in
    let line = c.split_line.result.0.now in
    let number : c.len.result ≡ length (map (λ k. k.items) keys) =
    c.len.ensures ∙ sym c.deref.ensures.len ∙ ap length c.deref.ensures.value ∙
    sym (length-map keys (λ k. k.items)) in
    subst (IsKeysFault c.args.notation c.args.text.now) (sym c.key_fault_at.ensures)
    (key_refused c.args.notation c.args.text.now c.loop-rest.rest.now line
    c.split_line.result.1.now (map (λ k. k.items) keys) c.in-Err.flaw c.len.result
    c.loop-rest.invariant c.split_line.ensures.lines
    (subst (λ ks. IsWrongNext c.args.notation (map (λ k. k.items) ks) line c.in-Err.flaw)
    c.deref.ensures.value c.in-Err.ensures.err) number)
