use Rattle.std.proofs.Common.{◌≡◌, ◌∙◌, ℕ, List, Option, Some, None, Bor, ap, refl}
use Rattle.std.specs.Option.{option_copied, unwrap_or}
use Rattle.prolly_tree.specs.Tree.{last_key}
use Rattle.prolly_tree.specs.lemmas.Maps.{last_key_short}
use Rattle.prolly_look_up.specs.HeldPairs.{pairs_held}
use Rattle.prolly_look_up.specs.lemmas.LeafEvents.{leaf_event_is}
use Rattle.prolly_check.proofs.FollowerSteps.{held_lawful}
use Rattle.prolly_check.proofs.PairCounts.{last_some}
use Rattle.prolly_check.proofs.verdict.pairs_digest.PairsDigest.event.Goals as goal

key_of : (o : Option (Bor (List ℕ))) (other : Bor (List ℕ)) (key : List ℕ) →
    option_copied o ≡ Some key → (unwrap_or o other).now ≡ key
key_of (Some found) other key e = cc e
key_of None other key e = cc e

pub new-requires : goal.new-requires
new-requires c =
    let pairs = pairs_held c.args.chunk.now in
    let is : c.unwrap_or-key.result.now ≡ last_key pairs = ap (λ b. b.now) c.unwrap_or-key.ensures ∙
    key_of c.last_key.result _ (last_key pairs)
    (c.last_key.ensures ∙ last_some pairs c.requires.some) in
    rw is (last_key_short pairs (held_lawful c.args.version c.args.chunk.now c.requires.whole))

pub returns-clause-event : goal.returns-clause-event
returns-clause-event c =
    let pairs = pairs_held c.args.chunk.now in
    let is : c.unwrap_or-key.result.now ≡ last_key pairs = ap (λ b. b.now) c.unwrap_or-key.ensures ∙
    key_of c.last_key.result _ (last_key pairs)
    (c.last_key.ensures ∙ last_some pairs c.requires.some) in
    c.new.ensures ∙ leaf_event_is c.args.version c.args.chunk.now pairs _ _ c.requires.whole
    c.requires.some refl is c.requires.digest.1.counted.count
