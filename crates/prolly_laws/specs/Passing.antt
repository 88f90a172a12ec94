-- What of a map goes on unchanged where changes are laid over it.
use Rattle.prolly_entry.specs.declared.version.Version.{Version}
use Rattle.prolly_entry.specs.Cut.{Cut}
use Rattle.prolly_tree.specs.Passing.{FrontStays, LeafStays, LeafEventsGoOn, LeafEventStays}
use Rattle.prolly_tree.specs.Passing.{OverlayAtKey, FrontStaysMerged, LeafEventStaysMerged}
use Rattle.prolly_tree.proofs.merging.Passing as overlays
use Rattle.prolly_tree.proofs.stages.Passing as passing

-- Two lists that are cut at one key may be overlaid in front of it and behind it.
pub overlay_at_key : OverlayAtKey
overlay_at_key = overlays.overlay_at_key

-- The first pairs of a map stay where no change has a key up to their last one.
pub front_stays : FrontStays
front_stays = overlays.front_stays

-- A leaf that no change touches stays.
pub leaf_stays : (cut : Cut) → LeafStays cut
leaf_stays = passing.leaf_stays

-- Behind closed leaves the events go on as those of the pairs that follow.
pub leaf_events_go_on : (cut : Cut) (version : Version) → LeafEventsGoOn cut version
leaf_events_go_on = passing.leaf_events_go_on

-- The event of a leaf that no change touches is sent first.
pub leaf_event_stays : (cut : Cut) (version : Version) → LeafEventStays cut version
leaf_event_stays = passing.leaf_event_stays

-- Where either end may be a fault, the first pairs stay in the merged part.
pub front_stays_merged : (F : Type 0) → FrontStaysMerged F
front_stays_merged F = overlays.front_stays_merged {F = F}

-- And so the event of such a leaf is sent first.
pub leaf_event_stays_merged : (F : Type 0) (cut : Cut) (version : Version) →
    LeafEventStaysMerged F cut version
leaf_event_stays_merged F cut version = passing.leaf_event_stays_merged cut version {F = F}
