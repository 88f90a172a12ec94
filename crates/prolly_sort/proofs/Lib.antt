-- Records that come one after another, and what they come to.
mod Coming
-- A record more behind those that came, and the last one of each key.
mod Keeping
-- The last place of each key, and places whose keys rise.
mod Lasting
-- Places in the order of their keys.
mod Sorting
-- The numbers of places, and places with one key.
mod Numbering
-- The same places in another order, however they are ranked.
mod Same
-- Places in the order of their keys and numbers.
mod Standing
-- Records of which no two have one key.
mod Apart
-- Bytes of keys as numbers, and places in the order of these.
mod Prefixes
-- Places that are ranked behind a front which their keys have in common.
mod Ranking
-- Places that are sorted group by group.
mod Grouping
-- Where records lie among bytes.
mod Lying
-- A record file that is written record by record.
mod Writing
-- A sorted run behind records whose keys are less.
mod Behind
-- Records of which each key comes once.
mod Once
-- Two records with one key, and the numbers that they carry.
mod Telling
-- Runs in files, one after another.
mod Storing
-- What readers of stored runs gave a merger.
mod Readers
