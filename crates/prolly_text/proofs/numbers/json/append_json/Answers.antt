use Rattle.std.proofs.Common.{◌≡◌, [], ◌∷◌, ◌++◌, ◌∙◌, ap, append_assoc, codes, map, rules, sym}
use Rattle.std.specs.Fmt.{decimal}
use Rattle.prolly_entry.specs.Version.{version_byte}
use Rattle.prolly_text.specs.Json.{array, json_of, level_json, member, quoted}
use Rattle.prolly_text.specs.Rows.{rows_of}
use Rattle.std.proofs.lemmas.Result.{err_from_is_err_and}
use Rattle.prolly_text.proofs.Appended.{still_front}
use Rattle.prolly_text.proofs.Kept.{kept_first, kept_more, kept_same}
use Rattle.prolly_text.proofs.Commas.{named, seven}
use Rattle.prolly_text.proofs.numbers.json.append_json.Goals as goal

pub returns : goal.returns
unfolding json_of
returns c =
    let tree = c.args.tree.now in
    let root = member (codes "root") (quoted tree.root.now) in
    let format = member (codes "format") (decimal (version_byte tree.version)) in
    let bits = member (codes "bits") (decimal tree.bits) in
    let pairs = member (codes "pairs") (decimal tree.pairs) in
    let chunks = member (codes "chunks") (decimal tree.chunks) in
    let bytes = member (codes "bytes") (decimal tree.bytes) in
    let levels = array (map level_json (rows_of tree)) in
    let front = c.args.out.now.items ++ 0x7B ∷ root ++ 0x2C ∷ format ++ 0x2C ∷ bits ++
    0x2C ∷ pairs ++ 0x2C ∷ chunks ++ 0x2C ∷ bytes in
    let begun : c.append_number_member-5.new.out.items ≡ front = search rules in
    let name : c.append_member_name.new.out.items ≡ c.append_number_member-5.new.out.items ++
    0x2C ∷ quoted (codes "levels") ++ 0x3A ∷ [] = c.in_ok-append_member_name.ensures ∙
    sym (append_assoc c.append_number_member-5.new.out.items (0x2C ∷ quoted (codes "levels"))
    (0x3A ∷ [])) in
    let listed : c.append_levels.new.out.items ≡ c.append_member_name.new.out.items ++ levels =
    c.in_ok-append_levels.ensures in
    seven c.args.out.now.items c.extend_from_slice.new.self.items root format bits pairs chunks
    bytes (member (codes "levels") levels) (0x0A ∷ [])
    (c.in_ok-extend_from_slice.ensures.items ∙ ap (λ t. t ++ 0x7D ∷ 0x0A ∷ [])
    (listed ∙ ap (λ t. t ++ levels) (name ∙
    ap (λ t. t ++ 0x2C ∷ quoted (codes "levels") ++ 0x3A ∷ []) begun) ∙
    named front (codes "levels") levels))

pub returns-in_err-append_member_name : goal.returns-in_err-append_member_name
returns-in_err-append_member_name c =
    let failed = err_from_is_err_and c.from_residual-in_err-append_member_name.result
    c.from_residual-in_err-append_member_name.ensures.1 in
    rw failed.1 (still_front _ _ _ (kept_more _ _ _ _ (kept_more _ _ _ _ (kept_more _ _ _ _
    (kept_more _ _ _ _ (kept_more _ _ _ _ (kept_first _ _ _ c.in_ok-append_string_member.ensures)
    c.in_ok-append_number_member.ensures) c.in_ok-append_number_member-2.ensures)
    c.in_ok-append_number_member-3.ensures) c.in_ok-append_number_member-4.ensures)
    c.in_ok-append_number_member-5.ensures) c.in_err-append_member_name.ensures)

pub returns-in_err-append_levels : goal.returns-in_err-append_levels
returns-in_err-append_levels c =
    let failed = err_from_is_err_and c.from_residual-in_err-append_levels.result
    c.from_residual-in_err-append_levels.ensures.1 in
    rw failed.1 (still_front _ _ _ (kept_more _ _ _ _ (kept_more _ _ _ _ (kept_more _ _ _ _
    (kept_more _ _ _ _ (kept_more _ _ _ _ (kept_more _ _ _ _ (kept_first _ _ _
    c.in_ok-append_string_member.ensures) c.in_ok-append_number_member.ensures)
    c.in_ok-append_number_member-2.ensures) c.in_ok-append_number_member-3.ensures)
    c.in_ok-append_number_member-4.ensures) c.in_ok-append_number_member-5.ensures)
    c.in_ok-append_member_name.ensures) c.in_err-append_levels.ensures)

pub returns-in_err-extend_from_slice : goal.returns-in_err-extend_from_slice
returns-in_err-extend_from_slice c =
    let failed = err_from_is_err_and c.from_residual-in_err-extend_from_slice.result
    c.from_residual-in_err-extend_from_slice.ensures.1 in
    rw failed.1 (kept_same _ _ _ (kept_more _ _ _ _ (kept_more _ _ _ _ (kept_more _ _ _ _ (kept_more
    _ _ _ _ (kept_more _ _ _ _ (kept_more _ _ _ _ (kept_more _ _ _ _ (kept_first _ _ _
    c.in_ok-append_string_member.ensures) c.in_ok-append_number_member.ensures)
    c.in_ok-append_number_member-2.ensures) c.in_ok-append_number_member-3.ensures)
    c.in_ok-append_number_member-4.ensures) c.in_ok-append_number_member-5.ensures)
    c.in_ok-append_member_name.ensures) c.in_ok-append_levels.ensures)
    c.in_err-extend_from_slice.ensures.items)
