-- The page has room, so that no report is cut.
use Rattle.arithmetic.proofs.Kit.{sym, ◌∙◌, ◌+◌, ◌*◌, ◌≤◌, le_refl, le-ltb, leb-true, arith, rules, length}
use Rattle.pages.specs.Pages.{put, Appended}
use Rattle.pages.proofs.Growing.{held-length}
use Rattle.report.specs.Report.{record_text}
use Rattle.report.proofs.Short.{record_text-short}
use Rattle.exports.proofs.texts.station_air_report.Goals as goal

pub returns-clause-page_after : goal.returns-clause-page_after
unfolding put
returns-clause-page_after c =
    let x = c.args in
    let most = 2842 + 2 * length x.«record».now in
    let room = leb-true most (length x.page.now) (sym c.has_room.ensures ∙ c.if-not-has_room.false) in
    rw (le-ltb (length x.page.now) most room) (search rules)

pub returns-clause-length_after : goal.returns-clause-length_after
unfolding put
returns-clause-length_after c =
    let x = c.args in
    let s = x.«record».now in
    let most = 2842 + 2 * length s in
    let room = leb-true most (length x.page.now) (sym c.has_room.ensures ∙ c.if-not-has_room.false) in
    let fits : length (record_text s) ≤ length x.page.now = omega (arith, (record_text-short s (length s) (le_refl (length s))).bound, room) in
    let told : Appended x.page.now 0 (record_text s) c.put_record_report.new.page.bytes.now c.position.result = search rules in
    rw (le-ltb (length x.page.now) most room) (held-length told fits)
