-- The page has room, so that no words are cut.
use Rattle.arithmetic.proofs.Kit.{sym, ◌∙◌, ◌≤◌, le-ltb, arith, rules, length}
use Rattle.pages.specs.Pages.{put, Appended}
use Rattle.pages.proofs.Growing.{held-length}
use Rattle.report.specs.declared.Origin.TheVariants.{Record}
use Rattle.report.specs.Advice.{cause_lines}
use Rattle.report.proofs.AdviceShort.{cause_short}
use Rattle.exports.proofs.texts.station_air_refusal_words.Goals as goal

pub returns-clause-page_after : goal.returns-clause-page_after
unfolding put
returns-clause-page_after c =
    let x = c.args in
    rw (le-ltb (length x.page.now) 236 c.if-page-lt-WORDS.false, sym c.has_words.ensures ∙ c.if-not-has_words.false) (search rules)

pub returns-clause-length_after : goal.returns-clause-length_after
unfolding put
returns-clause-length_after c =
    let x = c.args in
    let fits : length (cause_lines Record x.number) ≤ length x.page.now = omega (arith, (cause_short Record x.number).bound, c.if-page-lt-WORDS.false) in
    let told : Appended x.page.now 0 (cause_lines Record x.number) c.put_cause.new.page.bytes.now c.position.result = search rules in
    rw (le-ltb (length x.page.now) 236 c.if-page-lt-WORDS.false, sym c.has_words.ensures ∙ c.if-not-has_words.false) (held-length told fits)
