-- The records have room. Assumes nothing.
use Rattle.load_text.proofs.Kit.{◌≡◌, ap, add-one, arith, rules, length, records_text, same_more}
use Rattle.pages.specs.Pages.{put}
use Rattle.pages.proofs.Putting.{puts}
use Rattle.load_text.specs.Text.{records_in}
use Rattle.load_text.proofs.Room.{has_room}
use Rattle.load_text.proofs.blocks.put_records.Goals as goal

pub loop-i-init : goal.loop-i-init
unfolding records_text
loop-i-init c = search (rules, puts)

pub loop-i-preserved : goal.loop-i-preserved
unfolding records_text
loop-i-preserved c = rw add-one (grind (arith, puts))

pub returns : goal.returns
unfolding put
returns c =
    let a = c.args in
    let all : c.loop-i.i ≡ records_in a.count (length a.page.now) = omega (arith, c.records_in-records.ensures) in
    record {
      records = c.records_in-records.ensures;
      text = same_more {text = records_text a.first c.loop-i.i} (ap (records_text a.first) all) (search rules);
      room = has_room a.first a.count (length a.page.now);
    }
