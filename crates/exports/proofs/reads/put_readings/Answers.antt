-- One meaning more is handed out.
use Rattle.std.proofs.Common.{arith, rules}
use Rattle.exports.specs.Reads.{form_of, double_for, count_for, each}
use Rattle.exports.proofs.Each.{one_more}
use Rattle.exports.proofs.reads.put_readings.Goals as goal

pub loop-meaning-init : goal.loop-meaning-init
unfolding each
loop-meaning-init c = search rules

pub loop-meaning-preserved : goal.loop-meaning-preserved
loop-meaning-preserved c =
    let a = c.args in
    let m = c.loop-meaning.meaning in
    record {
      forms = cc (one_more form_of a.readings m a.forms.now (omega arith));
      values = cc (one_more double_for a.readings m a.values.now (omega arith));
      counts = cc (one_more count_for a.readings m a.counts.now (omega arith));
    }
