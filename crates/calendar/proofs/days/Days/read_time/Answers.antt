use Rattle.std.proofs.Common.{rules}
use Rattle.calendar.specs.Days.{days_of}
use Rattle.calendar.proofs.Reading.{reads_its_digits}
use Rattle.calendar.proofs.days.Days.read_time.Goals as goal

pub returns : goal.returns
returns c =
    let d = c.args.self.now in
    record {
      value = search rules;
      exactly = reads_its_digits (days_of d) c.args.text.now (record { from = d.from; within = d.within; least = d.least; most = d.most });
    }
