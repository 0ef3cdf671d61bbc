use Rattle.std.proofs.Common.{arith, rules}
use Rattle.writing.proofs.Overlays.{overlay_byte}
use Rattle.writing.proofs.writer.Writer.put_byte.Goals as goal

pub returns : goal.returns
returns c =
    let w = c.args.self.now in
    record {
      puts = record {
        same = search rules;
        size = search rules;
        wrote = record { buffer = overlay_byte w.buffer.now w.written c.args.byte (omega arith); end = search rules };
      };
    }
