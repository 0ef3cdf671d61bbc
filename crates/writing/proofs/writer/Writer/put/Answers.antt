use Rattle.std.proofs.Common.{◌≡◌, ◌+◌, ◌-◌, length, refl, rules, ap, ◌∙◌}
use Rattle.writing.specs.Overlay.{overlay}
use borrow.Rule.Slice.PartMut.{put_mid}
use Rattle.writing.proofs.Overlays.{overlay_part, length_overlay}
use Rattle.writing.proofs.writer.Writer.put.Goals as goal

pub returns : goal.returns
returns c =
    let w = c.args.self.now in
    let e : put_mid w.written (w.written + length c.args.bytes.now - w.written) w.buffer.now c.copy_from_slice.new.self ≡ overlay w.buffer.now w.written c.args.bytes.now =
    overlay_part w.buffer.now w.written (w.written + length c.args.bytes.now) c.args.bytes.now c.copy_from_slice.new.self refl c.copy_from_slice.ensures.after in
    record {
      puts = record {
        same = search rules;
        size = ap length e ∙ length_overlay w.buffer.now w.written c.args.bytes.now c.requires.room;
        wrote = record { buffer = e; end = search rules };
      };
    }
