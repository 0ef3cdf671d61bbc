use Rattle.std.proofs.Common.{ap, ◌∙◌}
use Rattle.text.specs.Short.{text_of}
use Rattle.calendar.specs.Days.{days_of}
use Rattle.element.specs.Kept.{slot_of}
use Rattle.element.specs.Meanings.{name_read}
use Rattle.element.specs.Pointed.{pointed_name}
use Rattle.element.specs.ElementLaws.{pointed_apart}
use Rattle.element.proofs.ElementNames.{kept_days, kept_pair}
use Rattle.element.proofs.NameReading.{name_reads}
use Rattle.element.proofs.elements.NamedElement.write_name.Goals as goal

pub returns : goal.returns
returns g c =
    let name = text_of c.args.self.now.name in
    let d = days_of c.args.days.now in
    let p = slot_of c.args.slot.now in
    let value = c.write_pointed.ensures ∙ ap (λ n. pointed_name n d p) c.as_bytes.ensures in
    record {
      back = ap (name_read (pointed_name name d)) value ∙ name_reads (pointed_name name d) p (pointed_apart name d (kept_days c.args.days.now)) (kept_pair c.args.slot.now);
      value = value;
    }
