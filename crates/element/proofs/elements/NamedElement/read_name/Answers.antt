use Rattle.std.proofs.Common.{ap, ◌∙◌}
use Rattle.text.specs.Short.{text_of}
use Rattle.calendar.specs.Days.{days_of}
use Rattle.element.specs.Pointed.{pointed_read, pointed_name}
use Rattle.element.specs.ElementLaws.{pointed_apart}
use Rattle.element.proofs.ElementNames.{kept_days}
use Rattle.element.proofs.NameReading.{reads_its_name}
use Rattle.element.proofs.PointedNames.{pointed_is}
use Rattle.element.proofs.elements.NamedElement.read_name.Goals as goal

pub returns : goal.returns
returns g c =
    let name = text_of c.args.self.now.name in
    let d = days_of c.args.days.now in
    record {
      exactly = reads_its_name (pointed_name name d) c.args.text.now (pointed_apart name d (kept_days c.args.days.now));
      value =
          c.read_pointed.ensures
          ∙ ap (λ n. pointed_read n d c.args.text.now) c.as_bytes.ensures
          ∙ pointed_is name d c.args.text.now (kept_days c.args.days.now);
    }
