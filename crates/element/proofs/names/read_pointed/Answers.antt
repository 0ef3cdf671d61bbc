use Rattle.std.proofs.Common.{◌≡◌, ℕ, ◌-◌, length, take, sym, ap, ◌∙◌, arith, rules}
use Rattle.std.specs.Str.{bytes_eq}
use Rattle.calendar.specs.Days.{days_of}
use Rattle.element.proofs.ElementNames.{reads_front}
use Rattle.element.proofs.names.read_pointed.Goals as goal

pub returns-then-eq : goal.returns-then-eq
returns-then-eq c =
    let name = c.args.name.now in
    let text = c.args.text.now in
    let e : length name - 0 ≡ length name = omega arith in
    c.read_suffix.ensures
    ∙ reads_front name (days_of c.args.days.now) text (omega arith)
    (ap (λ (n : ℕ). bytes_eq (take n text) name) (sym e) ∙ search rules)
