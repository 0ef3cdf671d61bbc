use Rattle.std.proofs.Common.{length, ap, ◌∙◌}
use Rattle.std.specs.Option.{unwrap_or}
use Rattle.text.proofs.Cuts.{first_or_len}
use Rattle.text.proofs.lines.run_len.Goals as goal

pub returns : goal.returns
returns c = c.unwrap_or.ensures ∙ ap (λ o. unwrap_or o (length c.args.s.now)) c.first.ensures ∙ first_or_len c.args.b c.args.s.now
