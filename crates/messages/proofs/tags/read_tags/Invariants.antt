use Rattle.std.proofs.Common.{◌≡◌}
use Rattle.text.specs.Lines.{fields_left}
use Rattle.messages.specs.Messages.{tags_from, no_tags}
use Rattle.messages.specs.Kept.{tags_of, tags_left}
use Rattle.messages.proofs.TagSteps.{with_all}
use Rattle.messages.proofs.tags.read_tags.Given as goal

abbrev pub invariant-loop-tag : goal.invariant-loop-tag
invariant-loop-tag l = with_all (tags_of l.tags) (tags_left l.tag-iterator) ≡ tags_from no_tags (fields_left l.fn.fields)
