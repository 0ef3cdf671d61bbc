use Rattle.std.proofs.Common.{rules}
use Rattle.replies.proofs.TextsHold.{texts_hold}
use Rattle.processor.proofs.EdgesHold.{edges_hold}
use Rattle.processor.proofs.edges.worked_edge.Goals as goal

pub returns : goal.returns
returns c = record { edges = edges_hold; texts = texts_hold; minute = search rules }
