-- The worked edges, by computing.
use Rattle.std.proofs.Common.{codes, sym, refl}
use Rattle.element.proofs.PointedNames.{pointed_is}
use Rattle.processor.specs.Edges.{last_of_month, WorkedEdges}

pub edges_hold : WorkedEdges
edges_hold = record {
  first_of_month = refl;
  last_day = refl;
  past_the_days = refl;
  slot_name_text = sym (pointed_is (codes "MPT") last_of_month (codes "MPT.010030B") refl);
  no_point = sym (pointed_is (codes "MPT") last_of_month (codes "MPT010030B") refl);
  twenty_after = refl;
  twenty_one_after = refl;
  one_before = refl;
  sixty_by_45 = refl;
  sixty_by_46 = refl;
  ninety_two_by_46 = refl;
}
