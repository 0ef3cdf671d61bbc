-- What `==` and `<` say of identities and minutes.
use Rattle.std.specs.Prelude.{◌≡◌, Some, ◌==◌, refl}
use Rattle.std.specs.Ordering.{nat_cmp}
use Rattle.calendar.specs.declared.days.Minute.{Minute}
use Rattle.calendar.specs.declared.identity.Identity.{Identity}
use Rattle.calendar.specs.contracts.days.MinutePartialEq.TheImpl as minutes
use Rattle.calendar.specs.contracts.days.MinutePartialOrd.TheImpl as orders
use Rattle.calendar.specs.contracts.identity.IdentityPartialEq.TheImpl as identities
use Rattle.calendar.specs.Days.{minute_of}
use Rattle.calendar.specs.Identities.{identity_of, same_identity}

pub identities_same : (a b : Identity) → identities.ghosts.eq a b ≡ same_identity (identity_of a) (identity_of b)
identities_same a b = refl

pub minutes_same : (a b : Minute) → minutes.ghosts.eq a b ≡ (minute_of a == minute_of b)
minutes_same a b = refl

pub minutes_ordered : (a b : Minute) → orders.ghosts.partial_cmp a b ≡ Some (nat_cmp (minute_of a) (minute_of b))
minutes_ordered a b = refl
